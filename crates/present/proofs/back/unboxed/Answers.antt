use Rattle.std.proofs.Common.{◌∙◌}
use Rattle.present.specs.Present.{replaced, inv_s_box_layer}
use Rattle.present.specs.Tables.{INVSBOX}
use Rattle.present.specs.Boxes.{pairs, by_pairs}
use Rattle.present.proofs.back.unboxed.Goals as goal

pub returns : goal.returns
unfolding INVSBOX inv_s_box_layer replaced pairs
returns c = c.bytes_through.ensures ∙ by_pairs INVSBOX 8 c.args.x
