use Rattle.std.proofs.Common.{ap, ◌∙◌, ap₂, arith}
use lib.Bits.{bit_xor}
use Rattle.std.proofs.lemmas.Nat.{shl_whole}
use Rattle.present.specs.Present.{rotated, boxed, counted, update}
use Rattle.present.proofs.schedule.updated.Goals as goal

pub returns : goal.returns
unfolding update counted rotated
returns c = ap₂ bit_xor (c.top_boxed.ensures ∙ ap boxed c.rotate_left.ensures) (shl_whole c.args.i 5 62 128 c.requires (omega arith))
