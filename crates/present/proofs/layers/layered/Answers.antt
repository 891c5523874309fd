use Rattle.present.proofs.Parts.{pieces_are}
use Rattle.present.proofs.layers.layered.Goals as goal

pub returns : goal.returns
returns c = let e = pieces_are c.args.x in cc
