use Rattle.bits.specs.Octets.{value}
use Rattle.present.specs.Schedule.{deciphering}
use Rattle.present.specs.Runs.{inv_rounds_are}
use Rattle.present.proofs.PresentCipher.decipher.Goals as goal

pub returns : goal.returns
unfolding deciphering
returns c = let e = inv_rounds_are c.args.keys.now.first c.args.keys.now.later (value c.args.block.now) in cc
