use Rattle.bits.specs.Octets.{value}
use Rattle.present.specs.Schedule.{enciphering}
use Rattle.present.specs.Runs.{rounds_are}
use Rattle.present.proofs.PresentCipher.encipher.Goals as goal

pub returns : goal.returns
unfolding enciphering
returns c = let e = rounds_are c.args.keys.now.first c.args.keys.now.later (value c.args.block.now) in cc
