use Rattle.bits.specs.Octets.{octets}
use Rattle.std.proofs.Common.{rules}
use Rattle.bits.proofs.octets_of.Goals as goal

pub returns : goal.returns
unfolding octets
returns c = search rules
