use Rattle.std.proofs.Common.{refl}
use Rattle.bits.specs.Swap.{parted, exchange}
use Rattle.bits.proofs.exchanged.Goals as goal

pub returns : goal.returns
unfolding parted exchange
returns c = refl
