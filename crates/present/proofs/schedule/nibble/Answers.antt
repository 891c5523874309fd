use Rattle.std.proofs.Common.{refl}
use Rattle.present.specs.Tables.{SBOX}
use Rattle.present.proofs.schedule.nibble.Goals as goal

pub returns-clause-value : goal.returns-clause-value
unfolding SBOX
returns-clause-value c = refl
