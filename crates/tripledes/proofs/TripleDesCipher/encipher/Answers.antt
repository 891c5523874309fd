use Rattle.tripledes.specs.Schedules.{enciphering}
use Rattle.tripledes.proofs.TripleDesCipher.encipher.Goals as goal

pub returns : goal.returns
unfolding enciphering
returns c = c.crypted.ensures
