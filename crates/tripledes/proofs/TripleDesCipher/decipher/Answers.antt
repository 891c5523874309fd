use Rattle.tripledes.specs.Schedules.{deciphering}
use Rattle.tripledes.proofs.TripleDesCipher.decipher.Goals as goal

pub returns : goal.returns
unfolding deciphering
returns c = c.crypted.ensures
