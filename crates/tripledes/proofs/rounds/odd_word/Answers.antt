use Rattle.std.proofs.Common.{refl}
use Rattle.tripledes.specs.Round.{odds}
use Rattle.tripledes.proofs.rounds.odd_word.Goals as goal

pub returns : goal.returns
unfolding odds
returns c = refl
