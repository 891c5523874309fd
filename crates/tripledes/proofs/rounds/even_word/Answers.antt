use Rattle.std.proofs.Common.{ap}
use lib.Bits.{bit_xor, and_mask}
use Rattle.tripledes.specs.Round.{evens}
use Rattle.tripledes.proofs.rounds.even_word.Goals as goal

pub returns : goal.returns
unfolding evens
returns c = ap (bit_xor (evens c.args.r)) (and_mask c.args.key 32)
