use Rattle.std.proofs.Common.{◌^◌, ◌<◌, rules}
use Rattle.bits.proofs.Linear.{exchanges}
use Rattle.tripledes.specs.Perms.{fp_swaps, fp_is}
use Rattle.tripledes.proofs.rounds.inverse.Goals as goal

pub returns : goal.returns
unfolding fp_swaps exchanges
returns c = let h : c.args.x < 2 ^ 64 = search rules in let e = fp_is c.args.x h in cc
