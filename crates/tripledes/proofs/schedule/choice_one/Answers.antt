use Rattle.std.proofs.Common.{◌^◌, ◌<◌, rules}
use Rattle.bits.proofs.Linear.{exchanges}
use Rattle.tripledes.specs.Perms.{pc1_swaps, pc1_is}
use Rattle.tripledes.proofs.schedule.choice_one.Goals as goal

pub returns : goal.returns
unfolding pc1_swaps exchanges
returns c = let h : c.args.key < 2 ^ 64 = search rules in let e = pc1_is c.args.key h in cc
