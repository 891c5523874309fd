use Rattle.std.proofs.Common.{◌^◌, ◌<◌, rules}
use Rattle.bits.proofs.Linear.{exchanges}
use Rattle.tripledes.specs.Perms.{ip_swaps, ip_is}
use Rattle.tripledes.proofs.rounds.initial.Goals as goal

pub returns : goal.returns
unfolding ip_swaps exchanges
returns c = let h : c.args.x < 2 ^ 64 = search rules in let e = ip_is c.args.x h in cc
