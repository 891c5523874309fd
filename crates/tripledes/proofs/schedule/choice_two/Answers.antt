use Rattle.bits.proofs.Linear.{exchanges}
use Rattle.tripledes.specs.Perms.{pc2_swaps, pc2_is}
use Rattle.tripledes.proofs.schedule.choice_two.Goals as goal

pub returns : goal.returns
unfolding pc2_swaps exchanges
returns c = let e = pc2_is c.args.cd c.requires in cc
