use Rattle.std.proofs.Common.{map}
use Rattle.bits.specs.Octets.{value}
use Rattle.tripledes.specs.Round.{held}
use Rattle.tripledes.specs.Schedules.{passes}
use Rattle.tripledes.specs.Feistel.{thrice}
use Rattle.tripledes.proofs.rounds.crypted.Goals as goal

pub returns : goal.returns
unfolding passes
returns c =
    let e = thrice (map held c.args.first.now) (map held c.args.second.now) (map held c.args.third.now) (value c.args.block.now) in
    cc
