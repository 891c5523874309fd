use Rattle.std.proofs.Common.{◌≡◌, ◌^◌, ◌<◌, map, drop}
use Rattle.tripledes.specs.Des.{rounds}
use Rattle.tripledes.specs.Round.{held}
use Rattle.tripledes.proofs.rounds.pass.Given as goal

abbrev pub invariant-loop-key : goal.invariant-loop-key
invariant-loop-key l =
    (rounds (map held (drop l.key-index l.keys)) l.left l.right ≡ rounds (map held l.keys) l.initial.left l.initial.right)
    × (l.left < 2 ^ 32) × (l.right < 2 ^ 32)
