use Rattle.std.proofs.Common.{List, ℕ, map, reverse, ap, ◌∙◌}
use Rattle.tripledes.specs.Round.{held}
use Rattle.tripledes.proofs.Keys.{map_reverse}
use Rattle.tripledes.proofs.schedule.expanded.Goals as goal

pub returns-clause-backward : goal.returns-clause-backward
returns-clause-backward c =
    ap (map held) c.backwards.ensures
    ∙ map_reverse held c.round_keys-forward.result
    ∙ ap (λ (l : List ℕ). reverse l) c.round_keys-forward.ensures
