use mathlib.Core.Path.{◌≡◌}
use Rattle.xtea.specs.Xtea.{cycles}
use Rattle.xtea.proofs.all_cycled.Given as goal

abbrev pub invariant-loop-n : goal.invariant-loop-n
invariant-loop-n l = l.halves ≡ cycles l.words l.n l.initial.halves
