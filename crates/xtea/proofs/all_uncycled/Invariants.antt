use mathlib.Core.Path.{◌≡◌}
use Rattle.xtea.specs.Xtea.{uncycles}
use Rattle.xtea.proofs.all_uncycled.Given as goal

abbrev pub invariant-loop-n : goal.invariant-loop-n
invariant-loop-n l = uncycles l.words l.n l.halves ≡ uncycles l.words 32 l.initial.halves
