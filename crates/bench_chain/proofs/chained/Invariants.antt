use mathlib.Core.Path.{◌≡◌}
use Rattle.bench_chain.specs.Chain.{times}
use Rattle.bench_chain.proofs.chained.Given as goal

abbrev pub invariant-loop-i : goal.invariant-loop-i
invariant-loop-i g l = l.block ≡ times l.i (g.C.Cipher.algorithm.enc l.key) l.initial.block
