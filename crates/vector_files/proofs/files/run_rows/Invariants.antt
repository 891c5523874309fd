use Rattle.std.proofs.Common.{ℕ, List, map, Bor}
use Rattle.vector_files.proofs.Counting.{Counted}
use Rattle.vector_files.proofs.files.run_rows.Given as goal

abbrev pub invariant-loop-i : goal.invariant-loop-i
invariant-loop-i g l =
    Counted g.C.Cipher.algorithm.enc g.C.Cipher.algorithm.dec (map (λ (p : ℕ × Bor (List ℕ)). p.1.now) l.yielded) l.count l.agreed
