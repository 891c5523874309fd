use Rattle.vector_files.proofs.Telling.{Told}
use Rattle.vector_files.proofs.files.run_all.Given as goal

abbrev pub invariant-loop-name : goal.invariant-loop-name
invariant-loop-name g l = goal.F-IsAlwaysCallable g l.fn.run_named × Told g.F.Fn l.fn.run_named l.yielded l.all
