use Rattle.std.proofs.Common.{Ok, string_bytes}
use Rattle.std.specs.List.{All}
use Rattle.script_programs.specs.Naming.{Played}
use Rattle.script_programs.proofs.named.play_all.Given as goal

abbrev pub invariant-loop-name : goal.invariant-loop-name
invariant-loop-name g l = goal.F-IsAlwaysCallable g l.fn.rows_of × All (λ name. (rows : _) × Played g.F.Fn l.fn.rows_of (string_bytes name) (Ok rows)) l.yielded
