use Rattle.std.proofs.Common.{rules}
use Rattle.counting.proofs.Counts.{length_past}
use Rattle.counting.proofs.CountingSource.remaining.Goals as goal

pub returns : goal.returns
returns g c = search (rules, length_past)
