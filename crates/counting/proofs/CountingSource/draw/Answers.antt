use Rattle.std.proofs.Common.{rules}
use Rattle.counting.proofs.Counts.{past_spent, past_more}
use Rattle.counting.proofs.CountingSource.draw.Goals as goal

pub returns-then-self-ge-COUNT : goal.returns-then-self-ge-COUNT
returns-then-self-ge-COUNT g c = search (rules, past_spent)

pub returns : goal.returns
returns g c = search (rules, past_more)
