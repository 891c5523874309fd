use Rattle.std.proofs.Common.{rules}
use Rattle.contents.proofs.Altered.{take_set_within}
use Rattle.contents.proofs.records.KeySets.replace.Goals as goal

pub returns-clause-list : goal.returns-clause-list
returns-clause-list c = search (rules, take_set_within)
