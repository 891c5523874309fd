use Rattle.std.proofs.Common.{rules}
use Rattle.contents.proofs.Altered.{listed_set}
use Rattle.contents.proofs.records.Registry.set_state.Goals as goal

pub returns : goal.returns
returns c = search (rules, listed_set)
