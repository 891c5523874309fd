use Rattle.std.proofs.Common.{rules}
use Rattle.contents.proofs.Uniques.{found_any}
use Rattle.contents.proofs.table.Table.has.Goals as goal

pub returns : goal.returns
returns g c = search (rules, found_any)
