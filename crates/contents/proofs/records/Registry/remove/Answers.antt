use Rattle.std.proofs.Common.{rules}
use Rattle.contents.proofs.Grown.{copied_down}
use Rattle.contents.proofs.records.Registry.remove.Goals as goal

pub returns : goal.returns
returns c = search (rules, copied_down)
