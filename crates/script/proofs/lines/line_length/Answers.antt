use Rattle.std.proofs.Common.{rules}
use Rattle.script.proofs.Splitting.{measured}
use Rattle.script.proofs.lines.line_length.Goals as goal

pub returns : goal.returns
returns c = search (rules, measured)
