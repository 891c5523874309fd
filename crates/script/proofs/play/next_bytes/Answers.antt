use Rattle.std.proofs.Common.{rules}
use Rattle.script.proofs.Wholes.{no_bytes}
use Rattle.script.proofs.play.next_bytes.Goals as goal

pub returns-in-None-clause-bytes : goal.returns-in-None-clause-bytes
returns-in-None-clause-bytes c = search (rules, no_bytes)
