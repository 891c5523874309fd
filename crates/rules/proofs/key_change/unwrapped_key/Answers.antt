use Rattle.std.proofs.Common.{rules, append-nil}
use Rattle.rules.proofs.key_change.unwrapped_key.Goals as goal

pub returns : goal.returns
returns g c = search (rules, append-nil)
