use Rattle.std.proofs.Common.{refl, rules}
use Rattle.runs.proofs.converse.of_bytes.Goals as goal

pub returns : goal.returns
returns c = record { long = refl; small = λ i. search (rules, c.type_inv.bytes i) }
