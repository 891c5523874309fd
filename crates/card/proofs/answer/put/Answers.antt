use Rattle.std.proofs.Common.{rules}
use Rattle.answers.proofs.Writing.{written_by_part}
use Rattle.card.proofs.answer.put.Goals as goal

pub returns : goal.returns
returns c = search (rules, written_by_part)
