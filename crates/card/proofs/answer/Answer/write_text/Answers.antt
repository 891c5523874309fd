use Rattle.std.proofs.Common.{rules}
use Rattle.answers.proofs.Writing.{written_nothing}
use Rattle.card.proofs.answer.Answer.write_text.Goals as goal

pub returns-in-Status : goal.returns-in-Status
returns-in-Status c = search (rules, written_nothing)
