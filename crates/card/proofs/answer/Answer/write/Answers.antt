use Rattle.std.proofs.Common.{ap, ◌∙◌}
use Rattle.answers.specs.Numbers.{status_bytes}
use Rattle.card.specs.Replies.{said}
use Rattle.card.proofs.Texts.{answer_written}
use Rattle.card.proofs.answer.Answer.write.Goals as goal

pub returns : goal.returns
returns c =
    let w = answer_written (said c.args.self.now) c.args.area.now _ _ _ _ _ (c.from.ensures ∙ ap status_bytes c.status.ensures) c.requires c.write_text-at.ensures.area c.write_text-at.ensures.end c.write_text-at.ensures.short c.put.ensures.area c.put.ensures.end in
    record { area = w.0; end = w.1 }
