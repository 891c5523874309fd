use Rattle.std.proofs.Common.{rules}
use Rattle.card.specs.Cards.{view}
use Rattle.card.proofs.Handing.{handed}
use Rattle.card.proofs.card.Card.process.Goals as goal

pub returns : goal.returns
returns g c =
    let cipher = g.C.Cipher.algorithm in
    let view_of = view {C = g.row.C.Denot} g.S.Source.coming in
    record {
      processed = handed g.M.ChannelCommand.named g.M.OwnRule.own_rule cipher (view_of c.args.self.now) (view_of c.respond.new.self) c.respond.result c.args.command.now c.args.answer.now c.write.new.area c.args.work.now c.respond.new.work c.write.result c.if-answer-lt258.false (search rules) c.respond.ensures.did c.write.ensures.area c.write.ensures.end c.respond.ensures.work;
      whole = c.respond.ensures.whole;
      fit = search rules;
    }
