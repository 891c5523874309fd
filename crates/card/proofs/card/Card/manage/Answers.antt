use Rattle.std.proofs.Common.{ℕ, Option, sym, ap, ◌∙◌, arith}
use Rattle.apdu.specs.Apdu.{meaning}
use Rattle.contents.specs.Contents.{held}
use Rattle.scp01.proofs.Calls.{unwrapped_some}
use Rattle.card.specs.Cards.{view}
use Rattle.card.specs.Channels.{plain_allowed}
use Rattle.card.proofs.Reading.{managed_read}
use Rattle.card.proofs.card.Card.manage.Goals as goal

pub returns : goal.returns
returns g c =
    let cipher = g.C.Cipher.algorithm in
    let session = c.in-Open.session in
    let command = meaning c.args.command in
    let plain = plain_allowed (held c.args.self.now.contents).state in
    let whole = unwrapped_some cipher session plain command session.level c.args.work.now c.decipher_field.new.work c.in_ok-end.end (ap (λ (o : Option ℕ). (o, c.decipher_field.new.work)) (sym c.in_ok-end.ensures.ok_part) ∙ c.decipher_field.ensures.text) (omega (arith, c.requires)) in
    record {
      did = managed_read g.M.OwnRule.own_rule cipher (view {C = g.row.C.Denot} g.S.Source.coming c.args.self.now) c.args.self.now.channel session c.args.inside command _ _ _ c.in-Open.is whole c.read.ensures.did;
      whole = c.read.ensures.whole;
    }
