use Rattle.std.proofs.Common.{◌≡◌, length, arith, rules}
use Rattle.card.proofs.Texts.{update_written, update_length}
use Rattle.card.proofs.answer.Update.write.Goals as goal

pub returns : goal.returns
returns c =
    let d : length c.args.self.now.diversification ≡ 10 = search rules in
    let h : length c.args.self.now.challenge ≡ 8 = search rules in
    let g : length c.args.self.now.cryptogram ≡ 8 = search rules in
    let w = update_written c.args.self.now.diversification c.args.self.now.challenge c.args.self.now.cryptogram c.args.area.now _ _ _ _ c.args.self.now.version _ _ _ _ d h g c.requires c.put-at.ensures.area c.put-at.ensures.end c.put-at-2.ensures.area c.put-at-2.ensures.end c.put-at-3.ensures.area c.put-at-3.ensures.end c.put.ensures.area c.put.ensures.end in
    let l = update_length c.args.self.now.diversification c.args.self.now.challenge c.args.self.now.cryptogram c.args.self.now.version d h g in
    record { area = w.area; end = omega (arith, w.count, l); long = l }
