use Rattle.std.proofs.Common.{◌≡◌, length, get_or, refl, ap, arith, rules}
use Rattle.std.proofs.lemmas.List.FromFn.{fill_by_all}
use Rattle.bits.specs.Octets.{value}
use Rattle.present.proofs.schedule.register_of.Goals as goal

pub returns : goal.returns
unfolding value
returns c =
    let h : length c.args.key.now ≡ 16 = search rules in
    let e = ap value (fill_by_all (λ k. get_or c.args.key.now k 0) c.args.key.now 16 0 h (λ k p. refl)) in
    omega (arith, e)
