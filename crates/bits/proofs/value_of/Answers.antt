use Rattle.std.proofs.Common.{◌≡◌, length, get_or, refl, ap, arith, rules}
use Rattle.std.proofs.lemmas.List.FromFn.{fill_by_all}
use Rattle.bits.specs.Octets.{value}
use Rattle.bits.proofs.value_of.Goals as goal

pub returns : goal.returns
unfolding value
returns c =
    let h : length c.args.block.now ≡ 8 = search rules in
    let e = ap value (fill_by_all (λ k. get_or c.args.block.now k 0) c.args.block.now 8 0 h (λ k p. refl)) in
    omega (arith, e)
