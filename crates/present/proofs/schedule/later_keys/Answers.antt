use Rattle.std.proofs.Common.{◌≡◌, ℕ, ◌+◌, ◌-◌, ◌/◌, ◌^◌, ◌<◌, List, ◌++◌, length, take, sym, refl, ap, ◌∙◌, ap₂, append-nil, arith, length-set}
use lib.Seq.{take-length}
use Rattle.present.specs.Steps.{later_keys}
use Rattle.present.proofs.Keys.{key_more}
use Rattle.present.proofs.schedule.later_keys.Goals as goal

pub loop-i-preserved : goal.loop-i-preserved
loop-i-preserved c =
    let ho : c.loop-i.i < length c.loop-i.round_key-items = omega arith in
    let hi : c.loop-i.i < 31 = omega arith in (
      key_more c.loop-i.round_key-items c.loop-i.i c.loop-i.k (c.updated-k.result / 2 ^ 64) c.updated-k.result ho hi c.updated-k.ensures refl ∙ c.loop-i.invariant.0,
      length-set c.loop-i.round_key-items c.loop-i.i (c.updated-k.result / 2 ^ 64) ∙ c.loop-i.invariant.1,
      c.updated-k.type_inv,
    )

pub returns : goal.returns
unfolding later_keys
returns c =
    let e : 31 - c.loop-i.i ≡ 0 = omega arith in
    let f : c.loop-i.i ≡ length c.loop-i.round_key-items = omega arith in
    let t : take c.loop-i.i c.loop-i.round_key-items ≡ c.loop-i.round_key-items = ap (λ (n : ℕ). take n c.loop-i.round_key-items) f ∙ take-length c.loop-i.round_key-items in
    sym (ap₂ (λ (l : List ℕ) (n : ℕ). l ++ later_keys n (c.loop-i.i + 1) c.loop-i.k) t e ∙ append-nil c.loop-i.round_key-items) ∙ c.loop-i.invariant.0
