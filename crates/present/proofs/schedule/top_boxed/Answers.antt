use Rattle.std.proofs.Common.{◌≡◌, ℕ, ◌+◌, ◌*◌, ◌/◌, ◌%◌, ◌^◌, ◌<◌, get_or, ap, ◌∙◌, ap₂, arith, shr-shr, shr_lt, rules}
use lib.Bits.{and_mask}
use Rattle.std.proofs.lemmas.Nat.{shl_whole}
use Rattle.present.specs.Present.{replaced, boxed}
use Rattle.present.specs.Tables.{SBOX}
use Rattle.present.proofs.schedule.top_boxed.Goals as goal

pub returns : goal.returns
unfolding boxed replaced
returns c =
    let k : ℕ = c.args.k in
    let high : ℕ = c.nibble.result in
    let low : ℕ = c.nibble-2.result in
    let hk : c.args.k < 2 ^ 128 = search rules in
    let d : c.args.k / 2 ^ 120 / 16 ≡ c.args.k / 2 ^ 124 = shr-shr k 120 4 in
    let l : c.args.k / 2 ^ 124 < 16 = shr_lt 4 124 hk in
    let q : c.args.k / 2 ^ 124 ≡ c.args.k / 2 ^ 120 / 16 % 16 = omega (arith, d, l) in
    let h = c.nibble.ensures.value ∙ ap (λ (n : ℕ). get_or SBOX n 0) q in
    let o = c.nibble-2.ensures.value ∙ ap (λ (n : ℕ). get_or SBOX n 0) (and_mask (k / 2 ^ 120) 4) in
    let t : c.nibble.result * 16 + c.nibble-2.result ≡ replaced 16 SBOX 2 (c.args.k / 2 ^ 120) = omega (arith, h, o) in
    let a = c.nibble.ensures.small in
    let b = c.nibble-2.ensures.small in
    ap₂ (λ (m n : ℕ). m + n)
    (shl_whole (high * 16 + low) 8 120 128 (omega (arith, a, b)) (omega arith) ∙ ap (λ (n : ℕ). n * 2 ^ 120) t)
    (and_mask k 120)
