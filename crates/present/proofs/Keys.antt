-- The key schedule as a loop.
use Rattle.std.proofs.Common.{◌≡◌, ℕ, suc, ◌+◌, ◌-◌, ◌/◌, ◌^◌, ◌<◌, List, [], ◌∷◌, ◌++◌, length, take, set, ap, ◌∙◌, ap₂, append_assoc, add-one, arith, take-suc-set}
use Rattle.present.specs.Present.{update}
use Rattle.present.specs.Steps.{later_keys}

-- one more round key
pub key_more : (out : List ℕ) (i k v k' : ℕ) → i < length out → i < 31 → k' ≡ update (i + 1) k → v ≡ k' / 2 ^ 64
    → take (i + 1) (set out i v) ++ later_keys (31 - (i + 1)) (i + 1 + 1) k' ≡ take i out ++ later_keys (31 - i) (i + 1) k
unfolding later_keys
key_more out i k v k' ho hi ek ev =
    let a : 31 - (i + 1) ≡ 30 - i = omega arith in
    let b : suc (30 - i) ≡ 31 - i = omega arith in
    ap₂ (λ (l : List ℕ) (n : ℕ). l ++ later_keys n (i + 1 + 1) k') (ap (λ (n : ℕ). take n (set out i v)) (add-one i) ∙ take-suc-set out i v ho) a
    ∙ append_assoc (take i out) (v ∷ []) (later_keys (30 - i) (i + 1 + 1) k')
    ∙ ap₂ (λ (z n : ℕ). take i out ++ (z ∷ later_keys (30 - i) n k')) ev (add-one (i + 1))
    ∙ ap (λ (p : ℕ). take i out ++ (p / 2 ^ 64 ∷ later_keys (30 - i) (suc (i + 1)) p)) ek
    ∙ ap (λ (n : ℕ). take i out ++ later_keys n (i + 1) k) b
