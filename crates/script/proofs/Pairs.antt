-- Bytes decoded one after the other.
use Rattle.std.proofs.Common.{◌≡◌, ℕ, ◌-◌, ◌<◌, ◌≤◌, List, [], ◌∷◌, ◌++◌, length, get_or, take, drop, Some, None, Option, sym, refl, ap, ◌∙◌, ap₂, append_assoc, append-nil, arith}
use Rattle.std.proofs.lemmas.List.{take_rest}
use Rattle.script.specs.Digits.{digit_value, byte_of, before, pairs_of}

-- the bytes so far, and those to come behind them
abbrev pub behind : List ℕ → Option (List ℕ) → Option (List ℕ)
behind xs (Some ys) = Some (xs ++ ys)
behind xs None = None

behind_more : (xs : List ℕ) (b : ℕ) (o : Option (List ℕ)) → behind (xs ++ b ∷ []) o ≡ behind xs (before (Some b) o)
behind_more xs b (Some ys) = ap Some (append_assoc xs (b ∷ []) ys)
behind_more xs b None = refl

-- the two letters in front
two : (ls : List ℕ) → 2 ≤ length ls
    → pairs_of ls ≡ before (byte_of (digit_value (get_or ls 0 0)) (digit_value (get_or ls 1 0))) (pairs_of (drop 2 ls))
unfolding pairs_of
two [] h = absurd (omega arith)
two (a ∷ []) h = absurd (omega arith)
two (a ∷ (b ∷ rest)) h = refl

-- a pair of digits; what is left behind it is a part of the letters
pub more : (xs ys ls rest : List ℕ) (b : ℕ) → 2 ≤ length ls → Some b ≡ byte_of (digit_value (get_or ls 0 0)) (digit_value (get_or ls 1 0))
    → ys ≡ xs ++ b ∷ [] → rest ≡ take (length ls - 2) (drop 2 ls)
    → behind ys (pairs_of rest) ≡ behind xs (pairs_of ls)
more xs ys ls rest b h is pushed left =
    ap₂ (λ (p q : List ℕ). behind p (pairs_of q)) pushed (left ∙ take_rest ls 2)
    ∙ behind_more xs b (pairs_of (drop 2 ls))
    ∙ sym (ap (behind xs) (two ls h ∙ ap (λ (o : Option ℕ). before o (pairs_of (drop 2 ls))) (sym is)))

-- another letter
pub other : (xs ls : List ℕ) → 2 ≤ length ls → None ≡ byte_of (digit_value (get_or ls 0 0)) (digit_value (get_or ls 1 0))
    → behind xs (pairs_of ls) ≡ None
other xs ls h is = ap (behind xs) (two ls h ∙ ap (λ (o : Option ℕ). before o (pairs_of (drop 2 ls))) (sym is))

-- no letter is left
pub done : (xs ls : List ℕ) → length ls ≡ 0 → behind xs (pairs_of ls) ≡ Some xs
unfolding pairs_of
done xs [] h = ap Some (append-nil xs)
done xs (a ∷ ls) h = absurd (omega arith)

-- one letter is left
pub odd : (xs ls : List ℕ) → length ls < 2 → (length ls ≡ 0 → ⊥) → behind xs (pairs_of ls) ≡ None
unfolding pairs_of
odd xs [] h some = absurd (some refl)
odd xs (a ∷ []) h some = refl
odd xs (a ∷ (b ∷ ls)) h some = absurd (omega arith)
