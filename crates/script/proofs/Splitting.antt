-- The first line of a script, and what is left behind it.
use Rattle.std.proofs.Common.{◌≡◌, ℕ, ◌+◌, ◌-◌, ◌<◌, ◌≤◌, Bool, true, false, cond, not, eqb, ltb, ◌==◌, List, [], ◌∷◌, length, take, drop, Some, None, unwrap_or, refl, ap, add-one, one-add, arith}
use Rattle.std.proofs.lemmas.List.{take_all, take_rest}
use Rattle.std.proofs.lemmas.List.Sums.{prefix_len-le-length}
use Rattle.std.specs.List.{position}
use Rattle.script.specs.Lines.{onto, lines_of, line_length}

-- the first line ends in 0A
pub ended : (bs : List ℕ) → line_length bs < length bs
    → lines_of bs ≡ take (line_length bs) bs ∷ lines_of (drop (line_length bs + 1) bs)
unfolding lines_of
ended [] h = absurd (omega arith)
ended (b ∷ bs) h =
    let P : Bool → Type 0 = λ t. cond (not t) (1 + line_length bs) 0 < length (b ∷ bs)
    → cond t ([] ∷ lines_of bs) (onto b (lines_of bs))
    ≡ take (cond (not t) (1 + line_length bs) 0) (b ∷ bs) ∷ lines_of (drop (cond (not t) (1 + line_length bs) 0 + 1) (b ∷ bs)) in
    elim (eqb b 0x0A) as P [
      | true ↦ λ _. refl
      | false ↦ λ h. rw (one-add, add-one) (ap (onto b) (rw add-one at (ended bs (omega arith))))
    ] h

-- the first line is unended
pub unended : (bs : List ℕ) → 0 < length bs → length bs ≤ line_length bs → lines_of bs ≡ bs ∷ []
unfolding lines_of
unended [] some h = absurd (omega arith)
unended (b ∷ []) some h =
    let P : Bool → Type 0 = λ t. 1 ≤ cond (not t) (1 + 0) 0 → cond t ([] ∷ []) ((b ∷ []) ∷ []) ≡ (b ∷ []) ∷ [] in
    elim (eqb b 0x0A) as P [ true ↦ λ h. absurd (omega arith) | false ↦ λ _. refl ] h
unended (b ∷ (a ∷ bs)) some h =
    let P : Bool → Type 0 = λ t. length (b ∷ (a ∷ bs)) ≤ cond (not t) (1 + line_length (a ∷ bs)) 0
    → cond t ([] ∷ lines_of (a ∷ bs)) (onto b (lines_of (a ∷ bs))) ≡ (b ∷ (a ∷ bs)) ∷ [] in
    elim (eqb b 0x0A) as P [
      | true ↦ λ h. absurd (omega arith)
      | false ↦ λ h. ap (onto b) (unended (a ∷ bs) (omega arith) (omega arith))
    ] h

pub no_line : (bs : List ℕ) → length bs ≡ 0 → lines_of bs ≡ []
unfolding lines_of
no_line [] h = refl
no_line (b ∷ bs) h = absurd (omega arith)

-- the first 0A, or else the end
pub measured : (bs : List ℕ) → line_length bs ≡ unwrap_or (position (λ b. b == 0x0A) bs) (length bs)
measured bs =
    let n : ℕ = line_length bs in
    let most : n ≤ length bs = prefix_len-le-length (λ b. not (b == 0x0A)) bs in
    let P : Bool → Type 0 = λ t. ltb n (length bs) ≡ t → n ≡ unwrap_or (cond t (Some n) None) (length bs) in
    elim (ltb n (length bs)) as P [ true ↦ λ _. refl | false ↦ λ no. grind (arith) ] refl

-- the same for a line that was measured, and for what is left as a part of the script
pub ended_at : (bs rest : List ℕ) (n : ℕ) → n ≡ line_length bs → n < length bs → rest ≡ take (length bs - (n + 1)) (drop (n + 1) bs)
    → lines_of bs ≡ take (n - 0) bs ∷ lines_of rest
ended_at bs rest n is h left =
    let z : n - 0 ≡ n = omega arith in
    let lt : line_length bs < length bs = omega arith in
    let e = ended bs lt in
    rw (z, left, take_rest bs (n + 1), is) e

pub unended_at : (bs rest : List ℕ) (n : ℕ) → n ≡ line_length bs → (length bs ≡ 0 → ⊥) → length bs ≤ n → rest ≡ []
    → lines_of bs ≡ take (n - 0) bs ∷ lines_of rest
unfolding lines_of
unended_at bs rest n is some h none =
    let z : n - 0 ≡ n = omega arith in
    rw (z, none, take_all n bs h) (unended bs (omega arith) (omega arith))
