-- A text that says a body. Assumes nothing.
use Rattle.std.proofs.Common.{◌≡◌, ℕ, zero, suc, ◌+◌, ◌<◌, ◌≤◌, List, [], ◌∷◌, ◌++◌, length, get_or, take, drop, sym, refl, add-one, arith}
use Rattle.std.specs.Str.{bytes_eq}
use Rattle.std.proofs.lemmas.List.{length-take-le}
use Rattle.std.proofs.lemmas.Bool.{eq-eqb}
use Rattle.scp01.specs.Inside.{closing, body_text, said}

-- what a list begins with makes no difference
same_behind : (n : ℕ) (xs ys : List ℕ) → n ≤ length xs → bytes_eq xs (take n xs ++ ys) ≡ bytes_eq (drop n xs) ys
same_behind zero xs ys le = refl
same_behind (suc n) [] ys le = absurd (omega arith)
same_behind (suc n) (x ∷ xs) ys le = rw (eq-eqb x x refl) (same_behind n xs ys (omega arith))

-- a text is a body's if behind that body only the closing stands
pub text_closed : (text : List ℕ) → 0 < length text → get_or text 0 0 + 1 ≤ length text → bytes_eq (drop (get_or text 0 0 + 1) text) (closing (get_or text 0 0 + 1)) ≡ bytes_eq text (body_text (said text))
text_closed [] h le = absurd (omega arith)
text_closed (n ∷ rest) h le =
    let long = length-take-le n rest (omega arith) in
    let same = eq-eqb n n refl in
    sym (rw (long, same, add-one) (same_behind n rest (closing (suc n)) (omega arith)))
