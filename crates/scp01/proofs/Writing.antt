-- The parts of a command, written one behind another. Assumes nothing.
use Rattle.std.proofs.Common.{◌≡◌, ℕ, ◌+◌, ◌≤◌, false, eqb, List, [], ◌∷◌, ◌++◌, length, Some, None, Option, ap, ◌∙◌, append_assoc, arith, length-append}
use Rattle.std.proofs.lemmas.Bool.{cond_both}
use Rattle.answers.specs.Areas.{fronted}
use Rattle.answers.proofs.Writing.{written_more, written_front}
use Rattle.scp01.specs.Wrapping.{PutAt, PutInFront, field_bytes, le_bytes}

pub put_two : (a b c xs ys : List ℕ) (at n m : ℕ) → PutAt a b at n xs → PutAt b c n m ys → at + length xs + length ys ≤ length a → PutAt a c at m (xs ++ ys)
put_two a b c xs ys at n m p q le = record {
  area = written_more a b c xs ys at n p.area p.end q.area le;
  end = q.end ∙ simp length-append (omega (arith, p.end));
}

-- three parts at the front of an area
pub put_three : (a b c d xs ys zs : List ℕ) (n m k : ℕ) → PutAt a b 0 n xs → PutAt b c n m ys → PutAt c d m k zs → length xs + length ys + length zs ≤ length a → PutInFront a d k (xs ++ (ys ++ zs))
put_three a b c d xs ys zs n m k p q r le =
    let two = put_two a b c xs ys 0 n m p q (omega arith) in
    let three = put_two a c d (xs ++ ys) zs 0 m k two r (simp length-append (omega arith)) in
    let all = append_assoc xs ys zs in
    record { area = three.area ∙ written_front a ((xs ++ ys) ++ zs) ∙ ap (fronted a) all; end = three.end ∙ rw all (omega arith) }

-- a data field that is not empty is its length and itself
pub put_field : (a b c field : List ℕ) (at n m : ℕ) → eqb (length field) 0 ≡ false → PutAt a b at n (length field ∷ []) → PutAt b c n m field → at + 1 + length field ≤ length a → PutAt a c at m (field_bytes field)
put_field a b c field at n m h p q le = rw h (put_two a b c (length field ∷ []) field at n m p q le)

pub length_field : (field : List ℕ) → length (field_bytes field) ≤ length field + 1
length_field field = cond_both (eqb (length field) 0) [] (length field ∷ field) (λ bs. length bs ≤ length field + 1) (λ _. omega arith) (λ _. omega arith)

pub length_le : (le : Option ℕ) → length (le_bytes le) ≤ 1
length_le None = omega arith
length_le (Some le) = omega arith
