-- Reading a command undoes writing it. Assumes nothing.
use Rattle.std.proofs.Common.{◌≡◌, ℕ, ◌+◌, ◌<◌, List, [], ◌∷◌, ◌++◌, length, get_or, take, drop, Some, None, Option, refl, ap, ◌∙◌, arith, length-append}
use Rattle.std.proofs.lemmas.List.{take_at, get_or_at}
use Rattle.std.proofs.lemmas.Bool.{ne_eqb}
use Rattle.std.proofs.lemmas.Bool.Decides.{nat_tests}
use Rattle.apdu.specs.Apdu.{Apdu, apdu, headed}
use Rattle.scp01.specs.Wrapping.{command_bytes}

-- Lc bytes, and no Le
without_le : (bs : List ℕ) (lc : ℕ) → get_or bs 4 0 ≡ lc → 0 < lc → length bs ≡ 5 + lc → apdu bs ≡ Some (headed bs (take lc (drop 5 bs)) None)
without_le bs lc at some long = grind (arith, nat_tests)

-- Lc bytes and Le
with_le : (bs : List ℕ) (lc : ℕ) → get_or bs 4 0 ≡ lc → 0 < lc → length bs ≡ 6 + lc → apdu bs ≡ Some (headed bs (take lc (drop 5 bs)) (Some (get_or bs (5 + lc) 0)))
with_le bs lc at some long = grind (arith, nat_tests)

abbrev made : ℕ → ℕ → ℕ → ℕ → List ℕ → Option ℕ → Apdu
made cla ins p1 p2 field le = record { class = cla; instruction = ins; p1 = p1; p2 = p2; field = field; le = le }

by_parts : (cla ins p1 p2 : ℕ) (field : List ℕ) (le : Option ℕ) → apdu (command_bytes (made cla ins p1 p2 field le)) ≡ Some (made cla ins p1 p2 field le)
by_parts cla ins p1 p2 [] None = refl
by_parts cla ins p1 p2 [] (Some le) = refl
by_parts cla ins p1 p2 (b ∷ bs) None =
    let field = b ∷ bs in
    let some = ne_eqb (length field) 0 (λ p. omega arith) in
    let all = cla ∷ ins ∷ p1 ∷ p2 ∷ length field ∷ (field ++ []) in
    let front = take_at field [] (length field) refl in
    let long = length-append bs [] in
    rw some (without_le all (length field) refl (omega arith) (omega arith) ∙ ap (λ f. Some (made cla ins p1 p2 f None)) front)
by_parts cla ins p1 p2 (b ∷ bs) (Some le) =
    let field = b ∷ bs in
    let some = ne_eqb (length field) 0 (λ p. omega arith) in
    let all = cla ∷ ins ∷ p1 ∷ p2 ∷ length field ∷ (field ++ le ∷ []) in
    let front = take_at field (le ∷ []) (length field) refl in
    let last : get_or all (5 + length field) 0 ≡ le =
    get_or_at (cla ∷ ins ∷ p1 ∷ p2 ∷ length field ∷ field) le [] 0 (5 + length field) (omega arith)
    in
    rw some (with_le all (length field) refl (omega arith) (simp length-append (omega arith)) ∙ ap (λ f. Some (made cla ins p1 p2 f (Some (get_or all (5 + length field) 0)))) front ∙ ap (λ l. Some (made cla ins p1 p2 field (Some l))) last)

-- the bytes of a command are read as that command
pub read_back : (c : Apdu) → apdu (command_bytes c) ≡ Some c
read_back c = by_parts c.class c.instruction c.p1 c.p2 c.field c.le
