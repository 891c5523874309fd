-- lists that grow at the end, of which every element passes a test and no two are the same
use Rattle.std.proofs.Common.{◌≡◌, ℕ, ◌+◌, Bool, true, false, cond, not, ◌&&◌, ◌||◌, eqb, List, [], ◌∷◌, ◌++◌, is_some, Some, sym, refl, ap, ◌∙◌, arith}
use Rattle.std.specs.Str.{bytes_eq}
use Rattle.std.proofs.lemmas.Slice.Eq.{bytes_eq-Decides}
use Rattle.std.proofs.lemmas.Bool.Decides.{nat_tests, same_from_decides, Decides-like}
use Rattle.std.proofs.lemmas.Bool.{and_parts, and_from, or_parts, or_from, not-true, not_from_false}
use Rattle.std.specs.List.{position_from}
use Rattle.std.proofs.lemmas.List.Folds.{list_all-append, list_any-append}
use Rattle.std.proofs.lemmas.Iterator.Adapters.{position_from-zero}
use Rattle.contents.specs.Search.{first_of}
use Rattle.contents.specs.declared.records.Entry.{Entry}
use Rattle.contents.specs.declared.records.KeySet.{KeySet}
use Rattle.contents.specs.Records.{name_of, bears, has_version}
use Rattle.contents.specs.Held.{all, any, distinct, same_name, same_version}

pub all_push : {X : Type 0} (p : X → Bool) (xs : List X) (y : X) → all p xs ≡ true → p y ≡ true → all p (xs ++ y ∷ []) ≡ true
all_push p xs y h e = list_all-append p xs (y ∷ []) ∙ and_from (all p xs) (p y && true) h (and_from (p y) true e refl)

pub all_at : {X : Type 0} (p : X → Bool) (xs ys : List X) (y : X) → all p (xs ++ y ∷ ys) ≡ true → p y ≡ true
all_at p xs ys y h = (and_parts (p y) (all p ys) (and_parts (all p xs) (all p (y ∷ ys)) (sym (list_all-append p xs (y ∷ ys)) ∙ h)).1).0

any_push : {X : Type 0} (p : X → Bool) (xs : List X) (y : X) → any p xs ≡ false → p y ≡ false → any p (xs ++ y ∷ []) ≡ false
any_push p xs y h e = list_any-append p xs (y ∷ []) ∙ or_from (any p xs) (p y || false) h (or_from (p y) false e refl)

any_at : {X : Type 0} (p : X → Bool) (xs ys : List X) (y : X) → any p (xs ++ y ∷ ys) ≡ false → p y ≡ false
any_at p xs ys y h = (or_parts (p y) (any p ys) (or_parts (any p xs) (any p (y ∷ ys)) (sym (list_any-append p xs (y ∷ ys)) ∙ h)).1).0

pub any_alike : {X : Type 0} (p q : X → Bool) (xs : List X) → ((x : X) → p x ≡ q x) → any p xs ≡ any q xs
any_alike p q [] e = refl
any_alike p q (x ∷ xs) e = let a = e x in let b = any_alike p q xs e in cc

-- an element that is the same as no earlier one
pub distinct_push : {X : Type 0} (same : X → X → Bool) (xs : List X) (y : X) → distinct same xs ≡ true → any (λ x. same x y) xs ≡ false → distinct same (xs ++ y ∷ []) ≡ true
distinct_push same [] y h e = refl
distinct_push same (x ∷ xs) y h e =
    let a = and_parts (not (any (same x) xs)) (distinct same xs) h in
    let b = or_parts (same x y) (any (λ z. same z y) xs) e in
    and_from (not (any (same x) (xs ++ y ∷ []))) (distinct same (xs ++ y ∷ []))
    (not_from_false (any (same x) (xs ++ y ∷ [])) (any_push (same x) xs y (not-true (any (same x) xs) a.0) b.0))
    (distinct_push same xs y a.1 b.1)

pub distinct_at : {X : Type 0} (same : X → X → Bool) (xs ys : List X) (y : X) → distinct same (xs ++ y ∷ ys) ≡ true → any (λ x. same x y) xs ≡ false
distinct_at same [] ys y h = refl
distinct_at same (x ∷ xs) ys y h =
    let a = and_parts (not (any (same x) (xs ++ y ∷ ys))) (distinct same (xs ++ y ∷ ys)) h in
    or_from (same x y) (any (λ z. same z y) xs)
    (any_at (same x) xs ys y (not-true (any (same x) (xs ++ y ∷ ys)) a.0))
    (distinct_at same xs ys y a.1)

first_any : {X : Type 0} (p : X → Bool) (xs : List X) (i : ℕ) → is_some (position_from p i xs) ≡ any p xs
first_any p [] i = refl
first_any p (x ∷ xs) i =
    let P : Bool → Type 0 = λ b. is_some (cond b (Some i) (position_from p (i + 1) xs)) ≡ (b || any p xs) in
    elim (p x) as P [ true ↦ refl | false ↦ first_any p xs (i + 1) ]

-- a search finds something where any element passes
pub found_any : {X : Type 0} (p : X → Bool) (xs : List X) → is_some (first_of p xs) ≡ any p xs
found_any p xs = ap is_some (position_from-zero p xs) ∙ first_any p xs 0

-- the same test from either side
eqb_flip : (a b : ℕ) → eqb a b ≡ eqb b a
eqb_flip a b = grind (arith, nat_tests)

same_flip : (xs ys : List ℕ) → bytes_eq xs ys ≡ bytes_eq ys xs
same_flip xs ys = same_from_decides _ _ (bytes_eq-Decides xs ys) (Decides-like _ sym sym (bytes_eq-Decides ys xs))

pub no_version : (ks : List KeySet) (k : KeySet) → any (has_version k.version) ks ≡ any (λ j. same_version j k) ks
no_version ks k = any_alike _ _ ks (λ j. eqb_flip j.version k.version)

pub no_name : (es : List Entry) (e : Entry) → any (bears (name_of e)) es ≡ any (λ f. same_name f e) es
no_name es e = any_alike _ _ es (λ f. same_flip (name_of f) (name_of e))
