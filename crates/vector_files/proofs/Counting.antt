-- What is counted of lines, one by one.
use Rattle.std.proofs.Common.{◌≡◌, ℕ, ◌+◌, ◌<◌, ◌≤◌, ◌^◌, ◌-◌, min, cond, eqb, subst, true, false, Bool, List, [], ◌∷◌, ◌++◌, length, filter, map, Option, Some, None, Err, refl, sym, ap, ◌∙◌, arith, append-nil, length-append}
use Rattle.std.specs.List.{All, enumerate_from}
use Rattle.std.proofs.lemmas.List.Elements.{All-nil, All-push, All-pop, filter-append}
use Rattle.std.specs.Str.Lines.{lines}
use borrow.Author.Tests.{eqb-true}
use Rattle.std.proofs.lemmas.Bool.Decides.{nat_tests}
use denote.Ref.{Bor}
use Rattle.cipher.specs.Blocks.{Direction}
use Rattle.vector_files.specs.Rows.{is_counted, row_of, Found, Agrees, Answered}
use Rattle.vector_files.specs.declared.rows.Row.{Row}
use Rattle.vector_files.specs.declared.rows.Fault.{Fault}
use Rattle.vector_files.specs.declared.rows.Fault.TheVariants.{Differs, IllFormed}

abbrev pub most : ℕ
most = 2 ^ 32 - 1

pub record Counted (enc dec : Direction) (seen : List (List ℕ)) (count agreed : ℕ) : Type 0 where
  pub few : agreed ≤ count
  pub bounded : count ≤ most
  pub exact : length (filter is_counted seen) < 2 ^ 32 → count ≡ length (filter is_counted seen)
  pub sound : length (filter is_counted seen) < 2 ^ 32 → agreed ≡ count → All (Agrees enc dec) (filter is_counted seen)
  pub complete : All (Agrees enc dec) (filter is_counted seen) → agreed ≡ count

pub counted_none : (enc dec : Direction) → Counted enc dec [] 0 0
counted_none enc dec =
    record { few = omega arith; bounded = omega arith; exact = λ _. refl; sound = λ _ _. All-nil _; complete = λ _. refl }

filter_one : (line : List ℕ) (b : Bool) → is_counted line ≡ b → filter is_counted (line ∷ []) ≡ cond b (line ∷ []) []
filter_one line b is = rw is refl

skipped_rows : (seen : List (List ℕ)) (line : List ℕ) → is_counted line ≡ false → filter is_counted (seen ++ (line ∷ [])) ≡ filter is_counted seen
skipped_rows seen line is =
    filter-append is_counted seen (line ∷ []) ∙ ap (λ (rest : List (List ℕ)). filter is_counted seen ++ rest) (filter_one line false is) ∙ append-nil _

more_rows : (seen : List (List ℕ)) (line : List ℕ) → is_counted line ≡ true → filter is_counted (seen ++ (line ∷ [])) ≡ filter is_counted seen ++ (line ∷ [])
more_rows seen line is =
    filter-append is_counted seen (line ∷ []) ∙ ap (λ (rest : List (List ℕ)). filter is_counted seen ++ rest) (filter_one line true is)

pub counted_skipped : (enc dec : Direction) (seen : List (List ℕ)) (line : List ℕ) (count agreed : ℕ) → is_counted line ≡ false
    → Counted enc dec seen count agreed → Counted enc dec (seen ++ (line ∷ [])) count agreed
counted_skipped enc dec seen line count agreed is before =
    let e = skipped_rows seen line is in
    record {
      few = before.few;
      bounded = before.bounded;
      exact = rw e before.exact;
      sound = rw e before.sound;
      complete = rw e before.complete;
    }

-- a row more
record More (seen : List (List ℕ)) (line : List ℕ) : Type 0 where
  rows : filter is_counted (seen ++ (line ∷ [])) ≡ filter is_counted seen ++ (line ∷ [])
  long : length (filter is_counted (seen ++ (line ∷ []))) ≡ length (filter is_counted seen) + 1

one_more : (seen : List (List ℕ)) (line : List ℕ) → is_counted line ≡ true → More seen line
one_more seen line is =
    let e = more_rows seen line is in
    record { rows = e; long = ap length e ∙ length-append (filter is_counted seen) (line ∷ []) }

pub counted_agreed : (enc dec : Direction) (seen : List (List ℕ)) (line : List ℕ) (count agreed : ℕ) → is_counted line ≡ true → Agrees enc dec line
    → Counted enc dec seen count agreed → Counted enc dec (seen ++ (line ∷ [])) (min (count + 1) most) (min (agreed + 1) most)
counted_agreed enc dec seen line count agreed is agrees before =
    let m = one_more seen line is in
    let few = before.few in
    let long = m.long in
    record {
      few = omega arith;
      bounded = omega arith;
      exact = λ small. let e = before.exact (omega arith) in omega arith;
      sound = λ small same.
          let e = before.exact (omega arith) in
          let all = before.sound (omega arith) (omega arith) in
          rw (m.rows) (All-push (Agrees enc dec) _ line all agrees);
      complete = λ all.
          let parts = All-pop (Agrees enc dec) _ (filter is_counted seen) (Some line) m.rows all in
          let e = before.complete parts.0 in
          omega arith;
    }

pub counted_fault : (enc dec : Direction) (seen : List (List ℕ)) (line : List ℕ) (count agreed : ℕ) → is_counted line ≡ true → (Agrees enc dec line → ⊥)
    → Counted enc dec seen count agreed → Counted enc dec (seen ++ (line ∷ [])) (min (count + 1) most) agreed
counted_fault enc dec seen line count agreed is differs before =
    let m = one_more seen line is in
    let few = before.few in
    let bounded = before.bounded in
    let long = m.long in
    record {
      few = omega arith;
      bounded = omega arith;
      exact = λ small. let e = before.exact (omega arith) in omega arith;
      sound = λ small same. let e = before.exact (omega arith) in absurd (omega arith);
      complete = λ all.
          let parts = All-pop (Agrees enc dec) _ (filter is_counted seen) (Some line) m.rows all in
          absurd (differs parts.1);
    }

some_of : Row → Option Row → Row
some_of r None = r
some_of r (Some q) = q

-- a line with a fault, seen as its bytes, does not agree
pub fault_differs : (enc dec : Direction) (line bytes : List ℕ) (fault : Fault) → bytes ≡ line → Found enc dec bytes (Err fault) → Agrees enc dec line → ⊥
unfolding some_of
fault_differs enc dec line bytes Differs seen found agrees =
    let same : found.0 ≡ agrees.0 = ap (some_of found.0) (sym found.1 ∙ ap row_of seen ∙ agrees.1) in
    found.2 (rw same agrees.2)
fault_differs enc dec line bytes IllFormed seen found agrees = cc (sym found ∙ ap row_of seen ∙ agrees.1)

texts_numbered : (n : ℕ) (texts : List (List ℕ)) → map (λ (p : ℕ × List ℕ). p.1) (enumerate_from n texts) ≡ texts
texts_numbered n [] = refl
texts_numbered n (text ∷ texts) = ap (λ (rest : List (List ℕ)). text ∷ rest) (texts_numbered (n + 1) texts)

texts_behind : (items : List (ℕ × Bor (List ℕ))) → map (λ (p : ℕ × List ℕ). p.1) (map (λ (p : ℕ × Bor (List ℕ)). (p.0, p.1.now)) items) ≡ map (λ (p : ℕ × Bor (List ℕ)). p.1.now) items
texts_behind [] = refl
texts_behind (item ∷ items) = ap (λ (rest : List (List ℕ)). item.1.now ∷ rest) (texts_behind items)

-- the texts of the items that an enumeration of texts gave
pub texts_yielded : (items : List (ℕ × Bor (List ℕ))) (texts : List (List ℕ)) → map (λ (p : ℕ × Bor (List ℕ)). (p.0, p.1.now)) items ≡ enumerate_from 0 texts
    → map (λ (p : ℕ × Bor (List ℕ)). p.1.now) items ≡ texts
texts_yielded items texts is = sym (texts_behind items) ∙ ap (map (λ (p : ℕ × List ℕ). p.1)) is ∙ texts_numbered 0 texts

-- the texts of items and one more
pub texts_more : (items : List (ℕ × Bor (List ℕ))) (item : ℕ × Bor (List ℕ))
    → map (λ (p : ℕ × Bor (List ℕ)). p.1.now) (items ++ (item ∷ [])) ≡ map (λ (p : ℕ × Bor (List ℕ)). p.1.now) items ++ (item.1.now ∷ [])
texts_more [] item = refl
texts_more (x ∷ items) item = ap (λ (rest : List (List ℕ)). x.1.now ∷ rest) (texts_more items item)

eqb_same : (a b : ℕ) → a ≡ b → eqb a b ≡ true
eqb_same a b same = grind (arith, nat_tests)

-- all that was seen is the text
pub answered_at_end : (enc dec : Direction) (text : List ℕ) (seen : List (List ℕ)) (count agreed : ℕ) → seen ≡ lines text → Counted enc dec seen count agreed
    → Answered enc dec text (eqb agreed count)
answered_at_end enc dec text seen count agreed whole counted =
    let at_end : Counted enc dec (lines text) count agreed = subst (λ (ls : List (List ℕ)). Counted enc dec ls count agreed) whole counted in
    record {
      sound = λ small same. at_end.sound small (eqb-true agreed count same);
      complete = λ all. eqb_same agreed count (at_end.complete all);
    }
