-- the records of entries, one behind the other
use Rattle.std.proofs.Common.{◌≡◌, ℕ, Bool, true, false, cond, not, ◌||◌, eqb, List, [], ◌∷◌, ◌++◌, length, sym, refl, ap, ◌∙◌, arith}
use Rattle.std.proofs.lemmas.Bool.{ne_eqb, not-true, not-false}
use Rattle.answers.specs.declared.StatusWord.TheVariants.{Success, NotFound}
use Rattle.answers.specs.Replies.{reply, only}
use Rattle.contents.specs.declared.life.EntryKind.{EntryKind}
use Rattle.contents.specs.declared.records.Entry.{Entry}
use Rattle.contents.specs.Held.{any}
use Rattle.rules.specs.GetStatus.{is_of_kind, record_of, status_records, status_listed}

-- there are no records where there are no entries of the kind
none_recorded : (kind : EntryKind) (es : List Entry) → eqb (length (status_records kind es)) 0 ≡ not (any (is_of_kind kind) es)
none_recorded kind [] = refl
none_recorded kind (e ∷ es) =
    let P : Bool → Type 0 = λ b. eqb (length (cond b (record_of e) [] ++ status_records kind es)) 0 ≡ not (b || any (is_of_kind kind) es) in
    elim (is_of_kind kind e) as P [ true ↦ ne_eqb _ 0 (λ (z : length (record_of e ++ status_records kind es) ≡ 0). omega arith) | false ↦ none_recorded kind es ]

pub listed_some : (kind : EntryKind) (es : List Entry) (bs : List ℕ) → bs ≡ status_records kind es → false ≡ eqb (length bs) 0 → reply bs Success ≡ status_listed kind es
listed_some kind es bs is some =
    let e = not-false (any (is_of_kind kind) es) (sym (some ∙ ap (λ x. eqb (length x) 0) is ∙ none_recorded kind es)) in
    rw (e, is)

pub listed_none : (kind : EntryKind) (es : List Entry) (bs : List ℕ) → bs ≡ status_records kind es → true ≡ eqb (length bs) 0 → only NotFound ≡ status_listed kind es
listed_none kind es bs is none =
    let e = not-true (any (is_of_kind kind) es) (sym (none ∙ ap (λ x. eqb (length x) 0) is ∙ none_recorded kind es)) in
    rw e
