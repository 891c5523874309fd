-- a list with one element altered or taken out: every element still passes, and no two are the same
use Rattle.std.proofs.Common.{◌≡◌, ℕ, zero, suc, ◌<◌, ◌≤◌, Bool, true, false, cond, not, ◌&&◌, ◌||◌, eqb, leb, List, [], ◌∷◌, length, get_or, take, set, Some, None, Option, sym, refl, ap, ◌∙◌, ⊎_elim, arith, rules}
use Rattle.std.proofs.lemmas.List.{same_lists, places, get_or-set_same, get_or-take, get_or_past, length-set, length-take}
use Rattle.std.proofs.lemmas.Bool.{cases_eq, cases_lt, and_parts, and_from, false≢true}
use Rattle.std.specs.Str.{bytes_eq}
use Rattle.contents.specs.declared.life.EntryKind.{EntryKind}
use Rattle.contents.specs.declared.life.EntryKind.TheVariants.{LoadFile, Application}
use Rattle.contents.specs.declared.life.EntryState.{EntryState}
use Rattle.contents.specs.declared.records.Entry.{Entry}
use Rattle.contents.specs.declared.records.KeySet.{KeySet}
use Rattle.contents.specs.Search.{first_of}
use Rattle.contents.specs.Records.{name_of, card_manager, bears, is_application_kind, is_application, no_entry, entry_at, entry_named}
use Rattle.contents.specs.Held.{Held, all, any, distinct, same_name, sound_aid, privileges_fit, sound_entry, sound_entries, sound_sets, sound, state_fits}
use Rattle.contents.specs.Changes.{with_entries, with_sets, in_state, state_set, state_set_at, state_set_named, takes_state}

pub take_set_within : {X : Type 0} (n i : ℕ) (xs : List X) (v : X) → i < length (take n xs) → take n (set xs i v) ≡ set (take n xs) i v
take_set_within n i xs v lt = same_lists _ _ (search (rules, places)) (λ k d h. grind (arith, places, get_or-set_same, cases_eq k i))

pub listed_set : (n i : ℕ) (s : EntryState) (es : List Entry) → i < length (take n es) → take n (set es i (in_state s (get_or es i no_entry))) ≡ state_set (take n es) i s
listed_set n i s es lt =
    take_set_within n i es (in_state s (get_or es i no_entry)) lt
    ∙ ap (λ e. set (take n es) i (in_state s e)) (sym (get_or-take n es i no_entry (omega (arith, simp length-take at lt))))

pub all_set : {X : Type 0} (p : X → Bool) (xs : List X) (i : ℕ) (v : X) → all p xs ≡ true → p v ≡ true → all p (set xs i v) ≡ true
all_set p [] i v h e = refl
all_set p (x ∷ xs) zero v h e = and_from (p v) (all p xs) e (and_parts (p x) (all p xs) h).1
all_set p (x ∷ xs) (suc i) v h e =
    let a = and_parts (p x) (all p xs) h in
    and_from (p x) (all p (set xs i v)) a.0 (all_set p xs i v a.1 e)

pub all_get_d : {X : Type 0} (p : X → Bool) (xs : List X) (i : ℕ) (d : X) → all p xs ≡ true → i < length xs → p (get_or xs i d) ≡ true
all_get_d p [] i d h lt = absurd (omega arith)
all_get_d p (x ∷ xs) zero d h lt = (and_parts (p x) (all p xs) h).0
all_get_d p (x ∷ xs) (suc i) d h lt = all_get_d p xs i d (and_parts (p x) (all p xs) h).1 (omega arith)

-- an element that is like the one that it replaces
any_set_like : {X : Type 0} (p : X → Bool) (xs : List X) (i : ℕ) (d v : X) → p v ≡ p (get_or xs i d) → any p (set xs i v) ≡ any p xs
any_set_like p [] i d v e = refl
any_set_like p (x ∷ xs) zero d v e = ap (λ b. b || any p xs) e
any_set_like p (x ∷ xs) (suc i) d v e = ap (λ b. p x || b) (any_set_like p xs i d v e)

pub distinct_set_like : {X : Type 0} (same : X → X → Bool) (xs : List X) (i : ℕ) (d v : X) → same v ≡ same (get_or xs i d) → ((x : X) → same x v ≡ same x (get_or xs i d)) → distinct same (set xs i v) ≡ distinct same xs
distinct_set_like same [] i d v e f = refl
distinct_set_like same (x ∷ xs) zero d v e f = ap (λ s. not (any s xs) && distinct same xs) e
distinct_set_like same (x ∷ xs) (suc i) d v e f =
    let a = any_set_like (same x) xs i d v (f x) in
    let b = distinct_set_like same xs i d v e f in
    cc

fits_kind : (k : EntryKind) (s : EntryState) → (is_application_kind k && state_fits Application s) ≡ true → state_fits k s ≡ true
fits_kind LoadFile s h = absurd (false≢true h)
fits_kind Application s h = h

-- an entry in another state that its kind may have
state_sound : (e : Entry) (s : EntryState) → sound_entry e ≡ true → state_fits e.kind s ≡ true → sound_entry (in_state s e) ≡ true
state_sound e s h fits =
    let rest : Bool = privileges_fit e.kind e.privileges && not (bytes_eq (name_of e) card_manager) in
    let a = and_parts (sound_aid e.aid) (state_fits e.kind e.state && rest) h in
    let b = and_parts (state_fits e.kind e.state) rest a.1 in
    and_from (sound_aid e.aid) (state_fits e.kind s && rest) a.0 (and_from (state_fits e.kind s) rest fits b.1)

state_set_sound : (es : List Entry) (i : ℕ) (s : EntryState) → sound_entries es ≡ true → i < length es → state_fits (get_or es i no_entry).kind s ≡ true → sound_entries (state_set es i s) ≡ true
state_set_sound es i s h lt fits =
    let v : Entry = in_state s (get_or es i no_entry) in
    let a = and_parts (leb (length es) 12) (all sound_entry es && distinct same_name es) h in
    let b = and_parts (all sound_entry es) (distinct same_name es) a.1 in
    let n : leb (length (set es i v)) 12 ≡ true = ap (λ n. leb n 12) (length-set es i v) ∙ a.0 in
    let p : all sound_entry (set es i v) ≡ true = all_set sound_entry es i v b.0 (state_sound (get_or es i no_entry) s (all_get_d sound_entry es i no_entry b.0 lt) fits) in
    let q : distinct same_name (set es i v) ≡ true = distinct_set_like same_name es i no_entry v refl (λ x. refl) ∙ b.1 in
    and_from (leb (length (set es i v)) 12) (all sound_entry (set es i v) && distinct same_name (set es i v)) n (and_from (all sound_entry (set es i v)) (distinct same_name (set es i v)) p q)

no_application : (es : List Entry) (i : ℕ) → length es ≤ i → is_application (get_or es i no_entry) ≡ false
no_application es i past = ap is_application (get_or_past es i no_entry past)

-- entries of which an application that a search found is in another state
state_at_sound : (es : List Entry) (at : Option ℕ) (s : EntryState) → sound_entries es ≡ true → takes_state s (entry_at es at) ≡ true → sound_entries (state_set_at at s es) ≡ true
state_at_sound es None s h takes = h
state_at_sound es (Some i) s h takes =
    let fits = fits_kind (get_or es i no_entry).kind s takes in
    let is = (and_parts (is_application (get_or es i no_entry)) (state_fits Application s) takes).0 in
    ⊎_elim (λ lt. state_set_sound es i s h lt fits) (λ past. absurd (false≢true (sym (no_application es i past) ∙ is))) (cases_lt i (length es))

-- what a change of an application's state leaves is sound
pub state_change_sound : (es after : List Entry) (name : List ℕ) (s : EntryState) (r : Bool) → sound_entries es ≡ true → r ≡ takes_state s (entry_named name es) → after ≡ cond r (state_set_named name s es) es → sound_entries after ≡ true
state_change_sound es after name s false h taken is = rw is h
state_change_sound es after name s true h taken is = rw is (state_at_sound es (first_of (bears name) es) s h (sym taken))

-- soundness, part by part
pub sound_parts : (h : Held) → sound h ≡ true → (eqb (length h.diversification) 10 ≡ true) × (sound_sets h.sets ≡ true) × (sound_entries h.entries ≡ true)
sound_parts h is =
    let a = and_parts (eqb (length h.diversification) 10) (sound_sets h.sets && sound_entries h.entries) is in
    let b = and_parts (sound_sets h.sets) (sound_entries h.entries) a.1 in
    (a.0, b.0, b.1)

pub sound_from : (h : Held) → (eqb (length h.diversification) 10 ≡ true) × (sound_sets h.sets ≡ true) × (sound_entries h.entries ≡ true) → sound h ≡ true
sound_from h p =
    and_from (eqb (length h.diversification) 10) (sound_sets h.sets && sound_entries h.entries) p.0
    (and_from (sound_sets h.sets) (sound_entries h.entries) p.1 p.2)

-- other entries, each time sound
pub entries_replaced : (h : Held) (es : List Entry) → sound h ≡ true → sound_entries es ≡ true → sound (with_entries es h) ≡ true
entries_replaced h es is sure = let p = sound_parts h is in sound_from (with_entries es h) (p.0, p.1, sure)

pub sets_replaced : (h : Held) (ks : List KeySet) → sound h ≡ true → sound_sets ks ≡ true → sound (with_sets ks h) ≡ true
sets_replaced h ks is sure = let p = sound_parts h is in sound_from (with_sets ks h) (p.0, sure, p.2)
