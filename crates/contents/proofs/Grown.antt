-- entries and key sets that are added, replaced or taken out: what is left is sound
use Rattle.std.proofs.Common.{◌≡◌, ℕ, zero, suc, ◌+◌, ◌-◌, ◌<◌, ◌≤◌, Bool, true, false, cond, not, ◌&&◌, eqb, ltb, leb, List, [], ◌∷◌, ◌++◌, length, get_or, take, drop, set, replicate, is_some, Some, None, Option, sym, refl, ap, ◌∙◌, arith, rules}
use lib.Seq.{paste}
use Rattle.std.specs.List.{remove}
use Rattle.std.specs.Str.{bytes_eq}
use Rattle.std.proofs.lemmas.List.{same_lists, places, length-set, length_push, length-append, length-drop, length-replicate, drop-replicate, take_at}
use Rattle.std.proofs.lemmas.Slice.Eq.{bytes_eq-Decides}
use Rattle.std.proofs.lemmas.Bool.{and_parts, and_from, or_parts, or_from, not-true, not_from_false, leb-true, le-leb, ltb-true, eqb-true, eq-eqb}
use Rattle.answers.specs.Areas.{fronted}
use Rattle.contents.specs.declared.life.EntryState.{EntryState}
use Rattle.contents.specs.declared.life.EntryKind.TheVariants.{Application}
use Rattle.contents.specs.declared.records.Entry.{Entry}
use Rattle.contents.specs.declared.records.KeySet.{KeySet}
use Rattle.std.proofs.lemmas.List.Quantifiers.{position-Some}
use Rattle.contents.specs.Search.{first_of}
use Rattle.contents.specs.Records.{name_of, card_manager, bears, has_version, no_key_set}
use Rattle.contents.specs.Held.{all, any, distinct, filled_name, same_name, same_version, sound_aid, state_fits, sound_entry, sound_entries, sound_key_set, sound_sets}
use Rattle.contents.specs.Changes.{is_name, aid_of, new_application, admits, removed_at, without_named, is_version, admits_set, borne_by_other, replaces_set, replaced_at, replaced_named}
use Rattle.contents.proofs.Uniques.{all_push, distinct_push, no_version, no_name}
use Rattle.contents.proofs.Altered.{all_set, distinct_set_like}

-- one element taken out of the first ones, of which there are k
pub copied_down : {X : Type 0} (xs ys : List X) (at n k : ℕ) → ys ≡ paste xs at (drop (at + 1) xs) (k - (at + 1)) → k ≡ length (take n xs) → at < k → take (k - 1) ys ≡ remove (take n xs) at
copied_down xs ys at n k is long lt = rw is (same_lists _ _ (search (rules, places)) (λ k d h. grind (arith, places)))

all_removed : {X : Type 0} (p : X → Bool) (xs : List X) (i : ℕ) → all p xs ≡ true → all p (remove xs i) ≡ true
all_removed p [] zero h = refl
all_removed p [] (suc i) h = refl
all_removed p (x ∷ xs) zero h = (and_parts (p x) (all p xs) h).1
all_removed p (x ∷ xs) (suc i) h =
    let a = and_parts (p x) (all p xs) h in
    and_from (p x) (all p (remove xs i)) a.0 (all_removed p xs i a.1)

any_removed : {X : Type 0} (p : X → Bool) (xs : List X) (i : ℕ) → any p xs ≡ false → any p (remove xs i) ≡ false
any_removed p [] zero h = refl
any_removed p [] (suc i) h = refl
any_removed p (x ∷ xs) zero h = (or_parts (p x) (any p xs) h).1
any_removed p (x ∷ xs) (suc i) h =
    let a = or_parts (p x) (any p xs) h in
    or_from (p x) (any p (remove xs i)) a.0 (any_removed p xs i a.1)

distinct_removed : {X : Type 0} (same : X → X → Bool) (xs : List X) (i : ℕ) → distinct same xs ≡ true → distinct same (remove xs i) ≡ true
distinct_removed same [] zero h = refl
distinct_removed same [] (suc i) h = refl
distinct_removed same (x ∷ xs) zero h = (and_parts (not (any (same x) xs)) (distinct same xs) h).1
distinct_removed same (x ∷ xs) (suc i) h =
    let a = and_parts (not (any (same x) xs)) (distinct same xs) h in
    and_from (not (any (same x) (remove xs i))) (distinct same (remove xs i))
    (not_from_false _ (any_removed (same x) xs i (not-true (any (same x) xs) a.0)))
    (distinct_removed same xs i a.1)

few_removed : {X : Type 0} (xs : List X) (i : ℕ) → length (remove xs i) ≤ length xs
few_removed xs i = search (rules, places)

entries_parts : (es : List Entry) → sound_entries es ≡ true → (length es ≤ 12) × (all sound_entry es ≡ true) × (distinct same_name es ≡ true)
entries_parts es h =
    let a = and_parts (leb (length es) 12) (all sound_entry es && distinct same_name es) h in
    let b = and_parts (all sound_entry es) (distinct same_name es) a.1 in
    (leb-true (length es) 12 a.0, b.0, b.1)

entries_from : (es : List Entry) → length es ≤ 12 → all sound_entry es ≡ true → distinct same_name es ≡ true → sound_entries es ≡ true
entries_from es n p q =
    and_from (leb (length es) 12) (all sound_entry es && distinct same_name es) (le-leb (length es) 12 n)
    (and_from (all sound_entry es) (distinct same_name es) p q)

removed_at_sound : (es : List Entry) (at : Option ℕ) → sound_entries es ≡ true → sound_entries (removed_at at es) ≡ true
removed_at_sound es None h = h
removed_at_sound es (Some i) h =
    let p = entries_parts es h in
    entries_from (remove es i) (omega (arith, few_removed es i, p.0)) (all_removed sound_entry es i p.1) (distinct_removed same_name es i p.2)

pub without_sound : (es after : List Entry) (name : List ℕ) → sound_entries es ≡ true → after ≡ without_named name es → sound_entries after ≡ true
without_sound es after name h is = rw is (removed_at_sound es (first_of (bears name) es) h)

-- the name of a new application
name_back : (name : List ℕ) (s : EntryState) (p : ℕ) → name_of (new_application name s p) ≡ name
name_back name s p = take_at name (drop (length name) (replicate 16 0)) (length name) refl

same_self : (xs : List ℕ) → bytes_eq xs xs ≡ true
same_self xs = (bytes_eq-Decides xs xs).1 refl

aid_sound : (name : List ℕ) → is_name name ≡ true → sound_aid (aid_of name) ≡ true
aid_sound name h =
    let n = length name in
    let bs = fronted (replicate 16 0) name in
    let a = and_parts (leb 5 n) (leb n 16) h in
    let few = leb-true n 16 a.1 in
    let long : length bs ≡ 16 = length-append name (drop n (replicate 16 0)) ∙ simp (length-drop, length-replicate) (omega arith) in
    let filled : filled_name (aid_of name) ≡ bs = rw (take_at name (drop n (replicate 16 0)) n refl) (ap (λ z. name ++ z) (sym (drop-replicate n 16 0))) in
    let same : bytes_eq bs (filled_name (aid_of name)) ≡ true = rw filled (same_self bs) in
    and_from (eqb (length bs) 16) (leb 5 n && (leb n 16 && bytes_eq bs (filled_name (aid_of name)))) (eq-eqb (length bs) 16 long)
    (and_from (leb 5 n) (leb n 16 && bytes_eq bs (filled_name (aid_of name))) a.0 (and_from (leb n 16) (bytes_eq bs (filled_name (aid_of name))) a.1 same))

application_sound : (name : List ℕ) (s : EntryState) (p : ℕ) → is_name name ≡ true → bytes_eq name card_manager ≡ false → state_fits Application s ≡ true → sound_entry (new_application name s p) ≡ true
application_sound name s p h other fits =
    let e = new_application name s p in
    let new : not (bytes_eq (name_of e) card_manager) ≡ true = rw (name_back name s p) (not_from_false _ other) in
    and_from (sound_aid (aid_of name)) (state_fits Application s && (true && not (bytes_eq (name_of e) card_manager))) (aid_sound name h)
    (and_from (state_fits Application s) (true && not (bytes_eq (name_of e) card_manager)) fits new)

application_added : (es : List Entry) (name : List ℕ) (s : EntryState) (p : ℕ) → sound_entries es ≡ true → admits name s es ≡ true → sound_entries (es ++ new_application name s p ∷ []) ≡ true
application_added es name s p h admitted =
    let e = new_application name s p in
    let parts = entries_parts es h in
    let a = and_parts (is_name name && not (bytes_eq name card_manager)) ((not (any (bears name) es) && state_fits Application s) && ltb (length es) 12) admitted in
    let b = and_parts (is_name name) (not (bytes_eq name card_manager)) a.0 in
    let d = and_parts (not (any (bears name) es) && state_fits Application s) (ltb (length es) 12) a.1 in
    let f = and_parts (not (any (bears name) es)) (state_fits Application s) d.0 in
    entries_from (es ++ e ∷ [])
    (simp length_push (omega (arith, ltb-true (length es) 12 d.1)))
    (all_push sound_entry es e parts.1 (application_sound name s p b.0 (not-true _ b.1) f.1))
    (distinct_push same_name es e parts.2 (sym (no_name es e) ∙ ap (λ n. any (bears n) es) (name_back name s p) ∙ not-true _ f.0))

pub application_sound_after : (es after : List Entry) (name : List ℕ) (s : EntryState) (p : ℕ) (r : Bool) → sound_entries es ≡ true → r ≡ admits name s es → after ≡ cond r (es ++ new_application name s p ∷ []) es → sound_entries after ≡ true
application_sound_after es after name s p false h taken is = rw is h
application_sound_after es after name s p true h taken is = rw is (application_added es name s p h (sym taken))

-- key sets
sets_parts : (ks : List KeySet) → sound_sets ks ≡ true → (1 ≤ length ks) × (length ks ≤ 4) × (all sound_key_set ks ≡ true) × (distinct same_version ks ≡ true)
sets_parts ks h =
    let a = and_parts (leb 1 (length ks)) (leb (length ks) 4 && (all sound_key_set ks && distinct same_version ks)) h in
    let b = and_parts (leb (length ks) 4) (all sound_key_set ks && distinct same_version ks) a.1 in
    let d = and_parts (all sound_key_set ks) (distinct same_version ks) b.1 in
    (leb-true 1 (length ks) a.0, leb-true (length ks) 4 b.0, d.0, d.1)

sets_from : (ks : List KeySet) → 1 ≤ length ks → length ks ≤ 4 → all sound_key_set ks ≡ true → distinct same_version ks ≡ true → sound_sets ks ≡ true
sets_from ks some few p q =
    and_from (leb 1 (length ks)) (leb (length ks) 4 && (all sound_key_set ks && distinct same_version ks)) (le-leb 1 (length ks) some)
    (and_from (leb (length ks) 4) (all sound_key_set ks && distinct same_version ks) (le-leb (length ks) 4 few)
    (and_from (all sound_key_set ks) (distinct same_version ks) p q))

-- a set's three keys have sixteen bytes each
pub record Keys (k : KeySet) : Type 0 where
  pub enc : length k.keys.enc ≡ 16
  pub mac : length k.keys.mac ≡ 16
  pub kek : length k.keys.kek ≡ 16

set_sound : (k : KeySet) → Keys k → is_version k.version ≡ true → sound_key_set k ≡ true
set_sound k keys h =
    let a = and_parts (leb 1 k.version) (leb k.version 0x7F) h in
    let enc = eqb (length k.keys.enc) 16 in
    let mac = eqb (length k.keys.mac) 16 in
    let kek = eqb (length k.keys.kek) 16 in
    and_from (leb 1 k.version) (leb k.version 0x7F && (enc && (mac && kek))) a.0
    (and_from (leb k.version 0x7F) (enc && (mac && kek)) a.1
    (and_from enc (mac && kek) (eq-eqb _ 16 keys.enc) (and_from mac kek (eq-eqb _ 16 keys.mac) (eq-eqb _ 16 keys.kek))))

set_added : (ks : List KeySet) (k : KeySet) → Keys k → sound_sets ks ≡ true → admits_set k.version ks ≡ true → sound_sets (ks ++ k ∷ []) ≡ true
set_added ks k keys h admitted =
    let parts = sets_parts ks h in
    let a = and_parts (is_version k.version && not (any (has_version k.version) ks)) (ltb (length ks) 4) admitted in
    let b = and_parts (is_version k.version) (not (any (has_version k.version) ks)) a.0 in
    sets_from (ks ++ k ∷ [])
    (simp length_push (omega arith))
    (simp length_push (omega (arith, ltb-true (length ks) 4 a.1)))
    (all_push sound_key_set ks k parts.2 (set_sound k keys b.0))
    (distinct_push same_version ks k parts.3 (sym (no_version ks k) ∙ not-true _ b.1))

pub set_sound_after : (ks after : List KeySet) (k : KeySet) (r : Bool) → Keys k → sound_sets ks ≡ true → r ≡ admits_set k.version ks → after ≡ cond r (ks ++ k ∷ []) ks → sound_sets after ≡ true
set_sound_after ks after k false keys h taken is = rw is h
set_sound_after ks after k true keys h taken is = rw is (set_added ks k keys h (sym taken))

any_set : {X : Type 0} (p : X → Bool) (xs : List X) (i : ℕ) (v : X) → any p xs ≡ false → p v ≡ false → any p (set xs i v) ≡ false
any_set p [] i v h e = refl
any_set p (x ∷ xs) zero v h e = or_from (p v) (any p xs) e (or_parts (p x) (any p xs) h).1
any_set p (x ∷ xs) (suc i) v h e =
    let a = or_parts (p x) (any p xs) h in
    or_from (p x) (any p (set xs i v)) a.0 (any_set p xs i v a.1 e)

-- an element that is the same as none
distinct_set_new : {X : Type 0} (same : X → X → Bool) (xs : List X) (i : ℕ) (v : X) → distinct same xs ≡ true → any (same v) xs ≡ false → any (λ x. same x v) xs ≡ false → distinct same (set xs i v) ≡ true
distinct_set_new same [] i v h e f = refl
distinct_set_new same (x ∷ xs) zero v h e f =
    and_from (not (any (same v) xs)) (distinct same xs)
    (not_from_false _ (or_parts (same v x) (any (same v) xs) e).1)
    (and_parts (not (any (same x) xs)) (distinct same xs) h).1
distinct_set_new same (x ∷ xs) (suc i) v h e f =
    let a = and_parts (not (any (same x) xs)) (distinct same xs) h in
    let b = or_parts (same v x) (any (same v) xs) e in
    let d = or_parts (same x v) (any (λ y. same y v) xs) f in
    and_from (not (any (same x) (set xs i v))) (distinct same (set xs i v))
    (not_from_false _ (any_set (same x) xs i v (not-true _ a.0) d.0))
    (distinct_set_new same xs i v a.1 b.1 d.1)

versions_distinct : (ks : List KeySet) (i v : ℕ) (k : KeySet) (same : Bool) → distinct same_version ks ≡ true → (get_or ks i no_key_set).version ≡ v → eqb k.version v ≡ same → (not same && any (has_version k.version) ks) ≡ false → distinct same_version (set ks i k) ≡ true
versions_distinct ks i v k true h at is none =
    let e : k.version ≡ (get_or ks i no_key_set).version = eqb-true k.version v is ∙ sym at in
    distinct_set_like same_version ks i no_key_set k (ap (λ n. λ (j : KeySet). eqb j.version n) e) (λ j. ap (λ n. eqb n j.version) e) ∙ h
versions_distinct ks i v k false h at is none = distinct_set_new same_version ks i k h none (sym (no_version ks k) ∙ none)

replaced_at_sound : (ks : List KeySet) (v : ℕ) (k : KeySet) (at : Option ℕ) → Keys k → sound_sets ks ≡ true → first_of (has_version v) ks ≡ at → is_version k.version ≡ true → borne_by_other v k.version ks ≡ false → sound_sets (replaced_at at k ks) ≡ true
replaced_at_sound ks v k None keys h found fits other = h
replaced_at_sound ks v k (Some i) keys h found fits other =
    let parts = sets_parts ks h in
    let at : (get_or ks i no_key_set).version ≡ v = eqb-true _ v (position-Some (has_version v) ks i no_key_set found).1 in
    sets_from (set ks i k)
    (simp length-set parts.0)
    (simp length-set parts.1)
    (all_set sound_key_set ks i k parts.2 (set_sound k keys fits))
    (versions_distinct ks i v k (eqb k.version v) parts.3 at refl other)

set_replaced : (ks : List KeySet) (v : ℕ) (k : KeySet) → Keys k → sound_sets ks ≡ true → replaces_set v k.version ks ≡ true → sound_sets (replaced_named v k ks) ≡ true
set_replaced ks v k keys h may =
    let a = and_parts (is_version k.version) (not (borne_by_other v k.version ks) && is_some (first_of (has_version v) ks)) may in
    let b = and_parts (not (borne_by_other v k.version ks)) (is_some (first_of (has_version v) ks)) a.1 in
    replaced_at_sound ks v k (first_of (has_version v) ks) keys h refl a.0 (not-true _ b.0)

pub replaced_sound_after : (ks after : List KeySet) (v : ℕ) (k : KeySet) (r : Bool) → Keys k → sound_sets ks ≡ true → r ≡ replaces_set v k.version ks → after ≡ cond r (replaced_named v k ks) ks → sound_sets after ≡ true
replaced_sound_after ks after v k false keys h taken is = rw is h
replaced_sound_after ks after v k true keys h taken is = rw is (set_replaced ks v k keys h (sym taken))
