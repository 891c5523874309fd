-- the records of an image, each read back as what it was written of
use Rattle.std.proofs.Common.{◌≡◌, ℕ, suc, ◌+◌, ◌-◌, ◌*◌, ◌<◌, ◌≤◌, Bool, true, false, cond, ltb, List, [], ◌∷◌, ◌++◌, length, take, drop, Some, None, Ok, Err, Option, Result, refl, ap, ◌∙◌, mul-suc, arith}
use Rattle.std.specs.List.{flat_map}
use Rattle.std.proofs.lemmas.List.{append_assoc, append-nil, length-append, drop_at, take_at}
use Rattle.std.proofs.lemmas.Bool.{and_parts, le-ltb, cond-false}
use Rattle.std.proofs.lemmas.Bool.Decides.{nat_tests}
use Rattle.answers.specs.declared.Refusal.{Refusal}
use Rattle.answers.specs.declared.Refusal.TheVariants.{ImageEndsEarly}
use Rattle.contents.specs.declared.life.CardState.{CardState}
use Rattle.contents.specs.declared.records.Entry.{Entry}
use Rattle.contents.specs.declared.records.KeySet.{KeySet}
use Rattle.contents.specs.declared.image.draft.Kind.TheVariants.{Keys, Registered}
use Rattle.contents.specs.Life.{card_state_value, card_state, kind_value, entry_state_value}
use Rattle.contents.specs.Records.{name_of, bears, has_version}
use Rattle.contents.specs.Held.{Held, all, any, same_version, same_name, sound_key_set, sound_entry, sound}
use Rattle.contents.specs.Image.{header_bytes, key_set_bytes, entry_bytes, image_bytes, key_set_in, entry_in, next_kind, with_key_set, with_entry, last, next, read_fields, read_body, read_record, read_records, read_rest, headed, read_header, read_image}
use Rattle.contents.proofs.Values.{card_state_named}
use Rattle.contents.proofs.Bodies.{key_lengths, aid_length, key_set_read, entry_read}
use Rattle.contents.proofs.Uniques.{all_at, distinct_at, no_version, no_name}
use Rattle.contents.proofs.Steps.{Sound, step_on}

value_grows : {X : Type 0} (size : ℕ) (body : List ℕ) (o : Option X) (twice : X → Bool) (grown : X → Held) (x : X) (rest : List ℕ) → size ≤ length body → o ≡ Some x → twice x ≡ false → drop size body ≡ rest → read_fields size body (λ _. o) twice grown ≡ next (grown x) rest
value_grows size body None twice grown x rest long is once left = absurd (grind arith)
value_grows size body (Some y) twice grown x rest long is once left = grind (arith, nat_tests)

pub fields_grow : {X : Type 0} (size : ℕ) (body : List ℕ) (value : List ℕ → Option X) (twice : X → Bool) (grown : X → Held) (x : X) (rest : List ℕ) → size ≤ length body → value body ≡ Some x → twice x ≡ false → drop size body ≡ rest → read_fields size body value twice grown ≡ next (grown x) rest
fields_grow size body value twice grown x rest long is once left =
    value_grows size body (value body) twice grown x rest long is once left

-- records of one kind, read one after another
all_read : {X : Type 0} (bytes_of : X → List ℕ) (holding : List X → Held) (whole : List X) → ((done more : List X) (x : X) (rest : List ℕ) → done ++ x ∷ more ≡ whole → read_record (holding done) (bytes_of x ++ rest) ≡ next (holding (done ++ x ∷ [])) rest) → (done todo : List X) (rest : List ℕ) (n m : ℕ) → done ++ todo ≡ whole → n ≡ m + length todo → read_records n (holding done) (flat_map bytes_of todo ++ rest) ≡ read_records m (holding whole) rest
all_read bytes_of holding whole each done [] rest n m e l =
    let d = append-nil done in
    let k : n ≡ m = omega arith in
    cc
all_read bytes_of holding whole each done (x ∷ todo) rest n m e l =
    let k : n ≡ suc (m + length todo) = omega arith in
    let a = append_assoc (bytes_of x) (flat_map bytes_of todo) rest in
    let s = each done todo x (flat_map bytes_of todo ++ rest) e in
    let r = step_on (m + length todo) (holding done) (bytes_of x ++ (flat_map bytes_of todo ++ rest)) (next (holding (done ++ x ∷ [])) (flat_map bytes_of todo ++ rest)) s in
    let i = all_read bytes_of holding whole each (done ++ x ∷ []) todo rest (m + length todo) m (append_assoc done (x ∷ []) todo ∙ e) refl in
    ap (λ t. read_records t (holding done) (flat_map bytes_of (x ∷ todo) ++ rest)) k ∙ ap (read_records (suc (m + length todo)) (holding done)) a ∙ r ∙ i

before_less : {X : Type 0} (done more whole : List X) (x : X) → done ++ x ∷ more ≡ whole → length done < length whole
before_less done more whole x e = omega (arith, simp length-append at (ap length e))

keys_may : (h : Held) → h.entries ≡ [] → length h.sets < 4 → next_kind 2 h ≡ Some Keys
keys_may h none few = grind (arith, nat_tests)

entry_may : (h : Held) → 0 < length h.sets → length h.entries < 12 → next_kind 3 h ≡ Some Registered
entry_may h some few = grind (arith, nat_tests)

end_may : (h : Held) → 0 < length h.sets → read_record h (0 ∷ []) ≡ last
end_may h some = grind (arith, nat_tests)

key_set_long : (k : KeySet) → sound_key_set k ≡ true → length (key_set_bytes k) ≡ 50
key_set_long k h = let n = key_lengths k h in simp length-append (omega arith)

entry_long : (e : Entry) → sound_entry e ≡ true → length (entry_bytes e) ≡ 21
entry_long e h = let n = aid_length e h in simp length-append (omega arith)

-- a record of a key set, where no earlier one has its version
key_set_step : (h : Held) (k : KeySet) (rest : List ℕ) → h.entries ≡ [] → length h.sets < 4 → sound_key_set k ≡ true → any (λ j. same_version j k) h.sets ≡ false → read_record h (key_set_bytes k ++ rest) ≡ next (with_key_set h k) rest
key_set_step h k rest none few good once =
    let body = k.version ∷ ((k.keys.enc ++ (k.keys.mac ++ k.keys.kek)) ++ rest) in
    let long : length body ≡ 49 + length rest = omega (arith, key_set_long k good, length-append (key_set_bytes k) rest) in
    let left : drop 49 body ≡ rest = drop_at (key_set_bytes k) rest 50 (key_set_long k good) in
    ap (λ o. read_body o h body) (keys_may h none few)
    ∙ fields_grow 49 body key_set_in (λ s. any (has_version s.version) h.sets) (with_key_set h) k rest (omega arith) (key_set_read k rest good) (no_version h.sets k ∙ once) left

entry_step : (h : Held) (e : Entry) (rest : List ℕ) → 0 < length h.sets → length h.entries < 12 → sound_entry e ≡ true → any (λ f. same_name f e) h.entries ≡ false → read_record h (entry_bytes e ++ rest) ≡ next (with_entry h e) rest
entry_step h e rest some few good once =
    let body = kind_value e.kind ∷ e.aid.len ∷ ((e.aid.bytes ++ (entry_state_value e.state ∷ e.privileges ∷ [])) ++ rest) in
    let long : length body ≡ 20 + length rest = omega (arith, entry_long e good, length-append (entry_bytes e) rest) in
    let left : drop 20 body ≡ rest = drop_at (entry_bytes e) rest 21 (entry_long e good) in
    ap (λ o. read_body o h body) (entry_may h some few)
    ∙ fields_grow 20 body entry_in (λ s. any (bears (name_of s)) h.entries) (with_entry h) e rest (omega arith) (entry_read e rest good) (no_name h.entries e ∙ once) left

abbrev with_sets : Held → List KeySet → Held
with_sets h ks = record { state = h.state; diversification = h.diversification; sets = ks; entries = [] }

abbrev with_entries : Held → List Entry → Held
with_entries h es = record { state = h.state; diversification = h.diversification; sets = h.sets; entries = es }

pub sound_parts : (h : Held) → sound h ≡ true → Sound h
sound_parts h s =
    record {
      so_far =
          record {
            ten = grind (arith, nat_tests);
            few_sets = grind (arith, nat_tests);
            sets = grind (arith, nat_tests);
            versions = grind (arith, nat_tests);
            few_entries = grind (arith, nat_tests);
            entries = grind (arith, nat_tests);
            names = grind (arith, nat_tests);
          };
      some = grind (arith, nat_tests);
    }

sets_read : (h : Held) (rest : List ℕ) (n m : ℕ) → Sound h → n ≡ m + length h.sets → read_records n (with_sets h []) (flat_map key_set_bytes h.sets ++ rest) ≡ read_records m (with_sets h h.sets) rest
sets_read h rest n m s l =
    all_read key_set_bytes (with_sets h) h.sets
    (λ done more k left e.
    let lt = before_less done more h.sets k e in
    key_set_step (with_sets h done) k left refl (omega (arith, s.so_far.few_sets))
    (all_at sound_key_set done more k (rw e s.so_far.sets))
    (distinct_at same_version done more k (rw e s.so_far.versions)))
    [] h.sets rest n m refl l

entries_read : (h : Held) (rest : List ℕ) (n m : ℕ) → Sound h → n ≡ m + length h.entries → read_records n (with_entries h []) (flat_map entry_bytes h.entries ++ rest) ≡ read_records m (with_entries h h.entries) rest
entries_read h rest n m s l =
    all_read entry_bytes (with_entries h) h.entries
    (λ done more k left e.
    let lt = before_less done more h.entries k e in
    entry_step (with_entries h done) k left s.some (omega (arith, s.so_far.few_entries))
    (all_at sound_entry done more k (rw e s.so_far.entries))
    (distinct_at same_name done more k (rw e s.so_far.names)))
    [] h.entries rest n m refl l

joined_long : {X : Type 0} (bytes_of : X → List ℕ) (p : X → Bool) (size : ℕ) → ((x : X) → p x ≡ true → length (bytes_of x) ≡ size) → (xs : List X) → all p xs ≡ true → length (flat_map bytes_of xs) ≡ size * length xs
joined_long bytes_of p size each [] h = omega arith
joined_long bytes_of p size each (x ∷ xs) h =
    let a = and_parts (p x) (all p xs) h in
    let i = joined_long bytes_of p size each xs a.1 in
    let f = each x a.0 in
    omega (arith, length-append (bytes_of x) (flat_map bytes_of xs), mul-suc size (length xs))

-- the length of an image: 12 bytes, 50 for each key set, 21 for each entry, and one
pub sets_long : (h : Held) → Sound h → length (flat_map key_set_bytes h.sets) ≡ 50 * length h.sets
sets_long h s = joined_long key_set_bytes sound_key_set 50 key_set_long h.sets s.so_far.sets

pub entries_long : (h : Held) → Sound h → length (flat_map entry_bytes h.entries) ≡ 21 * length h.entries
entries_long h s = joined_long entry_bytes sound_entry 21 entry_long h.entries s.so_far.entries

rest_long : (h : Held) → Sound h → length (flat_map key_set_bytes h.sets ++ (flat_map entry_bytes h.entries ++ 0 ∷ [])) ≡ 1 + 50 * length h.sets + 21 * length h.entries
rest_long h s =
    let k = sets_long h s in
    let e = entries_long h s in
    simp length-append (omega arith)

headed_back : (body : List ℕ) (o : Option CardState) (state : CardState) (d : List ℕ) → 11 ≤ length body → o ≡ Some state → take 10 (drop 1 body) ≡ d → cond (ltb (length body) 11) (Err ImageEndsEarly) (headed o (take 10 (drop 1 body))) ≡ Ok (record { state = state; diversification = d; sets = []; entries = [] })
headed_back body o state d long e f = rw (e, f) (cond-false (ltb (length body) 11) _ _ (le-ltb _ 11 long))

header_back : (h : Held) (rest : List ℕ) → length h.diversification ≡ 10 → read_header (header_bytes h.state h.diversification ++ rest) ≡ Ok (with_sets h [])
header_back h rest ten =
    headed_back (card_state_value h.state ∷ (h.diversification ++ rest)) (card_state (card_state_value h.state)) h.state h.diversification (simp length-append (omega arith)) (card_state_named h.state) (take_at h.diversification rest 10 ten)

-- what a card holds is read back from its image
pub image_reads_back : (h : Held) → sound h ≡ true → read_image (image_bytes h) ≡ Ok h
unfolding read_image read_rest image_bytes
image_reads_back h good =
    let s = sound_parts h good in
    let ends : List ℕ = flat_map entry_bytes h.entries ++ 0 ∷ [] in
    let rest : List ℕ = flat_map key_set_bytes h.sets ++ ends in
    let n : ℕ = length rest in
    let m : ℕ = n - length h.sets in
    let k : ℕ = m - length h.entries - 1 in
    let long : n ≡ 1 + 50 * length h.sets + 21 * length h.entries = rest_long h s in
    let left : drop 12 (image_bytes h) ≡ rest = drop_at (header_bytes h.state h.diversification) rest 12 (omega (arith, s.so_far.ten)) in
    ap (λ (r : Result Held Refusal). elim r as (λ _. Result Held Refusal) [ Err f ↦ Err f | Ok g ↦ read_rest g (drop 12 (image_bytes h)) ]) (header_back h rest s.so_far.ten)
    ∙ ap (read_rest (with_sets h [])) left
    ∙ sets_read h ends n m s (omega arith)
    ∙ entries_read h (0 ∷ []) m (suc k) s (omega arith)
    ∙ step_on k h (0 ∷ []) last (end_may h s.some)
