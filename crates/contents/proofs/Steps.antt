-- one record that is read: what has been read and what is left are still the same bytes, and what has been read stays sound
use Rattle.std.proofs.Common.{◌≡◌, ℕ, suc, ◌<◌, ◌≤◌, Bool, true, false, List, [], ◌∷◌, ◌++◌, length, drop, Some, None, Ok, Err, Option, Result, sym, refl, ap, ◌∙◌, arith}
use Rattle.std.specs.List.{flat_map}
use Rattle.std.proofs.lemmas.List.{append_assoc, append-nil, nil_from_length, flat_map_more, length-drop, length_push}
use Rattle.std.proofs.lemmas.Bool.{eqb-true}
use Rattle.std.proofs.lemmas.Bool.Decides.{nat_tests}
use Rattle.answers.specs.declared.Refusal.{Refusal}
use Rattle.contents.specs.declared.records.Entry.{Entry}
use Rattle.contents.specs.declared.records.KeySet.{KeySet}
use Rattle.contents.specs.declared.image.draft.Kind.{Kind}
use Rattle.contents.specs.declared.image.draft.Kind.TheVariants.{Keys, Registered, End}
use Rattle.contents.specs.Records.{name_of, bears, has_version}
use Rattle.contents.specs.Held.{Held, all, any, distinct, same_version, same_name, sound_key_set, sound_entry}
use Rattle.contents.specs.Image.{header_bytes, key_set_bytes, entry_bytes, key_set_in, entry_in, is_empty, next_kind, with_key_set, with_entry, Step, fault, last, next, read_fields, read_body, read_record, read_records}
use Rattle.contents.proofs.Bodies.{key_set_back, entry_back}
use Rattle.contents.proofs.Uniques.{all_push, distinct_push, no_version, no_name}

-- the bytes of all records but the last
abbrev pub front : Held → List ℕ
front h = header_bytes h.state h.diversification ++ (flat_map key_set_bytes h.sets ++ flat_map entry_bytes h.entries)

pub record SoFar (h : Held) : Type 0 where
  pub ten : length h.diversification ≡ 10
  pub few_sets : length h.sets ≤ 4
  pub sets : all sound_key_set h.sets ≡ true
  pub versions : distinct same_version h.sets ≡ true
  pub few_entries : length h.entries ≤ 12
  pub entries : all sound_entry h.entries ≡ true
  pub names : distinct same_name h.entries ≡ true

pub record Sound (h : Held) : Type 0 where
  pub so_far : SoFar h
  pub some : 0 < length h.sets

pub record Took (h : Held) (bytes : List ℕ) (more : Held) (rest : List ℕ) : Type 0 where
  pub same : front h ++ bytes ≡ front more ++ rest
  pub sound : SoFar h → SoFar more
  pub shorter : length rest < length bytes

value_next : {X : Type 0} (size : ℕ) (body : List ℕ) (o : Option X) (twice : X → Bool) (grown : X → Held) (h : Held) (rest : List ℕ) → read_fields size body (λ _. o) twice grown ≡ next h rest → (x : X) × (size ≤ length body) × (o ≡ Some x) × (twice x ≡ false) × (grown x ≡ h) × (drop size body ≡ rest)
value_next size body None twice grown h rest e = absurd (grind (arith, nat_tests))
value_next size body (Some x) twice grown h rest e =
    (x, grind (arith, nat_tests), refl, grind (arith, nat_tests), grind (arith, nat_tests), grind (arith, nat_tests))

fields_next : {X : Type 0} (size : ℕ) (body : List ℕ) (value : List ℕ → Option X) (twice : X → Bool) (grown : X → Held) (h : Held) (rest : List ℕ) → read_fields size body value twice grown ≡ next h rest → (x : X) × (size ≤ length body) × (value body ≡ Some x) × (twice x ≡ false) × (grown x ≡ h) × (drop size body ≡ rest)
fields_next size body value twice grown h rest e = value_next size body (value body) twice grown h rest e

empty_is : {X : Type 0} (xs : List X) → is_empty xs ≡ true → xs ≡ []
empty_is xs e = nil_from_length xs (eqb-true (length xs) 0 e)

keys_next : (b : ℕ) (h : Held) → next_kind b h ≡ Some Keys → (b ≡ 2) × (h.entries ≡ []) × (length h.sets < 4)
keys_next b h e = (grind (arith, nat_tests), empty_is h.entries (grind (arith, nat_tests)), grind (arith, nat_tests))

entry_next : (b : ℕ) (h : Held) → next_kind b h ≡ Some Registered → (b ≡ 3) × (length h.entries < 12)
entry_next b h e = (grind (arith, nat_tests), grind (arith, nat_tests))

end_next : (b : ℕ) (h : Held) → next_kind b h ≡ Some End → (b ≡ 0) × (0 < length h.sets)
end_next b h e = (grind (arith, nat_tests), grind (arith, nat_tests))

-- the bytes of a record more
front_key_set : (h : Held) (k : KeySet) → h.entries ≡ [] → front (with_key_set h k) ≡ front h ++ key_set_bytes k
front_key_set h k none =
    let head = header_bytes h.state h.diversification in
    let e : flat_map entry_bytes h.entries ≡ [] = ap (flat_map entry_bytes) none in
    let j = flat_map_more key_set_bytes head h.sets k in
    let x = append-nil (flat_map key_set_bytes h.sets) in
    let y = append-nil (flat_map key_set_bytes (h.sets ++ k ∷ [])) in
    cc

front_entry : (h : Held) (e : Entry) → front (with_entry h e) ≡ front h ++ entry_bytes e
front_entry h e =
    let head = header_bytes h.state h.diversification in
    let keys = flat_map key_set_bytes h.sets in
    let j = flat_map_more entry_bytes (head ++ keys) h.entries e in
    let x = append_assoc head keys (flat_map entry_bytes h.entries) in
    let y = append_assoc head keys (flat_map entry_bytes (h.entries ++ e ∷ [])) in
    cc

glued : (a b c bytes rest : List ℕ) → b ≡ a ++ c → c ++ rest ≡ bytes → a ++ bytes ≡ b ++ rest
glued a b c bytes rest e f = let x = append_assoc a c rest in cc

took_key_set : (h : Held) (body : List ℕ) (k : KeySet) → h.entries ≡ [] → length h.sets < 4 → 49 ≤ length body → key_set_in body ≡ Some k → any (has_version k.version) h.sets ≡ false → Took h (2 ∷ body) (with_key_set h k) (drop 49 body)
took_key_set h body k none few long value once =
    let b = key_set_back body k value long in
    record {
      same = glued (front h) (front (with_key_set h k)) (key_set_bytes k) (2 ∷ body) (drop 49 body) (front_key_set h k none) b.0;
      sound = λ s.
          record {
            ten = s.ten;
            few_sets = simp length_push (omega arith);
            sets = all_push sound_key_set h.sets k s.sets b.1;
            versions = distinct_push same_version h.sets k s.versions (sym (no_version h.sets k) ∙ once);
            few_entries = s.few_entries;
            entries = s.entries;
            names = s.names;
          };
      shorter = simp length-drop (omega arith);
    }

took_entry : (h : Held) (body : List ℕ) (e : Entry) → length h.entries < 12 → 20 ≤ length body → entry_in body ≡ Some e → any (bears (name_of e)) h.entries ≡ false → Took h (3 ∷ body) (with_entry h e) (drop 20 body)
took_entry h body e few long value once =
    let b = entry_back body e value long in
    record {
      same = glued (front h) (front (with_entry h e)) (entry_bytes e) (3 ∷ body) (drop 20 body) (front_entry h e) b.0;
      sound = λ s.
          record {
            ten = s.ten;
            few_sets = s.few_sets;
            sets = s.sets;
            versions = s.versions;
            few_entries = simp length_push (omega arith);
            entries = all_push sound_entry h.entries e s.entries b.1;
            names = distinct_push same_name h.entries e s.names (sym (no_name h.entries e) ∙ once);
          };
      shorter = simp length-drop (omega arith);
    }

took_as : {h : Held} {a b : ℕ} {body : List ℕ} {m n : Held} {r s : List ℕ} → Took h (a ∷ body) m r → a ≡ b → m ≡ n → r ≡ s → Took h (b ∷ body) n s
took_as t e f g = rw (sym e, sym f, sym g) t

took_body : (b : ℕ) (h : Held) (body : List ℕ) (more : Held) (rest : List ℕ) (kind : Option Kind) → next_kind b h ≡ kind → read_body kind h body ≡ next more rest → Took h (b ∷ body) more rest
took_body b h body more rest None k e = absurd (grind arith)
took_body b h body more rest (Some Keys) k e =
    let n = keys_next b h k in
    let f = fields_next 49 body key_set_in (λ s. any (has_version s.version) h.sets) (with_key_set h) more rest e in
    took_as (took_key_set h body f.0 n.1 n.2 f.1 f.2 f.3) (sym n.0) f.4 f.5
took_body b h body more rest (Some Registered) k e =
    let n = entry_next b h k in
    let f = fields_next 20 body entry_in (λ s. any (bears (name_of s)) h.entries) (with_entry h) more rest e in
    took_as (took_entry h body f.0 n.1 f.1 f.2 f.3) (sym n.0) f.4 f.5
took_body b h body more rest (Some End) k e = absurd (grind arith)

pub took : (h : Held) (bytes : List ℕ) (more : Held) (rest : List ℕ) → read_record h bytes ≡ next more rest → Took h bytes more rest
took h [] more rest e = absurd (grind arith)
took h (b ∷ body) more rest e = took_body b h body more rest (next_kind b h) refl e

fields_not_last : {X : Type 0} (size : ℕ) (body : List ℕ) (o : Option X) (twice : X → Bool) (grown : X → Held) → read_fields size body (λ _. o) twice grown ≡ last → ⊥
fields_not_last size body None twice grown e = grind (arith, nat_tests)
fields_not_last size body (Some x) twice grown e = grind (arith, nat_tests)

ended_body : (b : ℕ) (h : Held) (body : List ℕ) (kind : Option Kind) → next_kind b h ≡ kind → read_body kind h body ≡ last → (b ∷ body ≡ 0 ∷ []) × (0 < length h.sets)
ended_body b h body None k e = absurd (grind arith)
ended_body b h body (Some Keys) k e = absurd (fields_not_last 49 body (key_set_in body) _ _ e)
ended_body b h body (Some Registered) k e = absurd (fields_not_last 20 body (entry_in body) _ _ e)
ended_body b h body (Some End) k e =
    let n = end_next b h k in
    let m = empty_is body (grind arith) in
    (cc, n.1)

-- the last record is a byte with nothing behind it
pub ended : (h : Held) (bytes : List ℕ) → read_record h bytes ≡ last → (bytes ≡ 0 ∷ []) × (0 < length h.sets)
ended h [] e = absurd (grind arith)
ended h (b ∷ body) e = ended_body b h body (next_kind b h) refl e

-- one step of the reading, at any number of records but none
pub step_on : (n : ℕ) (h : Held) (bytes : List ℕ) (s : Step) → read_record h bytes ≡ s → read_records (suc n) h bytes ≡ elim s as (λ _. Result Held Refusal) [ fault f ↦ Err f | last ↦ Ok h | next more rest ↦ read_records n more rest ]
unfolding read_records
step_on n h bytes s e =
    ap (λ (t : Step). elim t as (λ _. Result Held Refusal) [ fault f ↦ Err f | last ↦ Ok h | next more rest ↦ read_records n more rest ]) e
