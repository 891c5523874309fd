-- a body that is read is written back as it was, and a body that is written is read back as what it was written of
use Rattle.std.proofs.Common.{◌≡◌, ℕ, ◌+◌, ◌≤◌, Bool, true, List, [], ◌∷◌, ◌++◌, length, get_or, take, drop, Some, None, Option, sym, refl, ap, ◌∙◌, arith}
use Rattle.std.proofs.lemmas.List.{append_assoc, drop_more, take-append-drop, take_at, drop_at, get_or_at, drop-drop, length-append}
use Rattle.std.proofs.lemmas.Bool.Decides.{nat_tests}
use Rattle.contents.specs.declared.life.EntryKind.{EntryKind}
use Rattle.contents.specs.declared.life.EntryState.{EntryState}
use Rattle.contents.specs.declared.records.Entry.{Entry}
use Rattle.contents.specs.declared.records.KeySet.{KeySet}
use Rattle.contents.specs.Life.{kind_value, entry_kind, entry_state_value, entry_state}
use Rattle.contents.specs.Held.{state_fits, sound_key_set, sound_entry}
use Rattle.contents.specs.Image.{allowed, and_then, key_set_of, key_set_in, entry_of, entry_in, key_set_bytes, entry_bytes}
use Rattle.contents.proofs.Values.{kind_back, kind_named, entry_state_back, entry_state_named}

pub allowed_some : {X : Type 0} (p : X → Bool) (x y : X) → allowed p x ≡ Some y → (p y ≡ true) × (x ≡ y)
allowed_some p x y e = grind arith

pub allowed_is : {X : Type 0} (p : X → Bool) (x y : X) → x ≡ y → p y ≡ true → allowed p x ≡ Some y
allowed_is p x y e h = grind arith

pub cut : (n m : ℕ) (xs : List ℕ) → take m (drop n xs) ++ drop (n + m) xs ≡ drop n xs
cut n m xs = ap (λ r. take m (drop n xs) ++ r) (sym (drop-drop m n xs)) ∙ take-append-drop m (drop n xs)

then_some : {X Y : Type 0} (o : Option X) (f : X → Option Y) (y : Y) → and_then o f ≡ Some y → (x : X) × (o ≡ Some x) × (f x ≡ Some y)
then_some None f y e = grind arith
then_some (Some x) f y e = (x, refl, e)

then_is : {X Y : Type 0} (o : Option X) (f : X → Option Y) (x : X) (y : Y) → o ≡ Some x → f x ≡ Some y → and_then o f ≡ Some y
then_is o f x y e h = ap (λ p. and_then p f) e ∙ h

-- the fields of a body, one behind the other
key_set_cut : (b : List ℕ) → 49 ≤ length b → get_or b 0 0 ∷ ((take 16 (drop 1 b) ++ (take 16 (drop 17 b) ++ take 16 (drop 33 b))) ++ drop 49 b) ≡ b
key_set_cut b h =
    let v : b ≡ get_or b 0 0 ∷ drop 1 b = drop_more b 0 0 (omega arith) in
    let p = cut 1 16 b in
    let q = cut 17 16 b in
    let r = cut 33 16 b in
    let x = append_assoc (take 16 (drop 1 b)) (take 16 (drop 17 b) ++ take 16 (drop 33 b)) (drop 49 b) in
    let y = append_assoc (take 16 (drop 17 b)) (take 16 (drop 33 b)) (drop 49 b) in
    cc

entry_cut : (b : List ℕ) → 20 ≤ length b → get_or b 0 0 ∷ get_or b 1 0 ∷ ((take 16 (drop 2 b) ++ (get_or b 18 0 ∷ get_or b 19 0 ∷ [])) ++ drop 20 b) ≡ b
entry_cut b h =
    let v : b ≡ get_or b 0 0 ∷ drop 1 b = drop_more b 0 0 (omega arith) in
    let w : drop 1 b ≡ get_or b 1 0 ∷ drop 2 b = drop_more b 1 0 (omega arith) in
    let p : drop 18 b ≡ get_or b 18 0 ∷ drop 19 b = drop_more b 18 0 (omega arith) in
    let q : drop 19 b ≡ get_or b 19 0 ∷ drop 20 b = drop_more b 19 0 (omega arith) in
    let r = cut 2 16 b in
    let x = append_assoc (take 16 (drop 2 b)) (get_or b 18 0 ∷ get_or b 19 0 ∷ []) (drop 20 b) in
    cc

-- a key set that is read is written back
pub key_set_back : (b : List ℕ) (k : KeySet) → key_set_in b ≡ Some k → 49 ≤ length b → (key_set_bytes k ++ drop 49 b ≡ 0x02 ∷ b) × (sound_key_set k ≡ true)
key_set_back b k e h =
    let a = allowed_some sound_key_set (key_set_of b) k e in
    let c = key_set_cut b h in
    let w : key_set_bytes k ≡ 0x02 ∷ get_or b 0 0 ∷ (take 16 (drop 1 b) ++ (take 16 (drop 17 b) ++ take 16 (drop 33 b))) = ap key_set_bytes (sym a.1) in
    (ap (λ r. r ++ drop 49 b) w ∙ ap (λ r. 0x02 ∷ r) c, a.0)

-- three fields of sixteen bytes, found again at their places
three_fields : (a b c rest : List ℕ) → length a ≡ 16 → length b ≡ 16 → length c ≡ 16 → (take 16 ((a ++ (b ++ c)) ++ rest) ≡ a) × (take 16 (drop 16 ((a ++ (b ++ c)) ++ rest)) ≡ b) × (take 16 (drop 32 ((a ++ (b ++ c)) ++ rest)) ≡ c)
three_fields a b c rest la lb lc =
    let x : (a ++ (b ++ c)) ++ rest ≡ a ++ (b ++ (c ++ rest)) = simp append_assoc in
    let p = drop_at a (b ++ (c ++ rest)) 16 la in
    let q = drop_at b (c ++ rest) 16 lb in
    let r : drop 32 (a ++ (b ++ (c ++ rest))) ≡ c ++ rest = sym (drop-drop 16 16 (a ++ (b ++ (c ++ rest)))) ∙ ap (drop 16) p ∙ q in
    (rw x (take_at a _ 16 la), rw (x, p) (take_at b _ 16 lb), rw (x, r) (take_at c _ 16 lc))

pub key_lengths : (k : KeySet) → sound_key_set k ≡ true → (length k.keys.enc ≡ 16) × (length k.keys.mac ≡ 16) × (length k.keys.kek ≡ 16)
key_lengths k h = (grind (arith, nat_tests), grind (arith, nat_tests), grind (arith, nat_tests))

-- a key set that is written is read back
pub key_set_read : (k : KeySet) (rest : List ℕ) → sound_key_set k ≡ true → key_set_in (k.version ∷ ((k.keys.enc ++ (k.keys.mac ++ k.keys.kek)) ++ rest)) ≡ Some k
key_set_read k rest h =
    let n = key_lengths k h in
    let f = three_fields k.keys.enc k.keys.mac k.keys.kek rest n.0 n.1 n.2 in
    let w : key_set_of (k.version ∷ ((k.keys.enc ++ (k.keys.mac ++ k.keys.kek)) ++ rest)) ≡ record { version = k.version; keys = record { enc = k.keys.enc; mac = k.keys.mac; kek = k.keys.kek } } = cc in
    allowed_is sound_key_set _ k w h

-- what an entry that is read was read from
entry_from : (b : List ℕ) (e : Entry) → entry_in b ≡ Some e → (entry_kind (get_or b 0 0) ≡ Some e.kind) × (entry_state e.kind (get_or b 18 0) ≡ Some e.state) × (entry_of e.kind e.state b ≡ e) × (sound_entry e ≡ true)
entry_from b e is =
    let k = then_some (entry_kind (get_or b 0 0)) _ e is in
    let s = then_some (entry_state k.0 (get_or b 18 0)) _ e k.2 in
    let a = allowed_some sound_entry (entry_of k.0 s.0 b) e s.2 in
    let x : k.0 ≡ e.kind = ap (λ f. f.kind) a.1 in
    let y : s.0 ≡ e.state = ap (λ f. f.state) a.1 in
    (k.1 ∙ ap Some x, cc, cc, a.0)

-- an entry that is read is written back
pub entry_back : (b : List ℕ) (e : Entry) → entry_in b ≡ Some e → 20 ≤ length b → (entry_bytes e ++ drop 20 b ≡ 0x03 ∷ b) × (sound_entry e ≡ true)
entry_back b e is h =
    let f = entry_from b e is in
    let k = kind_back (get_or b 0 0) e.kind f.0 in
    let s = entry_state_back e.kind (get_or b 18 0) e.state f.1 in
    let c = entry_cut b h in
    let w : entry_bytes e ≡ 0x03 ∷ kind_value e.kind ∷ get_or b 1 0 ∷ (take 16 (drop 2 b) ++ (entry_state_value e.state ∷ get_or b 19 0 ∷ [])) = ap entry_bytes (sym f.2) in
    (cc, f.3)

-- the fields of a name and the two bytes behind it, found again at their places
name_fields : (a rest : List ℕ) (s p : ℕ) → length a ≡ 16 → (take 16 ((a ++ (s ∷ p ∷ [])) ++ rest) ≡ a) × (get_or ((a ++ (s ∷ p ∷ [])) ++ rest) 16 0 ≡ s) × (get_or ((a ++ (s ∷ p ∷ [])) ++ rest) 17 0 ≡ p)
name_fields a rest s p la =
    let x : (a ++ (s ∷ p ∷ [])) ++ rest ≡ a ++ (s ∷ p ∷ rest) = simp append_assoc in
    let y : (a ++ (s ∷ p ∷ [])) ++ rest ≡ (a ++ s ∷ []) ++ (p ∷ rest) = simp append_assoc in
    (rw x (take_at a _ 16 la), rw x (get_or_at a s (p ∷ rest) 0 16 la), rw y (get_or_at (a ++ s ∷ []) p rest 0 17 (simp length-append (omega arith))))

pub aid_length : (e : Entry) → sound_entry e ≡ true → length e.aid.bytes ≡ 16
aid_length e h = grind (arith, nat_tests)

state_fits_sound : (e : Entry) → sound_entry e ≡ true → state_fits e.kind e.state ≡ true
state_fits_sound e h = grind (arith, nat_tests)

abbrev entry_body : Entry → List ℕ → List ℕ
entry_body e rest = kind_value e.kind ∷ e.aid.len ∷ ((e.aid.bytes ++ (entry_state_value e.state ∷ e.privileges ∷ [])) ++ rest)

entry_of_is : (b : List ℕ) (kind : EntryKind) (state : EntryState) (e : Entry) → entry_kind (get_or b 0 0) ≡ Some kind → entry_state kind (get_or b 18 0) ≡ Some state → allowed sound_entry (entry_of kind state b) ≡ Some e → entry_in b ≡ Some e
entry_of_is b kind state e k s a = then_is _ _ kind e k (then_is _ _ state e s a)

-- an entry that is written is read back
pub entry_read : (e : Entry) (rest : List ℕ) → sound_entry e ≡ true → entry_in (kind_value e.kind ∷ e.aid.len ∷ ((e.aid.bytes ++ (entry_state_value e.state ∷ e.privileges ∷ [])) ++ rest)) ≡ Some e
entry_read e rest h =
    let f = name_fields e.aid.bytes rest (entry_state_value e.state) e.privileges (aid_length e h) in
    let s : entry_state e.kind (get_or (entry_body e rest) 18 0) ≡ Some e.state = ap (entry_state e.kind) f.1 ∙ entry_state_named e.kind e.state (state_fits_sound e h) in
    let w : entry_of e.kind e.state (entry_body e rest) ≡ record { kind = e.kind; aid = record { bytes = e.aid.bytes; len = e.aid.len }; state = e.state; privileges = e.privileges } = cc in
    entry_of_is (entry_body e rest) e.kind e.state e (kind_named e.kind) s (allowed_is sound_entry _ e w h)
