-- an image is written one part behind another, and has the room for each
use Rattle.std.proofs.Common.{◌≡◌, ℕ, ◌+◌, ◌<◌, ◌≤◌, true, List, [], ◌∷◌, ◌++◌, length, get_or, drop, sym, ap, ◌∙◌, arith}
use Rattle.std.specs.List.{flat_map}
use Rattle.std.proofs.lemmas.List.{append_assoc, drop_more, length-append}
use Rattle.contents.specs.Life.{card_state_value}
use Rattle.contents.specs.Held.{Held, sound}
use Rattle.contents.specs.Image.{key_set_bytes, entry_bytes, image_bytes}
use Rattle.contents.proofs.ReadsBack.{sound_parts, sets_long, entries_long}

-- the bytes of the records from a place on
rest_joined : {X : Type 0} (f : X → List ℕ) (xs : List X) (i : ℕ) (x : X) → x ≡ get_or xs i x → i < length xs → flat_map f (drop i xs) ≡ f x ++ flat_map f (drop (i + 1) xs)
rest_joined f xs i x is lt =
    ap (flat_map f) (drop_more xs i x lt) ∙ ap (λ y. f y ++ flat_map f (drop (i + 1) xs)) (sym is)

-- so far an image is what was written, and with the records that are left it becomes the whole
abbrev pub Written : {X : Type 0} → (X → List ℕ) → List X → ℕ → List ℕ → List ℕ → Type 0
Written f xs i start image = image ++ flat_map f (drop i xs) ≡ start ++ flat_map f xs

pub room_left : {X : Type 0} (f : X → List ℕ) (xs : List X) (i : ℕ) (x : X) (start image : List ℕ) (n : ℕ) → Written f xs i start image → x ≡ get_or xs i x → i < length xs → length start + length (flat_map f xs) ≤ n → length image + length (f x) ≤ n
room_left f xs i x start image n w is lt room =
    let e = ap length w in
    let r = ap length (rest_joined f xs i x is lt) in
    omega (arith, simp length-append at e, simp length-append at r)

-- the lengths of an image's parts
pub record Room (h : Held) : Type 0 where
  pub ten : length h.diversification ≡ 10
  pub keys_long : length (flat_map key_set_bytes h.sets) ≤ 200
  pub entries_long : length (flat_map entry_bytes h.entries) ≤ 252

pub room : (h : Held) → sound h ≡ true → Room h
room h good =
    let s = sound_parts h good in
    record {
      ten = s.so_far.ten;
      keys_long = omega (arith, sets_long h s, s.so_far.few_sets);
      entries_long = omega (arith, entries_long h s, s.so_far.few_entries);
    }

in_order : (a b c d : List ℕ) → ((a ++ b) ++ c) ++ d ≡ a ++ (b ++ (c ++ d))
in_order a b c d = simp append_assoc

pub image_in_order : (h : Held) (v : ℕ) → v ≡ card_state_value h.state → ((((1 ∷ v ∷ []) ++ h.diversification) ++ flat_map key_set_bytes h.sets) ++ flat_map entry_bytes h.entries) ++ (0 ∷ []) ≡ image_bytes h
unfolding image_bytes
image_in_order h v is = rw is (in_order (1 ∷ card_state_value h.state ∷ h.diversification) (flat_map key_set_bytes h.sets) (flat_map entry_bytes h.entries) (0 ∷ []))
