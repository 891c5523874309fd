-- The list of a counting source: how long it is, what comes next, and where it ends.
use Rattle.std.proofs.Common.{◌≡◌, ℕ, ◌+◌, ◌-◌, ◌%◌, ◌^◌, ◌<◌, ◌≤◌, List, [], ◌∷◌, length, get_or, sym, ap, ◌∙◌, arith, length-drop}
use Rattle.std.proofs.lemmas.List.FromFn.{length-map-range_with_len, get_or-map-range_with_len}
use Rattle.std.proofs.lemmas.List.{drop_all, drop_more}
use Rattle.bits.specs.Octets.{value, octets}
use Rattle.bits.proofs.Octets.{length_octets, octets_small, value_octets}
use Rattle.cipher.specs.Blocks.{Bytes, Direction}
use Rattle.counting.specs.Counted.{challenge_at, counted_from, counted_past, Distinct}

length_counted : (u : List ℕ → List ℕ) (s : ℕ) → length (counted_from u s) ≡ 65536
unfolding counted_from
length_counted u s = length-map-range_with_len (challenge_at u s) 0 65536

pub length_past : (u : List ℕ → List ℕ) (s n : ℕ) → length (counted_past u s n) ≡ 65536 - n
length_past u s n = length-drop n (counted_from u s) ∙ ap (λ l. l - n) (length_counted u s)

pub past_spent : (u : List ℕ → List ℕ) (s n : ℕ) → 65536 ≤ n → counted_past u s n ≡ []
past_spent u s n h = let l = length_counted u s in drop_all n (counted_from u s) (omega arith)

at_counted : (u : List ℕ → List ℕ) (s n : ℕ) → n < 65536 → get_or (counted_from u s) n [] ≡ challenge_at u s n
unfolding counted_from
at_counted u s n h = get_or-map-range_with_len (challenge_at u s) 0 65536 n n [] h (omega arith)

pub past_more : (u : List ℕ → List ℕ) (s n : ℕ) → n < 65536 → counted_past u s n ≡ challenge_at u s n ∷ counted_past u s (n + 1)
past_more u s n h =
    let l = length_counted u s in
    drop_more (counted_from u s) n [] (omega arith) ∙ ap (λ c. c ∷ counted_past u s (n + 1)) (at_counted u s n h)

bytes_octets : (x : ℕ) → Bytes 8 (octets 8 x)
bytes_octets x = record { long = length_octets 8 x; small = octets_small 8 x }

pub distinct : (enc dec : Direction) → ((k b : List ℕ) → Bytes 16 k → Bytes 8 b → dec k (enc k b) ≡ b) → Distinct enc
distinct enc dec undone key start i j h p q same =
    let x : ℕ = (start + i) % 2 ^ 64 in
    let y : ℕ = (start + j) % 2 ^ 64 in
    let blocks : octets 8 x ≡ octets 8 y =
    sym (undone key (octets 8 x) h (bytes_octets x)) ∙ ap (dec key) same ∙ undone key (octets 8 y) h (bytes_octets y)
    in
    let numbers : x % 2 ^ 64 ≡ y % 2 ^ 64 = sym (value_octets 8 x) ∙ ap value blocks ∙ value_octets 8 y in
    omega (arith, numbers)
