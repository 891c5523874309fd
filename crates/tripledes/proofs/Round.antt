-- The cipher function by a table: P goes through the exclusive or of what the selection functions give.
use Rattle.std.proofs.Common.{◌≡◌, ℕ, zero, suc, ◌+◌, ◌-◌, ◌*◌, ◌/◌, ◌%◌, ◌^◌, ◌<◌, ◌≤◌, Bool, true, T, ltb, List, [], ◌∷◌, length, get_or, sym, ap, ◌∙◌, subst, ap₂, lt_of_lt_of_le, zero-lt-suc, arith, ltb→lt, pow_mono, pow-add}
use lib.Bits.{bit_and, bit_or, bit_xor, and_shifted, or_disjoint, xor_disjoint, xor_shifted, xor_mod, xor_shr, xor_zero_r, xor_assoc}
use Rattle.std.proofs.lemmas.Nat.{mul-add-lt, shl_below}
use Rattle.bits.specs.Permute.{permute}
use Rattle.bits.proofs.Linear.{Lin, both, both_left, both_right, agree, basis, lin_of, lin_xor, lin_shr, lin_shl, lin_mod, lin_zero, lin_permute, and_permute}
use Rattle.tripledes.specs.Des.{box, selected, f}
use Rattle.tripledes.specs.Round.{boxed, odds, evens, PLACES, held}
use Rattle.tripledes.specs.Tables.{P, E, BOXES, S1, S2, S3, S4, S5, S6, S7, S8}

-- ---- each selection function gives four bits

abbrev pub small : List ℕ → Bool
small [] = true
small (x ∷ xs) = both (ltb x 16) (small xs)

small_at : (b : List ℕ) → T (small b) → (i : ℕ) → get_or b i 0 < 16
small_at [] t i = zero-lt-suc 15
small_at (x ∷ xs) t zero = ltb→lt x 16 (both_left (ltb x 16) (small xs) t)
small_at (x ∷ xs) t (suc i) = small_at xs (both_right (ltb x 16) (small xs) t) i

abbrev pub smalls : List (List ℕ) → Bool
smalls [] = true
smalls (b ∷ bs) = both (small b) (smalls bs)

box_lt : (b : List ℕ) → T (small b) → (g : ℕ) → box b g < 16
unfolding box
box_lt b t g = small_at b t ((g / 32 * 2 + g % 2) * 16 + g / 2 % 16)

selected_lt : (bs : List (List ℕ)) → T (smalls bs) → (x : ℕ) → selected bs x < 2 ^ (4 * length bs)
unfolding selected
selected_lt [] t x = zero-lt-suc 0
selected_lt (b ∷ bs) t x =
    let e : 4 * length bs + 4 ≡ 4 * suc (length bs) = omega arith in
    subst (λ (n : ℕ). box b (x / 2 ^ (6 * length bs) % 64) * 2 ^ (4 * length bs) + selected bs x < n)
    (sym (pow-add 2 (4 * length bs) 4) ∙ ap (λ (n : ℕ). 2 ^ n) e)
    (mul-add-lt (box b (x / 2 ^ (6 * length bs) % 64)) (2 ^ (4 * length bs)) (selected bs x) 16
    (box_lt b (both_left (small b) (smalls bs) t) (x / 2 ^ (6 * length bs) % 64))
    (selected_lt bs (both_right (small b) (smalls bs) t) x))

-- ---- P of the eight is the exclusive or of P of each

parts : List (List ℕ) → ℕ → ℕ
parts [] x = 0
parts (b ∷ bs) x = bit_xor (permute 32 P (box b (x / 2 ^ (6 * length bs) % 64) * 2 ^ (4 * length bs))) (parts bs x)

parts_are : (bs : List (List ℕ)) → T (smalls bs) → (x : ℕ) → permute 32 P (selected bs x) ≡ parts bs x
unfolding selected parts
parts_are [] t x = lin_zero (permute 32 P) (lin_permute 32 P)
parts_are (b ∷ bs) t x =
    let here : ℕ = box b (x / 2 ^ (6 * length bs) % 64) in
    let rest = both_right (small b) (smalls bs) t in
    ap (permute 32 P) (sym (xor_shifted here (4 * length bs) (selected bs x) (selected_lt bs rest x)))
    ∙ lin_permute 32 P (here * 2 ^ (4 * length bs)) (selected bs x)
    ∙ ap (bit_xor (permute 32 P (here * 2 ^ (4 * length bs)))) (parts_are bs rest x)

boxes_small : T (smalls BOXES)
unfolding BOXES S1 S2 S3 S4 S5 S6 S7 S8
boxes_small = tt

-- what the selection function s (from 0) gives, through P, in a round
pub piece : ℕ → ℕ → ℕ → ℕ
piece r k s = boxed s (bit_xor (permute 32 E r) k / 2 ^ (42 - 6 * s) % 64)

in_row : (r k : ℕ) → bit_xor (piece r k 0) (bit_xor (piece r k 1) (bit_xor (piece r k 2) (bit_xor (piece r k 3) (bit_xor (piece r k 4) (bit_xor (piece r k 5) (bit_xor (piece r k 6) (piece r k 7))))))) ≡ f r k
unfolding piece boxed f parts BOXES
in_row r k =
    ap (λ (z : ℕ). bit_xor (piece r k 0) (bit_xor (piece r k 1) (bit_xor (piece r k 2) (bit_xor (piece r k 3) (bit_xor (piece r k 4) (bit_xor (piece r k 5) (bit_xor (piece r k 6) z)))))))
    (sym (xor_zero_r (piece r k 7)))
    ∙ sym (parts_are BOXES boxes_small (bit_xor (permute 32 E r) k))

-- the eight have no bit in common, so that `or` joins two of them
smalls_at : (bs : List (List ℕ)) → T (smalls bs) → (s : ℕ) → T (small (get_or bs s []))
smalls_at [] t s = tt
smalls_at (b ∷ bs) t zero = both_left (small b) (smalls bs) t
smalls_at (b ∷ bs) t (suc s) = smalls_at bs (both_right (small b) (smalls bs) t) s

apart : (s t g h : ℕ) → s < t → t < 8 → bit_and (boxed s g) (boxed t h) ≡ 0
unfolding boxed
apart s t g h st t8 =
    let u : ℕ = box (get_or BOXES s []) g in
    let v : ℕ = box (get_or BOXES t []) h in
    let room : 4 + (28 - 4 * t) ≤ 28 - 4 * s = omega arith in
    let low : box (get_or BOXES t []) h * 2 ^ (28 - 4 * t) < 2 ^ (28 - 4 * s) =
    lt_of_lt_of_le (shl_below v 4 (28 - 4 * t) (box_lt (get_or BOXES t []) (smalls_at BOXES boxes_small t) h)) (pow_mono room)
    in
    sym (and_permute 32 P (u * 2 ^ (28 - 4 * s)) (v * 2 ^ (28 - 4 * t)))
    ∙ ap (permute 32 P) (and_shifted u (28 - 4 * s) (v * 2 ^ (28 - 4 * t)) low)
    ∙ lin_zero (permute 32 P) (lin_permute 32 P)

or_xor : (a b : ℕ) → bit_and a b ≡ 0 → bit_or a b ≡ bit_xor a b
or_xor a b e = or_disjoint a b e ∙ sym (xor_disjoint a b e)

either : (r k s : ℕ) → s < 7 → bit_or (piece r k s) (piece r k (s + 1)) ≡ bit_xor (piece r k s) (piece r k (s + 1))
unfolding piece
either r k s h = or_xor _ _ (apart s (s + 1) _ _ (omega arith) (omega arith))

-- the cipher function from its eight parts
pub f_is : (r k : ℕ)
    → bit_xor (bit_xor (bit_or (piece r k 0) (piece r k 1)) (bit_or (piece r k 2) (piece r k 3))) (bit_xor (bit_or (piece r k 4) (piece r k 5)) (bit_or (piece r k 6) (piece r k 7)))
    ≡ f r k
f_is r k =
    ap₂ bit_xor (ap₂ bit_xor (either r k 0 (omega arith)) (either r k 2 (omega arith))) (ap₂ bit_xor (either r k 4 (omega arith)) (either r k 6 (omega arith)))
    ∙ simp xor_assoc (in_row r k)

-- ---- six bits of a word of the half block and the round key are those that E selects and the round key has

abbrev six : (ℕ → ℕ) → ℕ → ℕ → ℕ
six g p x = g x / 2 ^ p % 64

lin_six : (g : ℕ → ℕ) → Lin g → (p : ℕ) → Lin (six g p)
lin_six g l p = lin_of (λ x. x % 64) (λ x. g x / 2 ^ p) (lin_mod 6) (lin_of (λ x. x / 2 ^ p) g (lin_shr p) l)

six_xor : (x y p : ℕ) → bit_xor x y / 2 ^ p % 64 ≡ bit_xor (x / 2 ^ p % 64) (y / 2 ^ p % 64)
six_xor x y p = ap (λ (z : ℕ). z % 64) (xor_shr x y p) ∙ xor_mod (x / 2 ^ p) (y / 2 ^ p) 6

abbrev Same : (ℕ → ℕ) → (ℕ → ℕ) → ℕ → ℕ → Type 0
Same a b p s = T (both (agree (six a p) (six (permute 32 E) (42 - 6 * s)) 32) (agree (six b p) (six (permute 64 PLACES) (42 - 6 * s)) 64))

group : (a b : ℕ → ℕ) → Lin a → Lin b → (p s : ℕ) → Same a b p s → (r k : ℕ) → r < 2 ^ 32 → k < 2 ^ 64
    → boxed s (bit_xor (a r) (b k) / 2 ^ p % 64) ≡ piece r (held k) s
unfolding piece held
group a b la lb p s t r k hr hk =
    let q : ℕ = 42 - 6 * s in
    let e = both_left (agree (six a p) (six (permute 32 E) q) 32) (agree (six b p) (six (permute 64 PLACES) q) 64) t in
    let h = both_right (agree (six a p) (six (permute 32 E) q) 32) (agree (six b p) (six (permute 64 PLACES) q) 64) t in
    ap (boxed s)
    (six_xor (a r) (b k) p
    ∙ ap₂ bit_xor
    (basis (six a p) (six (permute 32 E) q) (lin_six a la p) (lin_six (permute 32 E) (lin_permute 32 E) q) 32 e r hr)
    (basis (six b p) (six (permute 64 PLACES) q) (lin_six b lb p) (lin_six (permute 64 PLACES) (lin_permute 64 PLACES) q) 64 h k hk)
    ∙ sym (six_xor (permute 32 E r) (permute 64 PLACES k) q))

lin_odds : Lin odds
unfolding odds
lin_odds =
    lin_xor (λ r. r / 2 ^ 1) (λ r. (r * 2 ^ 31) % 2 ^ 32) (lin_shr 1) (lin_of (λ r. r % 2 ^ 32) (λ r. r * 2 ^ 31) (lin_mod 32) (lin_shl 31))

lin_evens : Lin evens
unfolding evens
lin_evens =
    lin_xor (λ r. (r * 2 ^ 3) % 2 ^ 32) (λ r. r / 2 ^ 29) (lin_of (λ r. r % 2 ^ 32) (λ r. r * 2 ^ 3) (lin_mod 32) (lin_shl 3)) (lin_shr 29)

abbrev pub Odd : ℕ → ℕ → Type 0
Odd = Same odds (λ k. k / 2 ^ 32)

abbrev pub Even : ℕ → ℕ → Type 0
Even = Same evens (λ k. k % 2 ^ 32)

-- what one call gives, for S1, S3, S5, S7 and for S2, S4, S6, S8, from what the calls ensure
pub odd_piece : (p s : ℕ) → Odd p s → (r k w x : ℕ) → r < 2 ^ 32 → k < 2 ^ 64 → w ≡ bit_xor (odds r) (k / 2 ^ 32) → x ≡ boxed s (w / 2 ^ p % 64) → x ≡ piece r (held k) s
odd_piece p s t r k w x hr hk ew ex =
    ex ∙ ap (λ (z : ℕ). boxed s (z / 2 ^ p % 64)) ew ∙ group odds (λ k. k / 2 ^ 32) lin_odds (lin_shr 32) p s t r k hr hk

pub even_piece : (p s : ℕ) → Even p s → (r k w x : ℕ) → r < 2 ^ 32 → k < 2 ^ 64 → w ≡ bit_xor (evens r) (k % 2 ^ 32) → x ≡ boxed s (w / 2 ^ p % 64) → x ≡ piece r (held k) s
even_piece p s t r k w x hr hk ew ex =
    ex ∙ ap (λ (z : ℕ). boxed s (z / 2 ^ p % 64)) ew ∙ group evens (λ k. k % 2 ^ 32) lin_evens (lin_mod 32) p s t r k hr hk
