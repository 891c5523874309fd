-- The two layers of a round, and what undoes them.
use Rattle.std.specs.Prelude.{◌≡◌, ℕ, zero, suc, ◌+◌, ◌-◌, ◌*◌, ◌/◌, ◌%◌, ◌^◌, ◌<◌, ◌≤◌, Bool, true, T, ltb, List, [], ◌∷◌, map, bit_and, nat_eq, nat_lt, slice_index, slice_index_or, refl}
use Rattle.std.proofs.Common.{sym, ap, ap₂, ◌∙◌, zero-lt-suc, pow-suc, add-one, arith, ltb→lt, eqb→eq, pow_pos, pow-add, pow_mono, shr-shr}
use Rattle.std.proofs.Math.Pow.{pow-lt, field}
use Rattle.std.proofs.lemmas.Nat.{xor_lt, and_mask}
use Rattle.std.specs.List.{range_with_len}
use Rattle.std.proofs.lemmas.List.FromFn.{get_or-map-range_with_len}
use Rattle.bits.specs.Permute.{spread}
use Rattle.bits.specs.Swap.{parted, exchange}
use Rattle.bits.proofs.Linear.{both, both_left, both_right, all_at, basis, lin_id, lin_of, lin_spread, exchanges, lin_exchanges}
use Rattle.present.specs.Present.{replaced, s_box_layer, inv_s_box_layer, p_layer, inv_p_layer}
use Rattle.present.specs.Tables.{SBOX, INVSBOX, P, INVP}

-- ---- nibbles through a table

-- what a table gives is a nibble
abbrev Nibbles : List ℕ → Type 0
Nibbles t = (d : ℕ) → d < 16 → slice_index t d < 16

pub box_lt : Nibbles SBOX
unfolding SBOX
box_lt d h = ltb→lt (slice_index SBOX d) 16 (all_at (λ k. ltb (slice_index SBOX k) 16) 16 tt d h)

inv_box_lt : Nibbles INVSBOX
unfolding INVSBOX
inv_box_lt d h = ltb→lt (slice_index INVSBOX d) 16 (all_at (λ k. ltb (slice_index INVSBOX k) 16) 16 tt d h)

replaced_lt : (t : List ℕ) → Nibbles t → (n x : ℕ) → replaced 16 t n x < 16 ^ n
unfolding replaced
replaced_lt t s zero x = zero-lt-suc 0
replaced_lt t s (suc n) x =
    let p = replaced_lt t s n (x / 16) in
    let q = s (x % 16) (omega arith) in
    let e = pow-suc 16 n in
    omega arith

replaced_back : (f g : List ℕ) → Nibbles f → ((d : ℕ) → d < 16 → slice_index g (slice_index f d) ≡ d) → (n x : ℕ) → x < 16 ^ n
    → replaced 16 g n (replaced 16 f n x) ≡ x
unfolding replaced
replaced_back f g s u zero x h = omega arith
replaced_back f g s u (suc n) x h =
    let e = pow-suc 16 n in
    let q = s (x % 16) (omega arith) in
    let lo : (slice_index f (x % 16) + 16 * replaced 16 f n (x / 16)) % 16 ≡ slice_index_or f (x % 16) 0 = omega arith in
    let hi : (slice_index f (x % 16) + 16 * replaced 16 f n (x / 16)) / 16 ≡ replaced 16 f n (x / 16) = omega arith in
    let a = ap (λ (m : ℕ). slice_index g m) lo ∙ u (x % 16) (omega arith) in
    let b = ap (replaced 16 g n) hi ∙ replaced_back f g s u n (x / 16) (omega arith) in
    ap₂ (λ (p r : ℕ). p + 16 * r) a b ∙ omega arith

box_undone : (d : ℕ) → d < 16 → slice_index INVSBOX (slice_index SBOX d) ≡ d
unfolding SBOX INVSBOX
box_undone d h = eqb→eq (slice_index INVSBOX (slice_index SBOX d)) d (all_at (λ k. nat_eq (slice_index INVSBOX (slice_index SBOX k)) k) 16 tt d h)

box_redone : (d : ℕ) → d < 16 → slice_index SBOX (slice_index INVSBOX d) ≡ d
unfolding SBOX INVSBOX
box_redone d h = eqb→eq (slice_index SBOX (slice_index INVSBOX d)) d (all_at (λ k. nat_eq (slice_index SBOX (slice_index INVSBOX k)) k) 16 tt d h)

pub s_lt : (x : ℕ) → s_box_layer x < 2 ^ 64
unfolding s_box_layer
s_lt x = replaced_lt SBOX box_lt 16 x

pub inv_s_lt : (x : ℕ) → inv_s_box_layer x < 2 ^ 64
unfolding inv_s_box_layer
inv_s_lt x = replaced_lt INVSBOX inv_box_lt 16 x

pub s_undone : (x : ℕ) → x < 2 ^ 64 → inv_s_box_layer (s_box_layer x) ≡ x
unfolding s_box_layer inv_s_box_layer
s_undone x h = replaced_back SBOX INVSBOX box_lt box_undone 16 x h

pub s_redone : (x : ℕ) → x < 2 ^ 64 → s_box_layer (inv_s_box_layer x) ≡ x
unfolding s_box_layer inv_s_box_layer
s_redone x h = replaced_back INVSBOX SBOX inv_box_lt box_redone 16 x h

pub two_lt : (x : ℕ) → replaced 16 SBOX 2 x < 256
two_lt x = replaced_lt SBOX box_lt 2 x

-- ---- two nibbles at a time

abbrev pub double : ℕ → ℕ
double zero = zero
double (suc n) = suc (suc (double n))

-- the table of bytes that does what a table of nibbles does
unfoldable pub pairs : List ℕ → List ℕ
pairs t = map (replaced 16 t 2) (range_with_len 0 256)

pub pair_at : (t : List ℕ) (k : ℕ) → k < 256 → slice_index (pairs t) k ≡ replaced 16 t 2 k
unfolding pairs
pair_at t k h = get_or-map-range_with_len (replaced 16 t 2) 0 256 k k 0 h (omega arith)

pub by_pairs : (t : List ℕ) (n x : ℕ) → replaced 256 (pairs t) n x ≡ replaced 16 t (double n) x
unfolding replaced
by_pairs t zero x = refl
by_pairs t (suc n) x =
    let p = pair_at t (x % 256) (omega arith) in
    let a : x % 256 % 16 ≡ x % 16 = omega arith in
    let f = field x 4 4 in
    let b : x % 256 / 16 % 16 ≡ x / 16 % 16 = omega arith in
    let d : x / 256 ≡ x / 16 / 16 = omega arith in
    let i = by_pairs t n (x / 256) ∙ ap (replaced 16 t (double n)) d in
    let ea = ap (λ (m : ℕ). slice_index t m) a in
    let eb = ap (λ (m : ℕ). slice_index t m) b in
    omega arith

-- one more byte
pub byte_more : (t : List ℕ) (x i out : ℕ) → i < 8 → out ≡ replaced 256 t i (x / 2 ^ (64 - 8 * i))
    → out * 256 + slice_index t (bit_and (x / 2 ^ (56 - 8 * i)) 255) ≡ replaced 256 t (i + 1) (x / 2 ^ (64 - 8 * (i + 1)))
unfolding replaced
byte_more t x i out h e =
    let e1 : 64 - 8 * (i + 1) ≡ 56 - 8 * i = omega arith in
    let e2 : 56 - 8 * i + 8 ≡ 64 - 8 * i = omega arith in
    let m = ap (λ (k : ℕ). slice_index t k) (and_mask (x / 2 ^ (56 - 8 * i)) 8) in
    let f : out ≡ replaced 256 t i (x / 2 ^ (56 - 8 * i) / 256)
    = e ∙ sym (ap (replaced 256 t i) (shr-shr x (56 - 8 * i) 8 ∙ ap (λ (k : ℕ). x / 2 ^ k) e2)) in
    let g : slice_index_or t (x / 2 ^ (56 - 8 * i) % 256) 0 + 256 * replaced 256 t i (x / 2 ^ (56 - 8 * i) / 256) ≡ replaced 256 t (i + 1) (x / 2 ^ (64 - 8 * (i + 1)))
    = sym (ap₂ (λ (n j : ℕ). replaced 256 t n (x / 2 ^ j)) (add-one i) e1) in
    omega (arith, m, f, g)

pub byte_lt : (out b i : ℕ) → out < 2 ^ (8 * i) → b < 256 → out * 256 + b < 2 ^ (8 * (i + 1))
byte_lt out b i h k =
    let e : 8 * i + 8 ≡ 8 * (i + 1) = omega arith in
    let p = sym (pow-add 2 (8 * i) 8) ∙ ap (λ (n : ℕ). 2 ^ n) e in
    omega arith

pub room : (out i : ℕ) → i < 8 → out < 2 ^ (8 * i) → out < 2 ^ 56
room out i h k = let q : 8 * i ≤ 56 = omega arith in let p = pow_mono {i = 8 * i} {j = 56} q in omega arith

-- ---- the permutation

abbrev places_lt : List ℕ → Bool
places_lt [] = true
places_lt (p ∷ ps) = both (nat_lt p 64) (places_lt ps)

one : (b n : ℕ) → b < 2 → n < 2 ^ 64 → b * n < 2 ^ 64
one zero n h k = omega arith
one (suc zero) n h k = omega arith
one (suc (suc b)) n h k = let z : ⊥ = omega arith in absurd z

spread_lt : (t : List ℕ) → T (places_lt t) → (x : ℕ) → spread t x < 2 ^ 64
unfolding spread
spread_lt [] h x = pow_pos 64
spread_lt (p ∷ ps) h x =
    let q = ltb→lt p 64 (both_left (nat_lt p 64) (places_lt ps) h) in
    let r = pow-lt {i = p} {j = 64} q in
    xor_lt 64 (x % 2 * 2 ^ p) (spread ps (x / 2)) (one (x % 2) (2 ^ p) (omega arith) r)
    (spread_lt ps (both_right (nat_lt p 64) (places_lt ps) h) (x / 2))

pub p_lt : (x : ℕ) → p_layer x < 2 ^ 64
unfolding p_layer P
p_lt x = spread_lt P tt x

pub inv_p_lt : (x : ℕ) → inv_p_layer x < 2 ^ 64
unfolding inv_p_layer INVP
inv_p_lt x = spread_lt INVP tt x

pub p_undone : (x : ℕ) → x < 2 ^ 64 → inv_p_layer (p_layer x) ≡ x
unfolding p_layer inv_p_layer spread P INVP
p_undone = basis (λ x. spread INVP (spread P x)) (λ x. x) (lin_of (spread INVP) (spread P) (lin_spread INVP) (lin_spread P)) lin_id 64 tt

pub p_redone : (x : ℕ) → x < 2 ^ 64 → p_layer (inv_p_layer x) ≡ x
unfolding p_layer inv_p_layer spread P INVP
p_redone = basis (λ x. spread P (spread INVP x)) (λ x. x) (lin_of (spread P) (spread INVP) (lin_spread P) (lin_spread INVP)) lin_id 64 tt

-- the inverse as four exchanges
unfoldable pub inv_p_swaps : List (ℕ × ℕ)
inv_p_swaps = (24, 0x00000000ff00ff00) ∷ (12, 0x0000f0f00000f0f0) ∷ (6, 0x00cc00cc00cc00cc) ∷ (3, 0x0a0a0a0a0a0a0a0a) ∷ []

pub inv_p_is : (x : ℕ) → x < 2 ^ 64 → exchanges inv_p_swaps x ≡ inv_p_layer x
unfolding inv_p_swaps exchanges parted exchange inv_p_layer spread INVP
inv_p_is = basis (exchanges inv_p_swaps) (spread INVP) (lin_exchanges inv_p_swaps) (lin_spread INVP) 64 tt
