-- The two layers of a round, byte by byte.
use Rattle.std.proofs.Common.{◌≡◌, ℕ, zero, suc, ◌+◌, ◌*◌, ◌/◌, ◌%◌, ◌^◌, ◌<◌, get_or, sym, ap, ◌∙◌, ap₂, mul_assoc, mul_comm, add-mul, zero-mul, arith, pow_pos, pow-add, shr-shr}
use lib.Bits.{bit_xor, xor_shifted, xor_comm, xor_assoc, xor_zero_r}
use Rattle.std.proofs.lemmas.Nat.{mul-add-lt}
use Rattle.bits.specs.Permute.{spread}
use Rattle.bits.proofs.Linear.{Lin, lin_zero, agree, all_at, basis, lin_of, lin_shl, lin_mod, lin_spread}
use Rattle.present.specs.Present.{replaced, s_box_layer, p_layer}
use Rattle.present.specs.Steps.{piece}
use Rattle.present.specs.Tables.{SBOX, P}
use Rattle.present.specs.Boxes.{pairs, pair_at, by_pairs, two_lt}

lin_p : Lin p_layer
unfolding p_layer
lin_p = lin_spread P

-- ---- a byte eight places higher goes two places higher

low : ℕ → ℕ → ℕ
low s v = (p_layer v * 2 ^ (2 * s)) % 2 ^ 64

high : ℕ → ℕ → ℕ
high s v = p_layer (v * 2 ^ (8 * s))

lin_low : (s : ℕ) → Lin (low s)
unfolding low
lin_low s =
    lin_of (λ x. x % 2 ^ 64) (λ v. p_layer v * 2 ^ (2 * s)) (lin_mod 64) (lin_of (λ x. x * 2 ^ (2 * s)) p_layer (lin_shl (2 * s)) lin_p)

lin_high : (s : ℕ) → Lin (high s)
unfolding high
lin_high s = lin_of p_layer (λ v. v * 2 ^ (8 * s)) lin_p (lin_shl (8 * s))

pub carried : (s v : ℕ) → s < 8 → v < 256 → (p_layer v * 2 ^ (2 * s)) % 2 ^ 64 ≡ p_layer (v * 2 ^ (8 * s))
unfolding low high p_layer spread P
carried s v hs hv = basis (low s) (high s) (lin_low s) (lin_high s) 8 (all_at (λ s. agree (low s) (high s) 8) 8 tt s hs) v hv

-- ---- the bytes joined

unfoldable pieces : ℕ → ℕ → ℕ → ℕ
pieces zero s x = 0
pieces (suc n) s x = bit_xor (piece s x) (pieces n (suc s) x)

split : (t r p q : ℕ) → q ≡ 256 * p → (t + 256 * r) * p ≡ r * q + t * p
split t r p q e =
    add-mul t (256 * r) p
    ∙ omega (arith, ap (λ (z : ℕ). r * z) e, mul_assoc r 256 p, mul_assoc 256 r p, ap (λ (z : ℕ). z * p) (mul_comm r 256))

-- the low byte and those above it
parted : (t r s : ℕ) → t < 256 → p_layer ((t + 256 * r) * 2 ^ (8 * s)) ≡ bit_xor (p_layer (t * 2 ^ (8 * s))) (p_layer (r * 2 ^ (8 * suc s)))
parted t r s h =
    let k : ℕ = 8 * s in
    let e : 8 + 8 * s ≡ 8 * suc s = omega arith in
    let w : 2 ^ (8 * suc s) ≡ 256 * 2 ^ (8 * s) = ap (λ (n : ℕ). 2 ^ n) (sym e) ∙ pow-add 2 8 (8 * s) in
    let l = mul-add-lt t (2 ^ (8 * s)) 0 256 h (pow_pos (8 * s)) in
    let b : t * 2 ^ (8 * s) < 2 ^ (8 * suc s) = omega (arith, l, w) in
    ap p_layer (split t r (2 ^ (8 * s)) (2 ^ (8 * suc s)) w ∙ sym (xor_shifted r (8 * suc s) (t * 2 ^ (8 * s)) b))
    ∙ lin_p (r * 2 ^ (8 * suc s)) (t * 2 ^ (8 * s))
    ∙ xor_comm (p_layer (r * 2 ^ (8 * suc s))) (p_layer (t * 2 ^ (8 * s)))

-- n bytes from byte s on
joined : (n s x : ℕ) → p_layer (replaced 256 (pairs SBOX) n (x / 2 ^ (8 * s)) * 2 ^ (8 * s)) ≡ pieces n s x
unfolding replaced pieces piece
joined zero s x = ap p_layer (zero-mul (2 ^ (8 * s))) ∙ lin_zero p_layer lin_p
joined (suc n) s x =
    let q : ℕ = x / 2 ^ (8 * s) in
    let t : ℕ = get_or (pairs SBOX) (x / 2 ^ (8 * s) % 256) 0 in
    let p = pair_at SBOX (x / 2 ^ (8 * s) % 256) (omega arith) in
    let l = two_lt (x / 2 ^ (8 * s) % 256) in
    let h : get_or (pairs SBOX) (x / 2 ^ (8 * s) % 256) 0 < 256 = omega (arith, p, l) in
    let e : 8 * s + 8 ≡ 8 * suc s = omega arith in
    let d : x / 2 ^ (8 * s) / 256 ≡ x / 2 ^ (8 * suc s) = shr-shr x (8 * s) 8 ∙ ap (λ (k : ℕ). x / 2 ^ k) e in
    parted t (replaced 256 (pairs SBOX) n (q / 256)) s h
    ∙ ap₂ (λ (a b : ℕ). bit_xor (p_layer (a * 2 ^ (8 * s))) (p_layer (replaced 256 (pairs SBOX) n b * 2 ^ (8 * suc s)))) p d
    ∙ ap (bit_xor (p_layer (replaced 16 SBOX 2 (q % 256) * 2 ^ (8 * s)))) (joined n (suc s) x)

layers_are : (x : ℕ) → p_layer (s_box_layer x) ≡ pieces 8 0 x
unfolding s_box_layer
layers_are x =
    let a : x / 2 ^ (8 * 0) ≡ x = omega arith in
    let b : replaced 16 SBOX 16 x * 2 ^ (8 * 0) ≡ replaced 16 SBOX 16 x = omega arith in
    sym (ap p_layer (ap (λ (v : ℕ). v * 2 ^ (8 * 0)) (ap (replaced 256 (pairs SBOX) 8) a ∙ by_pairs SBOX 8 x) ∙ b)) ∙ joined 8 0 x

-- in the code's order
tree : (a b c d e f g h : ℕ)
    → bit_xor (bit_xor (bit_xor a b) (bit_xor c d)) (bit_xor (bit_xor e f) (bit_xor g h))
    ≡ bit_xor a (bit_xor b (bit_xor c (bit_xor d (bit_xor e (bit_xor f (bit_xor g h))))))
tree a b c d e f g h =
    xor_assoc (bit_xor a b) (bit_xor c d) (bit_xor (bit_xor e f) (bit_xor g h))
    ∙ xor_assoc a b (bit_xor (bit_xor c d) (bit_xor (bit_xor e f) (bit_xor g h)))
    ∙ ap (λ (z : ℕ). bit_xor a (bit_xor b z))
    (xor_assoc c d (bit_xor (bit_xor e f) (bit_xor g h)) ∙ ap (λ (z : ℕ). bit_xor c (bit_xor d z)) (xor_assoc e f (bit_xor g h)))

pub pieces_are : (x : ℕ)
    → bit_xor (bit_xor (bit_xor (piece 0 x) (piece 1 x)) (bit_xor (piece 2 x) (piece 3 x))) (bit_xor (bit_xor (piece 4 x) (piece 5 x)) (bit_xor (piece 6 x) (piece 7 x)))
    ≡ p_layer (s_box_layer x)
unfolding pieces
pieces_are x =
    tree (piece 0 x) (piece 1 x) (piece 2 x) (piece 3 x) (piece 4 x) (piece 5 x) (piece 6 x) (piece 7 x)
    ∙ ap (λ (z : ℕ). bit_xor (piece 0 x) (bit_xor (piece 1 x) (bit_xor (piece 2 x) (bit_xor (piece 3 x) (bit_xor (piece 4 x) (bit_xor (piece 5 x) (bit_xor (piece 6 x) z)))))))
    (sym (xor_zero_r (piece 7 x)))
    ∙ sym (layers_are x)
