-- The rotations of the key's halves, and the list of round keys.
use Rattle.std.proofs.Common.{◌≡◌, ℕ, zero, suc, ◌+◌, ◌-◌, ◌*◌, ◌/◌, ◌%◌, ◌^◌, ◌<◌, ◌≤◌, Bool, true, T, leb, List, [], ◌∷◌, ◌++◌, map, reverse, length, get_or, drop, sym, refl, ap, ◌∙◌, subst, ap₂, arith, leb→le, drop-cons}
use mathlib.Core.List.{reverse-cons}
use Rattle.std.specs.Array.{index_steps}
use Rattle.std.specs.Iterator.{CallableAtEachTurn}
use Rattle.std.proofs.lemmas.Fn.{serves_by}
use lib.Bits.{bit_and, bit_xor}
use Rattle.bits.specs.Permute.{permute}
use Rattle.bits.proofs.Linear.{Lin, both, both_left, both_right, all, all_at, agree, basis, lin_id, lin_of, lin_xor, lin_and, lin_shr, lin_shl, lin_mod}
use Rattle.tripledes.specs.Des.{rotated, schedule}
use Rattle.tripledes.specs.Tables.{PC2, SHIFTS}

-- how far C and D are rotated in all before each round key
unfoldable pub TOTALS : List ℕ
TOTALS = 1 ∷ 2 ∷ 4 ∷ 6 ∷ 8 ∷ 10 ∷ 12 ∷ 14 ∷ 15 ∷ 17 ∷ 19 ∷ 21 ∷ 23 ∷ 25 ∷ 27 ∷ 28 ∷ []

lin_rotated : (s : ℕ) → Lin (rotated s)
unfolding rotated
lin_rotated s =
    lin_xor (λ c. (c * 2 ^ s) % 2 ^ 28) (λ c. c / 2 ^ (28 - s))
    (lin_of (λ c. c % 2 ^ 28) (λ c. c * 2 ^ s) (lin_mod 28) (lin_shl s)) (lin_shr (28 - s))

rotated_zero : (c : ℕ) → c < 2 ^ 28 → rotated 0 c ≡ c
unfolding rotated
rotated_zero = basis (rotated 0) (λ c. c) (lin_rotated 0) lin_id 28 tt

-- a rotation as a part of the 28 bits written twice
turn : ℕ → ℕ → ℕ
turn s c = bit_and (bit_xor ((c * 2 ^ 28) % 2 ^ 64) c / 2 ^ (28 - s)) 0xfffffff

lin_turn : (s : ℕ) → Lin (turn s)
unfolding turn
lin_turn s =
    lin_of (λ c. bit_and c 0xfffffff) (λ c. bit_xor ((c * 2 ^ 28) % 2 ^ 64) c / 2 ^ (28 - s)) (lin_and 0xfffffff)
    (lin_of (λ c. c / 2 ^ (28 - s)) (λ c. bit_xor ((c * 2 ^ 28) % 2 ^ 64) c) (lin_shr (28 - s))
    (lin_xor (λ c. (c * 2 ^ 28) % 2 ^ 64) (λ c. c) (lin_of (λ c. c % 2 ^ 64) (λ c. c * 2 ^ 28) (lin_mod 64) (lin_shl 28)) lin_id))

turns : ℕ → Bool
turns s = agree (turn s) (rotated s) 28

all_turn : T (all turns 29)
unfolding turns turn rotated
all_turn = tt

pub turn_is : (s c : ℕ) → s ≤ 28 → c < 2 ^ 28 → bit_and (bit_xor ((c * 2 ^ 28) % 2 ^ 64) c / 2 ^ (28 - s)) 0xfffffff ≡ rotated s c
unfolding turns turn
turn_is s c h = basis (turn s) (rotated s) (lin_turn s) (lin_rotated s) 28 (all_at turns 29 all_turn s (omega arith)) c

-- one more rotation
steps : ℕ → Bool
steps i = agree (λ c. rotated (get_or SHIFTS i 0) (rotated (get_or (0 ∷ TOTALS) i 0) c)) (rotated (get_or TOTALS i 0)) 28

all_step : T (all steps 16)
unfolding steps rotated SHIFTS TOTALS
all_step = tt

total_more : (i c : ℕ) → i < 16 → c < 2 ^ 28 → rotated (get_or TOTALS i 0) c ≡ rotated (get_or SHIFTS i 0) (rotated (get_or (0 ∷ TOTALS) i 0) c)
unfolding steps
total_more i c h b =
    let s : ℕ = get_or SHIFTS i 0 in
    let t : ℕ = get_or (0 ∷ TOTALS) i 0 in
    sym (basis (λ x. rotated s (rotated t x)) (rotated (get_or TOTALS i 0)) (lin_of (rotated s) (rotated t) (lin_rotated s) (lin_rotated t))
    (lin_rotated (get_or TOTALS i 0)) 28 (all_at steps 16 all_step i h) c b)

map_append : (g : ℕ → ℕ) (xs ys : List ℕ) → map g (xs ++ ys) ≡ map g xs ++ map g ys
map_append g [] ys = refl
map_append g (x ∷ xs) ys = ap (λ (zs : List ℕ). g x ∷ zs) (map_append g xs ys)

pub map_reverse : (g : ℕ → ℕ) (xs : List ℕ) → map g (reverse xs) ≡ reverse (map g xs)
map_reverse g [] = refl
map_reverse g (x ∷ xs) =
    ap (map g) (reverse-cons x xs)
    ∙ map_append g (reverse xs) (x ∷ [])
    ∙ ap (λ (zs : List ℕ). zs ++ (g x ∷ [])) (map_reverse g xs)
    ∙ sym (reverse-cons (g x) (map g xs))

-- no rotation goes further than 28 places
abbrev pub within : List ℕ → Bool
within [] = true
within (s ∷ ss) = both (leb s 28) (within ss)

within_at : (ss : List ℕ) → T (within ss) → (i : ℕ) → i < length ss → get_or ss i 0 ≤ 28
within_at [] t i h = absurd (omega arith)
within_at (s ∷ ss) t zero h = leb→le s 28 (both_left (leb s 28) (within ss) t)
within_at (s ∷ ss) t (suc i) h = within_at ss (both_right (leb s 28) (within ss) t) i (omega arith)

-- a closure that may be called with the place of each rotation, and is left as it was
pub at_each : {P : Type 0} {R : P → ℕ → P → Type 0} {Q : P → ℕ → Type 0} {f : P} → ((i : ℕ) (q : P) → R f i q → q ≡ f) → ((i : ℕ) → i < 16 → get_or TOTALS i 0 ≤ 28 → Q f i) → CallableAtEachTurn (index_steps 16) R Q 0 f
unfolding TOTALS
at_each {P} {R} {Q} {f} same may =
    serves_by R (λ xs q. q ≡ f) (λ xs q i v j r. same i v (subst (λ (p : P). R p i v) j r)) (index_steps 16) Q 0 f refl
    (λ xs t q i u y s j. let h : i < 16 = omega (arith, s.0, s.1) in subst (λ (p : P). Q p i) (sym j) (may i h (within_at TOTALS tt i h)))

-- the round key of C and D rotated so far in all
abbrev pub made : ℕ → ℕ → ℕ → ℕ
made c d s = permute 56 PC2 (rotated s c * 2 ^ 28 + rotated s d)

-- the round keys from the i-th on, n of them
scheduled : (n i c d : ℕ) → i + n ≡ 16 → c < 2 ^ 28 → d < 2 ^ 28
    → schedule (drop i SHIFTS) (rotated (get_or (0 ∷ TOTALS) i 0) c) (rotated (get_or (0 ∷ TOTALS) i 0) d) ≡ map (made c d) (drop i TOTALS)
unfolding schedule SHIFTS TOTALS
scheduled zero i c d e hc hd =
    let k : i ≡ 16 = omega arith in
    ap (λ (j : ℕ). schedule (drop j SHIFTS) (rotated (get_or (0 ∷ TOTALS) i 0) c) (rotated (get_or (0 ∷ TOTALS) i 0) d)) k
    ∙ sym (ap (λ (j : ℕ). map (made c d) (drop j TOTALS)) k)
scheduled (suc n) i c d e hc hd =
    let h : i < 16 = omega arith in
    let s : ℕ = get_or SHIFTS i 0 in
    let t : ℕ = get_or (0 ∷ TOTALS) i 0 in
    let p = sym (total_more i c h hc) in
    let q = sym (total_more i d h hd) in
    ap (λ (l : List ℕ). schedule l (rotated t c) (rotated t d)) (drop-cons SHIFTS i 0 h)
    ∙ ap₂ (λ (x y : ℕ). permute 56 PC2 (x * 2 ^ 28 + y) ∷ schedule (drop (suc i) SHIFTS) x y) p q
    ∙ ap (λ (l : List ℕ). made c d (get_or TOTALS i 0) ∷ l) (scheduled n (suc i) c d (omega arith) hc hd)
    ∙ sym (ap (map (made c d)) (drop-cons TOTALS i 0 h))

-- the round keys of a key, from what permuted choice 1 makes of it
pub keys_made : (c d : ℕ) → c < 2 ^ 28 → d < 2 ^ 28 → schedule SHIFTS c d ≡ map (made c d) TOTALS
keys_made c d hc hd =
    ap₂ (schedule SHIFTS) (sym (rotated_zero c hc)) (sym (rotated_zero d hd)) ∙ scheduled 16 0 c d (omega arith) hc hd
