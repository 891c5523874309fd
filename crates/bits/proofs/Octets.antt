-- The bytes of a number and the number of bytes undo each other.
use Rattle.std.proofs.Common.{◌≡◌, ℕ, zero, suc, ◌+◌, ◌-◌, ◌*◌, ◌/◌, ◌%◌, ◌^◌, ◌<◌, ◌≤◌, List, [], ◌∷◌, length, get_or, sym, refl, ap, ◌∙◌, subst, ap₂, arith}
use Rattle.std.proofs.lemmas.Nat.{mod-pow-add, field_of, shr_high, mod_low, mul-add-lt, pow-add}
use Rattle.bits.specs.Octets.{value, octets}

pub length_octets : (n x : ℕ) → length (octets n x) ≡ n
unfolding octets
length_octets zero x = refl
length_octets (suc n) x = ap suc (length_octets n x)

pub octets_small : (n x i : ℕ) → get_or (octets n x) i 0 < 256
unfolding octets
octets_small zero x i = omega arith
octets_small (suc n) x zero = omega arith
octets_small (suc n) x (suc i) = octets_small n x i

pub value_octets : (n x : ℕ) → value (octets n x) ≡ x % 2 ^ (8 * n)
unfolding octets value
value_octets zero x = omega arith
value_octets (suc n) x =
    let e : 8 + 8 * n ≡ 8 * suc n = omega arith in
    ap₂ (λ l v. x / 2 ^ (8 * n) % 256 * 2 ^ (8 * l) + v) (length_octets n x) (value_octets n x)
    ∙ sym (mod-pow-add x 8 (8 * n))
    ∙ ap (λ k. x % 2 ^ k) e

pub value_lt : (bs : List ℕ) → ((i : ℕ) → get_or bs i 0 < 256) → value bs < 2 ^ (8 * length bs)
unfolding value
value_lt [] h = omega arith
value_lt (b ∷ bs) h =
    let e : 8 * length bs + 8 ≡ 8 * suc (length bs) = omega arith in
    let m = mul-add-lt b (2 ^ (8 * length bs)) (value bs) 256 (h 0) (value_lt bs (λ i. h (suc i))) in
    omega (arith, m, pow-add 2 (8 * length bs) 8, ap (λ k. 2 ^ k) e)

mod_of_mod : (y j : ℕ) → y % 2 ^ (j + 8) % 256 ≡ y % 256
mod_of_mod y j = omega (arith, mod-pow-add y j 8)

byte_low : (x k j : ℕ) → x % 2 ^ ((j + 8) + k) / 2 ^ k % 256 ≡ x / 2 ^ k % 256
byte_low x k j = ap (λ y. y % 256) (field_of x (j + 8) k) ∙ mod_of_mod (x / 2 ^ k) j

-- the bytes of a number are those of its low part
octets_low : (n m x : ℕ) → n ≤ m → octets n (x % 2 ^ (8 * m)) ≡ octets n x
unfolding octets
octets_low zero m x h = refl
octets_low (suc n) m x h =
    let e : ((8 * m - 8 * n - 8) + 8) + 8 * n ≡ 8 * m = omega arith in
    ap₂ (λ b bs. b ∷ bs)
    (ap (λ k. x % 2 ^ k / 2 ^ (8 * n) % 256) (sym e) ∙ byte_low x (8 * n) (8 * m - 8 * n - 8))
    (octets_low n m x (omega arith))

pub octets_value : (bs : List ℕ) → ((i : ℕ) → get_or bs i 0 < 256) → octets (length bs) (value bs) ≡ bs
unfolding octets value
octets_value [] h = refl
octets_value (b ∷ bs) h =
    let n = length bs in
    let v = value_lt bs (λ i. h (suc i)) in
    let s : b < 256 = h 0 in
    let p : b % 256 ≡ b = omega arith in
    ap₂ (λ c cs. c ∷ cs)
    (ap (λ y. y % 256) (shr_high b (8 * n) (value bs) v) ∙ p)
    (sym (octets_low n n (b * 2 ^ (8 * n) + value bs) (omega arith))
    ∙ ap (octets n) (mod_low b (8 * n) (value bs) v)
    ∙ octets_value bs (λ i. h (suc i)))

-- ---- the same at n bytes

pub value_below : (n : ℕ) (bs : List ℕ) → length bs ≡ n → ((i : ℕ) → get_or bs i 0 < 256) → value bs < 2 ^ (8 * n)
value_below n bs e h = subst (λ (k : ℕ). value bs < 2 ^ (8 * k)) e (value_lt bs h)

pub octets_back : (n : ℕ) (bs : List ℕ) → length bs ≡ n → ((i : ℕ) → get_or bs i 0 < 256) → octets n (value bs) ≡ bs
octets_back n bs e h = subst (λ (k : ℕ). octets k (value bs) ≡ bs) e (octets_value bs h)

pub value_back : (x : ℕ) → x < 2 ^ 64 → value (octets 8 x) ≡ x
value_back x h = let e = value_octets 8 x in omega arith
