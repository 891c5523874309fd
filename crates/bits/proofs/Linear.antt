-- Maps of numbers that go through exclusive or. Two such maps are equal below 2 ^ w once they are at the w powers of two,
-- which is a test that antt computes: so one test settles a permutation of bits, however it is written.
use Rattle.std.proofs.Common.{◌≡◌, ℕ, zero, suc, ◌+◌, ◌-◌, ◌*◌, ◌/◌, ◌%◌, ◌^◌, ◌<◌, min, Bool, true, false, T, eqb, List, [], ◌∷◌, length, sym, refl, ap, ◌∙◌, subst, ap₂, inl, inr, le_of_suc-le-suc, not-suc-le-zero, lt_of_le_of_lt, add-zero, mod-lt, zero-lt-suc, one-mul, pow-suc, zero-mul, arith, eqb→eq, pow_pos, shr_lt}
use native.Mathlib.Nat.{min-le_left, min-zero}
use lib.Arith.{lt-one, bin_ind}
use lib.Pow.{split}
use lib.Bits.{bit_and, bit_xor, xor_self, xor_shifted, xor_shr, xor_mod, xor_block, xor_assoc, xor_comm, xor_lt, and_step, and_shr, and_mod, and_block}
use Rattle.std.proofs.lemmas.Nat.{mul-add-lt}
use Rattle.std.proofs.lemmas.Bool.{cases_lt}
use Rattle.bits.specs.Permute.{bit, permute, spread}
use Rattle.bits.specs.Swap.{parted, exchange}

abbrev pub both : Bool → Bool → Bool
both true b = b
both false b = false

pub both_left : (a b : Bool) → T (both a b) → T a
both_left true b t = tt
both_left false b t = t

pub both_right : (a b : Bool) → T (both a b) → T b
both_right true b t = t
both_right false b t = absurd t

-- a test holds of each number below n
abbrev pub all : (ℕ → Bool) → ℕ → Bool
all f zero = true
all f (suc n) = both (f n) (all f n)

pub all_at : (f : ℕ → Bool) (n : ℕ) → T (all f n) → (k : ℕ) → k < n → T (f k)
all_at f zero t k h = absurd (not-suc-le-zero h)
all_at f (suc n) t k h =
    elim (cases_lt k n) [
      | inl p ↦ all_at f n (both_right (f n) (all f n) t) k p
      | inr p ↦ let e : n ≡ k = omega arith in subst (λ (m : ℕ). T (f m)) e (both_left (f n) (all f n) t)
    ]

abbrev pub Lin : (ℕ → ℕ) → Type 0
Lin f = (a b : ℕ) → f (bit_xor a b) ≡ bit_xor (f a) (f b)

pub lin_zero : (f : ℕ → ℕ) → Lin f → f 0 ≡ 0
lin_zero f l = l 0 0 ∙ xor_self (f 0)

-- f and g agree at the powers of two below 2 ^ w
abbrev pub agree : (ℕ → ℕ) → (ℕ → ℕ) → ℕ → Bool
agree f g zero = true
agree f g (suc w) = both (eqb (f (2 ^ w)) (g (2 ^ w))) (agree f g w)

top : (f g : ℕ → ℕ) → Lin f → Lin g → (w : ℕ) → f (2 ^ w) ≡ g (2 ^ w) → (q : ℕ) → q < 2 → f (q * 2 ^ w) ≡ g (q * 2 ^ w)
top f g lf lg w e zero h =
    ap f (zero-mul (2 ^ w)) ∙ lin_zero f lf ∙ sym (lin_zero g lg) ∙ ap g (sym (zero-mul (2 ^ w)))
top f g lf lg w e (suc zero) h = ap f (one-mul (2 ^ w)) ∙ e ∙ ap g (sym (one-mul (2 ^ w)))
top f g lf lg w e (suc (suc q)) h = absurd (not-suc-le-zero (le_of_suc-le-suc (le_of_suc-le-suc h)))

pub cut : (x w : ℕ) → x ≡ bit_xor (x / 2 ^ w * 2 ^ w) (x % 2 ^ w)
cut x w = sym (split x w) ∙ sym (xor_shifted (x / 2 ^ w) w (x % 2 ^ w) (mod-lt x (pow_pos w)))

pub basis : (f g : ℕ → ℕ) → Lin f → Lin g → (w : ℕ) → T (agree f g w) → (x : ℕ) → x < 2 ^ w → f x ≡ g x
basis f g lf lg zero t x h = ap f (lt-one h) ∙ lin_zero f lf ∙ sym (lin_zero g lg) ∙ ap g (sym (lt-one h))
basis f g lf lg (suc w) t x h =
    ap f (cut x w) ∙ lf (x / 2 ^ w * 2 ^ w) (x % 2 ^ w)
    ∙ ap₂ bit_xor
    (top f g lf lg w (eqb→eq (f (2 ^ w)) (g (2 ^ w)) (both_left (eqb (f (2 ^ w)) (g (2 ^ w))) (agree f g w) t)) (x / 2 ^ w)
    (shr_lt 1 w (subst (λ (n : ℕ). x < 2 ^ n) (omega arith) h)))
    (basis f g lf lg w (both_right (eqb (f (2 ^ w)) (g (2 ^ w))) (agree f g w) t) (x % 2 ^ w) (mod-lt x (pow_pos w)))
    ∙ sym (lg (x / 2 ^ w * 2 ^ w) (x % 2 ^ w)) ∙ ap g (sym (cut x w))

-- ---- what is such a map

pub lin_id : Lin (λ x. x)
lin_id a b = refl

pub lin_of : (f g : ℕ → ℕ) → Lin f → Lin g → Lin (λ x. f (g x))
lin_of f g lf lg a b = ap f (lg a b) ∙ lf (g a) (g b)

swap4 : (a b c d : ℕ) → bit_xor (bit_xor a b) (bit_xor c d) ≡ bit_xor (bit_xor a c) (bit_xor b d)
swap4 a b c d =
    xor_assoc a b (bit_xor c d)
    ∙ ap (bit_xor a) (sym (xor_assoc b c d) ∙ ap (λ (x : ℕ). bit_xor x d) (xor_comm b c) ∙ xor_assoc c b d)
    ∙ sym (xor_assoc a c (bit_xor b d))

pub lin_xor : (f g : ℕ → ℕ) → Lin f → Lin g → Lin (λ x. bit_xor (f x) (g x))
lin_xor f g lf lg a b = ap₂ bit_xor (lf a b) (lg a b) ∙ swap4 (f a) (f b) (g a) (g b)

pub lin_shr : (k : ℕ) → Lin (λ x. x / 2 ^ k)
lin_shr k a b = xor_shr a b k

pub lin_mod : (k : ℕ) → Lin (λ x. x % 2 ^ k)
lin_mod k a b = xor_mod a b k

pub lin_shl : (k : ℕ) → Lin (λ x. x * 2 ^ k)
lin_shl k a b =
    sym (add-zero (bit_xor a b * 2 ^ k)) ∙ sym (xor_block k a b 0 0 (pow_pos k) (pow_pos k))
    ∙ ap₂ bit_xor (add-zero (a * 2 ^ k)) (add-zero (b * 2 ^ k))

-- a mask
one : (x : ℕ) → x < 2 → min x 1 ≡ x
one zero h = refl
one (suc zero) h = refl
one (suc (suc x)) h = absurd (omega arith)

digit : (x y z : ℕ) → x < 2 → y < 2 → z < 2 → min (bit_xor x y) z ≡ bit_xor (min x z) (min y z)
digit x y zero hx hy hz = min-zero (bit_xor x y) ∙ sym (ap₂ bit_xor (min-zero x) (min-zero y))
digit x y (suc zero) hx hy hz = one (bit_xor x y) (xor_lt 1 x y hx hy) ∙ sym (ap₂ bit_xor (one x hx) (one y hy))
digit x y (suc (suc z)) hx hy hz = absurd (omega arith)

min_lt : (n m : ℕ) → min (n % 2) (m % 2) < 2
min_lt n m = lt_of_le_of_lt (min-le_left (n % 2) (m % 2)) (mod-lt n (zero-lt-suc 1))

pub and_xor : (m a b : ℕ) → bit_and (bit_xor a b) m ≡ bit_xor (bit_and a m) (bit_and b m)
and_xor m a b =
    bin_ind (λ (n : ℕ). (b m : ℕ) → bit_and (bit_xor n b) m ≡ bit_xor (bit_and n m) (bit_and b m)) (λ b m. refl)
    (λ n ih b m. and_step (bit_xor n b) m
    ∙ ap₂ (λ (p q : ℕ). bit_and p (m / 2) * 2 + min q (m % 2)) (xor_shr n b 1) (xor_mod n b 1)
    ∙ ap₂ (λ (p q : ℕ). p * 2 + q) (ih (b / 2) (m / 2))
    (digit (n % 2) (b % 2) (m % 2) (mod-lt n (zero-lt-suc 1)) (mod-lt b (zero-lt-suc 1)) (mod-lt m (zero-lt-suc 1)))
    ∙ sym (xor_block 1 (bit_and (n / 2) (m / 2)) (bit_and (b / 2) (m / 2)) (min (n % 2) (m % 2)) (min (b % 2) (m % 2)) (min_lt n m) (min_lt b m))
    ∙ sym (ap₂ bit_xor (and_step n m) (and_step b m))) a b m

pub lin_and : (m : ℕ) → Lin (λ x. bit_and x m)
lin_and m a b = and_xor m a b

-- ---- a permutation of bits

pub bit_lt : (w x i : ℕ) → bit w x i < 2
unfolding bit
bit_lt w x i = mod-lt (x / 2 ^ (w - i)) (zero-lt-suc 1)

pub lin_bit : (w i : ℕ) → Lin (λ x. bit w x i)
unfolding bit
lin_bit w i = lin_of (λ x. x % 2) (λ x. x / 2 ^ (w - i)) (lin_mod 1) (lin_shr (w - i))

pub permute_lt : (w : ℕ) (t : List ℕ) (x : ℕ) → permute w t x < 2 ^ length t
unfolding permute
permute_lt w [] x = zero-lt-suc 0
permute_lt w (i ∷ is) x =
    subst (λ (n : ℕ). bit w x i * 2 ^ length is + permute w is x < n) (sym (pow-suc 2 (length is)))
    (mul-add-lt (bit w x i) (2 ^ length is) (permute w is x) 2 (bit_lt w x i) (permute_lt w is x))

pub lin_permute : (w : ℕ) (t : List ℕ) → Lin (permute w t)
unfolding permute
lin_permute w [] a b = refl
lin_permute w (i ∷ is) a b =
    ap₂ (λ (p q : ℕ). p * 2 ^ length is + q) (lin_bit w i a b) (lin_permute w is a b)
    ∙ sym (xor_block (length is) (bit w a i) (bit w b i) (permute w is a) (permute w is b) (permute_lt w is a) (permute_lt w is b))

and_bit : (w i a b : ℕ) → bit w (bit_and a b) i ≡ bit_and (bit w a i) (bit w b i)
unfolding bit
and_bit w i a b = ap (λ (n : ℕ). n % 2) (and_shr a b (w - i)) ∙ and_mod (a / 2 ^ (w - i)) (b / 2 ^ (w - i)) 1

-- a permutation goes through a mask too
pub and_permute : (w : ℕ) (t : List ℕ) (a b : ℕ) → permute w t (bit_and a b) ≡ bit_and (permute w t a) (permute w t b)
unfolding permute
and_permute w [] a b = refl
and_permute w (i ∷ is) a b =
    ap₂ (λ (p q : ℕ). p * 2 ^ length is + q) (and_bit w i a b) (and_permute w is a b)
    ∙ sym (and_block (length is) (bit w a i) (bit w b i) (permute w is a) (permute w is b) (permute_lt w is a) (permute_lt w is b))

pub lin_spread : (t : List ℕ) → Lin (spread t)
unfolding spread
lin_spread [] a b = refl
lin_spread (p ∷ ps) a b =
    lin_xor (λ x. x % 2 * 2 ^ p) (λ x. spread ps (x / 2))
    (lin_of (λ x. x * 2 ^ p) (λ x. x % 2) (lin_shl p) (lin_mod 1)) (lin_of (spread ps) (λ x. x / 2) (lin_spread ps) (lin_shr 1)) a b

-- ---- an exchange of bits

lin_parted : (d m : ℕ) → Lin (parted d m)
unfolding parted
lin_parted d m =
    lin_of (λ x. bit_and x m) (λ x. bit_xor (x / 2 ^ d) x) (lin_and m) (lin_xor (λ x. x / 2 ^ d) (λ x. x) (lin_shr d) lin_id)

pub lin_exchange : (d m : ℕ) → Lin (exchange d m)
unfolding exchange
lin_exchange d m =
    lin_xor (λ x. bit_xor x (parted d m x)) (λ x. (parted d m x * 2 ^ d) % 2 ^ 64)
    (lin_xor (λ x. x) (parted d m) lin_id (lin_parted d m))
    (lin_of (λ x. x % 2 ^ 64) (λ x. parted d m x * 2 ^ d) (lin_mod 64)
    (lin_of (λ x. x * 2 ^ d) (parted d m) (lin_shl d) (lin_parted d m)))

-- exchanges one after the other, the first of the list first
unfoldable pub exchanges : List (ℕ × ℕ) → ℕ → ℕ
exchanges [] x = x
exchanges (s ∷ ss) x = exchanges ss (exchange s.0 s.1 x)

pub lin_exchanges : (ss : List (ℕ × ℕ)) → Lin (exchanges ss)
unfolding exchanges
lin_exchanges [] a b = refl
lin_exchanges (s ∷ ss) a b = lin_of (exchanges ss) (exchange s.0 s.1) (lin_exchanges ss) (lin_exchange s.0 s.1) a b
