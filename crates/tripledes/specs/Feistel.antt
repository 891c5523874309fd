-- The rounds run backwards by the same keys in the other order, and three passes in a row make the permutations once.
use Rattle.std.specs.Prelude.{◌≡◌, ℕ, ◌+◌, ◌*◌, ◌/◌, ◌%◌, ◌^◌, ◌<◌, List, [], ◌∷◌, ◌++◌, reverse, bit_xor, refl}
use Rattle.std.proofs.Common.{sym, ap, ap₂, ◌∙◌, mod-lt, arith, pow_pos, shr_lt}
use mathlib.Core.List.{reverse-cons, reverse-reverse}
use Rattle.std.specs.Int.Bits.{xor_assoc, xor_self, xor_zero_r}
use Rattle.std.proofs.lemmas.Nat.{xor_lt}
use Rattle.std.proofs.Math.Pow.{split, high, low}
use Rattle.bits.specs.Permute.{permute}
use Rattle.bits.proofs.Linear.{permute_lt}
use Rattle.tripledes.specs.Tables.{IP, FP, P}
use Rattle.tripledes.specs.Des.{f, rounds, crypt}
use Rattle.tripledes.specs.Laws.{Backwards}
use Rattle.tripledes.specs.Perms.{ip_fp, fp_ip}

-- ---- over the two halves

abbrev Halves : Type 0
Halves = ℕ × ℕ

abbrev other : Halves → Halves
other s = (s.1, s.0)

abbrev step : ℕ → Halves → Halves
step k s = (s.1, bit_xor s.0 (f s.1 k))

run : List ℕ → Halves → Halves
run [] s = s
run (k ∷ ks) s = run ks (step k s)

joined : Halves → ℕ
joined s = s.1 * 2 ^ 32 + s.0

rounds_run : (ks : List ℕ) (l r : ℕ) → rounds ks l r ≡ joined (run ks (l, r))
unfolding rounds run joined
rounds_run [] l r = refl
rounds_run (k ∷ ks) l r = rounds_run ks r (bit_xor l (f r k))

run_append : (js ks : List ℕ) (s : Halves) → run (js ++ ks) s ≡ run ks (run js s)
unfolding run
run_append [] ks s = refl
run_append (j ∷ js) ks s = run_append js ks (step j s)

twice : (a b : ℕ) → bit_xor (bit_xor a b) b ≡ a
twice a b = xor_assoc a b b ∙ ap (bit_xor a) (xor_self b) ∙ xor_zero_r a

undone : (k : ℕ) (s : Halves) → step k (other (step k s)) ≡ other s
undone k s = ap (λ (n : ℕ). (s.1, n)) (twice s.0 (f s.1 k))

backwards : (ks : List ℕ) (s : Halves) → run (reverse ks) (other (run ks s)) ≡ other s
unfolding run
backwards [] s = refl
backwards (k ∷ ks) s =
    ap (λ (l : List ℕ). run l (other (run ks (step k s)))) (reverse-cons k ks)
    ∙ run_append (reverse ks) (k ∷ []) (other (run ks (step k s)))
    ∙ ap (step k) (backwards ks (step k s))
    ∙ undone k s

-- ---- the halves stay halves

abbrev Small : Halves → Type 0
Small s = (s.0 < 2 ^ 32) × (s.1 < 2 ^ 32)

f_lt : (r k : ℕ) → f r k < 2 ^ 32
unfolding f P
f_lt r k = permute_lt 32 P _

run_small : (ks : List ℕ) (s : Halves) → Small s → Small (run ks s)
unfolding run
run_small [] s h = h
run_small (k ∷ ks) s h = run_small ks (step k s) (h.1, xor_lt 32 s.0 (f s.1 k) h.0 (f_lt s.1 k))

joined_lt : (s : Halves) → Small s → joined s < 2 ^ 64
unfolding joined
joined_lt s h = omega arith

start : ℕ → Halves
start y = (y / 2 ^ 32, y % 2 ^ 32)

start_small : (y : ℕ) → y < 2 ^ 64 → Small (start y)
unfolding start
start_small y h = (shr_lt 32 32 h, mod-lt y (pow_pos 32))

start_joined : (s : Halves) → Small s → start (joined s) ≡ other s
unfolding start joined
start_joined s h = ap₂ (λ (p q : ℕ). (p, q)) (high s.1 32 h.0) (low s.1 32 h.0)

joined_start : (y : ℕ) → joined (other (start y)) ≡ y
unfolding start joined
joined_start y = split y 32

ip_lt : (x : ℕ) → permute 64 IP x < 2 ^ 64
unfolding IP
ip_lt x = permute_lt 64 IP x

pub crypt_lt : (ks : List ℕ) (x : ℕ) → crypt ks x < 2 ^ 64
unfolding crypt FP
crypt_lt ks x = permute_lt 64 FP _

-- ---- a pass: what stands between the two permutations

abbrev pub passed : List ℕ → ℕ → ℕ
passed ks y = rounds ks (y / 2 ^ 32) (y % 2 ^ 32)

passed_run : (ks : List ℕ) (y : ℕ) → passed ks y ≡ joined (run ks (start y))
unfolding start
passed_run ks y = rounds_run ks (y / 2 ^ 32) (y % 2 ^ 32)

passed_lt : (ks : List ℕ) (y : ℕ) → y < 2 ^ 64 → passed ks y < 2 ^ 64
passed_lt ks y h = let b = joined_lt (run ks (start y)) (run_small ks (start y) (start_small y h)) in omega (arith, passed_run ks y)

passed_back : (ks : List ℕ) (y : ℕ) → y < 2 ^ 64 → passed (reverse ks) (passed ks y) ≡ y
passed_back ks y h =
    let small = run_small ks (start y) (start_small y h) in
    ap (passed (reverse ks)) (passed_run ks y)
    ∙ passed_run (reverse ks) (joined (run ks (start y)))
    ∙ ap (λ (t : Halves). joined (run (reverse ks) t)) (start_joined (run ks (start y)) small)
    ∙ ap joined (backwards ks (start y))
    ∙ joined_start y

-- a pass behind another needs no permutation between them
pub joins : (ks : List ℕ) (y : ℕ) → y < 2 ^ 64 → crypt ks (permute 64 FP y) ≡ permute 64 FP (passed ks y)
unfolding crypt
joins ks y h = ap (λ (z : ℕ). permute 64 FP (passed ks z)) (ip_fp y h)

pub thrice : (js ks ls : List ℕ) (x : ℕ) → crypt ls (crypt ks (crypt js x)) ≡ permute 64 FP (passed ls (passed ks (passed js (permute 64 IP x))))
unfolding crypt
thrice js ks ls x =
    let y : ℕ = passed js (permute 64 IP x) in
    let h = passed_lt js (permute 64 IP x) (ip_lt x) in
    ap (crypt ls) (joins ks y h) ∙ joins ls (passed ks y) (passed_lt ks y h)

pub undoes : Backwards
unfolding crypt
undoes ks x h =
    let y : ℕ = permute 64 IP x in
    joins (reverse ks) (passed ks y) (passed_lt ks y (ip_lt x))
    ∙ ap (permute 64 FP) (passed_back ks y (ip_lt x))
    ∙ fp_ip x h

-- the other way about
pub redoes : (ks : List ℕ) (x : ℕ) → x < 2 ^ 64 → crypt ks (crypt (reverse ks) x) ≡ x
redoes ks x h = ap (λ (l : List ℕ). crypt l (crypt (reverse ks) x)) (sym (reverse-reverse ks)) ∙ undoes (reverse ks) x h
