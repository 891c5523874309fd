-- Each cycle is undone, and so are any number of them.
use Rattle.std.specs.Prelude.{◌≡◌, refl, List, ℕ, zero, suc, ◌+◌, ◌-◌, ◌*◌, ◌/◌, ◌%◌, ◌^◌, ◌<◌, ◌≤◌}
use Rattle.std.proofs.Common.{sym, ap, ◌∙◌, add-one, arith}
use Rattle.std.specs.Int.Bits.{bit_xor}
use Rattle.std.proofs.lemmas.Nat.{xor_lt}
use Rattle.xtea.specs.Xtea.{plus, minus, mix, first_key, second_key, Halves, cycle, uncycle, cycles, uncycles}

minus_plus : (a b : ℕ) → a < 2 ^ 32 → b < 2 ^ 32 → minus (plus a b) b ≡ a
minus_plus a b p q = omega arith

plus_minus : (a b : ℕ) → a < 2 ^ 32 → b < 2 ^ 32 → plus (minus a b) b ≡ a
plus_minus a b p q = omega arith

mix_lt : (half key : ℕ) → key < 2 ^ 32 → mix half key < 2 ^ 32
mix_lt half key q = xor_lt 32 (plus (bit_xor (half * 2 ^ 4 % 2 ^ 32) (half / 2 ^ 5)) half) key (omega arith) q

-- ---- one cycle, whatever goes into the halves

abbrev pub Small : Halves → Type 0
Small h = (h.0 < 2 ^ 32) × (h.1 < 2 ^ 32)

abbrev Fits : (ℕ → ℕ) → Type 0
Fits f = (x : ℕ) → f x < 2 ^ 32

-- f of the second half is added to the first, then g of the first to the second; and what undoes it
abbrev forth : (ℕ → ℕ) → (ℕ → ℕ) → Halves → Halves
forth f g h = let left = plus h.0 (f h.1) in (left, plus h.1 (g left))

abbrev back : (ℕ → ℕ) → (ℕ → ℕ) → Halves → Halves
back f g h = let right = minus h.1 (g h.0) in (minus h.0 (f right), right)

forth_back : (f g : ℕ → ℕ) → Fits f → Fits g → (h : Halves) → Small h → back f g (forth f g h) ≡ h
forth_back f g p q h s =
    let left = plus h.0 (f h.1) in
    ap (λ (x : ℕ). (minus left (f x), x)) (minus_plus h.1 (g left) s.1 (q left))
    ∙ ap (λ (x : ℕ). (x, h.1)) (minus_plus h.0 (f h.1) s.0 (p h.1))

back_forth : (f g : ℕ → ℕ) → Fits f → Fits g → (h : Halves) → Small h → forth f g (back f g h) ≡ h
back_forth f g p q h s =
    let right = minus h.1 (g h.0) in
    ap (λ (x : ℕ). (x, plus right (g x))) (plus_minus h.0 (f right) s.0 (p right))
    ∙ ap (λ (x : ℕ). (h.0, x)) (plus_minus h.1 (g h.0) s.1 (q h.0))

-- ---- a cycle of the cipher

abbrev first : List ℕ → ℕ → ℕ → ℕ
first w n x = mix x (first_key w n)

abbrev second : List ℕ → ℕ → ℕ → ℕ
second w n x = mix x (second_key w n)

first_fits : (w : List ℕ) (n : ℕ) → Fits (first w n)
first_fits w n x = mix_lt x (first_key w n) (omega arith)

second_fits : (w : List ℕ) (n : ℕ) → Fits (second w n)
second_fits w n x = mix_lt x (second_key w n) (omega arith)

cycle_undone : (w : List ℕ) (n : ℕ) (h : Halves) → Small h → uncycle w n (cycle w n h) ≡ h
cycle_undone w n h s = forth_back (first w n) (second w n) (first_fits w n) (second_fits w n) h s

cycle_redone : (w : List ℕ) (n : ℕ) (h : Halves) → Small h → cycle w n (uncycle w n h) ≡ h
cycle_redone w n h s = back_forth (first w n) (second w n) (first_fits w n) (second_fits w n) h s

cycle_small : (w : List ℕ) (n : ℕ) (h : Halves) → Small (cycle w n h)
cycle_small w n h = (omega arith, omega arith)

uncycle_small : (w : List ℕ) (n : ℕ) (h : Halves) → Small (uncycle w n h)
uncycle_small w n h = (omega arith, omega arith)

-- ---- all of them

pub cycles_small : (w : List ℕ) (n : ℕ) (h : Halves) → Small h → Small (cycles w n h)
unfolding cycles
cycles_small w zero h s = s
cycles_small w (suc n) h s = cycle_small w n (cycles w n h)

pub uncycles_small : (w : List ℕ) (n : ℕ) (h : Halves) → Small h → Small (uncycles w n h)
unfolding uncycles
uncycles_small w zero h s = s
uncycles_small w (suc n) h s = uncycles_small w n (uncycle w n h) (uncycle_small w n h)

pub cycles_undone : (w : List ℕ) (n : ℕ) (h : Halves) → Small h → uncycles w n (cycles w n h) ≡ h
unfolding cycles uncycles
cycles_undone w zero h s = refl
cycles_undone w (suc n) h s = ap (uncycles w n) (cycle_undone w n (cycles w n h) (cycles_small w n h s)) ∙ cycles_undone w n h s

pub cycles_redone : (w : List ℕ) (n : ℕ) (h : Halves) → Small h → cycles w n (uncycles w n h) ≡ h
unfolding cycles uncycles
cycles_redone w zero h s = refl
cycles_redone w (suc n) h s = ap (cycle w n) (cycles_redone w n (uncycle w n h) (uncycle_small w n h)) ∙ cycle_redone w n h s

-- ---- the steps of the loops

pub cycles_none : (w : List ℕ) (h : Halves) → h ≡ cycles w 0 h
unfolding cycles
cycles_none w h = refl

pub cycles_more : (w : List ℕ) (n : ℕ) (h : Halves) → cycle w n (cycles w n h) ≡ cycles w (n + 1) h
unfolding cycles
cycles_more w n h = sym (ap (λ (m : ℕ). cycles w m h) (add-one n))

pub uncycles_more : (w : List ℕ) (n : ℕ) (h : Halves) → 0 < n → uncycles w (n - 1) (uncycle w (n - 1) h) ≡ uncycles w n h
unfolding uncycles
uncycles_more w n h l = let p : suc (n - 1) ≡ n = omega arith in ap (λ (m : ℕ). uncycles w m h) p

pub uncycles_none : (w : List ℕ) (n : ℕ) (h : Halves) → n ≤ 0 → uncycles w n h ≡ h
unfolding uncycles
uncycles_none w n h l = let p : n ≡ 0 = omega arith in ap (λ (m : ℕ). uncycles w m h) p
