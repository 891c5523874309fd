-- Whole runs of rounds, and what undoes them.
use Rattle.std.specs.Prelude.{◌≡◌, ℕ, zero, suc, ◌+◌, ◌*◌, ◌/◌, ◌^◌, ◌<◌, ◌≤◌, List, [], ◌∷◌, bit_xor, refl}
use Rattle.std.proofs.Common.{sym, ap, subst, ◌∙◌, mod-lt, arith, pow_pos, shr_lt}
use Rattle.std.proofs.lemmas.Nat.{xor_lt}
use Rattle.std.specs.Int.Bits.{xor_assoc, xor_self, xor_zero_r}
use Rattle.present.specs.Present.{s_box_layer, inv_s_box_layer, p_layer, inv_p_layer, rotated, boxed, counted, update, round_keys, rounds, inv_rounds, present, inv_present}
use Rattle.present.specs.Steps.{later_keys, run, run_back}
use Rattle.present.specs.Boxes.{p_lt, inv_p_lt, s_lt, inv_s_lt, s_undone, s_redone, p_undone, p_redone, two_lt}

-- round keys of 64 bits
abbrev Words : List ℕ → Type 0
Words [] = Unit {0}
Words (k ∷ ks) = (k < 2 ^ 64) × Words ks

twice : (a b : ℕ) → bit_xor (bit_xor a b) b ≡ a
twice a b = xor_assoc a b b ∙ ap (bit_xor a) (xor_self b) ∙ xor_zero_r a

-- ---- bounds

run_lt : (ks : List ℕ) → Words ks → (x : ℕ) → x < 2 ^ 64 → run ks x < 2 ^ 64
unfolding run
run_lt [] w x h = h
run_lt (k ∷ ks) w x h = run_lt ks w.1 (bit_xor (p_layer (s_box_layer x)) k) (xor_lt 64 (p_layer (s_box_layer x)) k (p_lt (s_box_layer x)) w.0)

run_back_lt : (ks : List ℕ) (x : ℕ) → x < 2 ^ 64 → run_back ks x < 2 ^ 64
unfolding run_back
run_back_lt [] x h = h
run_back_lt (k ∷ ks) x h = inv_s_lt (inv_p_layer (bit_xor (run_back ks x) k))

-- ---- each direction undoes the other

run_undone : (ks : List ℕ) → Words ks → (x : ℕ) → x < 2 ^ 64 → run_back ks (run ks x) ≡ x
unfolding run run_back
run_undone [] w x h = refl
run_undone (k ∷ ks) w x h =
    let y : ℕ = p_layer (s_box_layer x) in
    ap (λ (n : ℕ). inv_s_box_layer (inv_p_layer (bit_xor n k))) (run_undone ks w.1 (bit_xor y k) (xor_lt 64 y k (p_lt (s_box_layer x)) w.0))
    ∙ ap (λ (n : ℕ). inv_s_box_layer (inv_p_layer n)) (twice y k)
    ∙ ap inv_s_box_layer (p_undone (s_box_layer x) (s_lt x))
    ∙ s_undone x h

run_redone : (ks : List ℕ) → Words ks → (x : ℕ) → x < 2 ^ 64 → run ks (run_back ks x) ≡ x
unfolding run run_back
run_redone [] w x h = refl
run_redone (k ∷ ks) w x h =
    let y : ℕ = bit_xor (run_back ks x) k in
    let hy = xor_lt 64 (run_back ks x) k (run_back_lt ks x h) w.0 in
    ap (λ (n : ℕ). run ks (bit_xor (p_layer n) k)) (s_redone (inv_p_layer y) (inv_p_lt y))
    ∙ ap (λ (n : ℕ). run ks (bit_xor n k)) (p_redone y hy)
    ∙ ap (run ks) (twice (run_back ks x) k)
    ∙ run_redone ks w.1 x h

-- ---- the round keys

pub boxed_lt : (k : ℕ) → boxed k < 2 ^ 128
unfolding boxed
boxed_lt k =
    let l = two_lt (k / 2 ^ 120) in
    let m = mod-lt k (pow_pos 120) in
    omega arith

update_lt : (i k : ℕ) → i < 64 → update i k < 2 ^ 128
unfolding update counted
update_lt i k h = xor_lt 128 (boxed (rotated k)) (i * 2 ^ 62) (boxed_lt (rotated k)) (omega arith)

later_words : (n i k : ℕ) → i + n ≤ 64 → Words (later_keys n i k)
unfolding later_keys
later_words zero i k h = tt
later_words (suc n) i k h = (shr_lt 64 64 (update_lt i k (omega arith)), later_words n (suc i) (update i k) (omega arith))

-- ---- the definition's order

pub rounds_are : (k : ℕ) (ks : List ℕ) (x : ℕ) → rounds (k ∷ ks) x ≡ run ks (bit_xor x k)
unfolding rounds run
rounds_are k [] x = refl
rounds_are k (j ∷ ks) x = rounds_are j ks (p_layer (s_box_layer (bit_xor x k)))

pub inv_rounds_are : (k : ℕ) (ks : List ℕ) (x : ℕ) → inv_rounds (k ∷ ks) x ≡ bit_xor (run_back ks x) k
unfolding inv_rounds run_back
inv_rounds_are k [] x = refl
inv_rounds_are k (j ∷ ks) x = ap (λ (n : ℕ). bit_xor (inv_s_box_layer (inv_p_layer n)) k) (inv_rounds_are j ks x)

pub keys_are : (n i k : ℕ) → round_keys n i k ≡ k / 2 ^ 64 ∷ later_keys n i k
unfolding round_keys later_keys
keys_are zero i k = refl
keys_are (suc n) i k = ap (λ (l : List ℕ). k / 2 ^ 64 ∷ l) (keys_are n (suc i) (update i k))

present_is : (k x : ℕ) → present k x ≡ run (later_keys 31 1 k) (bit_xor x (k / 2 ^ 64))
unfolding present
present_is k x = ap (λ (l : List ℕ). rounds l x) (keys_are 31 1 k) ∙ rounds_are (k / 2 ^ 64) (later_keys 31 1 k) x

inv_present_is : (k x : ℕ) → inv_present k x ≡ bit_xor (run_back (later_keys 31 1 k) x) (k / 2 ^ 64)
unfolding inv_present
inv_present_is k x = ap (λ (l : List ℕ). inv_rounds l x) (keys_are 31 1 k) ∙ inv_rounds_are (k / 2 ^ 64) (later_keys 31 1 k) x

-- ---- the whole cipher

words : (k : ℕ) → Words (later_keys 31 1 k)
words k = later_words 31 1 k (omega arith)

pub present_lt : (k x : ℕ) → k < 2 ^ 128 → x < 2 ^ 64 → present k x < 2 ^ 64
present_lt k x hk hx =
    subst (λ (n : ℕ). n < 2 ^ 64) (sym (present_is k x))
    (run_lt (later_keys 31 1 k) (words k) (bit_xor x (k / 2 ^ 64)) (xor_lt 64 x (k / 2 ^ 64) hx (shr_lt 64 64 hk)))

pub inv_present_lt : (k x : ℕ) → k < 2 ^ 128 → x < 2 ^ 64 → inv_present k x < 2 ^ 64
inv_present_lt k x hk hx =
    subst (λ (n : ℕ). n < 2 ^ 64) (sym (inv_present_is k x))
    (xor_lt 64 (run_back (later_keys 31 1 k) x) (k / 2 ^ 64) (run_back_lt (later_keys 31 1 k) x hx) (shr_lt 64 64 hk))

pub present_undone : (k x : ℕ) → k < 2 ^ 128 → x < 2 ^ 64 → inv_present k (present k x) ≡ x
present_undone k x hk hx =
    inv_present_is k (present k x)
    ∙ ap (λ (n : ℕ). bit_xor (run_back (later_keys 31 1 k) n) (k / 2 ^ 64)) (present_is k x)
    ∙ ap (λ (n : ℕ). bit_xor n (k / 2 ^ 64))
    (run_undone (later_keys 31 1 k) (words k) (bit_xor x (k / 2 ^ 64)) (xor_lt 64 x (k / 2 ^ 64) hx (shr_lt 64 64 hk)))
    ∙ twice x (k / 2 ^ 64)

pub present_redone : (k x : ℕ) → x < 2 ^ 64 → present k (inv_present k x) ≡ x
present_redone k x hx =
    present_is k (inv_present k x)
    ∙ ap (λ (n : ℕ). run (later_keys 31 1 k) (bit_xor n (k / 2 ^ 64))) (inv_present_is k x)
    ∙ ap (run (later_keys 31 1 k)) (twice (run_back (later_keys 31 1 k) x) (k / 2 ^ 64))
    ∙ run_redone (later_keys 31 1 k) (words k) x hx
