-- The rounds as folds over the round keys.
use Rattle.std.proofs.Common.{◌≡◌, ℕ, List, [], ◌∷◌, reverse, fold, refl, ap, ◌∙◌}
use mathlib.Core.List.{reverse-cons}
use lib.Bits.{bit_xor}
use Rattle.std.proofs.lemmas.List.Sums.{fold_push}
use Rattle.present.specs.Present.{s_box_layer, inv_s_box_layer, p_layer, inv_p_layer}
use Rattle.present.specs.Steps.{run, run_back}

abbrev pub round : ℕ → ℕ → ℕ
round y k = bit_xor (p_layer (s_box_layer y)) k

abbrev pub back : ℕ → ℕ → ℕ
back y k = inv_s_box_layer (inv_p_layer (bit_xor y k))

pub run_is : (ks : List ℕ) (x : ℕ) → fold round x ks ≡ run ks x
unfolding run
run_is [] x = refl
run_is (k ∷ ks) x = run_is ks (round x k)

pub run_back_is : (ks : List ℕ) (x : ℕ) → fold back x (reverse ks) ≡ run_back ks x
unfolding run_back
run_back_is [] x = refl
run_back_is (k ∷ ks) x =
    ap (fold back x) (reverse-cons k ks)
    ∙ fold_push back x (reverse ks) k
    ∙ ap (λ (y : ℕ). back y k) (run_back_is ks x)
