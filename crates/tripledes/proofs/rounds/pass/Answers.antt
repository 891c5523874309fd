use Rattle.std.proofs.Common.{◌≡◌, ℕ, ◌+◌, ◌/◌, ◌^◌, ◌<◌, List, [], map, length, drop, sym, ap, ◌∙◌, ap₂, add-one, arith, drop-cons}
use lib.Bits.{bit_xor, xor_lt, and_mask}
use lib.Seq.{drop-length}
use Rattle.std.proofs.lemmas.Nat.{shl_whole}
use Rattle.tripledes.specs.Des.{rounds}
use Rattle.tripledes.specs.Round.{held}
use Rattle.tripledes.proofs.rounds.pass.Goals as goal

pub loop-key-preserved : goal.loop-key-preserved
unfolding rounds
loop-key-preserved c =
    let ks : List ℕ = c.args.keys.now in
    let l : ℕ = c.loop-key.left in
    let r : ℕ = c.loop-key.right in
    let h : c.loop-key.key-index < length c.args.keys.now = omega arith in (
      ap₂ (λ (n z : ℕ). rounds (map held (drop n ks)) r (bit_xor l z)) (add-one c.loop-key.key-index) c.mixed.ensures
          ∙ sym (ap (λ (t : List ℕ). rounds (map held t) l r) (drop-cons ks c.loop-key.key-index 0 h))
          ∙ c.loop-key.invariant.0,
      c.loop-key.invariant.2,
      xor_lt 32 l c.mixed.result c.loop-key.invariant.1 c.mixed.type_inv,
    )

pub returns : goal.returns
unfolding rounds
returns c =
    let ks : List ℕ = c.args.keys.now in
    let l : ℕ = c.loop-key.left in
    let r : ℕ = c.loop-key.right in
    let e : c.loop-key.key-index ≡ length c.args.keys.now = omega arith in
    let d : drop c.loop-key.key-index c.args.keys.now ≡ [] = ap (λ (n : ℕ). drop n ks) e ∙ drop-length ks in
    ap (λ (n : ℕ). n + l) (shl_whole r 32 32 64 c.loop-key.invariant.2 (omega arith))
    ∙ sym (ap (λ (t : List ℕ). rounds (map held t) l r) d)
    ∙ c.loop-key.invariant.0
    ∙ ap (rounds (map held ks) (c.args.block / 2 ^ 32)) (and_mask c.args.block 32)
