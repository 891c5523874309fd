use Rattle.std.proofs.Common.{◌≡◌, ℕ, ◌^◌, ◌<◌, ◌/◌, ◌%◌, map, get_or, sym, ap, ap₂, ◌∙◌, arith, lit<, rules}
use lib.Bits.{bit_and, and_mask, and_le_r}
use Rattle.bits.specs.Permute.{permute}
use Rattle.bits.proofs.Linear.{permute_lt}
use Rattle.std.proofs.lemmas.List.{ext_get_or, get_or-map, length-map}
use Rattle.tripledes.specs.Des.{round_keys, schedule}
use Rattle.tripledes.specs.Round.{held}
use Rattle.tripledes.specs.Tables.{PC1, SHIFTS}
use Rattle.tripledes.proofs.Keys.{TOTALS, at_each, made, keys_made}
use Rattle.tripledes.proofs.schedule.round_keys.Goals as goal

-- the halves of what permuted choice 1 gives
halves : (key cd : ℕ) → cd ≡ permute 64 PC1 key → (cd / 2 ^ 28 < 2 ^ 28) × (bit_and cd 0xfffffff < 2 ^ 28)
unfolding PC1
halves key cd e = let b = permute_lt 64 PC1 key in let l = and_le_r cd 0xfffffff in (omega arith, omega arith)

pub from_fn-requires : goal.from_fn-requires
unfolding TOTALS
from_fn-requires c =
    let b = halves c.args.key c.choice_one-cd.result c.choice_one-cd.ensures in
    (lit< tt, at_each (λ i q k. search rules) (λ i h w. search rules))

pub returns : goal.returns
unfolding round_keys TOTALS
returns c =
    let cd : ℕ = c.choice_one-cd.result in
    let e : c.choice_one-cd.result ≡ permute 64 PC1 c.args.key = c.choice_one-cd.ensures in
    let b = halves c.args.key cd e in
    let g : ℕ → ℕ = made (cd / 2 ^ 28) (bit_and cd 0xfffffff) in
    let long = length-map c.from_fn.result held ∙ c.from_fn.ensures.items.long in
    ext_get_or 0 (map held c.from_fn.result) (map g TOTALS) long
    (λ i h.
    let l : i < 16 = omega (arith, long) in
    let one = c.from_fn.ensures.items.at i 0 l in
    let here : held (get_or c.from_fn.result i 0) ≡ made (c.choice_one-cd.result / 2 ^ 28) (bit_and c.choice_one-cd.result 0xfffffff) (get_or TOTALS i 0) = search (rules, one) in
    get_or-map held c.from_fn.result i 0 0 (omega arith) ∙ here ∙ sym (get_or-map g TOTALS i 0 0 l))
    ∙ sym (keys_made (cd / 2 ^ 28) (bit_and cd 0xfffffff) b.0 b.1)
    ∙ ap₂ (schedule SHIFTS) (ap (λ (n : ℕ). n / 2 ^ 28) e) (and_mask cd 28 ∙ ap (λ (n : ℕ). n % 2 ^ 28) e)
