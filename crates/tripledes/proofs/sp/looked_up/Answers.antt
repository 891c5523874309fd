-- The table is the list of what the selection functions give: antt works out all 512 numbers.
use Rattle.std.proofs.Common.{◌≡◌, ℕ, ◌+◌, ◌*◌, ◌/◌, ◌%◌, ◌<◌, ◌∙◌, ap₂, arith}
use Rattle.std.proofs.lemmas.List.FromFn.{get_or-map-range_with_len}
use Rattle.bits.specs.Permute.{bit, permute}
use Rattle.tripledes.specs.Des.{box}
use Rattle.tripledes.specs.Round.{boxed}
use Rattle.tripledes.specs.Tables.{P, BOXES, S1, S2, S3, S4, S5, S6, S7, S8}
use Rattle.tripledes.proofs.sp.looked_up.Goals as goal

entry : ℕ → ℕ
entry k = boxed (k / 64) (k % 64)

pub returns : goal.returns
unfolding entry boxed bit permute box P BOXES S1 S2 S3 S4 S5 S6 S7 S8
returns c =
    let k : ℕ = 64 * c.args.s + c.args.g in
    let h : 64 * c.args.s + c.args.g < 512 = omega arith in
    let d : (64 * c.args.s + c.args.g) / 64 ≡ c.args.s = omega arith in
    let m : (64 * c.args.s + c.args.g) % 64 ≡ c.args.g = omega arith in
    get_or-map-range_with_len entry 0 512 k k 0 h (omega arith) ∙ ap₂ boxed d m
