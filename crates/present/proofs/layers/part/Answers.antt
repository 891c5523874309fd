-- The table is the list of what the two layers make of a byte: antt works out all 256 numbers.
use Rattle.std.proofs.Common.{◌≡◌, ℕ, ◌*◌, ◌/◌, ◌%◌, ◌^◌, ◌<◌, ap, ◌∙◌, arith}
use lib.Bits.{bit_and, and_mask}
use Rattle.std.proofs.lemmas.List.FromFn.{get_or-map-range_with_len}
use Rattle.bits.specs.Permute.{spread}
use Rattle.present.specs.Present.{replaced, p_layer}
use Rattle.present.specs.Steps.{piece}
use Rattle.present.specs.Tables.{SBOX, P}
use Rattle.present.specs.Boxes.{two_lt}
use Rattle.present.proofs.Parts.{carried}
use Rattle.present.proofs.layers.part.Goals as goal

entry : ℕ → ℕ
entry b = p_layer (replaced 16 SBOX 2 b)

pub returns : goal.returns
unfolding entry piece p_layer spread replaced SBOX P
returns c =
    let b : ℕ = bit_and (c.args.x / 2 ^ (8 * c.args.s)) 255 in
    let m : bit_and (c.args.x / 2 ^ (8 * c.args.s)) 255 ≡ c.args.x / 2 ^ (8 * c.args.s) % 256 = and_mask (c.args.x / 2 ^ (8 * c.args.s)) 8 in
    let h : bit_and (c.args.x / 2 ^ (8 * c.args.s)) 255 < 256 = omega (arith, m) in
    ap (λ (n : ℕ). (n * 2 ^ (2 * c.args.s)) % 2 ^ 64) (get_or-map-range_with_len entry 0 256 b b 0 h (omega arith))
    ∙ carried c.args.s (replaced 16 SBOX 2 b) c.requires (two_lt b)
    ∙ ap (λ (n : ℕ). p_layer (replaced 16 SBOX 2 n * 2 ^ (8 * c.args.s))) m
