-- From blocks to halves and back.
use Rattle.std.specs.Prelude.{◌≡◌, List, ℕ, ◌+◌, ◌*◌, ◌/◌, ◌%◌, ◌^◌}
use Rattle.std.proofs.Common.{ap, ap₂, ◌∙◌, arith}
use Rattle.cipher.specs.Blocks.{Bytes}
use Rattle.bits.specs.Octets.{value, octets}
use Rattle.bits.proofs.Octets.{length_octets, octets_small, value_below, octets_back, value_back}
use Rattle.xtea.specs.Xtea.{Halves, halves, joined}
use Rattle.xtea.specs.Cycles.{Small}

halves_small : (b : List ℕ) → Bytes 8 b → Small (halves b)
halves_small b h =
    let v = value_below 8 b h.long h.small in
    (omega arith, omega arith)

halves_joined : (h : Halves) → Small h → halves (joined h) ≡ h
halves_joined h s =
    let v : value (joined h) ≡ h.0 * 2 ^ 32 + h.1 = value_back (h.0 * 2 ^ 32 + h.1) (omega arith) in
    ap (λ (x : ℕ). (x / 2 ^ 32, x % 2 ^ 32)) v
    ∙ ap₂ (λ (x y : ℕ). (x, y)) (omega arith) (omega arith)

joined_halves : (b : List ℕ) → Bytes 8 b → joined (halves b) ≡ b
joined_halves b h =
    let v : value b / 2 ^ 32 * 2 ^ 32 + value b % 2 ^ 32 ≡ value b = omega arith in
    ap (octets 8) v ∙ octets_back 8 b h.long h.small

pub bytes_joined : (h : Halves) → Bytes 8 (joined h)
bytes_joined h = record { long = length_octets 8 (h.0 * 2 ^ 32 + h.1); small = octets_small 8 (h.0 * 2 ^ 32 + h.1) }

-- what undoes something on halves undoes it on blocks
pub over_blocks : (f g : Halves → Halves) → ((h : Halves) → Small h → Small (f h)) → ((h : Halves) → Small h → g (f h) ≡ h)
    → (b : List ℕ) → Bytes 8 b → joined (g (halves (joined (f (halves b))))) ≡ b
over_blocks f g small back b h =
    let s = halves_small b h in
    ap (λ (x : Halves). joined (g x)) (halves_joined (f (halves b)) (small (halves b) s))
    ∙ ap joined (back (halves b) s)
    ∙ joined_halves b h
