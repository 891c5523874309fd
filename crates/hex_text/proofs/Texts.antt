-- Bytes as digits.
use Rattle.std.proofs.Common.{◌≡◌, ℕ, ◌/◌, ◌%◌, ◌<◌, ◌^◌, ◌-◌, ◌++◌, eqb, true, false, List, [], ◌∷◌, Some, slice_index, ap, ap₂, refl, ◌∙◌, arith}
use borrow.Author.Tests.{eqb-true}
use Rattle.std.specs.Option.{option_map}
use Rattle.std.specs.Fmt.{digit_glyph, radix_digits, digits_output, styled_digits_output, padded_integral, format_spec}
use Rattle.std.proofs.lemmas.Bool.{agree_below_at}
use Rattle.std.proofs.lemmas.Fmt.{hex_byte}
use Rattle.hex.specs.Hex.{encode_upper, encode_with, upper_digits}

glyph : (d : ℕ) → d < 16 → digit_glyph true d ≡ slice_index upper_digits d
glyph d small = eqb-true _ _ (agree_below_at (λ y. eqb (digit_glyph true y) (slice_index upper_digits y)) (λ _. true) 16 d refl small)

-- the digits of bytes and one more
pub digits_more : (bytes : List ℕ) (byte : ℕ) → encode_upper (bytes ++ (byte ∷ [])) ≡ encode_upper bytes ++ encode_upper (byte ∷ [])
unfolding encode_with
digits_more [] byte = refl
digits_more (b ∷ bytes) byte = ap (λ (rest : List ℕ). slice_index upper_digits (b / 16) ∷ slice_index upper_digits (b % 16) ∷ rest) (digits_more bytes byte)

-- what `{:02X}` writes of a byte
pub byte_output : (b : ℕ) (d : _) (s : _) → b < 256 → digits_output d ≡ Some (radix_digits 16 true b) → s ≡ format_spec 32 0 4 2 (2 ^ 64 - 1)
    → styled_digits_output d s ≡ Some (encode_upper (b ∷ []))
unfolding encode_with
byte_output b d s small is wide =
    ap (styled_digits_output d) wide
    ∙ ap (option_map (padded_integral (format_spec 32 0 4 2 (2 ^ 64 - 1)) false [])) is
    ∙ ap Some (hex_byte true b small ∙ ap₂ (λ (x y : ℕ). x ∷ y ∷ []) (glyph (b / 16) (omega arith)) (glyph (b % 16) (omega arith)))
