-- An exchange of bits in a word of 64: each bit at a place of the mask m changes places with the bit d above it.
use Rattle.std.specs.Prelude.{ℕ, ◌*◌, ◌/◌, ◌%◌, ◌^◌, bit_and, bit_xor}

-- where the two bits of an exchange differ
unfoldable pub parted : ℕ → ℕ → ℕ → ℕ
parted d m x = bit_and (bit_xor (x / 2 ^ d) x) m

unfoldable pub exchange : ℕ → ℕ → ℕ → ℕ
exchange d m x = bit_xor (bit_xor x (parted d m x)) ((parted d m x * 2 ^ d) % 2 ^ 64)
