-- The cipher function as the program works it out: one table for a selection function with P behind it, and E as two words.
use Rattle.std.specs.Prelude.{ℕ, ◌-◌, ◌*◌, ◌/◌, ◌%◌, ◌^◌, List, [], ◌∷◌, bit_xor, slice_index_or}
use Rattle.bits.specs.Permute.{permute}
use Rattle.tripledes.specs.Des.{box}
use Rattle.tripledes.specs.Tables.{P, BOXES}

-- what S1 to S8 (s from 0) gives for the six bits g, in its place among the eight, put through P
unfoldable pub boxed : ℕ → ℕ → ℕ
boxed s g = permute 32 P (box (slice_index_or BOXES s []) g * 2 ^ (28 - 4 * s))

-- bits 32 and 1 to 31 of r: the first six of each byte are what E selects for S1, S3, S5 and S7
unfoldable pub odds : ℕ → ℕ
odds r = bit_xor (r / 2 ^ 1) ((r * 2 ^ 31) % 2 ^ 32)

-- bits 4 to 32 and 1 to 3 of r: the first six of each byte are what E selects for S2, S4, S6 and S8
unfoldable pub evens : ℕ → ℕ
evens r = bit_xor ((r * 2 ^ 3) % 2 ^ 32) (r / 2 ^ 29)

-- where a word of 64 bits holds the 48 bits of a round key: the six bits of a selection function begin a byte, those of S1, S3, S5, S7
-- in the higher half and those of S2, S4, S6, S8 in the lower; the other bits are not used
unfoldable pub PLACES : List ℕ
PLACES =
    1 ∷ 2 ∷ 3 ∷ 4 ∷ 5 ∷ 6 ∷
    33 ∷ 34 ∷ 35 ∷ 36 ∷ 37 ∷ 38 ∷
    9 ∷ 10 ∷ 11 ∷ 12 ∷ 13 ∷ 14 ∷
    41 ∷ 42 ∷ 43 ∷ 44 ∷ 45 ∷ 46 ∷
    17 ∷ 18 ∷ 19 ∷ 20 ∷ 21 ∷ 22 ∷
    49 ∷ 50 ∷ 51 ∷ 52 ∷ 53 ∷ 54 ∷
    25 ∷ 26 ∷ 27 ∷ 28 ∷ 29 ∷ 30 ∷
    57 ∷ 58 ∷ 59 ∷ 60 ∷ 61 ∷ 62 ∷ []

-- the round key that a word holds
unfoldable pub held : ℕ → ℕ
held w = permute 64 PLACES w
