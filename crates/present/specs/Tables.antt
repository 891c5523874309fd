-- The tables of PRESENT as printed, and their inverses. Bits are counted from 0, the lowest.
use Rattle.std.specs.Prelude.{ℕ, List, [], ◌∷◌}

-- the S-box: what stands at the place of a nibble replaces it
unfoldable pub SBOX : List ℕ
SBOX = 0xC ∷ 0x5 ∷ 0x6 ∷ 0xB ∷ 0x9 ∷ 0x0 ∷ 0xA ∷ 0xD ∷ 0x3 ∷ 0xE ∷ 0xF ∷ 0x8 ∷ 0x4 ∷ 0x7 ∷ 0x1 ∷ 0x2 ∷ []

unfoldable pub INVSBOX : List ℕ
INVSBOX = 0x5 ∷ 0xE ∷ 0xF ∷ 0x8 ∷ 0xC ∷ 0x1 ∷ 0x2 ∷ 0xD ∷ 0xB ∷ 0x4 ∷ 0x6 ∷ 0x3 ∷ 0x0 ∷ 0x7 ∷ 0x9 ∷ 0xA ∷ []

-- bit i of the state moves to P(i), the i-th number: 16 i modulo 63, and bit 63 stays
unfoldable pub P : List ℕ
P =
    0 ∷ 16 ∷ 32 ∷ 48 ∷ 1 ∷ 17 ∷ 33 ∷ 49 ∷ 2 ∷ 18 ∷ 34 ∷ 50 ∷ 3 ∷ 19 ∷ 35 ∷ 51 ∷
    4 ∷ 20 ∷ 36 ∷ 52 ∷ 5 ∷ 21 ∷ 37 ∷ 53 ∷ 6 ∷ 22 ∷ 38 ∷ 54 ∷ 7 ∷ 23 ∷ 39 ∷ 55 ∷
    8 ∷ 24 ∷ 40 ∷ 56 ∷ 9 ∷ 25 ∷ 41 ∷ 57 ∷ 10 ∷ 26 ∷ 42 ∷ 58 ∷ 11 ∷ 27 ∷ 43 ∷ 59 ∷
    12 ∷ 28 ∷ 44 ∷ 60 ∷ 13 ∷ 29 ∷ 45 ∷ 61 ∷ 14 ∷ 30 ∷ 46 ∷ 62 ∷ 15 ∷ 31 ∷ 47 ∷ 63 ∷ []

unfoldable pub INVP : List ℕ
INVP =
    0 ∷ 4 ∷ 8 ∷ 12 ∷ 16 ∷ 20 ∷ 24 ∷ 28 ∷ 32 ∷ 36 ∷ 40 ∷ 44 ∷ 48 ∷ 52 ∷ 56 ∷ 60 ∷
    1 ∷ 5 ∷ 9 ∷ 13 ∷ 17 ∷ 21 ∷ 25 ∷ 29 ∷ 33 ∷ 37 ∷ 41 ∷ 45 ∷ 49 ∷ 53 ∷ 57 ∷ 61 ∷
    2 ∷ 6 ∷ 10 ∷ 14 ∷ 18 ∷ 22 ∷ 26 ∷ 30 ∷ 34 ∷ 38 ∷ 42 ∷ 46 ∷ 50 ∷ 54 ∷ 58 ∷ 62 ∷
    3 ∷ 7 ∷ 11 ∷ 15 ∷ 19 ∷ 23 ∷ 27 ∷ 31 ∷ 35 ∷ 39 ∷ 43 ∷ 47 ∷ 51 ∷ 55 ∷ 59 ∷ 63 ∷ []
