-- Blocks of bits as numbers, and their bits in another order. A block of w bits is a number below 2 ^ w.
use Rattle.std.specs.Prelude.{ℕ, ◌+◌, ◌-◌, ◌*◌, ◌/◌, ◌%◌, ◌^◌, List, [], ◌∷◌, length, bit_xor}

-- bit i of x, a block of w bits, where bit 1 is the highest
unfoldable pub bit : ℕ → ℕ → ℕ → ℕ
bit w x i = x / 2 ^ (w - i) % 2

-- the block whose bits are those that the table names, in its order, the highest first
unfoldable pub permute : ℕ → List ℕ → ℕ → ℕ
permute w [] x = 0
permute w (i ∷ is) x = bit w x i * 2 ^ length is + permute w is x

-- the block in which the lowest bit of x stands at the first place of the table, the next at the second, and so on;
-- place 0 is the lowest
unfoldable pub spread : List ℕ → ℕ → ℕ
spread [] x = 0
spread (p ∷ ps) x = bit_xor (x % 2 * 2 ^ p) (spread ps (x / 2))
