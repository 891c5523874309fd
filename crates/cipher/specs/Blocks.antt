-- Keys and blocks as lists of bytes, and what a block cipher means.
use Rattle.std.specs.Prelude.{◌≡◌, ℕ, ◌<◌, List, [], ◌∷◌, length, take, drop, replicate, bit_xor, slice_index}
use Rattle.std.specs.Simd.Lanes.{zip2}

-- n bytes
pub record Bytes (n : ℕ) (bs : List ℕ) : Type 0 where
  pub long : length bs ≡ n
  pub small : (i : ℕ) → slice_index bs i < 256

-- exclusive or, byte by byte
abbrev pub xor : List ℕ → List ℕ → List ℕ
xor xs ys = zip2 bit_xor xs ys

-- the two halves of a key of sixteen bytes
abbrev pub halves : List ℕ → List (List ℕ)
halves key = take 8 key ∷ take 8 (drop 8 key) ∷ []

-- one direction of a cipher: from a key and a block to a block
abbrev pub Direction : Type 0
Direction = List ℕ → List ℕ → List ℕ

-- what is asked of a cipher's two directions: blocks are enciphered to blocks, and deciphering undoes enciphering
pub record Undoes (enc dec : Direction) : Type 0 where
  pub enciphered : (k b : List ℕ) → Bytes 16 k → Bytes 8 b → Bytes 8 (enc k b)
  pub undone : (k b : List ℕ) → Bytes 16 k → Bytes 8 b → dec k (enc k b) ≡ b

-- a block cipher as the rules of a card see it: both directions, and the byte that names the algorithm in PUT KEY
pub record Algorithm : Type 0 where
  pub enc : Direction
  pub dec : Direction
  pub identifier : ℕ

-- eight bytes 00: where every chain begins
abbrev pub zeros : List ℕ
zeros = replicate 8 0
