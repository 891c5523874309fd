-- The chained code (CBC-MAC) of some bytes under a block cipher. The byte 80 is appended, then bytes 00 up to a multiple of
-- eight; each block in turn is xored with the value so far and enciphered; the last value is the code.
use Rattle.std.specs.Prelude.{◌≡◌, ℕ, ◌-◌, ◌/◌, ◌%◌, ◌<◌, List, ◌∷◌, ◌++◌, length, replicate, fold}
use Rattle.std.specs.Simd.{first_chunks}
use Rattle.cipher.specs.Blocks.{xor, Direction}

-- how many bytes 00 make n bytes and the byte 80 a multiple of eight
abbrev pub missing : ℕ → ℕ
missing n = 7 - n % 8

unfoldable pub padded : List ℕ → List ℕ
padded bs = bs ++ (0x80 ∷ replicate (missing (length bs)) 0)

-- the blocks of eight bytes, in order
unfoldable pub blocks : List ℕ → List (List ℕ)
blocks bs = first_chunks 8 (length bs / 8) bs

-- one block into the value so far
abbrev pub link : (List ℕ → List ℕ) → List ℕ → List ℕ → List ℕ
link under value block = under (xor value block)

-- the code under an enciphering whose key is fixed
unfoldable pub chained : (List ℕ → List ℕ) → List ℕ → List ℕ → List ℕ
chained under start bs = fold (link under) start (blocks (padded bs))

-- the code under a key
abbrev pub mac : Direction → List ℕ → List ℕ → List ℕ → List ℕ
mac enc key start bs = chained (enc key) start bs

-- ps is bs, the byte 80 and the fewest bytes 00 that make the length a multiple of eight
pub record Padded (bs ps : List ℕ) : Type 0 where
  pub zeros : ℕ
  pub made : ps ≡ bs ++ (0x80 ∷ replicate zeros 0)
  pub whole : length ps % 8 ≡ 0
  pub few : zeros < 8

abbrev pub Pads : Type 0
Pads = (bs : List ℕ) → Padded bs (padded bs)
