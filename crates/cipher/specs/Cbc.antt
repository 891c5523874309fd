-- Chained enciphering and deciphering of whole blocks (CBC).
use Rattle.std.specs.Prelude.{◌≡◌, ℕ, ◌*◌, ◌%◌, Bool, cond, ◌&&◌, List, [], ◌∷◌, ◌++◌, length, Some, None, Option, ◌==◌, nat_le}
use Rattle.answers.specs.Areas.{fronted}
use Rattle.cipher.specs.Blocks.{xor, Bytes, Direction}
use Rattle.cipher.specs.Mac.{blocks, link}

-- each block is xored with the enciphered block before it and enciphered; the first with the start value
abbrev pub chained_out : (List ℕ → List ℕ) → List ℕ → List (List ℕ) → List ℕ
chained_out under before [] = []
chained_out under before (b ∷ bs) = link under before b ++ chained_out under (link under before b) bs

abbrev pub cbc_enciphered : (List ℕ → List ℕ) → List ℕ → List ℕ → List ℕ
cbc_enciphered under start bytes = chained_out under start (blocks bytes)

-- each block is deciphered and xored with the enciphered block before it; the first with the start value
abbrev pub chained_back : (List ℕ → List ℕ) → List ℕ → List (List ℕ) → List ℕ
chained_back under before [] = []
chained_back under before (b ∷ bs) = xor before (under b) ++ chained_back under b bs

abbrev pub cbc_deciphered : (List ℕ → List ℕ) → List ℕ → List ℕ → List ℕ
cbc_deciphered under start bytes = chained_back under start (blocks bytes)

-- whether n bytes are whole blocks that an area of m bytes has room for
abbrev pub whole_in : ℕ → ℕ → Bool
whole_in n m = n % 8 == 0 && nat_le n m

-- what a call answers that makes something of n bytes at the front of an area, and what the area then holds; where the n bytes
-- are not whole blocks or have no room, none, and the area as it was
abbrev pub blocks_into : List ℕ → ℕ → List ℕ → Option ℕ × List ℕ
blocks_into area n made = cond (whole_in n (length area)) (Some (length made), fronted area made) (None, area)

-- in a chain, too, n blocks come back
abbrev pub ChainUndone : Direction → Direction → Type 0
ChainUndone enc dec =
    (k start bytes : List ℕ) (n : ℕ) → Bytes 16 k → Bytes 8 start → Bytes (n * 8) bytes → cbc_deciphered (dec k) start (cbc_enciphered (enc k) start bytes) ≡ bytes
