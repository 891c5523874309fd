-- PRESENT with a key of 128 bits (ISO/IEC 29192-2). The state is a number below 2 ^ 64 and the key register one below 2 ^ 128;
-- bit 0 is the lowest.
use Rattle.std.specs.Prelude.{ℕ, zero, suc, ◌+◌, ◌*◌, ◌/◌, ◌%◌, ◌^◌, List, [], ◌∷◌, bit_or, bit_xor, slice_index}
use Rattle.bits.specs.Octets.{value, octets}
use Rattle.bits.specs.Permute.{spread}
use Rattle.present.specs.Tables.{SBOX, INVSBOX, P, INVP}

-- the byte that names the algorithm
abbrev pub identifier : ℕ
identifier = 0xF1

-- each of the lowest n digits of x in base m replaced by what the table has at its place
unfoldable pub replaced : ℕ → List ℕ → ℕ → ℕ → ℕ
replaced m table zero x = 0
replaced m table (suc n) x = slice_index table (x % m) + m * replaced m table n (x / m)

-- the sixteen nibbles of the state, each through the S-box
unfoldable pub s_box_layer : ℕ → ℕ
s_box_layer x = replaced 16 SBOX 16 x

unfoldable pub inv_s_box_layer : ℕ → ℕ
inv_s_box_layer x = replaced 16 INVSBOX 16 x

-- bit i of the state moves to P(i)
unfoldable pub p_layer : ℕ → ℕ
p_layer x = spread P x

unfoldable pub inv_p_layer : ℕ → ℕ
inv_p_layer x = spread INVP x

-- the key register rotated by 61 bits to the left
unfoldable pub rotated : ℕ → ℕ
rotated k = bit_or ((k * 2 ^ 61) % 2 ^ 128) (k / 2 ^ 67)

-- its leftmost two nibbles through the S-box
unfoldable pub boxed : ℕ → ℕ
boxed k = replaced 16 SBOX 2 (k / 2 ^ 120) * 2 ^ 120 + k % 2 ^ 120

-- the round counter i xored into bits 66 to 62
unfoldable pub counted : ℕ → ℕ → ℕ
counted i k = bit_xor k (i * 2 ^ 62)

unfoldable pub update : ℕ → ℕ → ℕ
update i k = counted i (boxed (rotated k))

-- n + 1 round keys, from round i on: the leftmost 64 bits of the register as it stands, and again after each update
unfoldable pub round_keys : ℕ → ℕ → ℕ → List ℕ
round_keys zero i k = k / 2 ^ 64 ∷ []
round_keys (suc n) i k = k / 2 ^ 64 ∷ round_keys n (suc i) (update i k)

-- addRoundKey, s_box_layer and p_layer for each round key but the last, which is only added
unfoldable pub rounds : List ℕ → ℕ → ℕ
rounds [] x = x
rounds (k ∷ []) x = bit_xor x k
rounds (k ∷ (j ∷ ks)) x = rounds (j ∷ ks) (p_layer (s_box_layer (bit_xor x k)))

-- the steps undone, the last first
unfoldable pub inv_rounds : List ℕ → ℕ → ℕ
inv_rounds [] x = x
inv_rounds (k ∷ []) x = bit_xor x k
inv_rounds (k ∷ (j ∷ ks)) x = bit_xor (inv_s_box_layer (inv_p_layer (inv_rounds (j ∷ ks) x))) k

-- the 31 rounds under the 32 round keys of a key
unfoldable pub present : ℕ → ℕ → ℕ
present k x = rounds (round_keys 31 1 k) x

unfoldable pub inv_present : ℕ → ℕ → ℕ
inv_present k x = inv_rounds (round_keys 31 1 k) x

-- a block of eight bytes under a key of sixteen, the first byte the highest
unfoldable pub encipher : List ℕ → List ℕ → List ℕ
encipher key block = octets 8 (present (value key) (value block))

unfoldable pub decipher : List ℕ → List ℕ → List ℕ
decipher key block = octets 8 (inv_present (value key) (value block))
