-- Triple DES with keying option 2 (FIPS 46-3): K1 is the first half of the key and K2 the second, and K1 is used twice.
-- A block is enciphered under K1, deciphered under K2 and enciphered under K1.
use Rattle.std.specs.Prelude.{ℕ, List, take, drop}
use Rattle.bits.specs.Octets.{value, octets}
use Rattle.tripledes.specs.Des.{des, undes}

-- the byte that names the algorithm
abbrev pub identifier : ℕ
identifier = 0x81

-- the two halves of a key of sixteen bytes
unfoldable pub k1 : List ℕ → ℕ
k1 key = value (take 8 key)

unfoldable pub k2 : List ℕ → ℕ
k2 key = value (take 8 (drop 8 key))

-- a block of eight bytes under a key
unfoldable pub encipher : List ℕ → List ℕ → List ℕ
encipher key block = octets 8 (des (k1 key) (undes (k2 key) (des (k1 key) (value block))))

unfoldable pub decipher : List ℕ → List ℕ → List ℕ
decipher key block = octets 8 (undes (k1 key) (des (k2 key) (undes (k1 key) (value block))))
