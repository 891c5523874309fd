-- What is claimed of triple DES as a whole.
use Rattle.std.specs.Prelude.{◌≡◌, ℕ, ◌^◌, ◌<◌, List, map, reverse, bit_and}
use Rattle.cipher.specs.Blocks.{Bytes}
use Rattle.tripledes.specs.Des.{crypt}
use Rattle.tripledes.specs.TripleDes.{encipher, decipher}

-- whatever the round keys are, and however many, the same keys in the other order undo them
abbrev pub Backwards : Type 0
Backwards = (ks : List ℕ) (x : ℕ) → x < 2 ^ 64 → crypt (reverse ks) (crypt ks x) ≡ x

-- deciphering undoes enciphering
abbrev pub Deciphers : Type 0
Deciphers = (k b : List ℕ) → Bytes 16 k → Bytes 8 b → decipher k (encipher k b) ≡ b

-- enciphering undoes deciphering
abbrev pub Enciphers : Type 0
Enciphers = (k b : List ℕ) → Bytes 16 k → Bytes 8 b → encipher k (decipher k b) ≡ b

-- a key whose parity bits, the lowest of each byte, are cleared
abbrev pub cleared : List ℕ → List ℕ
cleared key = map (λ byte. bit_and byte 0xFE) key

-- the parity bits of a key do not matter
pub record ParityFree : Type 0 where
  pub enciphering : (k b : List ℕ) → Bytes 16 k → encipher (cleared k) b ≡ encipher k b
  pub deciphering : (k b : List ℕ) → Bytes 16 k → decipher (cleared k) b ≡ decipher k b
