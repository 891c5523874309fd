-- What is claimed of PRESENT as a whole.
use Rattle.std.specs.Prelude.{◌≡◌, ℕ, ◌^◌, ◌<◌, List}
use Rattle.cipher.specs.Blocks.{Bytes}
use Rattle.present.specs.Present.{s_box_layer, inv_s_box_layer, p_layer, inv_p_layer, encipher, decipher}

-- the two layers of a round, each undone by its inverse and the other way round
pub record Layers : Type 0 where
  pub boxes : (x : ℕ) → x < 2 ^ 64 → inv_s_box_layer (s_box_layer x) ≡ x
  pub boxes_back : (x : ℕ) → x < 2 ^ 64 → s_box_layer (inv_s_box_layer x) ≡ x
  pub bits : (x : ℕ) → x < 2 ^ 64 → inv_p_layer (p_layer x) ≡ x
  pub bits_back : (x : ℕ) → x < 2 ^ 64 → p_layer (inv_p_layer x) ≡ x

-- deciphering undoes enciphering
abbrev pub Deciphers : Type 0
Deciphers = (k b : List ℕ) → Bytes 16 k → Bytes 8 b → decipher k (encipher k b) ≡ b

-- enciphering undoes deciphering
abbrev pub Enciphers : Type 0
Enciphers = (k b : List ℕ) → Bytes 16 k → Bytes 8 b → encipher k (decipher k b) ≡ b
