-- PRESENT over bytes: deciphering undoes enciphering, and the other way about.
use Rattle.std.specs.Prelude.{ℕ, List}
use Rattle.std.proofs.Common.{ap, ◌∙◌}
use Rattle.cipher.specs.Blocks.{Bytes}
use Rattle.bits.specs.Octets.{value, octets}
use Rattle.bits.proofs.Octets.{length_octets, octets_small, value_below, octets_back, value_back}
use Rattle.present.specs.Laws.{Layers, Deciphers, Enciphers}
use Rattle.present.specs.Present.{present, inv_present, encipher, decipher}
use Rattle.present.specs.Boxes.{s_undone, s_redone, p_undone, p_redone}
use Rattle.present.specs.Runs.{present_lt, inv_present_lt, present_undone, present_redone}

pub layers : Layers
layers = record { boxes = s_undone; boxes_back = s_redone; bits = p_undone; bits_back = p_redone }

pub deciphers : Deciphers
unfolding encipher decipher
deciphers k b hk hb =
    let y : ℕ = present (value k) (value b) in
    ap (λ (z : ℕ). octets 8 (inv_present (value k) z)) (value_back y (present_lt (value k) (value b) (value_below 16 k hk.long hk.small) (value_below 8 b hb.long hb.small)))
    ∙ ap (octets 8) (present_undone (value k) (value b) (value_below 16 k hk.long hk.small) (value_below 8 b hb.long hb.small))
    ∙ octets_back 8 b hb.long hb.small

pub enciphers : Enciphers
unfolding encipher decipher
enciphers k b hk hb =
    let y : ℕ = inv_present (value k) (value b) in
    ap (λ (z : ℕ). octets 8 (present (value k) z)) (value_back y (inv_present_lt (value k) (value b) (value_below 16 k hk.long hk.small) (value_below 8 b hb.long hb.small)))
    ∙ ap (octets 8) (present_redone (value k) (value b) (value_below 8 b hb.long hb.small))
    ∙ octets_back 8 b hb.long hb.small

bytes_octets : (x : ℕ) → Bytes 8 (octets 8 x)
bytes_octets x = record { long = length_octets 8 x; small = octets_small 8 x }

pub bytes_enciphered : (k b : List ℕ) → Bytes 16 k → Bytes 8 b → Bytes 8 (encipher k b)
unfolding encipher
bytes_enciphered k b hk hb = bytes_octets (present (value k) (value b))

pub bytes_deciphered : (k b : List ℕ) → Bytes 16 k → Bytes 8 b → Bytes 8 (decipher k b)
unfolding decipher
bytes_deciphered k b hk hb = bytes_octets (inv_present (value k) (value b))
