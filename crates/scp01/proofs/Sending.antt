-- The text of a body, as it is sent. Assumes nothing.
use Rattle.std.proofs.Common.{◌≡◌, ℕ, ◌+◌, ◌-◌, ◌*◌, ◌/◌, ◌%◌, List, ◌∷◌, length, replicate, ◌∙◌, arith, length-append, length-take}
use Rattle.scp01.specs.Inside.{closing, body_text}

pub length_closing : (n : ℕ) → length (closing n) ≡ (8 - n % 8) % 8
length_closing n = length-take ((8 - n % 8) % 8) (0x80 ∷ replicate 7 0) ∙ omega arith

-- the text of a body is whole blocks
pub length_text : (body : List ℕ) → length (body_text body) ≡ (length body + 8) / 8 * 8
length_text body = let long = length_closing (length body + 1) in simp length-append (omega arith)
