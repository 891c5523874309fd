-- The text of a status word.
use Rattle.std.proofs.Common.{◌≡◌, ℕ, ◌/◌, ◌%◌, ◌<◌, List, [], ◌∷◌, ◌++◌, length, get_or, codes, decimal, ◌∙◌, arith}
use lib.Utf8.{encode}
use Rattle.std.proofs.lemmas.Str.{encode_ascii}
use Rattle.script.specs.declared.row.Row.TheVariants.{Answered}
use Rattle.script.specs.Rows.{hex_digit, newline, row_bytes}

letters : (n a b c d : ℕ) → a < 128 → b < 128 → c < 128 → d < 128
    → decimal n ++ (codes " " ++ (encode a ++ (encode b ++ (encode c ++ (encode d ++ newline))))) ≡ decimal n ++ (codes " " ++ (a ∷ b ∷ c ∷ d ∷ newline))
letters n a b c d p q r s = rw (encode_ascii a p, encode_ascii b q, encode_ascii c r, encode_ascii d s)

pub status_text : (n a b c d : ℕ) (status : List ℕ) → length status ≡ 2
    → a ≡ hex_digit (get_or status 0 0 / 16) → b ≡ hex_digit (get_or status 0 0 % 16)
    → c ≡ hex_digit (get_or status 1 0 / 16) → d ≡ hex_digit (get_or status 1 0 % 16)
    → a < 128 → b < 128 → c < 128 → d < 128
    → decimal n ++ (codes " " ++ (encode a ++ (encode b ++ (encode c ++ (encode d ++ newline))))) ≡ row_bytes (Answered n status)
status_text n a b c d [] long = absurd (omega arith)
status_text n a b c d (x ∷ []) long = absurd (omega arith)
status_text n a b c d (x ∷ (y ∷ (z ∷ ss))) long = absurd (omega arith)
status_text n a b c d (x ∷ (y ∷ [])) long = λ ea eb ec ed p q r s. letters n a b c d p q r s ∙ rw (ea, eb, ec, ed)
