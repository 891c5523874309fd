-- A row of a vector file: a key of 32 digits, a blank, a plain block of 16 digits, a blank, and that block enciphered.
use Rattle.std.specs.Prelude.{◌≡◌, ℕ, ◌<◌, ◌^◌, Bool, true, cond, not, ◌&&◌, List, length, take, drop, filter, Some, None, Option, Result, Ok, Err, ◌==◌, slice_index, codes}
use Rattle.std.specs.List.{All}
use Rattle.std.specs.Str.Lines.{lines}
use Rattle.std.specs.Result.{result_ok}
use Rattle.cipher.specs.Blocks.{Direction}
use Rattle.hex.specs.Hex.{decode_sized}
use Rattle.vector_files.specs.declared.rows.Row.{Row}
use Rattle.vector_files.specs.declared.rows.Fault.{Fault}
use Rattle.vector_files.specs.declared.rows.Fault.TheVariants.{Differs, IllFormed}

-- the n bytes of a text, if it is exactly their hexadecimal digits
abbrev pub exactly : ℕ → List ℕ → Option (List ℕ)
exactly n text = result_ok (decode_sized text n)

abbrev pub joined : Option (List ℕ) → Option (List ℕ) → Option (List ℕ) → Option Row
joined (Some key) (Some plain) (Some enciphered) = Some (record { key = key; plain = plain; enciphered = enciphered })
joined (Some key) (Some plain) None = None
joined (Some key) None enciphered = None
joined None plain enciphered = None

abbrev pub row_of : List ℕ → Option Row
row_of line =
    cond (length line == 66)
    (cond (slice_index line 32 == 32)
    (cond (slice_index line 49 == 32)
    (joined (exactly 16 (take 32 line)) (exactly 8 (take 16 (drop 33 line))) (exactly 8 (take 16 (drop 50 line))))
    None) None) None

-- the cipher gives the row's enciphered block for its plain one, and its plain one for its enciphered one
pub record Right (enc dec : Direction) (row : Row) : Type 0 where
  pub enciphered : enc row.key row.plain ≡ row.enciphered
  pub deciphered : dec row.key row.enciphered ≡ row.plain

-- what is found of a line
abbrev pub Found : Direction → Direction → List ℕ → Result Unit Fault → Type 0
Found enc dec line (Ok _) = (row : Row) × (row_of line ≡ Some row) × Right enc dec row
Found enc dec line (Err Differs) = (row : Row) × (row_of line ≡ Some row) × (Right enc dec row → ⊥)
Found enc dec line (Err IllFormed) = row_of line ≡ None

-- a line that counts as a row: it is not empty, and no remark, which begins with the sign # (35)
abbrev pub is_counted : List ℕ → Bool
is_counted line = not (length line == 0) && not (slice_index line 0 == 35)

abbrev pub rows_of : List ℕ → List (List ℕ)
rows_of text = filter is_counted (lines text)

-- a row agrees
abbrev pub Agrees : Direction → Direction → List ℕ → Type 0
Agrees enc dec line = Found enc dec line (Ok tt)

-- what is answered of a text is whether every row of it agrees; where it has more rows than a u32 counts, only that it is so if they do
pub record Answered (enc dec : Direction) (text : List ℕ) (all : Bool) : Type 0 where
  pub sound : length (rows_of text) < 2 ^ 32 → all ≡ true → All (Agrees enc dec) (rows_of text)
  pub complete : All (Agrees enc dec) (rows_of text) → all ≡ true

-- a fault in words
abbrev pub fault_text : Fault → List ℕ
fault_text Differs = codes "does not agree"
fault_text IllFormed = codes "is no row of key, block and enciphered block"
