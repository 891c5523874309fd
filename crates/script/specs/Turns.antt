-- What a card makes of the lines behind the first two.
use Rattle.std.specs.Prelude.{ℕ, ◌+◌, cond, List, [], ◌∷◌, ◌++◌, codes, Option}
use Rattle.std.specs.Str.{bytes_eq}
use Rattle.answers.specs.Numbers.{status_bytes}
use Rattle.cipher.specs.Blocks.{Algorithm}
use Rattle.rules.specs.Own.{Rule}
use Rattle.card.specs.Models.{Model, after_reset}
use Rattle.card.specs.Taking.{responded}
use Rattle.script.specs.declared.row.Row.{Row}
use Rattle.script.specs.declared.row.Row.TheVariants.{Reset, Answered}
use Rattle.script.specs.Digits.{line_bytes}
use Rattle.script.specs.Lines.{Line}
use Rattle.script.specs.Rows.{row_bytes}

pub data Turn : Type 0 where
  reset : Turn
  command : List ℕ → Turn

-- only the letters RESET are a reset
abbrev pub turn_of : Line → Turn
turn_of line = cond (bytes_eq line (codes "RESET")) reset (command (line_bytes line))

-- the model after a turn, and the row that is printed for it
abbrev pub took : {M : Type 0} → (ℕ → Option M) → Rule M → Algorithm → Model → ℕ → Turn → Model × Row
took named rule cipher m number reset = (after_reset m, Reset number)
took named rule cipher m number (command bytes) =
    ((responded named rule cipher m bytes).0, Answered number (status_bytes (responded named rule cipher m bytes).1.status))

-- the rows of turns that are numbered from a number on
unfoldable pub rows_from : {M : Type 0} → (ℕ → Option M) → Rule M → Algorithm → Model → ℕ → List Turn → List ℕ
rows_from named rule cipher m number [] = []
rows_from named rule cipher m number (turn ∷ turns) =
    row_bytes (took named rule cipher m number turn).1 ++ rows_from named rule cipher (took named rule cipher m number turn).0 (number + 1) turns
