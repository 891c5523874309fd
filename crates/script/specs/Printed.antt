-- The whole of a script: what is printed for it.
use Rattle.std.specs.Prelude.{ℕ, List, [], map, take, drop, Ok, Err, Result, slice_index_or, Option}
use Rattle.answers.specs.declared.Refusal.{Refusal}
use Rattle.challenge.specs.Draws.{groups}
use Rattle.cipher.specs.Blocks.{Algorithm}
use Rattle.rules.specs.Own.{Rule}
use Rattle.contents.specs.Held.{Held}
use Rattle.contents.specs.Image.{read_image}
use Rattle.card.specs.declared.channel.Channel.TheVariants.{Closed}
use Rattle.card.specs.Models.{model}
use Rattle.script.specs.declared.row.Row.TheVariants.{ImageRefused}
use Rattle.script.specs.Digits.{line_bytes}
use Rattle.script.specs.Lines.{Line, lines_of}
use Rattle.script.specs.Rows.{row_bytes}
use Rattle.script.specs.Turns.{Turn, turn_of, rows_from}

-- the image is line 1; a missing line counts as empty
abbrev pub image_in : List Line → List ℕ
image_in lines = line_bytes (slice_index_or lines 0 [])

-- the recorded challenges are line 2
abbrev pub challenges_in : List Line → List ℕ
challenges_in lines = line_bytes (slice_index_or lines 1 [])

-- up to 4,096 lines follow, and the rest is unread
abbrev pub turns_in : List Line → List Turn
turns_in lines = map turn_of (take 4096 (drop 2 lines))

-- a card that is just made has no channel
abbrev pub printed_by : {M : Type 0} → (ℕ → Option M) → Rule M → Algorithm → List Line → Result Held Refusal → List ℕ
printed_by named rule cipher lines (Err refusal) = row_bytes (ImageRefused refusal)
printed_by named rule cipher lines (Ok held) = rows_from named rule cipher (model held Closed (groups (challenges_in lines))) 1 (turns_in lines)

unfoldable pub printed : {M : Type 0} → (ℕ → Option M) → Rule M → Algorithm → List ℕ → List ℕ
printed named rule cipher script = printed_by named rule cipher (lines_of script) (read_image (image_in (lines_of script)))
