-- What is handed in to a card, and what comes of it.
use Rattle.std.specs.Prelude.{ℕ, ◌-◌, Bool, List, [], ◌∷◌, length, drop}
use Rattle.std.specs.Str.{bytes_eq}

-- a reset, or a command
pub data Input : Type 0 where
  restart : Input
  command : List ℕ → Input

-- a reset, or a command with the card's answer
pub data Event : Type 0 where
  reset : Event
  answered : List ℕ → List ℕ → Event

abbrev pub input_of : Event → Input
input_of reset = restart
input_of (answered cmd answer) = command cmd

-- the status word of an answer, its last two bytes
abbrev pub status_in : List ℕ → List ℕ
status_in answer = drop (length answer - 2) answer

abbrev pub is9000 : List ℕ → Bool
is9000 answer = bytes_eq (status_in answer) (0x90 ∷ 0x00 ∷ [])
