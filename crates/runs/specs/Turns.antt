-- Turns and exchanges as lists of bytes, and what one turn does.
use Rattle.std.specs.Prelude.{◌≡◌, ℕ, ◌-◌, ◌≤◌, List, map, length, take, vec_items}
use Rattle.answers.specs.Replies.{reply_bytes}
use Rattle.card.specs.Models.{Model, Fit}
use Rattle.card.specs.Taking.{responded}
use Rattle.cipher.specs.Blocks.{Algorithm}
use Rattle.runs.specs.declared.turns.Turn.{Turn}
use Rattle.runs.specs.declared.turns.Turn.TheVariants as turn
use Rattle.runs.specs.declared.turns.Exchange.{Exchange}
use Rattle.runs.specs.declared.turns.Outcome.{Outcome}
use Rattle.runs.specs.declared.turns.Outcome.TheVariants as outcome
use Rattle.runs.specs.Events.{Event, reset, answered, Input, restart, command, input_of}
use Rattle.runs.specs.Runs.{after, Gives, Ran}
use Rattle.apdu.specs.Apdu.{management_of}
use Rattle.rules.specs.Own.{own_rule}

abbrev pub input_in : Turn → Input
input_in turn.Reset = restart
input_in (turn.Command c) = command c.now

-- a command and its answer
abbrev pub Pair : Type 0
Pair = List ℕ × List ℕ

abbrev pub exchanged : Exchange → Pair
exchanged x = (vec_items x.command, vec_items x.answer)

abbrev pub event_of : Pair → Event
event_of x = answered x.0 x.1

abbrev pub event_in : Outcome → Event
event_in outcome.Reset = reset
event_in (outcome.Answered x) = event_of (exchanged x)

-- with room enough, the answer stands at the front of the area
pub record Handed (cipher : Algorithm) (m n : Model) (cmd area : List ℕ) (k : ℕ) : Type 0 where
  pub answer : take (k - 0) area ≡ reply_bytes (responded management_of own_rule cipher m cmd).1
  pub within : k ≤ length area
  pub model : n ≡ (responded management_of own_rule cipher m cmd).0

-- a command was handed in: the exchange has it with the card's answer, and the card is what it leaves
pub record HandedIn (cipher : Algorithm) (m n : Model) (cmd : List ℕ) (x : Pair) : Type 0 where
  pub command : x.0 ≡ cmd
  pub answer : x.1 ≡ reply_bytes (responded management_of own_rule cipher m cmd).1
  pub model : n ≡ (responded management_of own_rule cipher m cmd).0
  pub fit : Fit n

-- one turn: the event has what was handed in, is one that this card gives, and the card is what it leaves
pub record Turned (cipher : Algorithm) (m n : Model) (i : Input) (e : Event) : Type 0 where
  pub same : input_of e ≡ i
  pub gives : Gives cipher m e
  pub model : n ≡ after cipher m e
  pub fit : Fit n

-- all turns: the events are theirs, in order, and the card ran through them
pub record Played (cipher : Algorithm) (m n : Model) (handed : List Input) (events : List Event) : Type 0 where
  pub ran : Ran cipher m events n
  pub inputs : map input_of events ≡ handed
