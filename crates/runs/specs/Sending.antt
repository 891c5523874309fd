-- Bare commands that a terminal sends inside a channel, one after the other.
use Rattle.std.specs.Prelude.{◌≡◌, ℕ, Bool, false, cond, ◌&&◌, List, [], ◌∷◌, map, take, is_some, Some, None, Ok, Err, vec_items, Option, Result}
use Rattle.std.specs.Borrow.{Bor}
use Rattle.answers.specs.declared.Refusal.{Refusal}
use Rattle.answers.specs.Replies.{reply_bytes}
use Rattle.apdu.specs.Apdu.{Apdu, apdu, management_of}
use Rattle.card.specs.Admitting.{is_terminated}
use Rattle.card.specs.declared.channel.Channel.TheVariants.{Open}
use Rattle.card.specs.Models.{Model}
use Rattle.card.specs.Taking.{responded}
use Rattle.cipher.specs.Blocks.{Algorithm}
use Rattle.contents.specs.Held.{Held}
use Rattle.scp01.specs.declared.Level.{Level}
use Rattle.cipher.specs.declared.Keys.{Keys}
use Rattle.scp01.specs.Levels.{session}
use Rattle.scp01.specs.Understanding.{Keyed}
use Rattle.scp01.specs.Wrapping.{wrappable}
use Rattle.terminal.specs.declared.Phase.TheVariants as phase
use Rattle.terminal.specs.Sides.{Side, Outcome, wraps}
use Rattle.runs.specs.declared.turns.Served.{Served}
use Rattle.runs.specs.Conversing.{blank}
use Rattle.runs.specs.Laws.{is_plain}
use Rattle.runs.specs.Events.{Event, answered}
use Rattle.runs.specs.Serving.{Sending, Serves}
use Rattle.rules.specs.Own.{own_rule}

-- some commands as lists of bytes
abbrev pub bare_in : List (Bor (List ℕ)) → List (List ℕ)
bare_in commands = map (λ (c : Bor (List ℕ)). c.now) commands

abbrev pub served_in : Served → Sending
served_in s = (vec_items s.bare, vec_items s.sent.command, vec_items s.sent.answer)

-- what was handed in, with its answer
abbrev pub sending_event : Sending → Event
sending_event s = answered s.1 s.2

-- What a terminal sends at a level: well-formed channel commands of class 80 with a body that the level has room for.

abbrev pub sendable_as : Level → Option Apdu → Bool
sendable_as level None = false
sendable_as level (Some c) = is_some (management_of c.instruction) && wrappable c level

abbrev pub sendable : Level → List ℕ → Bool
sendable level command = sendable_as level (apdu command)

-- those of some commands that are sent, in their order
abbrev pub sent_of : Level → List (List ℕ) → List (List ℕ)
sent_of level [] = []
sent_of level (command ∷ commands) = cond (sendable level command) (command ∷ sent_of level commands) (sent_of level commands)

-- both ends have the same session, at this level and with these keys; a TERMINATED card has none
pub record Shares (level : Level) (keys : Keys) (m : Model) (t : Side) : Type 0 where
  pub chain : List ℕ
  pub keyed : Keyed (session level keys chain)
  pub terminal : t.phase ≡ phase.Open (session level keys chain)
  pub card : is_terminated m.contents.state ≡ false → m.channel ≡ Open (session level keys chain)

-- One command: the terminal refuses to wrap it, and nothing is handed in; or what it wrote is, and the bare command is noted with
-- it and the card's answer.

abbrev pub SentAs : Algorithm → Model → Model → List ℕ → Result ℕ Refusal → List ℕ → Option Sending → Type 0
SentAs cipher m n command (Err e) area noted = (noted ≡ None) × (n ≡ m)
SentAs cipher m n command (Ok k) area noted =
    (noted ≡ Some (command, take k area, reply_bytes (responded management_of own_rule cipher m (take k area)).1)) × (n ≡ (responded management_of own_rule cipher m (take k area)).0)

abbrev pub SentBy : Algorithm → Model → Model → List ℕ → Outcome → Option Sending → Type 0
SentBy cipher m n command o noted = SentAs cipher m n command o.0 o.2 noted

pub record Sent (cipher : Algorithm) (m n : Model) (t u : Side) (command : List ℕ) (noted : Option Sending) : Type 0 where
  pub terminal : u ≡ (wraps cipher t command blank).1
  pub card : SentBy cipher m n command (wraps cipher t command blank) noted

-- All of them: those that can be sent were sent, each was answered by its rule, and both ends still share their session.
pub record Answered (cipher : Algorithm) (level : Level) (keys : Keys) (start : Held) (m : Model) (t : Side) (commands : List (List ℕ)) (sendings : List Sending) : Type 0 where
  pub shares : Shares level keys m t
  pub serves : Serves cipher keys.kek start sendings m.contents
  pub sent : map (λ (s : Sending). s.0) sendings ≡ sent_of level commands

-- so it is wherever both ends shared a session with codes
abbrev pub Answers : Algorithm → Model → Side → Model → Side → List (List ℕ) → List Sending → Type 0
Answers cipher m t n u commands sendings =
    (level : Level) (keys : Keys) → is_plain level ≡ false → Shares level keys m t → Answered cipher level keys m.contents n u commands sendings
