-- Turns handed in to a card of an image, and then a terminal's channel with it.
use Rattle.std.specs.Prelude.{◌≡◌, ℕ, ◌+◌, ◌<◌, true, false, List, [], ◌++◌, map, length, is_some, Some, None, Ok, Err, vec_items, Option, Result, Vec}
use Rattle.std.specs.Option.{option_map}
use Rattle.std.specs.declared.alloc.Global.{Global}
use Rattle.answers.specs.declared.Refusal.{Refusal}
use Rattle.answers.specs.declared.StatusWord.TheVariants.{Success}
use Rattle.answers.specs.Numbers.{refusal_number, status_bytes}
use Rattle.card.specs.Admitting.{is_terminated}
use Rattle.card.specs.declared.channel.Channel.TheVariants.{Closed}
use Rattle.card.specs.Models.{Model, model}
use Rattle.challenge.specs.Draws.{Challenges}
use Rattle.cipher.specs.Blocks.{Algorithm}
use Rattle.contents.specs.declared.records.KeySet.{KeySet}
use Rattle.contents.specs.Held.{Held}
use Rattle.contents.specs.Image.{read_image}
use Rattle.contents.specs.Records.{set_of_version}
use Rattle.scp01.specs.Levels.{level_value}
use Rattle.terminal.specs.Sides.{Side, made_of, update_command, authenticate_command}
use Rattle.runs.specs.declared.conduct.Conversation.{Conversation}
use Rattle.runs.specs.declared.conduct.Talk.{Talk}
use Rattle.runs.specs.declared.conduct.Trouble.{Trouble}
use Rattle.runs.specs.declared.conduct.Trouble.TheVariants.{OutOfMemory, Refused}
use Rattle.runs.specs.declared.turns.Served.{Served}
use Rattle.runs.specs.Conversing.{Welcome, opening_in, opening_events, is_answered}
use Rattle.runs.specs.Events.{Event, Input, input_of, is9000}
use Rattle.runs.specs.Laws.{is_plain}
use Rattle.runs.specs.Plain.{challenge_in}
use Rattle.runs.specs.Runs.{Ran, Onward}
use Rattle.runs.specs.Sending.{bare_in, served_in, sending_event, sent_of}
use Rattle.runs.specs.Serving.{HasSet, Sending, Serves, cryptogram_to, code_to, updates_answered}
use Rattle.runs.specs.Told.{Told}
use Rattle.runs.specs.Turns.{Pair, Played}

-- a refusal has its own number, and want of memory, which is no refusal, 0
abbrev pub trouble_number : Trouble → ℕ
trouble_number OutOfMemory = 0
trouble_number (Refused e) = refusal_number e

-- A conversation as lists of bytes: what opened the channel, and, where one was open, what was sent in it.
pub record Said : Type 0 where
  pub opening : Pair × Option Pair
  pub served : Option (List Sending)

abbrev pub said_in : Conversation → Said
said_in c = record { opening = opening_in c.opening; served = option_map (λ (v : Vec Served Global). map served_in (vec_items v)) c.served }

-- all that the terminal handed in, in order, with the card's answers
abbrev pub sending_events : Option (List Sending) → List Event
sending_events None = []
sending_events (Some sendings) = map sending_event sendings

abbrev pub said_events : Said → List Event
said_events said = opening_events said.opening ++ sending_events said.served

-- A channel is open after two commands, INITIALIZE UPDATE for the key set and EXTERNAL AUTHENTICATE at the level, both answered
-- 9000. Those of the bare commands that can be sent at that level were sent, in their order; each was answered by its own rule,
-- and what the card holds is what these rules leave.
pub record Channelled (cipher : Algorithm) (m n : Model) (talk : Talk) (said : Said) : Type 0 where
  pub answer : List ℕ
  pub update : said.opening.0 ≡ (update_command talk.set.version talk.host, answer)
  pub success : is9000 answer ≡ true
  pub authenticate : said.opening.1 ≡ Some (authenticate_command (level_value talk.level) (cryptogram_to cipher talk.set talk.host (challenge_in answer)) (code_to cipher talk.set talk.host (challenge_in answer) talk.level), status_bytes Success)
  pub sendings : List Sending
  pub opened : said.served ≡ Some sendings
  pub sent : map (λ (s : Sending). s.0) sendings ≡ sent_of talk.level (bare_in talk.commands.now)
  pub serves : Serves cipher talk.set.keys.kek m.contents sendings n.contents

-- so it is for a terminal that has a set of the card's, unless the card is TERMINATED or spent
abbrev pub Conversed : Algorithm → Model → Model → Side → Talk → Said → Type 0
Conversed cipher m n t talk said =
    (drawn : List ℕ) (rest : Challenges) → HasSet t talk.set → Welcome m talk.set drawn rest talk.level → Channelled cipher m n talk said

-- Turns handed in to a card, and then the conversation; `mid` is the card between the two.
pub record Went (cipher : Algorithm) (m n : Model) (t : Side) (handed : List Input) (talk : Talk) (events : List Event) (said : Said) : Type 0 where
  pub mid : Model
  pub played : Played cipher m mid handed events
  pub conversed : Conversed cipher mid n t talk said
  pub onward : Onward cipher mid (said_events said) n
  pub channelled : is_some said.served ≡ is_answered said.opening.1

-- Turns handed in to a card that held `start`, and then the channel. `played` is the card between the two.
pub record Run (cipher : Algorithm) (start : Held) (coming : Challenges) (n : Model) (handed : List Input) (talk : Talk) (events : List Event) (said : Said) : Type 0 where
  pub played : Model
  -- what is promised of every run, for the turns
  pub turns : Told cipher start played handed events
  -- and for all that was handed in, the terminal's commands too
  pub all : Told cipher start n (handed ++ map input_of (said_events said)) (events ++ said_events said)
  -- each answer is the card's own, to the turns and to the terminal
  pub ran : Ran cipher (model start Closed coming) (events ++ said_events said) n
  -- commands were sent in a channel just where EXTERNAL AUTHENTICATE was answered 9000
  pub channelled : is_some said.served ≡ is_answered said.opening.1
  -- one challenge is gone for each INITIALIZE UPDATE answered 9000, and no other
  pub count : length coming ≡ updates_answered events + length played.coming
  -- unless the card is TERMINATED or spent, a terminal with a set of the card's is served at level 01 or 03
  pub channel : is_terminated played.contents.state ≡ false → updates_answered events < length coming → set_of_version talk.set.version played.contents.sets ≡ Some talk.set → is_plain talk.level ≡ false → Channelled cipher played n talk said

-- The refusal of an image, or of a key set that no terminal is made of; nothing is handed in then.

abbrev pub unmade_of : Result Side Refusal → Option Refusal
unmade_of (Ok t) = None
unmade_of (Err e) = Some e

abbrev pub refused_for : Result Held Refusal → KeySet → Option Refusal
refused_for (Err e) k = Some e
refused_for (Ok h) k = unmade_of (made_of k.version k.keys.enc k.keys.mac k.keys.kek)

abbrev pub refusal : List ℕ → KeySet → Option Refusal
refusal image k = refused_for (read_image image) k

-- The card is one of the image, and the run is as said above.
pub record Conducted (cipher : Algorithm) (image : List ℕ) (coming : Challenges) (n : Model) (handed : List Input) (talk : Talk) (events : List Event) (said : Said) : Type 0 where
  pub start : Held
  pub read : read_image image ≡ Ok start
  pub accepted : refusal image talk.set ≡ None
  pub run : Run cipher start coming n handed talk events said

-- a refusal is that of the image or of the key set, and the source comes back as it was given; want of memory comes only where
-- there is none
abbrev pub Troubled : {S : Type 0} → List ℕ → KeySet → S → S → Trouble → Type 0
Troubled image k given back OutOfMemory = refusal image k ≡ None
Troubled image k given back (Refused e) = (refusal image k ≡ Some e) × (back ≡ given)
