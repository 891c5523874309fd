-- What a terminal that has one of a card's key sets brings about.
use Rattle.std.specs.Prelude.{◌≡◌, ℕ, ◌≤◌, Bool, false, List, [], ◌∷◌, take, replicate, Some, None, Ok, Err, Option, Result}
use Rattle.std.specs.Option.{option_map}
use Rattle.answers.specs.declared.Refusal.{Refusal}
use Rattle.answers.specs.declared.StatusWord.TheVariants.{Success}
use Rattle.answers.specs.Numbers.{status_bytes}
use Rattle.answers.specs.Replies.{reply_bytes}
use Rattle.card.specs.Admitting.{is_terminated}
use Rattle.card.specs.declared.channel.Channel.TheVariants.{Open}
use Rattle.card.specs.Models.{Model, model}
use Rattle.challenge.specs.Draws.{Challenges}
use Rattle.cipher.specs.Blocks.{Algorithm}
use Rattle.contents.specs.declared.records.KeySet.{KeySet}
use Rattle.contents.specs.Records.{set_of_version}
use Rattle.scp01.specs.declared.Level.{Level}
use Rattle.scp01.specs.Levels.{level_value}
use Rattle.scp01.specs.Understanding.{Keyed}
use Rattle.terminal.specs.declared.Phase.TheVariants as phase
use Rattle.terminal.specs.Sides.{Side, Outcome, in_phase, update_command, authenticate_command, authenticates}
use Rattle.runs.specs.declared.converse.Opening.{Opening}
use Rattle.runs.specs.Events.{Event, is9000}
use Rattle.runs.specs.Turns.{Pair, exchanged, event_of, HandedIn}
use Rattle.runs.specs.Laws.{is_plain}
use Rattle.runs.specs.Plain.{challenge_in}
use Rattle.runs.specs.Serving.{HasSet, challenged, cryptogram_to, code_to, session_to}

-- the card is not TERMINATED, its source is not spent, the key set is one of the card's, and the level has codes
pub record Welcome (m : Model) (k : KeySet) (drawn : List ℕ) (rest : Challenges) (level : Level) : Type 0 where
  pub alive : is_terminated m.contents.state ≡ false
  pub coming : m.coming ≡ drawn ∷ rest
  pub version : 1 ≤ k.version
  pub set : set_of_version k.version m.contents.sets ≡ Some k
  pub coded : is_plain level ≡ false

-- What opens a channel: INITIALIZE UPDATE with its answer, and EXTERNAL AUTHENTICATE with its answer, where the terminal sent it.

abbrev pub opening_in : Opening → Pair × Option Pair
opening_in o = (exchanged o.update, option_map exchanged o.authenticate)

abbrev pub events_if : Option Pair → List Event
events_if None = []
events_if (Some x) = event_of x ∷ []

abbrev pub opening_events : Pair × Option Pair → List Event
opening_events o = event_of o.0 ∷ events_if o.1

-- whether EXTERNAL AUTHENTICATE was answered 9000
abbrev pub is_answered : Option Pair → Bool
is_answered None = false
is_answered (Some x) = is9000 x.1

-- both commands were answered 9000: both ends have the same session
pub record Opened (cipher : Algorithm) (m n : Model) (t u : Side) (k : KeySet) (host drawn : List ℕ) (rest : Challenges) (level : Level) (o : Pair × Option Pair) : Type 0 where
  pub update : o.0 ≡ (update_command k.version host, reply_bytes (challenged cipher m.contents k host drawn rest).1)
  pub authenticate : o.1 ≡ Some (authenticate_command (level_value level) (cryptogram_to cipher k host drawn) (code_to cipher k host drawn level), status_bytes Success)
  pub shown : challenge_in (reply_bytes (challenged cipher m.contents k host drawn rest).1) ≡ drawn
  pub card : n ≡ model m.contents (Open (session_to cipher k host drawn level)) rest
  pub terminal : u ≡ in_phase t (phase.Open (session_to cipher k host drawn level))
  pub keyed : Keyed (session_to cipher k host drawn level)

-- so it is for a terminal that has a set of the card's
abbrev pub Opens : Algorithm → Model → Model → Side → Side → KeySet → List ℕ → Level → Pair × Option Pair → Type 0
Opens cipher m n t u k host level o =
    (drawn : List ℕ) (rest : Challenges) → HasSet t k → Welcome m k drawn rest level → Opened cipher m n t u k host drawn rest level o

-- INITIALIZE UPDATE went out with a host challenge
pub record Began (cipher : Algorithm) (m n : Model) (t u : Side) (host : List ℕ) (x : Pair) : Type 0 where
  pub terminal : u ≡ in_phase t (phase.Begun host)
  pub handed : HandedIn cipher m n (update_command t.version host) x

-- what a terminal wrote is handed in; where it refused, nothing is
abbrev pub CarriedAs : Algorithm → Model → Model → Result ℕ Refusal → List ℕ → Option Pair → Type 0
CarriedAs cipher m n (Err e) area noted = (noted ≡ None) × (n ≡ m)
CarriedAs cipher m n (Ok k) area noted = (x : Pair) × (noted ≡ Some x) × HandedIn cipher m n (take k area) x

abbrev pub Carried : Algorithm → Model → Model → Outcome → Option Pair → Type 0
Carried cipher m n o noted = CarriedAs cipher m n o.0 o.2 noted

-- the area that a terminal writes into
abbrev pub blank : List ℕ
blank = replicate 261 0

-- the terminal's outcome upon the card's answer to INITIALIZE UPDATE
abbrev pub showing : Algorithm → Side → List ℕ → Level → Outcome
showing cipher t answer level = authenticates cipher t answer (level_value level) blank
