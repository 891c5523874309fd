-- What holds of every run.
use Rattle.std.specs.Prelude.{◌≡◌, ℕ, Bool, true, false, cond, ◌&&◌, List, [], ◌∷◌, ◌++◌, Some, None, Ok, Err, fold, Option, Result}
use Rattle.answers.specs.declared.StatusWord.{StatusWord}
use Rattle.apdu.specs.declared.Instruction.{Instruction}
use Rattle.apdu.specs.declared.Instruction.TheVariants.{Select, InitializeUpdate, ExternalAuthenticate, Manage}
use Rattle.apdu.specs.declared.Management.{Management}
use Rattle.apdu.specs.Apdu.{Apdu, apdu, changing, instruction_of, management_of}
use Rattle.card.specs.Admitting.{admitted}
use Rattle.card.specs.declared.channel.Handshake.{Handshake}
use Rattle.card.specs.declared.channel.Channel.{Channel}
use Rattle.card.specs.declared.channel.Channel.TheVariants.{Closed, Waiting, Open}
use Rattle.card.specs.Channels.{plain_allowed}
use Rattle.card.specs.Models.{Model}
use Rattle.card.specs.Opening.{keys_of}
use Rattle.cipher.specs.Blocks.{Algorithm}
use Rattle.contents.specs.declared.records.KeySet.{KeySet}
use Rattle.contents.specs.Held.{Held}
use Rattle.rules.specs.Own.{Change, change_of, applied}
use Rattle.scp01.specs.declared.Level.{Level}
use Rattle.scp01.specs.declared.Level.TheVariants.{Plain, Mac, MacEncrypted}
use Rattle.cipher.specs.declared.Keys.{Keys}
use Rattle.scp01.specs.declared.Session.{Session}
use Rattle.scp01.specs.Inside.{unwrapped, code_in}
use Rattle.runs.specs.Events.{Event, reset, answered, is9000}
use Rattle.runs.specs.Histories.{holding, OpenSince}
use Rattle.runs.specs.Plain.{PlainCard, plain_card, Line, idle, asked, talking, Message, message, code_over, session_of, observe}

-- The contents: the image's, altered by the changes of the changing commands answered 9000, in their order, by nothing else.

abbrev pub read_change : Algorithm → Management → Apdu → Keys → Option (List ℕ × List ℕ) → List Change
read_change cipher i c keys None = []
read_change cipher i c keys (Some read) = change_of cipher keys.kek i c.p1 c.p2 read.0 ∷ []

abbrev pub change_inside : Algorithm → Held → Line → Management → Apdu → List Change
change_inside cipher h idle i c = []
change_inside cipher h (asked k host card) i c = []
change_inside cipher h (talking level keys ms) i c =
    read_change cipher i c keys (unwrapped cipher (session_of cipher level keys ms) (plain_allowed h.state) c level)

abbrev pub change_as : Algorithm → PlainCard → Instruction Management → Apdu → List ℕ → List Change
change_as cipher p Select c answer = []
change_as cipher p InitializeUpdate c answer = []
change_as cipher p ExternalAuthenticate c answer = []
change_as cipher p (Manage i) c answer = cond (changing i && is9000 answer) (change_inside cipher p.contents p.line i c) []

abbrev pub change_if : Algorithm → PlainCard → Result (Instruction Management) StatusWord → Apdu → List ℕ → List Change
change_if cipher p (Err status) c answer = []
change_if cipher p (Ok i) c answer = change_as cipher p i c answer

abbrev pub change_by : Algorithm → PlainCard → Option Apdu → List ℕ → List Change
change_by cipher p None answer = []
change_by cipher p (Some c) answer = change_if cipher p (admitted management_of p.contents.state c) c answer

-- the change of one event: at most one, of a changing command answered 9000
abbrev pub change_in : Algorithm → PlainCard → Event → List Change
change_in cipher p reset = []
change_in cipher p (answered cmd answer) = change_by cipher p (apdu cmd) answer

-- the changes of some events, in their order
abbrev pub changes_in : Algorithm → PlainCard → List Event → List Change
changes_in cipher p [] = []
changes_in cipher p (e ∷ es) = change_in cipher p e ++ changes_in cipher (observe cipher p e) es

-- what is held once these changes are made
abbrev pub altered : Held → List Change → Held
altered h changes = fold applied h changes

abbrev pub is_plain : Level → Bool
is_plain Plain = true
is_plain Mac = false
is_plain MacEncrypted = false

-- A changing command came inside a channel: opened by INITIALIZE UPDATE and EXTERNAL AUTHENTICATE, and not closed since; of level
-- 01 or 03 where the card's state asks for codes; and there its code is the code over all messages found right in that channel, in
-- order, itself last.
pub record Inside (cipher : Algorithm) (start : Held) (before : List Event) (c : Apdu) : Type 0 where
  pub level : Level
  pub keys : Keys
  pub messages : List Message
  pub body : List ℕ
  pub next : List ℕ
  pub opened : OpenSince cipher start before level keys messages
  pub read : unwrapped cipher (session_of cipher level keys messages) (plain_allowed (holding cipher start before).state) c level ≡ Some (body, next)
  pub strict : plain_allowed (holding cipher start before).state ≡ false → is_plain level ≡ false
  pub code : is_plain level ≡ false → code_in c.field ≡ code_over cipher.enc keys.mac (messages ++ message c body ∷ [])

abbrev pub Lawful : Algorithm → Held → List Event → Type 0
Lawful cipher start events =
    (before later : List Event) (cmd answer : List ℕ) (c : Apdu) (i : Management) → events ≡ before ++ answered cmd answer ∷ later → apdu cmd ≡ Some c → instruction_of management_of c.instruction ≡ Some (Manage i) → changing i ≡ true → is9000 answer ≡ true → Inside cipher start before c

-- The plain card's line is the card's channel.

-- the same challenges wait, and the session keys are those of the key set that was asked for
pub record Asking (cipher : Algorithm) (w : Handshake) (l : Line) : Type 0 where
  pub set : KeySet
  pub line : l ≡ asked set w.challenges.host w.challenges.card
  pub keys : w.keys ≡ keys_of cipher set w.challenges.host w.challenges.card

-- the same channel, whose chaining value is the code over the messages found right
pub record Talking (cipher : Algorithm) (s : Session) (l : Line) : Type 0 where
  pub messages : List Message
  pub line : l ≡ talking s.level s.keys messages
  pub chain : s.chain ≡ code_over cipher.enc s.keys.mac messages

abbrev pub Matches : Algorithm → Channel → Line → Type 0
Matches cipher Closed l = l ≡ idle
Matches cipher (Waiting w) l = Asking cipher w l
Matches cipher (Open s) l = Talking cipher s l

-- the card is what the plain card says
pub record Follows (cipher : Algorithm) (m : Model) (p : PlainCard) : Type 0 where
  pub line : Line
  pub is : p ≡ plain_card m.contents line
  pub channel : Matches cipher m.channel line
