-- The plain card: an observer that is told the events alone, and keeps what a card engineer would write down of them: what the
-- card holds, the challenge that waits, and the open channel with the messages whose codes were found right in it.
use Rattle.std.specs.Prelude.{ℕ, Bool, cond, ◌&&◌, List, [], ◌∷◌, ◌++◌, take, drop, Some, None, Ok, Err, fold, Option, Result}
use Rattle.std.specs.Str.{bytes_eq}
use Rattle.answers.specs.declared.StatusWord.{StatusWord}
use Rattle.apdu.specs.declared.Instruction.{Instruction}
use Rattle.apdu.specs.declared.Instruction.TheVariants.{Select, InitializeUpdate, ExternalAuthenticate, Manage}
use Rattle.apdu.specs.declared.Management.{Management}
use Rattle.apdu.specs.Apdu.{Apdu, apdu, changing, management_of}
use Rattle.card.specs.Admitting.{admitted, is_terminated}
use Rattle.card.specs.Channels.{granted_level, plain_allowed}
use Rattle.card.specs.Opening.{keys_of}
use Rattle.cipher.specs.Blocks.{Algorithm, Direction, zeros}
use Rattle.contents.specs.declared.records.KeySet.{KeySet}
use Rattle.contents.specs.Held.{Held}
use Rattle.contents.specs.Records.{chosen_set}
use Rattle.rules.specs.Own.{change_of, applied}
use Rattle.scp01.specs.declared.Level.{Level}
use Rattle.scp01.specs.declared.Level.TheVariants.{Plain, Mac, MacEncrypted}
use Rattle.scp01.specs.declared.Session.{Session}
use Rattle.cipher.specs.declared.Keys.{Keys}
use Rattle.scp01.specs.Inside.{unwrapped}
use Rattle.scp01.specs.Levels.{session}
use Rattle.scp01.specs.Session.{host_cryptogram, command_code}
use Rattle.runs.specs.Events.{Event, reset, answered, is9000}

-- what a code is taken over
pub record Message : Type 0 where
  pub instruction : ℕ
  pub p1 : ℕ
  pub p2 : ℕ
  pub body : List ℕ

abbrev pub message : Apdu → List ℕ → Message
message c body = record { instruction = c.instruction; p1 = c.p1; p2 = c.p2; body = body }

abbrev pub code_from : Direction → List ℕ → List ℕ → Message → List ℕ
code_from enc key chain m = command_code enc key chain m.instruction m.p1 m.p2 m.body

-- the code over messages: the last one's, each starting from the one before, the first from zeros
unfoldable pub code_over : Direction → List ℕ → List Message → List ℕ
code_over enc key ms = fold (code_from enc key) zeros ms

-- no channel; a challenge that waits, with the key set that it was asked for and both challenges; an open channel
pub data Line : Type 0 where
  idle : Line
  asked : KeySet → List ℕ → List ℕ → Line
  talking : Level → Keys → List Message → Line

pub record PlainCard : Type 0 where
  pub contents : Held
  pub line : Line

abbrev pub plain_card : Held → Line → PlainCard
plain_card contents line = record { contents = contents; line = line }

-- the challenge in INITIALIZE UPDATE's answer
abbrev pub challenge_in : List ℕ → List ℕ
challenge_in answer = take 8 (drop 12 answer)

abbrev pub asked_for : Option KeySet → List ℕ → List ℕ → Line
asked_for None host answer = idle
asked_for (Some k) host answer = asked k host (challenge_in answer)

-- EXTERNAL AUTHENTICATE's message: its level and the host cryptogram
abbrev pub first_message : Apdu → Message
first_message c = record { instruction = 0x82; p1 = c.p1; p2 = 0x00; body = take 8 c.field }

-- its cryptogram and its code are right
abbrev pub authenticates : Algorithm → Keys → List ℕ → List ℕ → Apdu → Bool
authenticates cipher keys host card c =
    bytes_eq (take 8 c.field) (host_cryptogram cipher.enc keys.enc host card)
    && bytes_eq (drop 8 c.field) (code_over cipher.enc keys.mac (first_message c ∷ []))

abbrev pub opened_at : Algorithm → Keys → List ℕ → List ℕ → Apdu → Option Level → Line
opened_at cipher keys host card c None = idle
opened_at cipher keys host card c (Some level) =
    cond (authenticates cipher keys host card c) (talking level keys (first_message c ∷ [])) idle

abbrev pub opened_by : Algorithm → Held → Line → Apdu → Line
opened_by cipher h idle c = idle
opened_by cipher h (asked k host card) c = opened_at cipher (keys_of cipher k host card) host card c (granted_level h.state c.p1)
opened_by cipher h (talking level keys ms) c = idle

-- the messages found right, once a command is read: at level 00 there are no codes
abbrev pub found_right : Level → List Message → Message → List Message
found_right Plain ms m = ms
found_right Mac ms m = ms ++ m ∷ []
found_right MacEncrypted ms m = ms ++ m ∷ []

-- the channel as both ends have it
abbrev pub session_of : Algorithm → Level → Keys → List Message → Session
session_of cipher level keys ms = session level keys (code_over cipher.enc keys.mac ms)

-- the change of a changing command answered 9000
abbrev pub changed : Algorithm → Keys → Held → Management → Apdu → List ℕ → List ℕ → Held
changed cipher keys h i c body answer =
    cond (changing i && is9000 answer) (applied h (change_of cipher keys.kek i c.p1 c.p2 body)) h

-- a TERMINATED card has no channel
abbrev pub kept_talking : Held → Level → Keys → List Message → PlainCard
kept_talking h level keys ms = plain_card h (cond (is_terminated h.state) idle (talking level keys ms))

abbrev pub read_as : Algorithm → Held → Level → Keys → List Message → Management → Apdu → List ℕ → Option (List ℕ × List ℕ) → PlainCard
read_as cipher h level keys ms i c answer None = plain_card h idle
read_as cipher h level keys ms i c answer (Some read) =
    kept_talking (changed cipher keys h i c read.0 answer) level keys (found_right level ms (message c read.0))

-- a channel command
abbrev pub in_channel : Algorithm → Held → Line → Management → Apdu → List ℕ → PlainCard
in_channel cipher h idle i c answer = plain_card h idle
in_channel cipher h (asked k host card) i c answer = plain_card h (asked k host card)
in_channel cipher h (talking level keys ms) i c answer =
    read_as cipher h level keys ms i c answer (unwrapped cipher (session_of cipher level keys ms) (plain_allowed h.state) c level)

abbrev pub noted_as : Algorithm → PlainCard → Instruction Management → Apdu → List ℕ → PlainCard
noted_as cipher p Select c answer = plain_card p.contents idle
noted_as cipher p InitializeUpdate c answer =
    plain_card p.contents (cond (is9000 answer) (asked_for (chosen_set c.p1 p.contents.sets) c.field answer) idle)
noted_as cipher p ExternalAuthenticate c answer =
    plain_card p.contents (cond (is9000 answer) (opened_by cipher p.contents p.line c) idle)
noted_as cipher p (Manage i) c answer = in_channel cipher p.contents p.line i c answer

abbrev pub noted_if : Algorithm → PlainCard → Result (Instruction Management) StatusWord → Apdu → List ℕ → PlainCard
noted_if cipher p (Err status) c answer = p
noted_if cipher p (Ok i) c answer = noted_as cipher p i c answer

abbrev pub noted : Algorithm → PlainCard → Option Apdu → List ℕ → PlainCard
noted cipher p None answer = p
noted cipher p (Some c) answer = noted_if cipher p (admitted management_of p.contents.state c) c answer

abbrev pub observe : Algorithm → PlainCard → Event → PlainCard
observe cipher p reset = plain_card p.contents idle
observe cipher p (answered cmd answer) = noted cipher p (apdu cmd) answer

-- the plain card after some events
abbrev pub observed : Algorithm → PlainCard → List Event → PlainCard
observed cipher p es = fold (observe cipher) p es
