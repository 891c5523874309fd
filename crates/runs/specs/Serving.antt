-- A terminal that has a card's key set is served: what it holds, what a channel's commands come to, and how many challenges
-- its channels took.
use Rattle.std.specs.Prelude.{◌≡◌, ℕ, ◌+◌, true, false, cond, ◌&&◌, List, [], ◌∷◌, ◌++◌, Some, None, fold, Option, ◌==◌}
use Rattle.answers.specs.declared.StatusWord.TheVariants.{Success, ConditionsNotSatisfied}
use Rattle.answers.specs.Numbers.{status_bytes}
use Rattle.answers.specs.Replies.{Reply, reply, reply_bytes}
use Rattle.apdu.specs.declared.Management.{Management}
use Rattle.apdu.specs.Apdu.{Apdu, apdu, management_of}
use Rattle.card.specs.Admitting.{is_terminated}
use Rattle.card.specs.declared.channel.Channel.TheVariants.{Waiting}
use Rattle.card.specs.Channels.{handshake}
use Rattle.card.specs.Models.{Model, model}
use Rattle.card.specs.Opening.{keys_of}
use Rattle.card.specs.Replies.{update_data}
use Rattle.challenge.specs.Draws.{Challenges}
use Rattle.cipher.specs.Blocks.{Algorithm, zeros}
use Rattle.contents.specs.declared.records.KeySet.{KeySet}
use Rattle.contents.specs.Held.{Held}
use Rattle.rules.specs.Own.{own_rule}
use Rattle.scp01.specs.declared.Level.{Level}
use Rattle.scp01.specs.declared.Session.{Session}
use Rattle.scp01.specs.Levels.{level_value, session}
use Rattle.scp01.specs.Session.{card_cryptogram, host_cryptogram, command_code}
use Rattle.terminal.specs.Sides.{Side}
use Rattle.runs.specs.Events.{Event, reset, answered, is9000}

-- the terminal has this key set: its version and its three keys
pub record HasSet (t : Side) (k : KeySet) : Type 0 where
  pub version : t.version ≡ k.version
  pub enc : t.keys.enc ≡ k.keys.enc
  pub mac : t.keys.mac ≡ k.keys.mac
  pub kek : t.keys.kek ≡ k.keys.kek

-- Opening a channel with a key set, a host challenge and a card challenge.

-- what the card is and says once it has drawn the card challenge
abbrev pub challenged : Algorithm → Held → KeySet → List ℕ → List ℕ → Challenges → Model × Reply
challenged cipher h k host card rest =
    let keys = keys_of cipher k host card in
    (model h (Waiting (handshake keys host card)) rest, reply (update_data h.diversification k.version card (card_cryptogram cipher.enc keys.enc host card)) Success)

-- the host cryptogram that the terminal shows, the code over it at a level, and the session that both ends come to
abbrev pub cryptogram_to : Algorithm → KeySet → List ℕ → List ℕ → List ℕ
cryptogram_to cipher k host card = host_cryptogram cipher.enc (keys_of cipher k host card).enc host card

abbrev pub code_to : Algorithm → KeySet → List ℕ → List ℕ → Level → List ℕ
code_to cipher k host card level =
    command_code cipher.enc (keys_of cipher k host card).mac zeros 0x82 (level_value level) 0x00 (cryptogram_to cipher k host card)

abbrev pub session_to : Algorithm → KeySet → List ℕ → List ℕ → Level → Session
session_to cipher k host card level = session level (keys_of cipher k host card) (code_to cipher k host card level)

-- Inside a channel.

-- the own rule of a bare command
abbrev pub rule_of : Algorithm → List ℕ → Held → Management → Apdu → Held × Reply
rule_of cipher kek h i c = own_rule cipher kek h i c.p1 c.p2 c.field

-- a bare command, what the terminal wrapped it to, and the card's answer
abbrev pub Sending : Type 0
Sending = List ℕ × List ℕ × List ℕ

-- Bare commands, each with its answer, and what the card holds after them, where it held h before them. Nothing was sent yet, and
-- the card holds h; or one bare command more was sent, a well-formed channel command, to a card that was not TERMINATED: the
-- answer is that of the command's own rule on what the card held then, and the card holds what that rule leaves; or to a
-- TERMINATED card, which answers 6985 and holds what it held.
pub data Serves (cipher : Algorithm) (kek : List ℕ) (h : Held) : List Sending → Held → Type 0 where
  unasked : Serves cipher kek h [] h
  served : {es : List Sending} {g : Held} (command sent answer : List ℕ) (c : Apdu) (i : Management) → Serves cipher kek h es g → apdu command ≡ Some c → management_of c.instruction ≡ Some i → is_terminated g.state ≡ false → answer ≡ reply_bytes (rule_of cipher kek g i c).1 → Serves cipher kek h (es ++ (command, sent, answer) ∷ []) (rule_of cipher kek g i c).0
  refused : {es : List Sending} {g : Held} (command sent answer : List ℕ) → Serves cipher kek h es g → is_terminated g.state ≡ true → answer ≡ status_bytes ConditionsNotSatisfied → Serves cipher kek h (es ++ (command, sent, answer) ∷ []) g

-- INITIALIZE UPDATE in its own class, answered 9000, takes one challenge; no other event takes any
abbrev pub update_answered : Option Apdu → List ℕ → ℕ
update_answered None answer = 0
update_answered (Some c) answer = cond (c.instruction == 0x50 && (c.class == 0x80 && is9000 answer)) 1 0

abbrev pub challenges_taken : Event → ℕ
challenges_taken reset = 0
challenges_taken (answered cmd answer) = update_answered (apdu cmd) answer

-- how many INITIALIZE UPDATE were answered 9000
abbrev pub updates_answered : List Event → ℕ
updates_answered es = fold (λ (n : ℕ) (e : Event). n + challenges_taken e) 0 es
