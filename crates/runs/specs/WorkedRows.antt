-- Worked examples, over the definitions that the contracts cite.
use Rattle.std.specs.Prelude.{◌≡◌, ℕ, ◌≤◌, List, [], ◌∷◌, length, Some}
use Rattle.answers.specs.declared.Refusal.{Refusal}
use Rattle.answers.specs.declared.Refusal.TheVariants.{IllArgument}
use Rattle.answers.specs.declared.StatusWord.TheVariants.{Success, WrongData}
use Rattle.answers.specs.Numbers.{refusal_number}
use Rattle.answers.specs.Replies.{only, reply_bytes}
use Rattle.apdu.specs.Apdu.{Apdu, apdu}
use Rattle.cipher.specs.Blocks.{Algorithm}
use Rattle.contents.specs.declared.life.CardState.TheVariants.{CmLocked}
use Rattle.contents.specs.Changes.{in_card_state}
use Rattle.contents.specs.Held.{Held}
use Rattle.contents.specs.Life.{card_state_value}
use Rattle.contents.specs.Records.{card_manager}
use Rattle.rules.specs.SetStatus.{set_status}
use Rattle.scp01.specs.declared.Level.TheVariants.{MacEncrypted}
use Rattle.scp01.specs.declared.Session.{Session}
use Rattle.scp01.specs.ChannelRows.{ChannelRows}
use Rattle.terminal.specs.declared.Phase.TheVariants.{Open}
use Rattle.terminal.specs.Sides.{Side, wraps, refused_as}

-- a terminal with an open channel at level 03 refuses a command with a body of n bytes, and nothing is written
abbrev pub RefusedWith : ℕ → Refusal → Type 0
RefusedWith n e =
    (cipher : Algorithm) (t : Side) (s : Session) (command area : List ℕ) (c : Apdu) → t.phase ≡ Open s → s.level ≡ MacEncrypted → 261 ≤ length area → apdu command ≡ Some c → length c.field ≡ n → wraps cipher t command area ≡ refused_as t area e

pub record WorkedRows : Type 0 where
  -- bodies, padding and lengths inside a channel
  pub channel : ChannelRows
  -- at level 03 a body of 240 bytes is refusal 10
  pub longer : RefusedWith 240 IllArgument
  pub longer_number : refusal_number IllArgument ≡ 10
  -- a card goes from 0F to 7F with 9000
  pub locked : (h : Held) → card_state_value h.state ≡ 0x0F → set_status h 0x80 0x7F card_manager ≡ (in_card_state CmLocked h, only Success)
  pub locked_state : card_state_value CmLocked ≡ 0x7F
  pub locked_answer : reply_bytes (only Success) ≡ 0x90 ∷ 0x00 ∷ []
  -- and from 0F to 07 with 6A80, where nothing moves
  pub kept : (h : Held) → card_state_value h.state ≡ 0x0F → set_status h 0x80 0x07 card_manager ≡ (h, only WrongData)
  pub kept_answer : reply_bytes (only WrongData) ≡ 0x6A ∷ 0x80 ∷ []
