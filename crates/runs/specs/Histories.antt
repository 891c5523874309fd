-- What the events tell of a challenge that waits and of an open channel: which commands brought it about, and that nothing has
-- ended it since.
use Rattle.std.specs.Prelude.{◌≡◌, ℕ, true, false, List, [], ◌∷◌, ◌++◌, take, drop, Some, None, Ok, Err, Option, Result}
use Rattle.answers.specs.declared.StatusWord.{StatusWord}
use Rattle.apdu.specs.declared.Instruction.{Instruction}
use Rattle.apdu.specs.declared.Instruction.TheVariants.{InitializeUpdate, ExternalAuthenticate, Manage}
use Rattle.apdu.specs.declared.Management.{Management}
use Rattle.apdu.specs.Apdu.{Apdu, apdu, management_of}
use Rattle.card.specs.Admitting.{admitted, is_terminated}
use Rattle.card.specs.Channels.{granted_level, plain_allowed}
use Rattle.card.specs.Opening.{keys_of}
use Rattle.cipher.specs.Blocks.{Algorithm}
use Rattle.contents.specs.declared.life.CardState.{CardState}
use Rattle.contents.specs.declared.records.KeySet.{KeySet}
use Rattle.contents.specs.Held.{Held}
use Rattle.contents.specs.Records.{chosen_set}
use Rattle.scp01.specs.declared.Level.{Level}
use Rattle.cipher.specs.declared.Keys.{Keys}
use Rattle.scp01.specs.Inside.{unwrapped}
use Rattle.scp01.specs.Session.{host_cryptogram}
use Rattle.runs.specs.Events.{Event, answered, is9000}
use Rattle.runs.specs.Plain.{plain_card, Line, idle, asked, talking, Message, message, first_message, code_over, challenge_in, found_right, session_of, observed}

-- what the plain card holds after some events
abbrev pub holding : Algorithm → Held → List Event → Held
holding cipher start es = (observed cipher (plain_card start idle) es).contents

-- The instruction that a card in this state takes a command for, and the command; none where it is ill-formed or refused by the
-- checks that come first.

abbrev pub taken_for : Apdu → Result (Instruction Management) StatusWord → Option (Instruction Management × Apdu)
taken_for c (Err status) = None
taken_for c (Ok i) = Some (i, c)

abbrev pub taken_if : CardState → Option Apdu → Option (Instruction Management × Apdu)
taken_if state None = None
taken_if state (Some c) = taken_for c (admitted management_of state c)

abbrev pub taken_in : CardState → List ℕ → Option (Instruction Management × Apdu)
taken_in state command = taken_if state (apdu command)

-- A challenge waits after some events, for a key set, with the host challenge that it answers. INITIALIZE UPDATE was answered 9000
-- with it, for a set that the card held then; since then there were channel commands and commands that were not taken, no others.
pub data Waits (cipher : Algorithm) (start : Held) : List Event → KeySet → List ℕ → List ℕ → Type 0 where
  drawn : (es : List Event) (command answer : List ℕ) (c : Apdu) (k : KeySet) → taken_in (holding cipher start es).state command ≡ Some (InitializeUpdate, c) → is9000 answer ≡ true → chosen_set c.p1 (holding cipher start es).sets ≡ Some k → Waits cipher start (es ++ answered command answer ∷ []) k c.field (challenge_in answer)
  kept : (es : List Event) (k : KeySet) (host card command answer : List ℕ) (c : Apdu) (i : Management) → Waits cipher start es k host card → taken_in (holding cipher start es).state command ≡ Some (Manage i, c) → Waits cipher start (es ++ answered command answer ∷ []) k host card
  ignored : (es : List Event) (k : KeySet) (host card command answer : List ℕ) → Waits cipher start es k host card → taken_in (holding cipher start es).state command ≡ None → Waits cipher start (es ++ answered command answer ∷ []) k host card

-- EXTERNAL AUTHENTICATE shows the host cryptogram, and the code over it from zeros
pub record Authentic (cipher : Algorithm) (keys : Keys) (host card : List ℕ) (c : Apdu) : Type 0 where
  pub cryptogram : take 8 c.field ≡ host_cryptogram cipher.enc keys.enc host card
  pub code : drop 8 c.field ≡ code_over cipher.enc keys.mac (first_message c ∷ [])

-- A channel is open after some events, at a level, with its session keys and the messages whose codes were found right in it, in
-- order. EXTERNAL AUTHENTICATE with the right cryptogram and code was answered 9000 while a challenge waited; since then there were
-- channel commands that were read in the channel, which left the card not TERMINATED, and commands that were not taken, no others.
pub data OpenSince (cipher : Algorithm) (start : Held) : List Event → Level → Keys → List Message → Type 0 where
  authenticated : (es : List Event) (k : KeySet) (host card command answer : List ℕ) (c : Apdu) (level : Level) → Waits cipher start es k host card → taken_in (holding cipher start es).state command ≡ Some (ExternalAuthenticate, c) → is9000 answer ≡ true → granted_level (holding cipher start es).state c.p1 ≡ Some level → Authentic cipher (keys_of cipher k host card) host card c → OpenSince cipher start (es ++ answered command answer ∷ []) level (keys_of cipher k host card) (first_message c ∷ [])
  read : (es : List Event) (level : Level) (keys : Keys) (ms : List Message) (command answer : List ℕ) (c : Apdu) (i : Management) (body code : List ℕ) → OpenSince cipher start es level keys ms → taken_in (holding cipher start es).state command ≡ Some (Manage i, c) → unwrapped cipher (session_of cipher level keys ms) (plain_allowed (holding cipher start es).state) c level ≡ Some (body, code) → is_terminated (holding cipher start (es ++ answered command answer ∷ [])).state ≡ false → OpenSince cipher start (es ++ answered command answer ∷ []) level keys (found_right level ms (message c body))
  passed : (es : List Event) (level : Level) (keys : Keys) (ms : List Message) (command answer : List ℕ) → OpenSince cipher start es level keys ms → taken_in (holding cipher start es).state command ≡ None → OpenSince cipher start (es ++ answered command answer ∷ []) level keys ms

-- the plain card's line comes about so
abbrev pub History : Algorithm → Held → List Event → Line → Type 0
History cipher start es idle = Unit {0}
History cipher start es (asked k host card) = Waits cipher start es k host card
History cipher start es (talking level keys ms) = OpenSince cipher start es level keys ms
