-- The secure channel of a card: none, a challenge that waits for the terminal's cryptogram, or open at a level.
use Rattle.std.specs.Prelude.{ℕ, Bool, true, false, cond, ◌&&◌, List, length, Some, None, Option, ◌==◌}
use Rattle.contents.specs.declared.life.CardState.{CardState}
use Rattle.contents.specs.declared.life.CardState.TheVariants.{OpReady, Initialized, Secured, CmLocked, Terminated}
use Rattle.cipher.specs.declared.Keys.{Keys}
use Rattle.apdu.specs.declared.Instruction.{Instruction}
use Rattle.apdu.specs.declared.Instruction.TheVariants.{Select, InitializeUpdate, ExternalAuthenticate, Manage}
use Rattle.scp01.specs.declared.Level.{Level}
use Rattle.scp01.specs.declared.Level.TheVariants.{Plain, Mac, MacEncrypted}
use Rattle.card.specs.declared.channel.Handshake.{Handshake}
use Rattle.scp01.specs.Levels.{level_of}
use Rattle.card.specs.declared.channel.Channel.{Channel}
use Rattle.card.specs.declared.channel.Channel.TheVariants.{Closed, Waiting, Open}

-- whether a card in this state lets a channel go without codes
abbrev pub plain_allowed : CardState → Bool
plain_allowed OpReady = true
plain_allowed Initialized = true
plain_allowed Secured = false
plain_allowed CmLocked = false
plain_allowed Terminated = false

abbrev pub granted_in : CardState → Option Level → Option Level
granted_in state None = None
granted_in state (Some Plain) = cond (plain_allowed state) (Some Plain) None
granted_in state (Some Mac) = Some Mac
granted_in state (Some MacEncrypted) = Some MacEncrypted

-- the level that a byte asks for, where a card in this state grants it
abbrev pub granted_level : CardState → ℕ → Option Level
granted_level state byte = granted_in state (level_of byte)

abbrev pub handshake : Keys → List ℕ → List ℕ → Handshake
handshake keys host card = record { keys = keys; challenges = record { host = host; card = card } }

-- the channel once an instruction is taken, and before its own rule: SELECT, INITIALIZE UPDATE and EXTERNAL AUTHENTICATE
-- close what is open and drop what waits; a channel command leaves it
abbrev pub entered : {M : Type 0} → Channel → Instruction M → Channel
entered h Select = Closed
entered h InitializeUpdate = Closed
entered h ExternalAuthenticate = Closed
entered h (Manage i) = h

-- what waits
abbrev pub waiting : Channel → Option Handshake
waiting Closed = None
waiting (Waiting w) = Some w
waiting (Open s) = None

-- EXTERNAL AUTHENTICATE alone uses up what waits
abbrev pub used_up : {M : Type 0} → Channel → Instruction M → Option Handshake
used_up h Select = None
used_up h InitializeUpdate = None
used_up h ExternalAuthenticate = waiting h
used_up h (Manage i) = None

-- a challenge that waits, and the one that it answers, have eight bytes
abbrev pub sized_channel : Channel → Bool
sized_channel Closed = true
sized_channel (Waiting w) = length w.challenges.host == 8 && length w.challenges.card == 8
sized_channel (Open s) = true
