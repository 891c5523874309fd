-- A terminal's side of a channel: what its calls write, and what they leave.
use Rattle.std.specs.Prelude.{ℕ, Bool, cond, ◌&&◌, List, ◌∷◌, ◌++◌, length, take, drop, Some, None, Ok, Err, Option, Result, ◌==◌, nat_le, nat_lt, slice_index}
use Rattle.std.specs.Str.{bytes_eq}
use Rattle.answers.specs.declared.Refusal.{Refusal}
use Rattle.answers.specs.declared.Refusal.TheVariants.{AreaTooShort, WrongAnswer, WrongCryptogram, OutOfOrder, IllArgument}
use Rattle.answers.specs.Areas.{fronted}
use Rattle.apdu.specs.declared.Management.{Management}
use Rattle.apdu.specs.Apdu.{Apdu, apdu, management_of}
use Rattle.cipher.specs.Blocks.{Algorithm, zeros}
use Rattle.cipher.specs.declared.Keys.{Keys}
use Rattle.scp01.specs.declared.Level.{Level}
use Rattle.scp01.specs.declared.Session.{Session}
use Rattle.scp01.specs.Levels.{level_of, level_value, session}
use Rattle.scp01.specs.Wrapping.{wrapped}
use Rattle.scp01.specs.Session.{session_keys, card_cryptogram, host_cryptogram, command_code}
use Rattle.terminal.specs.declared.Phase.{Phase}
use Rattle.terminal.specs.declared.Phase.TheVariants.{Made, Begun, Open}
use Rattle.terminal.specs.declared.opening.Shown.{Shown}
use Rattle.terminal.specs.declared.Terminal.{Terminal}

-- what a terminal is made of, and how far its channel is
pub record Side : Type 0 where
  pub version : ℕ
  pub keys : Keys
  pub phase : Phase

abbrev pub side : {C : Type 0} → Terminal C → Side
side t = record { version = t.version; keys = t.keys; phase = t.phase }

abbrev pub in_phase : Side → Phase → Side
in_phase t phase = record { version = t.version; keys = t.keys; phase = phase }

-- a version from 01 to 7F and three keys of sixteen bytes
abbrev pub fit_for : ℕ → List ℕ → List ℕ → List ℕ → Bool
fit_for version enc mac kek =
    nat_le 1 version && (nat_le version 0x7F && (length enc == 16 && (length mac == 16 && length kek == 16)))

abbrev pub fresh : ℕ → List ℕ → List ℕ → List ℕ → Side
fresh version enc mac kek = record { version = version; keys = record { enc = enc; mac = mac; kek = kek }; phase = Made }

abbrev pub made_of : ℕ → List ℕ → List ℕ → List ℕ → Result Side Refusal
made_of version enc mac kek = cond (fit_for version enc mac kek) (Ok (fresh version enc mac kek)) (Err IllArgument)

-- the result of a call that writes, the terminal after it, and the area after it
abbrev pub Outcome : Type 0
Outcome = Result ℕ Refusal × Side × List ℕ

-- refused: nothing is written
abbrev pub refused_as : Side → List ℕ → Refusal → Outcome
refused_as t area e = (Err e, t, area)

-- some bytes at the front of the area
abbrev pub sends : Side → List ℕ → List ℕ → Outcome
sends t area bytes = (Ok (length bytes), t, fronted area bytes)

-- INITIALIZE UPDATE, without Le
abbrev pub update_command : ℕ → List ℕ → List ℕ
update_command version host = 0x80 ∷ 0x50 ∷ version ∷ 0x00 ∷ 0x08 ∷ host

-- begin: at any time, and it starts over
abbrev pub begins : Side → List ℕ → List ℕ → Outcome
begins t host area =
    cond (nat_lt (length area) 261) (refused_as t area AreaTooShort)
    (cond (length host == 8) (sends (in_phase t (Begun host)) area (update_command t.version host))
    (refused_as t area IllArgument))

-- 28 bytes and 9000, for this version and SCP01
abbrev pub is_update : ℕ → List ℕ → Bool
is_update version answer =
    (length answer == 30)
    && (slice_index answer 28 == 0x90 && (slice_index answer 29 == 0x00 && (slice_index answer 10 == version && slice_index answer 11 == 0x01)))

abbrev pub challenge_in : List ℕ → List ℕ
challenge_in answer = take 8 (drop 12 answer)

abbrev pub cryptogram_in : List ℕ → List ℕ
cryptogram_in answer = take 8 (drop 20 answer)

-- EXTERNAL AUTHENTICATE: the host cryptogram, and the code over it from zeros
abbrev pub authenticate_command : ℕ → List ℕ → List ℕ → List ℕ
authenticate_command level cryptogram code = 0x84 ∷ 0x82 ∷ level ∷ 0x00 ∷ 0x10 ∷ (cryptogram ++ code)

abbrev pub opens : Algorithm → Side → Keys → List ℕ → List ℕ → Level → List ℕ → Outcome
opens cipher t keys host card level area =
    let cryptogram = host_cryptogram cipher.enc keys.enc host card in
    let code = command_code cipher.enc keys.mac zeros 0x82 (level_value level) 0x00 cryptogram in
    sends (in_phase t (Open (session level keys code))) area (authenticate_command (level_value level) cryptogram code)

-- the card challenge and the card cryptogram of such an answer
abbrev pub update_in : ℕ → List ℕ → Option Shown
update_in version answer = cond (is_update version answer) (Some (record { challenge = challenge_in answer; cryptogram = cryptogram_in answer })) None

-- the card's cryptogram is checked before the terminal shows its own
abbrev pub checks : Algorithm → Side → List ℕ → Option Shown → Level → List ℕ → Outcome
checks cipher t host None level area = refused_as (in_phase t Made) area WrongAnswer
checks cipher t host (Some shown) level area =
    let card = shown.challenge in
    let keys = session_keys cipher.enc t.keys.enc t.keys.mac t.keys.kek host card in
    cond (bytes_eq shown.cryptogram (card_cryptogram cipher.enc keys.enc host card)) (opens cipher t keys host card level area)
    (refused_as (in_phase t Made) area WrongCryptogram)

abbrev pub at_level : Algorithm → Side → List ℕ → List ℕ → Option Level → List ℕ → Outcome
at_level cipher t host answer None area = refused_as t area IllArgument
at_level cipher t host answer (Some level) area = checks cipher t host (update_in t.version answer) level area

abbrev pub in_turn : Algorithm → Side → Phase → List ℕ → ℕ → List ℕ → Outcome
in_turn cipher t Made answer level area = refused_as t area OutOfOrder
in_turn cipher t (Begun host) answer level area = at_level cipher t host answer (level_of level) area
in_turn cipher t (Open s) answer level area = refused_as t area OutOfOrder

-- authenticate: once after begin
abbrev pub authenticates : Algorithm → Side → List ℕ → ℕ → List ℕ → Outcome
authenticates cipher t answer level area =
    cond (nat_lt (length area) 261) (refused_as t area AreaTooShort) (in_turn cipher t t.phase answer level area)

-- wrap: a bare channel command of class 80 with a body that the level has room for, once the channel is open
abbrev pub wraps_as : Side → Session → Option (List ℕ × List ℕ) → List ℕ → Outcome
wraps_as t s None area = refused_as t area IllArgument
wraps_as t s (Some w) area = sends (in_phase t (Open (session s.level s.keys w.1))) area w.0

abbrev pub wraps_for : Algorithm → Side → Session → Apdu → Option Management → List ℕ → Outcome
wraps_for cipher t s c None area = refused_as t area IllArgument
wraps_for cipher t s c (Some i) area = wraps_as t s (wrapped cipher s c) area

abbrev pub wraps_in : Algorithm → Side → Session → Option Apdu → List ℕ → Outcome
wraps_in cipher t s None area = refused_as t area IllArgument
wraps_in cipher t s (Some c) area = wraps_for cipher t s c (management_of c.instruction) area

abbrev pub wraps_when : Algorithm → Side → Phase → List ℕ → List ℕ → Outcome
wraps_when cipher t Made command area = refused_as t area OutOfOrder
wraps_when cipher t (Begun host) command area = refused_as t area OutOfOrder
wraps_when cipher t (Open s) command area = wraps_in cipher t s (apdu command) area

abbrev pub wraps : Algorithm → Side → List ℕ → List ℕ → Outcome
wraps cipher t command area =
    cond (nat_lt (length area) 261) (refused_as t area AreaTooShort) (wraps_when cipher t t.phase command area)
