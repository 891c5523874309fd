-- INITIALIZE UPDATE and EXTERNAL AUTHENTICATE, which open a channel. Both begin with the channel closed.
use Rattle.std.specs.Prelude.{ℕ, cond, List, [], ◌∷◌, length, take, drop, Some, None, Option, ◌==◌}
use Rattle.std.specs.Str.{bytes_eq}
use Rattle.answers.specs.declared.StatusWord.TheVariants.{Success, CryptogramRejected, WrongLength, SecurityNotSatisfied, ConditionsNotSatisfied, WrongParameters, NotFound, NoDiagnosis}
use Rattle.challenge.specs.Draws.{Challenges}
use Rattle.cipher.specs.Blocks.{Algorithm, zeros}
use Rattle.contents.specs.declared.records.KeySet.{KeySet}
use Rattle.contents.specs.Records.{chosen_set}
use Rattle.cipher.specs.declared.Keys.{Keys}
use Rattle.scp01.specs.Session.{session_keys, card_cryptogram, host_cryptogram, command_code}
use Rattle.card.specs.declared.channel.Channel.TheVariants.{Waiting, Open}
use Rattle.card.specs.declared.channel.Handshake.{Handshake}
use Rattle.scp01.specs.declared.Level.{Level}
use Rattle.apdu.specs.Apdu.{Apdu}
use Rattle.scp01.specs.Levels.{session}
use Rattle.card.specs.Channels.{granted_level, handshake}
use Rattle.answers.specs.Replies.{Reply, reply, only}
use Rattle.card.specs.Replies.{update_data}
use Rattle.card.specs.Models.{Model, model, with_channel, stays}

abbrev pub keys_of : Algorithm → KeySet → List ℕ → List ℕ → Keys
keys_of cipher k host card = session_keys cipher.enc k.keys.enc k.keys.mac k.keys.kek host card

-- a challenge is drawn and waits; where none is to come, 6F00
abbrev pub begun_with : Algorithm → Model → KeySet → List ℕ → Challenges → Model × Reply
begun_with cipher m k host [] = stays m NoDiagnosis
begun_with cipher m k host (card ∷ coming) =
    let keys = keys_of cipher k host card in
    (model m.contents (Waiting (handshake keys host card)) coming, reply (update_data m.contents.diversification k.version card (card_cryptogram cipher.enc keys.enc host card)) Success)

abbrev pub begun : Algorithm → Model → Option KeySet → List ℕ → Model × Reply
begun cipher m None host = stays m NotFound
begun cipher m (Some k) host = begun_with cipher m k host m.coming

-- INITIALIZE UPDATE: P2 is 00, the data field is the host challenge, and P1 is the version of a key set
abbrev pub updated : Algorithm → Model → Apdu → Model × Reply
updated cipher m c =
    cond (c.p2 == 0x00)
    (cond (length c.field == 8) (begun cipher m (chosen_set c.p1 m.contents.sets) c.field)
    (stays m WrongLength))
    (stays m WrongParameters)

-- the host cryptogram, then the code over the command from zeros; the code begins the chain
abbrev pub proved : Algorithm → Model → Handshake → Level → ℕ → List ℕ → Model × Reply
proved cipher m w level p1 field =
    let cryptogram = take 8 field in
    let right = command_code cipher.enc w.keys.mac zeros 0x82 p1 0x00 cryptogram in
    cond (bytes_eq cryptogram (host_cryptogram cipher.enc w.keys.enc w.challenges.host w.challenges.card))
    (cond (bytes_eq (drop 8 field) right) (with_channel m (Open (session level w.keys right)), only Success)
    (stays m SecurityNotSatisfied))
    (stays m CryptogramRejected)

abbrev pub at_level : Algorithm → Model → Handshake → Option Level → Apdu → Model × Reply
at_level cipher m w None c = stays m WrongParameters
at_level cipher m w (Some level) c =
    cond (length c.field == 16) (proved cipher m w level c.p1 c.field) (stays m WrongLength)

-- EXTERNAL AUTHENTICATE: a challenge waits, P1 is a level that the card grants, P2 is 00, and sixteen bytes
abbrev pub authenticated : Algorithm → Model → Option Handshake → Apdu → Model × Reply
authenticated cipher m None c = stays m ConditionsNotSatisfied
authenticated cipher m (Some w) c =
    cond (c.p2 == 0x00) (at_level cipher m w (granted_level m.contents.state c.p1) c) (stays m WrongParameters)
