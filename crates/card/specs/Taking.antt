-- What a card does with a command: the checks of taking it, what it does to the channel, and its own rule.
use Rattle.std.specs.Prelude.{ℕ, List, Some, None, Ok, Err, Option, Result}
use Rattle.answers.specs.declared.StatusWord.{StatusWord}
use Rattle.answers.specs.declared.StatusWord.TheVariants.{WrongLength}
use Rattle.cipher.specs.Blocks.{Algorithm}
use Rattle.apdu.specs.declared.Instruction.{Instruction}
use Rattle.apdu.specs.declared.Instruction.TheVariants.{Select, InitializeUpdate, ExternalAuthenticate, Manage}
use Rattle.card.specs.declared.channel.Handshake.{Handshake}
use Rattle.apdu.specs.Apdu.{Apdu, apdu}
use Rattle.card.specs.Admitting.{admitted}
use Rattle.card.specs.Channels.{entered, used_up}
use Rattle.rules.specs.Own.{Rule}
use Rattle.card.specs.Inside.{managed}
use Rattle.card.specs.Models.{Model, with_channel, stays}
use Rattle.card.specs.Opening.{updated, authenticated}
use Rattle.answers.specs.Replies.{Reply}
use Rattle.card.specs.Selecting.{selected}

-- the own rule of an instruction, on the model whose channel it has entered
abbrev pub ruled : {M : Type 0} → Rule M → Algorithm → Model → Option Handshake → Instruction M → Apdu → Model × Reply
ruled rule cipher m w Select c = (m, selected m.contents c)
ruled rule cipher m w InitializeUpdate c = updated cipher m c
ruled rule cipher m w ExternalAuthenticate c = authenticated cipher m w c
ruled rule cipher m w (Manage i) c = managed rule cipher m m.channel i c

abbrev pub performed : {M : Type 0} → Rule M → Algorithm → Model → Result (Instruction M) StatusWord → Apdu → Model × Reply
performed rule cipher m (Err status) c = stays m status
performed rule cipher m (Ok i) c = ruled rule cipher (with_channel m (entered m.channel i)) (used_up m.channel i) i c

abbrev pub taken : {M : Type 0} → (ℕ → Option M) → Rule M → Algorithm → Model → Option Apdu → Model × Reply
taken named rule cipher m None = stays m WrongLength
taken named rule cipher m (Some c) = performed rule cipher m (admitted named m.contents.state c) c

-- the model after a command, and what the card says
abbrev pub responded : {M : Type 0} → (ℕ → Option M) → Rule M → Algorithm → Model → List ℕ → Model × Reply
responded named rule cipher m command = taken named rule cipher m (apdu command)
