-- The channel commands: a channel is open, the command is read in it, and its own rule answers.
use Rattle.std.specs.Prelude.{ℕ, cond, List, Some, None, Option}
use Rattle.answers.specs.declared.StatusWord.TheVariants.{SecurityNotSatisfied}
use Rattle.answers.specs.Replies.{Reply, only}
use Rattle.apdu.specs.Apdu.{Apdu}
use Rattle.cipher.specs.Blocks.{Algorithm}
use Rattle.contents.specs.declared.life.CardState.{CardState}
use Rattle.rules.specs.Own.{Rule}
use Rattle.scp01.specs.declared.Session.{Session}
use Rattle.scp01.specs.Inside.{unwrapped}
use Rattle.scp01.specs.Levels.{session}
use Rattle.card.specs.declared.channel.Channel.{Channel}
use Rattle.card.specs.declared.channel.Channel.TheVariants.{Closed, Waiting, Open}
use Rattle.card.specs.Admitting.{is_terminated}
use Rattle.card.specs.Channels.{plain_allowed}
use Rattle.card.specs.Models.{Model, model, with_channel, stays}

-- the channel behind a command that was read: a TERMINATED card has none
abbrev pub kept_open : CardState → Session → Channel
kept_open state s = cond (is_terminated state) Closed (Open s)

-- the own rule on the body, with the new chaining value kept; what cannot be read closes the channel
abbrev pub obeyed : {M : Type 0} → Rule M → Algorithm → Model → Session → M → Apdu → Option (List ℕ × List ℕ) → Model × Reply
obeyed rule cipher m s i c None = (with_channel m Closed, only SecurityNotSatisfied)
obeyed rule cipher m s i c (Some read) =
    let out = rule cipher s.keys.kek m.contents i c.p1 c.p2 read.0 in
    (model out.0 (kept_open out.0.state (session s.level s.keys read.1)) m.coming, out.1)

-- without a channel 6982, and a waiting challenge stays
abbrev pub managed : {M : Type 0} → Rule M → Algorithm → Model → Channel → M → Apdu → Model × Reply
managed rule cipher m Closed i c = stays m SecurityNotSatisfied
managed rule cipher m (Waiting w) i c = stays m SecurityNotSatisfied
managed rule cipher m (Open s) i c = obeyed rule cipher m s i c (unwrapped cipher s (plain_allowed m.contents.state) c s.level)
