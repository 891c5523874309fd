-- A card as its rules see it: what it holds, its channel, and the challenges still to come.
use Rattle.std.specs.Prelude.{◌≡◌, true, Result}
use Rattle.answers.specs.declared.StatusWord.{StatusWord}
use Rattle.challenge.specs.Draws.{Challenges}
use Rattle.contents.specs.Held.{Held, sound}
use Rattle.card.specs.declared.answer.Answer.{Answer}
use Rattle.card.specs.declared.channel.Channel.{Channel}
use Rattle.card.specs.declared.channel.Channel.TheVariants.{Closed}
use Rattle.answers.specs.Replies.{Reply, only}
use Rattle.card.specs.Channels.{sized_channel}
use Rattle.card.specs.Replies.{said, replied}

pub record Model : Type 0 where
  pub contents : Held
  pub channel : Channel
  pub coming : Challenges

abbrev pub model : Held → Channel → Challenges → Model
model contents channel coming = record { contents = contents; channel = channel; coming = coming }

abbrev pub with_channel : Model → Channel → Model
with_channel m channel = model m.contents channel m.coming

-- a reset closes the channel and drops what waits
abbrev pub after_reset : Model → Model
after_reset m = with_channel m Closed

-- a status word, and nothing else moves
abbrev pub stays : Model → StatusWord → Model × Reply
stays m status = (m, only status)

-- what a part of the card did: the model after it, and what it said
pub record Did (out : Model × Reply) (after : Model) (result : Result Answer StatusWord) : Type 0 where
  pub model : after ≡ out.0
  pub reply : replied result ≡ out.1

pub record Answered (out : Model × Reply) (after : Model) (answer : Answer) : Type 0 where
  pub model : after ≡ out.0
  pub reply : said answer ≡ out.1

-- what always holds of a card: its contents are sound, and a waiting challenge has eight bytes
pub record Fit (m : Model) : Type 0 where
  pub channel : sized_channel m.channel ≡ true
  pub contents : sound m.contents ≡ true
