-- What is promised of every run of a card.
use Rattle.std.specs.Prelude.{◌≡◌, List, map}
use Rattle.card.specs.Models.{Model}
use Rattle.cipher.specs.Blocks.{Algorithm}
use Rattle.contents.specs.Held.{Held}
use Rattle.runs.specs.Events.{Event, Input, input_of}
use Rattle.runs.specs.Plain.{plain_card, idle, observed}
use Rattle.runs.specs.Laws.{altered, changes_in, Follows, Lawful}

-- a card that held `start` and had no channel was handed these inputs; of these came these events, and it is now n
pub record Told (cipher : Algorithm) (start : Held) (n : Model) (handed : List Input) (events : List Event) : Type 0 where
  -- each input has its event, in order
  pub inputs : map input_of events ≡ handed
  -- what it holds is what it held, altered by the changes of the changing commands answered 9000, in their order, by nothing else
  pub contents : n.contents ≡ altered start (changes_in cipher (plain_card start idle) events)
  -- its contents, its waiting challenge and its channel are the plain card's
  pub plain : Follows cipher n (observed cipher (plain_card start idle) events)
  -- each changing command answered 9000 came inside a channel, with the right code where there are codes
  pub lawful : Lawful cipher start events
