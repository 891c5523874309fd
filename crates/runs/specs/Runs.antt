-- A card's run: from a model, through events, to a model.
use Rattle.std.specs.Prelude.{◌≡◌, List, [], ◌∷◌, ◌++◌}
use Rattle.answers.specs.Replies.{reply_bytes}
use Rattle.card.specs.Models.{Model, Fit, after_reset}
use Rattle.card.specs.Taking.{responded}
use Rattle.cipher.specs.Blocks.{Algorithm}
use Rattle.runs.specs.Events.{Event, reset, answered}
use Rattle.apdu.specs.Apdu.{management_of}
use Rattle.rules.specs.Own.{own_rule}

-- the model of a card after an event
abbrev pub after : Algorithm → Model → Event → Model
after cipher m reset = after_reset m
after cipher m (answered cmd answer) = (responded management_of own_rule cipher m cmd).0

-- the event is one that this card gives
abbrev pub Gives : Algorithm → Model → Event → Type 0
Gives cipher m reset = Unit {0}
Gives cipher m (answered cmd answer) = answer ≡ reply_bytes (responded management_of own_rule cipher m cmd).1

-- from m the card went through the events, in order, and came to the last model
pub data Ran (cipher : Algorithm) (m : Model) : List Event → Model → Type 0 where
  begun : Fit m → Ran cipher m [] m
  then : {es : List Event} {n : Model} (e : Event) → Ran cipher m es n → Gives cipher n e → Fit (after cipher n e) → Ran cipher m (es ++ e ∷ []) (after cipher n e)

-- the card comes from m to n by some more events: every run that led to m goes on through them to n
abbrev pub Onward : Algorithm → Model → List Event → Model → Type 0
Onward cipher m more n = (start : Model) (es : List Event) → Ran cipher start es m → Ran cipher start (es ++ more) n
