-- What is promised of a run follows from the run.
use Rattle.std.proofs.Common.{◌≡◌, List, sym, ap, ◌∙◌}
use Rattle.card.specs.declared.channel.Channel.TheVariants.{Closed}
use Rattle.card.specs.Models.{Model}
use Rattle.cipher.specs.Blocks.{Algorithm}
use Rattle.runs.specs.Events.{Event, Input}
use Rattle.runs.specs.Plain.{PlainCard, plain_card, idle}
use Rattle.runs.specs.Turns.{Played}
use Rattle.runs.specs.Told.{Told}
use Rattle.runs.proofs.Altering.{events_alter}
use Rattle.runs.proofs.Following.{ran_follows}
use Rattle.runs.proofs.Lawfulness.{ran_lawful}

pub told : (cipher : Algorithm) (m n : Model) (handed : List Input) (es : List Event) → m.channel ≡ Closed → Played cipher m n handed es → Told cipher m.contents n handed es
told cipher m n handed es closed p =
    let f = ran_follows closed p.ran in
    record {
      inputs = p.inputs;
      contents = sym (ap (λ (q : PlainCard). q.contents) f.is) ∙ events_alter cipher (plain_card m.contents idle) es;
      plain = f;
      lawful = ran_lawful closed p.ran;
    }
