use Rattle.std.proofs.Common.{map, is_ok, vec_items, refl, ap, ◌∙◌, arith}
use Rattle.std.proofs.ResultArms.{chosen}
use Rattle.std.proofs.lemmas.List.{map_push}
use Rattle.runs.specs.declared.turns.Turn.TheVariants as turn
use Rattle.runs.specs.Turns.{event_in}
use Rattle.runs.proofs.Turning.{played_none, played_more}
use Rattle.runs.proofs.play.play.Goals as goal

pub loop-turn-init : goal.loop-turn-init
loop-turn-init g c =
    let card = c.args.card.now in
    (omega arith, played_none _ _ _ (record { channel = card.sized; contents = card.contents.ok }) (ap (map event_in) c.new-outcomes.ensures.items), refl)

pub loop-turn-preserved : goal.loop-turn-preserved
loop-turn-preserved g c =
    let pushed = chosen _ _ _ _ c.push.ensures.items (ap is_ok c.in_ok-push.was) in
    let inv = c.loop-turn.invariant in
    let more = ap (map event_in) pushed ∙ map_push event_in (vec_items c.loop-turn.outcomes) c.in_ok-outcome.outcome in
    (omega arith, played_more _ _ _ _ _ _ _ c.args.turns.now c.loop-turn.turn-index turn.Reset inv.1 c.in_ok-outcome.ensures.turned c.loop-turn-test.true more, c.in_ok-outcome.ensures.whole ∙ inv.2)
