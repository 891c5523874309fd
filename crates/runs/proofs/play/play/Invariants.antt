use Rattle.std.proofs.Common.{◌≡◌, ◌≤◌, map, length, take, vec_items}
use Rattle.card.specs.Cards.{view}
use Rattle.runs.specs.Turns.{input_in, event_in, Played}
use Rattle.runs.proofs.play.play.Given as goal

abbrev pub invariant-loop-turn : goal.invariant-loop-turn
invariant-loop-turn g l =
    (l.turn-index ≤ length l.turns)
    × Played g.C.Cipher.algorithm (view g.S.Source.coming l.initial.card) (view g.S.Source.coming l.card) (map input_in (take l.turn-index l.turns)) (map event_in (vec_items l.outcomes))
    × (g.S.Source.whole l.card.source ≡ g.S.Source.whole l.initial.card.source)
