use Rattle.std.proofs.Common.{◌≡◌, ◌≤◌, map, length, take, vec_items}
use Rattle.card.specs.Cards.{view}
use Rattle.terminal.specs.Sides.{side}
use Rattle.runs.specs.Runs.{Onward}
use Rattle.runs.specs.Sending.{bare_in, served_in, sending_event, Answers}
use Rattle.runs.proofs.serve.serve.Given as goal

abbrev pub invariant-loop-command : goal.invariant-loop-command
invariant-loop-command g l =
    (l.command-index ≤ length l.commands)
    × Answers g.C.Cipher.algorithm (view g.S.Source.coming l.initial.card) (side l.initial.terminal) (view g.S.Source.coming l.card) (side l.terminal) (bare_in (take l.command-index l.commands)) (map served_in (vec_items l.all))
    × (g.S.Source.whole l.card.source ≡ g.S.Source.whole l.initial.card.source)
    × Onward g.C.Cipher.algorithm (view g.S.Source.coming l.initial.card) (map sending_event (map served_in (vec_items l.all))) (view g.S.Source.coming l.card)
