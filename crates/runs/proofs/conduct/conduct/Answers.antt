use Rattle.std.proofs.Common.{map, vec_items}
use Rattle.card.specs.Cards.{view}
use Rattle.terminal.specs.Sides.{side}
use Rattle.runs.specs.Conducting.{said_in}
use Rattle.runs.specs.Turns.{input_in, event_in}
use Rattle.runs.proofs.Conducting.{conducted}
use Rattle.runs.proofs.conduct.conduct.Goals as goal

pub returns-in-Ok-play_and_converse-clause-conducted : goal.returns-in-Ok-play_and_converse-clause-conducted
returns-in-Ok-play_and_converse-clause-conducted g c =
    let cipher = g.C.Cipher.algorithm in
    let view_of = view {C = g.row.C.Denot} g.S.Source.coming in
    let side-of = side {C = g.row.C.Denot} in
    let made = c.in_ok-card.ensures in
    let went = c.in-Ok-play_and_converse.ensures.went in
    conducted cipher c.args.image.now (g.S.Source.coming c.args.source) made.0 (view_of c.in_ok-card.card) went.mid (view_of c.play_and_converse.new.card) (side-of c.in-Ok.terminal) (map input_in c.args.turns.now) c.args.talk.now (map event_in (vec_items c.in-Ok-play_and_converse.turns)) (said_in c.in-Ok-play_and_converse.conversation) made.1 made.2 c.in-Ok.ensures went.played went.conversed went.onward went.channelled
