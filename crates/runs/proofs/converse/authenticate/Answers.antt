use Rattle.std.proofs.Common.{◌≡◌, Ok, arith}
use Rattle.card.specs.Cards.{view}
use Rattle.terminal.specs.Sides.{side, Outcome}
use Rattle.runs.specs.Conversing.{blank, showing}
use Rattle.runs.specs.Turns.{exchanged}
use Rattle.runs.proofs.Conversing.{authenticate_within, carried_in, shown_at}
use Rattle.runs.proofs.converse.authenticate.Goals as goal

pub slice_bounds-hand_in-end : goal.slice_bounds-hand_in-end
slice_bounds-hand_in-end g c =
    let cipher = g.C.Cipher.algorithm in
    let side-of = side {C = g.row.C.Denot} in
    let h = authenticate_within cipher (side-of c.args.terminal.now) (side-of c.authenticate.new.self) c.args.answer.now blank c.authenticate.new.area c.from.result c.in-Ok.n c.in-Ok.ensures in
    omega (arith, h)

pub returns-clause-carried : goal.returns-clause-carried
returns-clause-carried g c =
    let cipher = g.C.Cipher.algorithm in
    let view_of = view {C = g.row.C.Denot} g.S.Source.coming in
    let side-of = side {C = g.row.C.Denot} in
    let t = side-of c.args.terminal.now in
    let u = side-of c.authenticate.new.self in
    let told : ◌≡◌ {A = Outcome} (Ok c.in-Ok.n, u, c.authenticate.new.area) (showing cipher t c.args.answer.now c.args.level) = shown_at cipher t c.args.answer.now c.from.result c.args.level (Ok c.in-Ok.n, u, c.authenticate.new.area) c.from.ensures c.in-Ok.ensures in
    carried_in cipher (view_of c.args.card.now) (view_of c.hand_in.new.card) (showing cipher t c.args.answer.now c.args.level) u c.authenticate.new.area c.in-Ok.n (exchanged c.in_ok-exchange.exchange) told c.in_ok-exchange.ensures.handed
