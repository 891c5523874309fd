use Rattle.std.proofs.Common.{◌≡◌, true, false, map, vec_items, rules}
use Rattle.card.specs.Cards.{view}
use Rattle.terminal.specs.Sides.{side}
use Rattle.runs.specs.Conversing.{opening_in}
use Rattle.runs.specs.Sending.{served_in}
use Rattle.runs.proofs.Conducting.{conversed, not_conversed}
use Rattle.runs.proofs.conduct.converse.Goals as goal

pub returns-clause-conversed : goal.returns-clause-conversed
returns-clause-conversed g c =
    let cipher = g.C.Cipher.algorithm in
    let view_of = view {C = g.row.C.Denot} g.S.Source.coming in
    let side-of = side {C = g.row.C.Denot} in
    let o = opening_in c.in_ok-opening.opening in
    let sendings = map served_in (vec_items c.in_ok-served.served) in
    let before = view_of c.args.card.now in
    let mid = view_of c.open_channel.new.card in
    let last = view_of c.serve.new.card in
    let yes' : c.is_open.result ≡ true = search rules in
    conversed cipher before mid last (side-of c.args.terminal.now) (side-of c.open_channel.new.terminal) (side-of c.serve.new.terminal) c.args.talk.now o sendings c.in_ok-opening.ensures.opened c.in_ok-served.ensures.answers

pub returns-then-not-is_open-clause-conversed : goal.returns-then-not-is_open-clause-conversed
returns-then-not-is_open-clause-conversed g c =
    let cipher = g.C.Cipher.algorithm in
    let view_of = view {C = g.row.C.Denot} g.S.Source.coming in
    let side-of = side {C = g.row.C.Denot} in
    let o = opening_in c.in_ok-opening.opening in
    let before = view_of c.args.card.now in
    let mid = view_of c.open_channel.new.card in
    let no' : c.is_open.result ≡ false = search rules in
    not_conversed cipher before mid (side-of c.args.terminal.now) (side-of c.open_channel.new.terminal) c.args.talk.now o c.is_open.result c.is_open.ensures no' c.in_ok-opening.ensures.opened
