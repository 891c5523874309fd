use Rattle.std.proofs.Common.{◌≤◌, length, replicate, lit≤, rules}
use Rattle.card.specs.Cards.{view}
use Rattle.runs.proofs.Turning.{handed}
use Rattle.runs.proofs.play.ask.Goals as goal

pub returns-clause-handed : goal.returns-clause-handed
returns-clause-handed g c =
    let cipher = g.C.Cipher.algorithm in
    let view_of = view {C = g.row.C.Denot} g.S.Source.coming in
    let room : 258 ≤ length c.args.answer.now = search rules in
    let ruled = rw c.unwrap.ensures at c.process.ensures.processed in
    handed cipher (view_of c.args.card.now) (view_of c.process.new.self) c.args.bytes.now c.args.answer.now (replicate 256 0) c.process.new.answer c.process.new.work c.unwrap.result room (lit≤ tt) ruled
