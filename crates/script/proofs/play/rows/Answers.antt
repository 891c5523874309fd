use Rattle.std.proofs.Common.{◌++◌, vec_items, sym, ap, ◌∙◌, arith}
use Rattle.card.specs.Cards.{view}
use Rattle.script.specs.Lines.{lines_of}
use Rattle.script.proofs.Playing.{rows_more, rows_none, rows_all}
use Rattle.script.proofs.play.rows.Goals as goal
use Rattle.script.proofs.play.rows.Goals.{else-loop-number-test, then-loop-number-test+in_default}

pub loop-number-preserved : goal.loop-number-preserved
loop-number-preserved g c =
    rows_more g.M.ChannelCommand.named g.M.OwnRule.own_rule g.C.Cipher.algorithm
    (view g.S.Source.coming c.loop-number.card) (view g.S.Source.coming c.take_turn.new.card) c.loop-number.number
    (lines_of c.loop-number.lines.left.now) (lines_of c.take_line.new.self.left.now) c.in-Some.line.now c.in_ok-row.row
    (vec_items c.loop-number.printed) (vec_items c.extend_from_slice.new.self)
    (omega arith) c.in-Some.ensures c.in_ok-row.ensures
    (c.in_ok-extend_from_slice.ensures.items ∙ ap (λ bs. vec_items c.loop-number.printed ++ bs) (c.as_bytes.ensures.value ∙ c.in_ok-to_string.ensures.ok))
    ∙ c.loop-number.invariant

pub returns : goal.returns
returns g c =
    let cipher = g.C.Cipher.algorithm in
    let m = view g.S.Source.coming c.loop-number.card in
    let lines = lines_of c.loop-number.lines.left.now in
    let printed = vec_items c.loop-number.printed in
    elim c.loop-number-test.branch [
      | else-loop-number-test w ↦ sym (rows_all g.M.ChannelCommand.named g.M.OwnRule.own_rule cipher m c.loop-number.number lines printed w.loop-number-test.false) ∙ c.loop-number.invariant
      | then-loop-number-test+in_default w ↦ sym (rows_none g.M.ChannelCommand.named g.M.OwnRule.own_rule cipher m c.loop-number.number lines printed w.in_default.ensures.0) ∙ c.loop-number.invariant
    ]
