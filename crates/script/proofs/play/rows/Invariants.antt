use Rattle.std.proofs.Common.{◌≡◌, ◌++◌, vec_items}
use Rattle.card.specs.Cards.{view}
use Rattle.script.specs.Lines.{lines_of}
use Rattle.script.proofs.Playing.{rows_of}
use Rattle.script.proofs.play.rows.Given as goal

-- what is printed, and what is left to print
abbrev pub invariant-loop-number : goal.invariant-loop-number
invariant-loop-number g l =
    let cipher = g.C.Cipher.algorithm in
    vec_items l.printed ++ rows_of g.M.ChannelCommand.named g.M.OwnRule.own_rule cipher (view g.S.Source.coming l.card) l.number (lines_of l.lines.left.now)
    ≡ rows_of g.M.ChannelCommand.named g.M.OwnRule.own_rule cipher (view g.S.Source.coming l.initial.card) 1 (lines_of l.initial.lines.left.now)
