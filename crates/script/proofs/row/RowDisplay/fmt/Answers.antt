use Rattle.std.proofs.Common.{List, ℕ, Some, ap, sym, ◌∙◌, subst, rules}
use Rattle.std.specs.Fmt.{DisplaysOnOk}
use Rattle.script.proofs.Texts.{status_text}
use Rattle.script.proofs.row.RowDisplay.fmt.Goals as goal
use Rattle.script.specs.Rows.{row_bytes}

pub returns-in-Answered-clause-writes : goal.returns-in-Answered-clause-writes
returns-in-Answered-clause-writes g c =
    let e = status_text c.in-Answered.number _ _ _ _ c.in-Answered.status (search rules)
    c.hex_digit-a.ensures.digit c.hex_digit-b.ensures.digit c.hex_digit-c.ensures.digit c.hex_digit-d.ensures.digit
    c.hex_digit-a.ensures.ascii c.hex_digit-b.ensures.ascii c.hex_digit-c.ensures.ascii c.hex_digit-d.ensures.ascii
    ∙ ap row_bytes (sym c.in-Answered.is) in
    subst (λ (t : List ℕ). DisplaysOnOk g.W.Write.write_str_gives c.args.f.now c.write-in-Answered.result (Some t) c.write-in-Answered.new.self)
    e c.write-in-Answered.ensures.writes
