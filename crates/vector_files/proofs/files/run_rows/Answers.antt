use Rattle.std.proofs.Common.{rules, ◌≡◌, true, false}
use borrow.Author.Tests.{tests}
use Rattle.std.proofs.lemmas.Iterator.Splits.{YieldsList-from_lines}
use Rattle.std.proofs.lemmas.Iterator.Consumers.{YieldsList-from_enumerate, YieldsList-end}
use Rattle.vector_files.specs.Rows.{Agrees, is_counted}
use Rattle.vector_files.proofs.Counting.{counted_none, counted_skipped, counted_agreed, counted_fault, fault_differs, texts_more, texts_yielded, answered_at_end}
use Rattle.vector_files.proofs.files.run_rows.Goals as goal
use Rattle.vector_files.proofs.files.run_rows.Goals.{then-is_empty-via-then-is_empty, then-is_empty-via-else-is_empty+then-starts_with}

pub loop-i-init : goal.loop-i-init
loop-i-init g c = counted_none _ _

pub loop-i-preserved-then-is_empty : goal.loop-i-preserved-then-is_empty
loop-i-preserved-then-is_empty g c =
    let skipped : is_counted c.in-Some.line.now ≡ false = elim c.then-is_empty.branch [
      | then-is_empty-via-then-is_empty w ↦ search (rules, tests)
      | then-is_empty-via-else-is_empty+then-starts_with w ↦ search (rules, tests)
    ] in
    rw (texts_more c.loop-i.yielded (c.in-Some.i, c.in-Some.line)) (counted_skipped _ _ _ c.in-Some.line.now _ _ skipped c.loop-i.invariant)

pub loop-i-preserved-in-Ok : goal.loop-i-preserved-in-Ok
loop-i-preserved-in-Ok g c =
    let counted : is_counted c.in-Some.line.now ≡ true = search (rules, tests) in
    let agrees : Agrees g.C.Cipher.algorithm.enc g.C.Cipher.algorithm.dec c.in-Some.line.now = rw (← c.as_bytes.ensures.value) c.in-Ok.ensures in
    rw (texts_more c.loop-i.yielded (c.in-Some.i, c.in-Some.line), c.saturating_add-count.ensures, c.saturating_add-agreed.ensures)
    (counted_agreed _ _ _ c.in-Some.line.now _ _ counted agrees c.loop-i.invariant)

pub loop-i-preserved : goal.loop-i-preserved
loop-i-preserved g c =
    let counted : is_counted c.in-Some.line.now ≡ true = search (rules, tests) in
    let enc = g.C.Cipher.algorithm.enc in
    let dec = g.C.Cipher.algorithm.dec in
    let differs = fault_differs enc dec c.in-Some.line.now c.as_bytes.result.now c.in-Err.fault c.as_bytes.ensures.value c.in-Err.ensures in
    rw (texts_more c.loop-i.yielded (c.in-Some.i, c.in-Some.line), c.saturating_add-count.ensures)
    (counted_fault _ _ _ c.in-Some.line.now _ _ counted differs c.loop-i.invariant)

pub returns : goal.returns
returns g c =
    let end = YieldsList-end (YieldsList-from_enumerate (YieldsList-from_lines c.args.text.now (search rules)) (search rules)) c.loop-i.yielded _ c.loop-i.yielded_by _ _ c.in-None.is c.next.ensures.steps in
    answered_at_end _ _ c.args.text.now _ _ _ (texts_yielded c.loop-i.yielded _ end.0) c.loop-i.invariant
