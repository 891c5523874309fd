use Rattle.std.proofs.Common.{sym}
use Rattle.std.proofs.lemmas.Result.{err_from_is_err_and}
use Rattle.contents.specs.Draft.{drafted}
use Rattle.contents.proofs.Readings.{reading_starts, reading_goes, reading_ends, reading_fails, shorter, some_behind, none_behind}
use Rattle.contents.proofs.image.draft.Draft.with_records.Goals as goal

pub loop-behind-init : goal.loop-behind-init
loop-behind-init c = reading_starts _ _

pub returns-in_err-behind : goal.returns-in_err-behind
returns-in_err-behind c =
    let p = err_from_is_err_and c.from_residual.result c.from_residual.ensures.1 in
    rw (p.1, p.2) (sym (reading_fails c.loop-behind.invariant c.in_err-behind.ensures.rest))

pub loop-behind-smaller : goal.loop-behind-smaller
loop-behind-smaller c =
    shorter (drafted c.loop-behind.self) c.loop-behind.rest.now c.in-Some.behind.now (some_behind c.in-Some.is c.in_ok-behind.ensures.rest)

pub loop-behind-preserved : goal.loop-behind-preserved
loop-behind-preserved c =
    reading_goes c.loop-behind.invariant (some_behind c.in-Some.is c.in_ok-behind.ensures.rest) c.in_ok-behind.ensures.draft

pub returns : goal.returns
returns c =
    sym (reading_ends c.loop-behind.invariant (none_behind c.in_default.is c.in_ok-behind.ensures.rest) c.in_ok-behind.ensures.draft)
