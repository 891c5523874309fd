use Rattle.std.proofs.lemmas.Result.{err_from_is_err_and}
use Rattle.contents.specs.Draft.{drafted}
use Rattle.contents.proofs.Readings.{header_refused, header_stands}
use Rattle.contents.proofs.image.draft.Draft.from_image.Goals as goal

pub returns-in_err-from_header : goal.returns-in_err-from_header
returns-in_err-from_header c =
    let p = err_from_is_err_and c.from_residual.result c.from_residual.ensures.1 in
    rw (p.1, p.2) (header_refused c.args.image.now _ c.in_err-from_header.ensures)

pub returns : goal.returns
returns c =
    let e = header_stands c.args.image.now (drafted c.in_ok-from_header.field-0) c.in_ok-from_header.ensures in
    simp e c.with_records.ensures
