use Rattle.std.proofs.Common.{refl, sym, ◌∙◌, arith}
use Rattle.std.proofs.lemmas.Result.{err_from_is_err_and}
use Rattle.answers.specs.declared.Refusal.TheVariants.{FieldValue}
use Rattle.contents.specs.Draft.{drafted}
use Rattle.contents.proofs.Takes.{none_refused, pushed_on, entry_refused, entry_twice, entry_taken}
use Rattle.contents.proofs.image.draft.Draft.take_entry.Goals as goal

pub returns-in_err-entry : goal.returns-in_err-entry
returns-in_err-entry c =
    let p = err_from_is_err_and c.from_residual-in_err-entry.result c.from_residual-in_err-entry.ensures.1 in
    let n = none_refused c.entry_in.result FieldValue c.in_err-entry.field-0.0 c.in_err-entry.ensures.value in
    let s = rw c.in_ok-body.ensures.ok_part at c.split_first_chunk.ensures.cases in
    let e = entry_refused (drafted c.args.self.now) c.args.body.now c.in_ok-body.body.now (omega (arith, s.2)) s.0 (n.0 ∙ c.entry_in.ensures) in
    record { rest = rw (p.1, p.2, n.1, e) refl; draft = rw e refl }

pub returns-then-has : goal.returns-then-has
returns-then-has c =
    let s = rw c.in_ok-body.ensures.ok_part at c.split_first_chunk.ensures.cases in
    let e = entry_twice (drafted c.args.self.now) c.args.body.now c.in_ok-body.body.now c.name.result.now c.in_ok-entry.entry (omega (arith, s.2)) s.0 (sym c.in_ok-entry.ensures.ok_part ∙ c.entry_in.ensures) c.name.ensures c.if-has.ensures in
    record { rest = rw e refl; draft = rw e refl }

pub returns : goal.returns
returns c =
    let h = drafted c.args.self.now in
    let s = rw c.in_ok-body.ensures.ok_part at c.split_first_chunk.ensures.cases in
    let e = entry_taken h c.args.body.now c.in_ok-body.body.now c.name.result.now c.in_ok-entry.entry (omega (arith, s.2)) s.0 (sym c.in_ok-entry.ensures.ok_part ∙ c.entry_in.ensures) c.name.ensures c.if-has.ensures in
    let m = pushed_on h.entries _ c.in_ok-entry.entry c.push.result 12 c.push.ensures.taken c.push.ensures.list c.requires in
    record {
      rest = rw (e, s.1) refl;
      draft = rw (e, m) refl;
    }
