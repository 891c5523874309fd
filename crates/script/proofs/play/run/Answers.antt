use Rattle.std.proofs.Common.{◌≡◌, ℕ, List, [], get_or, drop, IfOk, vec_items, ap, ◌∙◌, subst}
use Rattle.challenge.specs.Draws.{groups}
use Rattle.script.specs.Digits.{line_bytes}
use Rattle.script.specs.Lines.{lines_of}
use Rattle.script.proofs.Wholes.{printed_rows, printed_refusal}
use Rattle.script.proofs.play.run.Goals as goal

pub returns-in-Ok : goal.returns-in-Ok
returns-in-Ok g c =
    let told = c.in-Ok.ensures in
    let first = c.as_slice-2.ensures.value ∙ c.in_ok-image.ensures.bytes
    ∙ ap (λ (s : List ℕ). line_bytes (get_or (lines_of s) 0 [])) c.new-lines.ensures in
    let one = c.next_bytes.ensures.rest ∙ ap (λ (s : List ℕ). drop 1 (lines_of s)) c.new-lines.ensures in
    let come = c.in_ok-source.ensures.coming
    ∙ ap groups (c.as_slice.ensures.value ∙ c.in_ok-challenges.ensures.bytes) in
    let e = printed_rows g.M.ChannelCommand.named g.M.OwnRule.own_rule g.C.Cipher.algorithm c.args.script.now _ _ _ _ _ _
    first one c.next_bytes-2.ensures.rest come told.1 told.2 in
    subst (λ (t : List ℕ). IfOk c.rows-printed.result (λ v. vec_items v ≡ t)) e c.rows-printed.ensures

pub returns : goal.returns
returns g c =
    let told = c.in-Err.ensures in
    let first = c.as_slice-2.ensures.value ∙ c.in_ok-image.ensures.bytes
    ∙ ap (λ (s : List ℕ). line_bytes (get_or (lines_of s) 0 [])) c.new-lines.ensures in
    let e = printed_refusal g.M.ChannelCommand.named g.M.OwnRule.own_rule g.C.Cipher.algorithm c.args.script.now _
    c.in-Err.unmade.refusal first told.0 in
    subst (λ (t : List ℕ). IfOk c.refused.result (λ v. vec_items v ≡ t)) e c.refused.ensures
