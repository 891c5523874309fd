use Rattle.std.proofs.Common.{◌+◌, get_or, arith}
use Rattle.std.proofs.lemmas.List.{take_rest}
use Rattle.scp01.proofs.Bodies.{text_closed}
use Rattle.scp01.proofs.inside.is_text.Goals as goal

pub returns-then-end-text-clause-text : goal.returns-then-end-text-clause-text
returns-then-end-text-clause-text c =
    let text = c.args.text.now in
    let closed = text_closed text c.requires (omega arith) in
    let rest = take_rest text (get_or text 0 0 + 1) in
    cc
