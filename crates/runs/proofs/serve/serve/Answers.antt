use Rattle.std.proofs.Common.{◌≡◌, ℕ, List, ◌++◌, map, is_ok, vec_items, refl, ap, ◌∙◌, subst, arith, take_all, Bor}
use Rattle.std.specs.Option.{option_map}
use Rattle.std.proofs.ResultArms.{chosen}
use Rattle.cipher.specs.Blocks.{Undoes}
use Rattle.card.specs.Cards.{view}
use Rattle.terminal.specs.Sides.{side}
use Rattle.runs.specs.Sending.{bare_in, served_in, Answers}
use Rattle.runs.proofs.Reaching.{noted_as, onward_start, sent_onward}
use Rattle.runs.proofs.Sending.{noted_more, noted_none, answers_none, answers_step}
use Rattle.runs.proofs.serve.serve.Goals as goal
use Rattle.runs.proofs.serve.serve.Goals.{in-Some+in_ok-push, in_default}

pub loop-command-init : goal.loop-command-init
loop-command-init g c =
    let cipher = g.C.Cipher.algorithm in
    let view_of = view {C = g.row.C.Denot} g.S.Source.coming in
    let side-of = side {C = g.row.C.Denot} in
    (omega arith, answers_none cipher (view_of c.args.card.now) (side-of c.args.terminal.now) (map served_in (vec_items c.new-all.result)) (ap (map served_in) c.new-all.ensures.items), refl, onward_start cipher (view_of c.args.card.now) (map served_in (vec_items c.new-all.result)) (ap (map served_in) c.new-all.ensures.items))

pub loop-command-preserved : goal.loop-command-preserved
loop-command-preserved g c =
    let cipher = g.C.Cipher.algorithm in
    let laws : Undoes g.C.Cipher.algorithm.enc g.C.Cipher.algorithm.dec = record { enciphered = g.met.C.Cipher.enciphered; undone = g.met.C.Cipher.undone } in
    let view_of = view {C = g.row.C.Denot} g.S.Source.coming in
    let side-of = side {C = g.row.C.Denot} in
    let inv = c.loop-command.invariant in
    let last = c.send.new.card in
    let noted = option_map served_in c.in_ok-served.field-0 in
    let pairs = map served_in (vec_items c.loop-command.all) in
    let all = map served_in (vec_items c.match-branch-2.all) in
    let more : all ≡ pairs ++ noted_as noted = elim c.match-branch-2.branch [
      | in-Some+in_ok-push w ↦
          let pushed = chosen _ _ _ _ w.push.ensures.items (ap is_ok w.in_ok-push.was) in
          noted_more (vec_items c.loop-command.all) (vec_items c.match-branch-2.all) c.in_ok-served.field-0 w.in-Some.served (ap vec_items w.all-is ∙ pushed) w.in-Some.is
      | in_default w ↦ noted_none (vec_items c.loop-command.all) (vec_items c.match-branch-2.all) c.in_ok-served.field-0 (ap vec_items w.all-is) w.in_default.is
    ] in
    (omega arith, answers_step cipher laws (view_of c.args.card.now) (view_of c.loop-command.card) (view_of c.send.new.card) (side-of c.args.terminal.now) (side-of c.loop-command.terminal) (side-of c.send.new.terminal) c.args.commands.now c.loop-command.command-index _ pairs all noted inv.1 c.in_ok-served.ensures.sent c.in_ok-served.ensures.bytes.small c.loop-command-test.true more, c.in_ok-served.ensures.whole ∙ inv.2, sent_onward cipher (view_of c.args.card.now) (view_of c.loop-command.card) (view_of last) (side-of c.loop-command.terminal) (side-of c.send.new.terminal) _ pairs all noted inv.3 (record { channel = last.sized; contents = last.contents.ok }) c.in_ok-served.ensures.sent more)

pub returns-clause-answers : goal.returns-clause-answers
returns-clause-answers g c =
    let cipher = g.C.Cipher.algorithm in
    let view_of = view {C = g.row.C.Denot} g.S.Source.coming in
    let side-of = side {C = g.row.C.Denot} in
    let inv = c.loop-command.invariant in
    let all = take_all c.loop-command.command-index c.args.commands.now c.loop-command-test.false in
    let P : List (Bor (List ℕ)) → Type 0 = λ x. Answers cipher (view_of c.args.card.now) (side-of c.args.terminal.now) (view_of c.loop-command.card) (side-of c.loop-command.terminal) (bare_in x) (map served_in (vec_items c.loop-command.all)) in
    subst P all inv.1
