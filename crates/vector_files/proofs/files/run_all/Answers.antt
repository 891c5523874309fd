use Rattle.std.proofs.Common.{◌≡◌, List, length, String, Global, drop, sym, subst, ap, ◌∙◌}
use Rattle.std.specs.List.{All}
use Rattle.std.specs.Vec.Iter.{into_iter_items, into_iter_len}
use Rattle.std.specs.Iterator.Adapters.{skip_source, skip_count}
use Rattle.std.proofs.lemmas.List.{map-id}
use Rattle.std.proofs.lemmas.Iterator.Adapters.{YieldsList-from_vec, YieldsList-from_skip}
use Rattle.std.proofs.lemmas.Iterator.Consumers.{YieldsList-turn, YieldsList-end}
use Rattle.vector_files.proofs.Telling.{Good, Bad, told_more, ran_as, bad_at, turn_in, whatever_err}
use Rattle.vector_files.proofs.files.run_all.Goals as goal

pub returns-in_err-all-clause-some : goal.returns-in_err-all-clause-some
returns-in_err-all-clause-some g c =
    let items = into_iter_items c.args.arguments in
    let begun = c.into_iter-name-iterator.ensures.into_iter_gives in
    let source : skip_source c.into_iter-name-iterator.result ≡ c.args.arguments = ap skip_source begun ∙ c.skip-name-items.ensures.source in
    let vec = YieldsList-from_vec {s = skip_source c.into_iter-name-iterator.result} items (ap into_iter_items source) (ap into_iter_len source ∙ c.args.arguments.rest.ok.0) in
    let chain = YieldsList-from_skip {s = c.into_iter-name-iterator.result} 1 vec (ap skip_count begun ∙ c.skip-name-items.ensures.count) in
    let turn = YieldsList-turn chain c.loop-name.yielded c.loop-name.name-iterator c.loop-name.yielded_by c.next.result c.next.new.self c.in-Some.name c.in-Some.is c.next.ensures.steps in
    whatever_err c.from_residual.result
    (bad_at g.F.Fn c.args.run_named (drop 1 items) c.in-Some.name _ (turn_in (drop 1 items) (length c.loop-name.yielded) c.in-Some.name turn)
    (ran_as g.F.Fn c.args.run_named _ _ c.in-Some.name _ _ c.run_named.ensures c.in_err-all.was c.as_str.ensures.value))

pub loop-name-preserved : goal.loop-name-preserved
loop-name-preserved g c = (
  c.loop-name.invariant.0,
  told_more g.F.Fn c.args.run_named c.loop-name.yielded c.in-Some.name c.loop-name.all c.in_ok-all.field-0
      (ran_as g.F.Fn c.args.run_named _ _ c.in-Some.name _ _ c.run_named.ensures c.in_ok-all.was c.as_str.ensures.value)
      c.loop-name.invariant.1,
)

pub returns-then-all-clause-all : goal.returns-then-all-clause-all
returns-then-all-clause-all g c =
    let items = into_iter_items c.args.arguments in
    let begun = c.into_iter-name-iterator.ensures.into_iter_gives in
    let source : skip_source c.into_iter-name-iterator.result ≡ c.args.arguments = ap skip_source begun ∙ c.skip-name-items.ensures.source in
    let vec = YieldsList-from_vec {s = skip_source c.into_iter-name-iterator.result} items (ap into_iter_items source) (ap into_iter_len source ∙ c.args.arguments.rest.ok.0) in
    let chain = YieldsList-from_skip {s = c.into_iter-name-iterator.result} 1 vec (ap skip_count begun ∙ c.skip-name-items.ensures.count) in
    let end = YieldsList-end chain c.loop-name.yielded c.loop-name.name-iterator c.loop-name.yielded_by c.next.result c.next.new.self c.in-None.is c.next.ensures.steps in
    subst (λ (names : List (String Global)). All (Good g.F.Fn c.args.run_named) names) (sym (map-id c.loop-name.yielded) ∙ end.0) (c.loop-name.invariant.1.good c.if-all.true)

pub returns-clause-some : goal.returns-clause-some
returns-clause-some g c =
    let items = into_iter_items c.args.arguments in
    let begun = c.into_iter-name-iterator.ensures.into_iter_gives in
    let source : skip_source c.into_iter-name-iterator.result ≡ c.args.arguments = ap skip_source begun ∙ c.skip-name-items.ensures.source in
    let vec = YieldsList-from_vec {s = skip_source c.into_iter-name-iterator.result} items (ap into_iter_items source) (ap into_iter_len source ∙ c.args.arguments.rest.ok.0) in
    let chain = YieldsList-from_skip {s = c.into_iter-name-iterator.result} 1 vec (ap skip_count begun ∙ c.skip-name-items.ensures.count) in
    let end = YieldsList-end chain c.loop-name.yielded c.loop-name.name-iterator c.loop-name.yielded_by c.next.result c.next.new.self c.in-None.is c.next.ensures.steps in
    subst (λ (names : List (String Global)). Bad g.F.Fn c.args.run_named names) (sym (map-id c.loop-name.yielded) ∙ end.0) (c.loop-name.invariant.1.bad c.if-all.false)
