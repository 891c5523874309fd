use Rattle.std.proofs.Common.{◌≡◌, ℕ, Ok, List, String, Vec, Global, string_bytes, sym, subst, ap, ◌∙◌}
use Rattle.std.specs.List.{All}
use Rattle.std.specs.Vec.Iter.{into_iter_items, into_iter_len}
use Rattle.std.specs.Iterator.Adapters.{skip_source, skip_count}
use Rattle.std.proofs.lemmas.Fn.{says}
use Rattle.std.proofs.lemmas.List.{map-id}
use Rattle.std.proofs.lemmas.List.Elements.{All-push}
use Rattle.std.proofs.lemmas.Iterator.Adapters.{YieldsList-from_vec, YieldsList-from_skip}
use Rattle.std.proofs.lemmas.Iterator.Consumers.{YieldsList-end}
use Rattle.script_programs.specs.Naming.{Played}
use Rattle.script_programs.proofs.named.play_all.Goals as goal

pub loop-name-preserved : goal.loop-name-preserved
loop-name-preserved g c =
    let P : String Global → Type 0 = λ name. (rows : Vec ℕ Global) × Played g.F.Fn c.args.rows_of (string_bytes name) (Ok rows) in
    let played : Played g.F.Fn c.args.rows_of (string_bytes c.in-Some.name) (Ok c.in_ok-rows.rows) = record {
      text = c.as_str-in-loop-name.result;
      script = c.as_slice.result;
      named = c.as_str-in-loop-name.ensures.value;
      answered = says g.F.Fn c.rows_of.ensures c.in_ok-rows.was;
    } in
    (c.loop-name.invariant.0, All-push P c.loop-name.yielded c.in-Some.name c.loop-name.invariant.1 (c.in_ok-rows.rows, played))

pub returns : goal.returns
returns g c =
    let P : String Global → Type 0 = λ name. (rows : Vec ℕ Global) × Played g.F.Fn c.args.rows_of (string_bytes name) (Ok rows) in
    let items = into_iter_items c.args.arguments in
    let begun = c.into_iter-name-iterator.ensures.into_iter_gives in
    let source : skip_source c.into_iter-name-iterator.result ≡ c.args.arguments = ap skip_source begun ∙ c.skip-name-items.ensures.source in
    let vec = YieldsList-from_vec {s = skip_source c.into_iter-name-iterator.result} items (ap into_iter_items source) (ap into_iter_len source ∙ c.args.arguments.rest.ok.0) in
    let chain = YieldsList-from_skip {s = c.into_iter-name-iterator.result} 1 vec (ap skip_count begun ∙ c.skip-name-items.ensures.count) in
    let end = YieldsList-end chain c.loop-name.yielded c.loop-name.name-iterator c.loop-name.yielded_by c.next.result c.next.new.self c.in-None.is c.next.ensures.steps in
    subst (λ (names : List (String Global)). All P names) (sym (map-id c.loop-name.yielded) ∙ end.0) c.loop-name.invariant.1
