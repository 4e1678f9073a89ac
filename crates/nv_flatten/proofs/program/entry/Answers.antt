use Rattle.std.proofs.Common.{◌≡◌, ◌+◌, ap, refl, arith, drop, []}
use Rattle.std.proofs.lemmas.List.{drop_all}
use Rattle.nv_ast.specs.Types.{type_of, named_types_of, words, total_named_words}
use Rattle.nv_ast.specs.TypeView.{type_tree, list_named_types}
use Rattle.nv_flatten_values.specs.inner.View.{scope_of}
use Rattle.nv_flatten_values.specs.inner.WholeView.{whole_in}
use Rattle.nv_flatten_values.proofs.Listing.{numbers-turn, params-turn, params-done}
use Rattle.nv_flatten.proofs.program.entry.Goals as goal
use Rattle.nv_ast.proofs.Items.{next_item}

pub loop-param-preserved : goal.loop-param-preserved
loop-param-preserved c =
    let w : total_named_words (named_types_of (whole_in c.args.t.now).declared.layouts (list_named_types (drop c.loop-param.param-index c.args.params.now))) ≡ words (type_of (whole_in c.args.t.now).declared.layouts (type_tree c.param-item.result.1)) + total_named_words (named_types_of (whole_in c.args.t.now).declared.layouts (list_named_types (drop (c.loop-param.param-index + 1) c.args.params.now))) = ap (λ l. total_named_words (named_types_of (whole_in c.args.t.now).declared.layouts (list_named_types l))) (next_item c.args.params.now c.loop-param.param-index c.param-item.result c.loop-param-test.true c.param-item.is) in
    record {
      scope = params-turn c.loop-param.next c.of_type.new.next c.param-item.result.0 (type_of (whole_in c.args.t.now).declared.layouts (type_tree c.param-item.result.1)) (named_types_of (whole_in c.args.t.now).declared.layouts (list_named_types (drop (c.loop-param.param-index + 1) c.args.params.now))) (named_types_of (whole_in c.args.t.now).declared.layouts (list_named_types (drop c.loop-param.param-index c.args.params.now))) c.loop-param.scope.items c.push.new.self.items _ _ (ap (λ l. named_types_of (whole_in c.args.t.now).declared.layouts (list_named_types l)) (next_item c.args.params.now c.loop-param.param-index c.param-item.result c.loop-param-test.true c.param-item.is)) refl c.in-Ok.ensures.symbol c.in-Ok.ensures.next c.in-Ok-push.ensures.items c.loop-param.invariant.scope;
      next = omega (arith, c.in-Ok.ensures.next, c.loop-param.invariant.next, w);
      made = numbers-turn c.loop-param.made.items c.of_type.new.made.items _ c.loop-param.next c.of_type.new.next (words (type_of (whole_in c.args.t.now).declared.layouts (type_tree c.param-item.result.1))) (total_named_words (named_types_of (whole_in c.args.t.now).declared.layouts (list_named_types (drop (c.loop-param.param-index + 1) c.args.params.now)))) (total_named_words (named_types_of (whole_in c.args.t.now).declared.layouts (list_named_types (drop c.loop-param.param-index c.args.params.now)))) c.in-Ok.ensures.made c.in-Ok.ensures.next w c.loop-param.invariant.made;
      later = omega (arith, c.in-Ok.ensures.later, c.loop-param.invariant.later);
    }

pub returns-clause-scope : goal.returns-clause-scope
returns-clause-scope c =
    params-done c.loop-param.next (named_types_of (whole_in c.args.t.now).declared.layouts (list_named_types (drop c.loop-param.param-index c.args.params.now))) (scope_of c.loop-param.scope.items []) _ (ap (λ l. named_types_of (whole_in c.args.t.now).declared.layouts (list_named_types l)) (drop_all c.loop-param.param-index c.args.params.now (omega arith))) c.loop-param.invariant.scope
