use Rattle.std.proofs.Common.{◌∙◌, ◌≤◌, [], ap, sym, refl, drop, length, arith}
use Rattle.std.below.core.specs.declared.int.usize.TheConstants.{MAX}
use Rattle.std.proofs.lemmas.List.{drop_all}
use Rattle.nv_ast.specs.Types.{named_types_of}
use Rattle.nv_ast.specs.TypeView.{list_named_types}
use Rattle.nv_meaning_values.specs.Values.{named_values_from}
use Rattle.nv_meaning.specs.Meaning.{named_scope}
use Rattle.nv_meaning_values.specs.inner.TableView.{declared_in}
use Rattle.nv_meaning_values.specs.inner.View.{scope_of}
use Rattle.nv_meaning.proofs.Parameters.{arguments-turn}
use Rattle.nv_meaning.proofs.arguments.add_arguments.Goals as goal

pub loop-param-preserved : goal.loop-param-preserved
loop-param-preserved c =
    let short : length c.args.args.now ≤ MAX = omega arith in
    arguments-turn (declared_in c.args.t.now).layouts c.args.params.now c.loop-param.param-index c.param-item.result c.args.args.now c.loop-param.at c.in_ok-v.behind MAX c.in_ok-v.v _ c.loop-param.scope.items c.push.new.self.items
    c.loop-param-test.true c.param-item.is short c.in_ok-v.ensures.value c.in_ok-v.ensures.behind refl refl c.in_ok-push.ensures.items _ c.loop-param.invariant

pub returns : goal.returns
returns c =
    sym (ap (λ l. named_scope (named_values_from (named_types_of (declared_in c.args.t.now).layouts (list_named_types l)) (drop c.loop-param.at c.args.args.now)) (scope_of c.loop-param.scope.items [])) (drop_all c.loop-param.param-index c.args.params.now (omega arith)))
    ∙ c.loop-param.invariant
