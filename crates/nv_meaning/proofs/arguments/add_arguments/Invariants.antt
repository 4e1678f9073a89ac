use Rattle.std.proofs.Common.{◌≡◌, [], drop}
use Rattle.nv_ast.specs.Types.{named_types_of}
use Rattle.nv_ast.specs.TypeView.{list_named_types}
use Rattle.nv_meaning_values.specs.Values.{named_values_from}
use Rattle.nv_meaning.specs.Meaning.{named_scope}
use Rattle.nv_meaning_values.specs.inner.TableView.{declared_in}
use Rattle.nv_meaning_values.specs.inner.View.{scope_of}
use Rattle.nv_meaning.proofs.arguments.add_arguments.Given as goal

abbrev pub invariant-loop-param : goal.invariant-loop-param
invariant-loop-param l =
    named_scope (named_values_from (named_types_of (declared_in l.t).layouts (list_named_types (drop l.param-index l.params))) (drop l.at l.args)) (scope_of l.scope.items [])
    ≡ named_scope (named_values_from (named_types_of (declared_in l.t).layouts (list_named_types l.params)) l.args) (scope_of l.fn.scope.items [])
