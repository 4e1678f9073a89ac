use Rattle.std.proofs.Common.{◌≡◌, drop, []}
use Rattle.nv_ast.specs.TypeView.{list_named_types}
use Rattle.nv_meaning.specs.Meaning.{entered}
use Rattle.nv_meaning_values.specs.inner.View.{list_values, scope_of}
use Rattle.nv_meaning.proofs.scope.enter.Given as goal

abbrev pub invariant-loop-param : goal.invariant-loop-param
invariant-loop-param l = entered (list_named_types (drop l.param-index l.params)) (list_values l.values.rest.items) (scope_of l.scope.items []) ≡ entered (list_named_types l.params) (list_values l.fn.vs.items) (scope_of l.fn.scope.items [])
