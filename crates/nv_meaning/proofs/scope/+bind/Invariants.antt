use Rattle.std.proofs.Common.{◌≡◌, drop, []}
use Rattle.nv_ast.specs.PatternView.{list_patterns}
use Rattle.nv_meaning_values.specs.Values.{all_matched}
use Rattle.nv_meaning_values.specs.inner.View.{list_values, scope_of, Extends}
use Rattle.nv_meaning.proofs.scope.+bind.Given as goal

abbrev pub invariant-bind_all-loop-p : goal.invariant-bind_all-loop-p
invariant-bind_all-loop-p l = record {
  matches : all_matched (list_patterns (drop l.p-index l.ps)) (list_values l.values.rest.items) (scope_of l.scope.items []) ≡ all_matched (list_patterns l.ps) (list_values l.fn.vs.items) (scope_of l.fn.scope.items []);
  extends : Extends l.fn.scope.items l.scope.items;
}
