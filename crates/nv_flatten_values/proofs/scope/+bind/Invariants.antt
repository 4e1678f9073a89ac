use Rattle.std.proofs.Common.{◌≡◌, drop, []}
use Rattle.nv_ast.specs.PatternView.{list_patterns}
use Rattle.nv_flatten_values.specs.inner.Symbols.{all_bound}
use Rattle.nv_flatten_values.specs.inner.View.{list_symbols, scope_of}
use Rattle.nv_flatten_values.specs.inner.Simulation.{Extends}
use Rattle.nv_flatten_values.proofs.scope.+bind.Given as goal

abbrev pub invariant-bind_all-loop-p : goal.invariant-bind_all-loop-p
invariant-bind_all-loop-p l = record {
  bound : all_bound (list_patterns (drop l.p-index l.ps)) (list_symbols l.symbols.rest.items) (scope_of l.scope.items []) ≡ all_bound (list_patterns l.ps) (list_symbols l.fn.ss.items) (scope_of l.fn.scope.items []);
  extends : Extends l.fn.scope.items l.scope.items;
}
