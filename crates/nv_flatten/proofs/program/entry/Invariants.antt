use Rattle.std.proofs.Common.{◌≡◌, ◌+◌, ◌≤◌, ◌++◌, [], drop}
use Rattle.nv_ast.specs.Types.{named_types_of, total_named_words}
use Rattle.nv_ast.specs.TypeView.{list_named_types}
use Rattle.nv_flatten_values.specs.inner.Symbols.{named_fresh, numbers_from, params_bound}
use Rattle.nv_flatten_values.specs.inner.View.{scope_of}
use Rattle.nv_flatten_values.specs.inner.WholeView.{whole_in}
use Rattle.nv_flatten.proofs.program.entry.Given as goal

abbrev pub invariant-loop-param : goal.invariant-loop-param
invariant-loop-param l = record {
  scope : params_bound (named_fresh l.next (named_types_of (whole_in l.t).declared.layouts (list_named_types (drop l.param-index l.params)))) (scope_of l.scope.items []) ≡ params_bound (named_fresh l.fn.next (named_types_of (whole_in l.t).declared.layouts (list_named_types l.params))) [];
  next : l.next + total_named_words (named_types_of (whole_in l.t).declared.layouts (list_named_types (drop l.param-index l.params))) ≡ l.fn.next + total_named_words (named_types_of (whole_in l.t).declared.layouts (list_named_types l.params));
  made : l.made.items ++ numbers_from l.next (total_named_words (named_types_of (whole_in l.t).declared.layouts (list_named_types (drop l.param-index l.params)))) ≡ l.fn.made.items ++ numbers_from l.fn.next (total_named_words (named_types_of (whole_in l.t).declared.layouts (list_named_types l.params)));
  later : l.fn.next ≤ l.next;
}
