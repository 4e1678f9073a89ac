use Rattle.std.proofs.Common.{◌≡◌, ◌+◌, ◌*◌, ◌≤◌, []}
use Rattle.nv_ast.specs.ExprView.{tree_of, list_trees, list_named_trees, list_statements, statement_tree}
use Rattle.nv_meaning.specs.inner.Weight.{weight, weight_all, weight_named, weight_statement, weight_statements}
use Rattle.nv_flatten_values.specs.inner.Simulation.{Extends}
use Rattle.nv_flatten_values.specs.inner.View.{scope_of}
use Rattle.nv_flatten_values.specs.inner.WholeView.{whole_in}
use Rattle.nv_flatten.proofs.FlatLists.{FlatFront, FlatFields, FlatLed}
use Rattle.nv_flatten.proofs.Ranks.{value_rank, ending_rank, condition_rank}
use Rattle.nv_flatten.proofs.+walk.Given as goal

abbrev pub decreases-values::value : goal.decreases-values::value
decreases-values::value l = 10 * weight (tree_of l.e.now) + value_rank (tree_of l.e.now)

abbrev pub decreases-endings::given : goal.decreases-endings::given
decreases-endings::given l = 10 * weight (tree_of l.e.now) + (value_rank (tree_of l.e.now) + 1)

abbrev pub decreases-endings::truth : goal.decreases-endings::truth
decreases-endings::truth l = 10 * weight (tree_of l.e.now) + (value_rank (tree_of l.e.now) + 1)

abbrev pub decreases-endings::ending : goal.decreases-endings::ending
decreases-endings::ending l = 10 * weight (tree_of l.e.now) + ending_rank (tree_of l.e.now)

abbrev pub decreases-values::named : goal.decreases-values::named
decreases-values::named l = 10 * weight (tree_of l.e.now) + (ending_rank (tree_of l.e.now) + 1)

abbrev pub decreases-endings::condition : goal.decreases-endings::condition
decreases-endings::condition l = 10 * weight (tree_of l.e.now) + condition_rank (tree_of l.e.now)

abbrev pub decreases-endings::decided : goal.decreases-endings::decided
decreases-endings::decided l = 10 * weight (tree_of l.e.now) + (condition_rank (tree_of l.e.now) + 1)

abbrev pub decreases-values::dot : goal.decreases-values::dot
decreases-values::dot l = 10 * weight (tree_of l.a.now) + 7

abbrev pub decreases-values::invert : goal.decreases-values::invert
decreases-values::invert l = 10 * weight (tree_of l.a.now) + 7

abbrev pub decreases-values::negate : goal.decreases-values::negate
decreases-values::negate l = 10 * weight (tree_of l.a.now) + 7

abbrev pub decreases-values::shift : goal.decreases-values::shift
decreases-values::shift l = 10 * weight (tree_of l.a.now) + 7

abbrev pub decreases-values::unpack : goal.decreases-values::unpack
decreases-values::unpack l = 10 * weight (tree_of l.a.now) + 7

abbrev pub decreases-values::pack : goal.decreases-values::pack
decreases-values::pack l = 10 * weight (tree_of l.a.now) + 7

abbrev pub decreases-values::fetch : goal.decreases-values::fetch
decreases-values::fetch l = 10 * weight (tree_of l.a.now) + 7

abbrev pub decreases-values::combine : goal.decreases-values::combine
decreases-values::combine l = 10 * (weight (tree_of l.a.now) + weight (tree_of l.b.now)) + 7

abbrev pub decreases-endings::compare : goal.decreases-endings::compare
decreases-endings::compare l = 10 * (weight (tree_of l.a.now) + weight (tree_of l.b.now)) + 7

abbrev pub decreases-endings::both : goal.decreases-endings::both
decreases-endings::both l = 10 * (weight (tree_of l.a.now) + weight (tree_of l.b.now)) + 7

abbrev pub decreases-endings::either : goal.decreases-endings::either
decreases-endings::either l = 10 * (weight (tree_of l.a.now) + weight (tree_of l.b.now)) + 7

abbrev pub decreases-values::store : goal.decreases-values::store
decreases-values::store l = 10 * (weight (tree_of l.a.now) + weight (tree_of l.e.now)) + 7

abbrev pub decreases-endings::choose : goal.decreases-endings::choose
decreases-endings::choose l = 10 * (weight (tree_of l.c.now) + (weight (tree_of l.a.now) + weight (tree_of l.b.now))) + 7

abbrev pub decreases-endings::try_ : goal.decreases-endings::try_
decreases-endings::try_ l = 10 * (weight (tree_of l.a.now) + weight (tree_of l.h.now)) + 7

abbrev pub decreases-values::each : goal.decreases-values::each
decreases-values::each l = 10 * weight_all (list_trees l.es.now) + 7

abbrev pub decreases-values::tuple : goal.decreases-values::tuple
decreases-values::tuple l = 10 * weight_all (list_trees l.es.now) + 8

abbrev pub decreases-values::record : goal.decreases-values::record
decreases-values::record l = 10 * weight_named (list_named_trees l.es.now) + 8

abbrev pub decreases-endings::call : goal.decreases-endings::call
decreases-endings::call l = 10 * weight_all (list_trees l.es.now) + 8

abbrev pub decreases-endings::raise : goal.decreases-endings::raise
decreases-endings::raise l = 10 * weight_all (list_trees l.es.now) + 8

abbrev pub decreases-values::statement : goal.decreases-values::statement
decreases-values::statement l = 10 * weight_statement (statement_tree l.st.now)

abbrev pub decreases-values::statements : goal.decreases-values::statements
decreases-values::statements l = 10 * weight_statements (list_statements l.sts.now) + 1

abbrev pub decreases-values::block : goal.decreases-values::block
decreases-values::block l = 10 * (weight_statements (list_statements l.sts.now) + weight (tree_of l.a.now)) + 8

abbrev pub decreases-endings::ending_block : goal.decreases-endings::ending_block
decreases-endings::ending_block l = 10 * (weight_statements (list_statements l.sts.now) + weight (tree_of l.a.now)) + 8

abbrev pub invariant-values::each-loop-e : goal.invariant-values::each-loop-e
invariant-values::each-loop-e l = record {
  front : FlatFront (whole_in l.t) l.fn.names l.names l.fn.next l.next (scope_of l.fn.scope.items []) l.es l.e-index l.listed.steps.items l.listed.symbols.items;
  same : l.scope.items ≡ l.fn.scope.items;
  names : Extends l.fn.names l.names;
  later : l.fn.next ≤ l.next;
}

abbrev pub invariant-values::record-loop-e : goal.invariant-values::record-loop-e
invariant-values::record-loop-e l = record {
  front : FlatFields (whole_in l.t) l.fn.names l.names l.fn.next l.next (scope_of l.fn.scope.items []) l.es l.e-index l.recorded.steps.items l.recorded.fields.items;
  same : l.scope.items ≡ l.fn.scope.items;
  names : Extends l.fn.names l.names;
  later : l.fn.next ≤ l.next;
}

abbrev pub invariant-values::statements-loop-st : goal.invariant-values::statements-loop-st
invariant-values::statements-loop-st l = record {
  led : FlatLed (whole_in l.t) l.fn.names l.names l.fn.next l.next (scope_of l.fn.scope.items []) (scope_of l.scope.items []) l.sts l.st-index l.steps.items;
  extends : Extends l.fn.scope.items l.scope.items;
  names : Extends l.fn.names l.names;
  later : l.fn.next ≤ l.next;
}
