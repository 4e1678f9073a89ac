use Rattle.std.proofs.Common.{◌≡◌, ◌+◌, ◌*◌, ◌≤◌, [], drop}
use Rattle.nv_ast.specs.ExprView.{tree_of, list_trees, list_named_trees, list_statements, statement_tree}
use Rattle.nv_meaning_values.specs.inner.TableView.{declared_in}
use Rattle.nv_meaning_values.specs.inner.View.{list_values, scope_of, Extends}
use Rattle.nv_meaning.specs.inner.Ran.{at}
use Rattle.nv_meaning.specs.inner.Weight.{weight, weight_all, weight_named, weight_statement, weight_statements, span}
use Rattle.nv_meaning.proofs.Arms.{Front, FrontNamed, Led}
use Rattle.nv_meaning.proofs.Jumps.{Jumped}
use Rattle.nv_meaning.proofs.run.+run.Given as goal

-- the call that was made is the call that is made now
abbrev pub invariant-call-loop-left : goal.invariant-call-loop-left
invariant-call-loop-left l = record {
  ran : Jumped (declared_in l.t) (at l.fn.left l.fn.p l.fn.log) (at l.left l.p l.log) l.f (list_values l.fn.vs.items) l.callee (list_values l.args.items);
  left : l.left ≤ l.fn.left;
}

abbrev pub decreases-call-loop-left : goal.decreases-call-loop-left
decreases-call-loop-left l = l.left

abbrev pub invariant-each-loop-e : goal.invariant-each-loop-e
invariant-each-loop-e l = record {
  ran : Front (declared_in l.t) (scope_of l.fn.scope.items []) l.es (at l.fn.left l.fn.p l.fn.log) (at l.left l.p l.log) l.vs.items (drop l.e-index l.es);
  same : l.scope.items ≡ l.fn.scope.items;
  left : l.left ≤ l.fn.left;
}

abbrev pub invariant-each_named-loop-e : goal.invariant-each_named-loop-e
invariant-each_named-loop-e l = record {
  ran : FrontNamed (declared_in l.t) (scope_of l.fn.scope.items []) l.es (at l.fn.left l.fn.p l.fn.log) (at l.left l.p l.log) l.fields.items (drop l.e-index l.es);
  same : l.scope.items ≡ l.fn.scope.items;
  left : l.left ≤ l.fn.left;
}

abbrev pub invariant-statements-loop-st : goal.invariant-statements-loop-st
invariant-statements-loop-st l = record {
  ran : Led (declared_in l.t) (scope_of l.fn.scope.items []) l.sts (at l.fn.left l.fn.p l.fn.log) (at l.left l.p l.log) (scope_of l.scope.items []) (drop l.st-index l.sts);
  extends : Extends l.fn.scope.items l.scope.items;
  left : l.left ≤ l.fn.left;
}

abbrev pub decreases-eval : goal.decreases-eval
decreases-eval l = l.left.now * span (declared_in l.t.now).functions + (8 * weight (tree_of l.e.now))

abbrev pub decreases-settled : goal.decreases-settled
decreases-settled l = l.left.now * span (declared_in l.t.now).functions + (8 * weight (tree_of l.e.now) + 1)

abbrev pub decreases-call : goal.decreases-call
decreases-call l = l.left.now * span (declared_in l.t.now).functions

abbrev pub decreases-each : goal.decreases-each
decreases-each l = l.left.now * span (declared_in l.t.now).functions + (8 * weight_all (list_trees l.es.now) + 2)

abbrev pub decreases-each_named : goal.decreases-each_named
decreases-each_named l = l.left.now * span (declared_in l.t.now).functions + (8 * weight_named (list_named_trees l.es.now) + 2)

abbrev pub decreases-statements : goal.decreases-statements
decreases-statements l = l.left.now * span (declared_in l.t.now).functions + (8 * weight_statements (list_statements l.sts.now) + 3)

abbrev pub decreases-statement : goal.decreases-statement
decreases-statement l = l.left.now * span (declared_in l.t.now).functions + (8 * weight_statement (statement_tree l.st.now))

abbrev pub decreases-store : goal.decreases-store
decreases-store l = l.left.now * span (declared_in l.t.now).functions + (8 * (weight (tree_of l.a.now) + weight (tree_of l.e.now)) + 2)

abbrev pub decreases-tuple : goal.decreases-tuple
decreases-tuple l = l.left.now * span (declared_in l.t.now).functions + (8 * weight_all (list_trees l.es.now) + 3)

abbrev pub decreases-record : goal.decreases-record
decreases-record l = l.left.now * span (declared_in l.t.now).functions + (8 * weight_named (list_named_trees l.es.now) + 3)

abbrev pub decreases-again : goal.decreases-again
decreases-again l = l.left.now * span (declared_in l.t.now).functions + (8 * weight_all (list_trees l.es.now) + 3)

abbrev pub decreases-raise : goal.decreases-raise
decreases-raise l = l.left.now * span (declared_in l.t.now).functions + (8 * weight_all (list_trees l.es.now) + 3)

abbrev pub decreases-binary : goal.decreases-binary
decreases-binary l = l.left.now * span (declared_in l.t.now).functions + (8 * (weight (tree_of l.a.now) + weight (tree_of l.b.now)) + 2)

abbrev pub decreases-choose : goal.decreases-choose
decreases-choose l = l.left.now * span (declared_in l.t.now).functions + (8 * (weight (tree_of l.c.now) + (weight (tree_of l.a.now) + weight (tree_of l.b.now))) + 2)

abbrev pub decreases-try_ : goal.decreases-try_
decreases-try_ l = l.left.now * span (declared_in l.t.now).functions + (8 * (weight (tree_of l.a.now) + weight (tree_of l.h.now)) + 2)

abbrev pub decreases-handle : goal.decreases-handle
decreases-handle l = l.left.now * span (declared_in l.t.now).functions + (8 * weight (tree_of l.h.now) + 1)

abbrev pub decreases-block : goal.decreases-block
decreases-block l = l.left.now * span (declared_in l.t.now).functions + (8 * (weight_statements (list_statements l.sts.now) + weight (tree_of l.tail.now)) + 4)

abbrev pub decreases-of_operand : goal.decreases-of_operand
decreases-of_operand l = l.left.now * span (declared_in l.t.now).functions + (8 * weight (tree_of l.a.now) + 2)
