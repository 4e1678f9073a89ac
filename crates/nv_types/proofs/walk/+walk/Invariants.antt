use Rattle.std.proofs.Common.{None, drop, ◌+◌, ◌*◌, max, take}
use Rattle.nv_ast.specs.ExprView.{list_trees, list_named_trees, tree_of, list_statements, statement_tree}
use Rattle.nv_types_table.specs.inner.Named.{named}
use Rattle.nv_types_scopes.proofs.WalkLists.{AllSo, unnamed}
use Rattle.nv_types_scopes.proofs.WalkTuples.{TypesSo, FieldsSo}
use Rattle.nv_ast.specs.Height.{height, highest, highest_named, statement_height, highest_statement}
use Rattle.nv_types_scopes.proofs.BlockWalked.{Behind}
use Rattle.nv_types.proofs.walk.+walk.Given as goal

abbrev pub invariant-tuple-loop-e : goal.invariant-tuple-loop-e
invariant-tuple-loop-e l = record {
  so : AllSo l.initial.checker l.checker None None (list_trees l.es) (list_trees (drop l.e-index l.es)) l.parts;
  types : TypesSo l.initial.checker l.checker l.types.items (list_trees l.es) (list_trees (drop l.e-index l.es));
}

abbrev pub invariant-fields-loop-e : goal.invariant-fields-loop-e
invariant-fields-loop-e l = record {
  so : AllSo l.initial.checker l.checker None None (unnamed (list_named_trees l.es)) (unnamed (list_named_trees (drop l.e-index l.es))) l.parts;
  types : FieldsSo l.initial.checker l.checker (named l.types.items) (list_named_trees l.es) (list_named_trees (drop l.e-index l.es));
}

abbrev pub invariant-arguments-loop-e : goal.invariant-arguments-loop-e
invariant-arguments-loop-e l = AllSo l.initial.checker l.checker l.fn.types l.left (list_trees l.es) (list_trees (drop l.e-index l.es)) l.parts

abbrev pub invariant-block-loop-st : goal.invariant-block-loop-st
invariant-block-loop-st l = Behind l.initial.checker l.checker (take l.st-index l.sts) l.steps.items l.size

abbrev pub decreases-expr : goal.decreases-expr
decreases-expr l = 4 * height (tree_of l.e.now)

abbrev pub decreases-choice : goal.decreases-choice
decreases-choice l = 4 * max (height (tree_of l.c.now)) (max (height (tree_of l.a.now)) (height (tree_of l.b.now))) + 1

abbrev pub decreases-handled : goal.decreases-handled
decreases-handled l = 4 * max (height (tree_of l.body.now)) (height (tree_of l.handler.now)) + 1

abbrev pub decreases-fetch : goal.decreases-fetch
decreases-fetch l = 4 * height (tree_of l.address.now) + 1

abbrev pub decreases-block : goal.decreases-block
decreases-block l = 4 * max (highest_statement (list_statements l.sts.now)) (height (tree_of l.last.now)) + 3

abbrev pub decreases-statement : goal.decreases-statement
decreases-statement l = 4 * statement_height (statement_tree l.st.now)

abbrev pub decreases-binding : goal.decreases-binding
decreases-binding l = 4 * height (tree_of l.value.now) + 1

abbrev pub decreases-store : goal.decreases-store
decreases-store l = 4 * max (height (tree_of l.a.now)) (height (tree_of l.e.now)) + 1

abbrev pub decreases-tuple : goal.decreases-tuple
decreases-tuple l = 4 * highest (list_trees l.es.now) + 2

abbrev pub decreases-fields : goal.decreases-fields
decreases-fields l = 4 * highest_named (list_named_trees l.es.now) + 2

abbrev pub decreases-arguments : goal.decreases-arguments
decreases-arguments l = 4 * highest (list_trees l.es.now) + 1

abbrev pub decreases-call : goal.decreases-call
decreases-call l = 4 * highest (list_trees l.es.now) + 2

abbrev pub decreases-raise : goal.decreases-raise
decreases-raise l = 4 * highest (list_trees l.es.now) + 2

abbrev pub decreases-dot : goal.decreases-dot
decreases-dot l = 4 * height (tree_of l.inner.now) + 1

abbrev pub decreases-shift : goal.decreases-shift
decreases-shift l = 4 * height (tree_of l.inner.now) + 1

abbrev pub decreases-unpack : goal.decreases-unpack
decreases-unpack l = 4 * height (tree_of l.inner.now) + 1

abbrev pub decreases-pack : goal.decreases-pack
decreases-pack l = 4 * height (tree_of l.inner.now) + 1

abbrev pub decreases-binary : goal.decreases-binary
decreases-binary l = 4 * max (height (tree_of l.a.now)) (height (tree_of l.b.now)) + 1
