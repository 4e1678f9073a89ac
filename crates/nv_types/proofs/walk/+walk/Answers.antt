use Rattle.std.proofs.Common.{◌≡◌, ◌∙◌, ◌≤◌, ◌+◌, ◌∷◌, [], ap, sym, subst, arith, refl, ℕ, Bool, false, List, drop, length, None, Some, Ok, Err, Result, min, take, option_to_list}
use Rattle.std.specs.Borrow.{Bor}
use Rattle.nv_ast.specs.declared.tree.Expr.{Expr, out-Expr}
use Rattle.nv_ast.specs.ExprView.{tree_of, list_trees, list_named_trees, list_statements, statement_tree}
use Rattle.nv_ast.specs.PatternView.{list_patterns}
use Rattle.nv_ast.specs.Tests.{where_true}
use Rattle.nv_ast.specs.Tree.{NumberTree, TruthTree, VarTree, ParenTree, TupleTree, FieldsTree, DotTree, InvertTree, NegateTree, BinaryTree, ShiftTree, CallTree, UnpackTree, PackTree, RaiseTree, IfTree, TryTree, FetchTree, BlockTree, Trees, NamedTrees, no_named_trees, StatementTree}
use Rattle.nv_ast.specs.Faults.{at_span, wrong_scratch}
use Rattle.nv_types_table.specs.declared.cost.Cost.{Cost}
use Rattle.nv_types_scopes.specs.declared.expected.Expected.TheVariants.{Value, Anything}
use Rattle.nv_types_table.specs.inner.Named.{named}
use Rattle.nv_types_table.specs.inner.Costs.{two_costs, node_cost}
use Rattle.nv_types_table.specs.inner.Faulty.{IsFirstOf}
use Rattle.nv_types_table.specs.inner.Store.{AreTypes}
use Rattle.nv_types_table.proofs.Entries.{named-append}
use Rattle.nv_types_table.proofs.Growing.{Extends-trans}
use Rattle.nv_types_table.proofs.RowEdges.{none_test}
use Rattle.nv_types_scopes.proofs.Holding.{Keeps-table}
use Rattle.nv_types_scopes.proofs.WalkNodes.{node_failed, node_checks}
use Rattle.nv_types_scopes.proofs.WalkArms.{number_checks, truth_checks, paren_failed, paren_checks, invert_failed, invert_checks, negate_failed, negate_checks, shift_failed, shift_stands, left_failed, right_failed, binary_checks}
use Rattle.nv_types_scopes.proofs.WalkNamed.{dot_failed, dot_checks, dot_unknown, unpack_other, unpack_unknown, unpack_failed, unpack_checks, pack_other, pack_unknown, pack_failed, pack_checks}
use Rattle.nv_types_scopes.proofs.WalkLists.{AllSo, all_start, next_value, all_more, all_failed, all_end, exprs_at, exprs_end, unnamed, named_at, named_end}
use Rattle.nv_types_scopes.proofs.WalkTuples.{TypesSo, types_start, types_more, tuple_failed, tuple_checks, FieldsSo, fields_begin, fields_more, fields_failed, fields_checks}
use Rattle.nv_types_scopes.proofs.WalkCalls.{call_other, call_unknown, call_failed, call_outside, call_number, call_checks, raise_other, raise_unknown, raise_failed, raise_number, raise_checks}
use Rattle.nv_ast.specs.Height.{height, statement_height}
use Rattle.nv_types_scopes.proofs.WalkHeights.{expr_within, named_within}
use Rattle.nv_types_scopes.proofs.WalkKinds.{of_tree, arm}
use Rattle.nv_types_scopes.proofs.WalkErrors.{at_err, all_answered, memory_wanted}
use Rattle.nv_ast.specs.declared.tree.Stmt.{Stmt}
use Rattle.nv_ast.proofs.Items.{split_item}
use Rattle.nv_ast.proofs.TreeKinds.{number-is, truth-is, variable-is, paren-is, dot-is, invert-is, negate-is, shift-is, unpack-is, pack-is, fetch-is, binary-is, if-is, try-is, tuple-is, record-is, call-is, raise-is, block-is}
use Rattle.nv_types_table.specs.declared.needs.Step.{Step}
use Rattle.nv_types_scopes.specs.declared.functions.TypedExpr.{TypedExpr}
use Rattle.nv_types_table.specs.inner.Cells.{most}
use Rattle.nv_types_scopes.specs.inner.Walk.{Checks}
use Rattle.nv_types_scopes.specs.inner.Blocks.{ChecksStatement}
use Rattle.nv_types_table.specs.inner.Needs.{block_needs}
use Rattle.nv_types_scopes.specs.inner.Standing.{written_in}
use Rattle.nv_types_table.specs.declared.error.TypeError.{TypeError}
use Rattle.nv_types_table.specs.declared.error.TypeError.TheVariants.{NoMemory}
use Rattle.nv_types_scopes.proofs.BlockNodes.{wants_memory}
use Rattle.nv_types_scopes.proofs.BlockChoices.{choice_fails_at_condition, choice_fails_at_first, choice_fails_at_second, choice_checks}
use Rattle.nv_types_scopes.proofs.BlockHandlers.{try_fails_at_handler, try_checks}
use Rattle.nv_types_scopes.proofs.BlockFetches.{fetch_fails_at_address, fetch_fails_at_type, fetch_fails_at_words, fetch_fails_at_node, fetch_checks, no_middle, some_middle}
use Rattle.nv_types_scopes.proofs.BlockStatements.{as_many_names, statement_at_err, store_fails_at_address, store_fails_at_value, store_fails_at_words, store_fails_at_reach, store_checks}
use Rattle.nv_types_scopes.proofs.BlockWalked.{Behind, behind_none, behind_next, behind_all, behind_inside, statement_within}
use Rattle.nv_types_scopes.proofs.BlockWhole.{block_fails_at_statement, block_fails_at_tail, block_fails_at_node, block_checks}
use Rattle.nv_types.proofs.walk.+walk.Goals.{fetch-then-is_in_reach, fetch-else-is_in_reach}
use Rattle.nv_types.proofs.walk.+walk.Goals as goal

pub expr-returns-in-Number : goal.expr-returns-in-Number
expr-returns-in-Number t c =
    of_tree c.args.checker.now _ c.args.tail c.args.expected c.plain.result (tree_of c.args.e.now) (NumberTree (out-Expr c.args.e.now).span c.in-Number.field-0) (number-is c.args.e.now c.in-Number.field-0 c.in-Number.is) (number_checks c.args.checker.now c.args.tail c.args.expected (out-Expr c.args.e.now).span c.in-Number.field-0 c.plain.result c.plain.ensures.judged c.plain.ensures.same c.plain.ensures.counted)

pub expr-returns-in-Truth : goal.expr-returns-in-Truth
expr-returns-in-Truth t c =
    of_tree c.args.checker.now _ c.args.tail c.args.expected c.plain-in-Truth.result (tree_of c.args.e.now) (TruthTree (out-Expr c.args.e.now).span c.in-Truth.field-0) (truth-is c.args.e.now c.in-Truth.field-0 c.in-Truth.is) (truth_checks c.args.checker.now c.args.tail c.args.expected (out-Expr c.args.e.now).span c.in-Truth.field-0 c.plain-in-Truth.result c.plain-in-Truth.ensures.judged c.plain-in-Truth.ensures.same c.plain-in-Truth.ensures.counted)

pub expr-returns-in-Var : goal.expr-returns-in-Var
expr-returns-in-Var t c =
    arm c.args.checker.now _ c.args.tail c.args.expected c.variable.result (tree_of c.args.e.now) (VarTree (out-Expr c.args.e.now).span c.in-Var.x) (variable-is c.args.e.now c.in-Var.x c.in-Var.is) (λ k vars w. refl) c.variable.ensures

pub expr-returns-in_err-part-in-Paren : goal.expr-returns-in_err-part-in-Paren
expr-returns-in_err-part-in-Paren t c =
    of_tree c.args.checker.now _ c.args.tail c.args.expected c.from_residual.result (tree_of c.args.e.now) (ParenTree (out-Expr c.args.e.now).span (tree_of c.deref.result.now)) (paren-is c.args.e.now c.in-Paren.inner c.deref.result.now c.in-Paren.is c.deref.ensures) (at_err c.args.checker.now _ c.args.tail c.args.expected (ParenTree (out-Expr c.args.e.now).span (tree_of c.deref.result.now)) c.from_residual.result _ c.from_residual.ensures.1 (paren_failed c.args.checker.now _ c.args.tail c.args.expected (out-Expr c.args.e.now).span (tree_of c.deref.result.now) _ c.in_err-part-in-Paren.ensures _))

pub expr-returns-in_ok-part-in-Paren : goal.expr-returns-in_ok-part-in-Paren
expr-returns-in_ok-part-in-Paren t c =
    of_tree c.args.checker.now _ c.args.tail c.args.expected c.plain-in-Paren.result (tree_of c.args.e.now) (ParenTree (out-Expr c.args.e.now).span (tree_of c.deref.result.now)) (paren-is c.args.e.now c.in-Paren.inner c.deref.result.now c.in-Paren.is c.deref.ensures) (paren_checks c.args.checker.now _ c.args.tail c.args.expected (out-Expr c.args.e.now).span (tree_of c.deref.result.now) c.in_ok-part-in-Paren.part c.plain-in-Paren.result c.in_ok-part-in-Paren.ensures c.plain-in-Paren.ensures.judged c.plain-in-Paren.ensures.same c.plain-in-Paren.ensures.counted)

pub expr-returns-in_err-part-in-Invert : goal.expr-returns-in_err-part-in-Invert
expr-returns-in_err-part-in-Invert t c =
    of_tree c.args.checker.now _ c.args.tail c.args.expected c.from_residual-in_err-part-in-Invert.result (tree_of c.args.e.now) (InvertTree (out-Expr c.args.e.now).span (tree_of c.deref-in-Invert.result.now)) (invert-is c.args.e.now c.in-Invert.inner c.deref-in-Invert.result.now c.in-Invert.is c.deref-in-Invert.ensures) (at_err c.args.checker.now _ c.args.tail c.args.expected (InvertTree (out-Expr c.args.e.now).span (tree_of c.deref-in-Invert.result.now)) c.from_residual-in_err-part-in-Invert.result _ c.from_residual-in_err-part-in-Invert.ensures.1 (invert_failed c.args.checker.now _ c.args.tail c.args.expected (out-Expr c.args.e.now).span (tree_of c.deref-in-Invert.result.now) _ c.in_err-part-in-Invert.ensures _))

pub expr-returns-in_ok-part-in-Invert : goal.expr-returns-in_ok-part-in-Invert
expr-returns-in_ok-part-in-Invert t c =
    of_tree c.args.checker.now _ c.args.tail c.args.expected c.plain-in-Invert.result (tree_of c.args.e.now) (InvertTree (out-Expr c.args.e.now).span (tree_of c.deref-in-Invert.result.now)) (invert-is c.args.e.now c.in-Invert.inner c.deref-in-Invert.result.now c.in-Invert.is c.deref-in-Invert.ensures) (invert_checks c.args.checker.now _ c.args.tail c.args.expected (out-Expr c.args.e.now).span (tree_of c.deref-in-Invert.result.now) c.in_ok-part-in-Invert.part c.plain-in-Invert.result c.in_ok-part-in-Invert.ensures c.plain-in-Invert.ensures.judged c.plain-in-Invert.ensures.same c.plain-in-Invert.ensures.counted)

pub expr-returns-in_err-part-in-Negate : goal.expr-returns-in_err-part-in-Negate
expr-returns-in_err-part-in-Negate t c =
    of_tree c.args.checker.now _ c.args.tail c.args.expected c.from_residual-in_err-part-in-Negate.result (tree_of c.args.e.now) (NegateTree (out-Expr c.args.e.now).span (tree_of c.deref-in-Negate.result.now)) (negate-is c.args.e.now c.in-Negate.inner c.deref-in-Negate.result.now c.in-Negate.is c.deref-in-Negate.ensures) (at_err c.args.checker.now _ c.args.tail c.args.expected (NegateTree (out-Expr c.args.e.now).span (tree_of c.deref-in-Negate.result.now)) c.from_residual-in_err-part-in-Negate.result _ c.from_residual-in_err-part-in-Negate.ensures.1 (negate_failed c.args.checker.now _ c.args.tail c.args.expected (out-Expr c.args.e.now).span (tree_of c.deref-in-Negate.result.now) _ c.in_err-part-in-Negate.ensures _))

pub expr-returns-in_ok-part-in-Negate : goal.expr-returns-in_ok-part-in-Negate
expr-returns-in_ok-part-in-Negate t c =
    of_tree c.args.checker.now _ c.args.tail c.args.expected c.plain-in-Negate.result (tree_of c.args.e.now) (NegateTree (out-Expr c.args.e.now).span (tree_of c.deref-in-Negate.result.now)) (negate-is c.args.e.now c.in-Negate.inner c.deref-in-Negate.result.now c.in-Negate.is c.deref-in-Negate.ensures) (negate_checks c.args.checker.now _ c.args.tail c.args.expected (out-Expr c.args.e.now).span (tree_of c.deref-in-Negate.result.now) c.in_ok-part-in-Negate.part c.plain-in-Negate.result c.in_ok-part-in-Negate.ensures c.plain-in-Negate.ensures.judged c.plain-in-Negate.ensures.same c.plain-in-Negate.ensures.counted)

pub expr-returns-in-Tuple : goal.expr-returns-in-Tuple
expr-returns-in-Tuple t c =
    arm c.args.checker.now _ c.args.tail c.args.expected c.tuple.result (tree_of c.args.e.now) (TupleTree (out-Expr c.args.e.now).span (list_trees c.deref-in-Tuple.result.now)) (tuple-is c.args.e.now c.in-Tuple.es c.deref-in-Tuple.result.now c.in-Tuple.is c.deref-in-Tuple.ensures.value) (λ k vars w. refl) c.tuple.ensures

pub expr-returns-in-Fields : goal.expr-returns-in-Fields
expr-returns-in-Fields t c =
    arm c.args.checker.now _ c.args.tail c.args.expected c.fields.result (tree_of c.args.e.now) (FieldsTree (out-Expr c.args.e.now).span (list_named_trees c.deref-in-Fields.result.now)) (record-is c.args.e.now c.in-Fields.es c.deref-in-Fields.result.now c.in-Fields.is c.deref-in-Fields.ensures.value) (λ k vars w. refl) c.fields.ensures

pub expr-returns-in-Dot : goal.expr-returns-in-Dot
expr-returns-in-Dot t c =
    arm c.args.checker.now _ c.args.tail c.args.expected c.dot.result (tree_of c.args.e.now) (DotTree (out-Expr c.args.e.now).span (tree_of c.deref-in-Dot.result.now) c.in-Dot.x) (dot-is c.args.e.now c.in-Dot.inner c.in-Dot.x c.deref-in-Dot.result.now c.in-Dot.is c.deref-in-Dot.ensures) (λ k vars w. refl) c.dot.ensures

pub expr-returns-in-Binary : goal.expr-returns-in-Binary
expr-returns-in-Binary t c =
    arm c.args.checker.now _ c.args.tail c.args.expected c.binary.result (tree_of c.args.e.now) (BinaryTree (out-Expr c.args.e.now).span c.in-Binary.op (tree_of c.deref-in-Binary.result.now) (tree_of c.deref-in-Binary-2.result.now)) (binary-is c.args.e.now c.in-Binary.op c.in-Binary.a c.in-Binary.b c.deref-in-Binary.result.now c.deref-in-Binary-2.result.now c.in-Binary.is c.deref-in-Binary.ensures c.deref-in-Binary-2.ensures) (λ k vars w. refl) c.binary.ensures

pub expr-returns-in-Shift : goal.expr-returns-in-Shift
expr-returns-in-Shift t c =
    arm c.args.checker.now _ c.args.tail c.args.expected c.shift.result (tree_of c.args.e.now) (ShiftTree (out-Expr c.args.e.now).span c.in-Shift.op (tree_of c.deref-in-Shift.result.now) c.in-Shift.n) (shift-is c.args.e.now c.in-Shift.op c.in-Shift.inner c.in-Shift.n c.deref-in-Shift.result.now c.in-Shift.is c.deref-in-Shift.ensures) (λ k vars w. refl) c.shift.ensures

pub expr-returns-in-Call : goal.expr-returns-in-Call
expr-returns-in-Call t c =
    of_tree c.args.checker.now _ c.args.tail c.args.expected c.call.result (tree_of c.args.e.now) (CallTree (out-Expr c.args.e.now).span c.in-Call.f (list_trees c.deref-in-Call.result.now)) (call-is c.args.e.now c.in-Call.f c.in-Call.es c.deref-in-Call.result.now c.in-Call.is c.deref-in-Call.ensures.value) c.call.ensures

pub expr-returns-in-Unpack : goal.expr-returns-in-Unpack
expr-returns-in-Unpack t c =
    arm c.args.checker.now _ c.args.tail c.args.expected c.unpack.result (tree_of c.args.e.now) (UnpackTree (out-Expr c.args.e.now).span c.in-Unpack.l (tree_of c.deref-in-Unpack.result.now)) (unpack-is c.args.e.now c.in-Unpack.l c.in-Unpack.inner c.deref-in-Unpack.result.now c.in-Unpack.is c.deref-in-Unpack.ensures) (λ k vars w. refl) c.unpack.ensures

pub expr-returns-in-Pack : goal.expr-returns-in-Pack
expr-returns-in-Pack t c =
    arm c.args.checker.now _ c.args.tail c.args.expected c.pack.result (tree_of c.args.e.now) (PackTree (out-Expr c.args.e.now).span c.in-Pack.l (tree_of c.deref-in-Pack.result.now)) (pack-is c.args.e.now c.in-Pack.l c.in-Pack.inner c.deref-in-Pack.result.now c.in-Pack.is c.deref-in-Pack.ensures) (λ k vars w. refl) c.pack.ensures

pub expr-returns-in-Raise : goal.expr-returns-in-Raise
expr-returns-in-Raise t c =
    arm c.args.checker.now _ c.args.tail c.args.expected c.raise.result (tree_of c.args.e.now) (RaiseTree (out-Expr c.args.e.now).span c.in-Raise.x (list_trees c.deref-in-Raise.result.now)) (raise-is c.args.e.now c.in-Raise.x c.in-Raise.es c.deref-in-Raise.result.now c.in-Raise.is c.deref-in-Raise.ensures.value) (λ k vars w. refl) c.raise.ensures

pub expr-returns-in-If : goal.expr-returns-in-If
expr-returns-in-If t c =
    of_tree c.args.checker.now _ c.args.tail c.args.expected c.choice.result (tree_of c.args.e.now) (IfTree (out-Expr c.args.e.now).span (tree_of c.deref-in-If.result.now) (tree_of c.deref-in-If-2.result.now) (tree_of c.deref-in-If-3.result.now)) (if-is c.args.e.now c.in-If.c c.in-If.a c.in-If.b c.deref-in-If.result.now c.deref-in-If-2.result.now c.deref-in-If-3.result.now c.in-If.is c.deref-in-If.ensures c.deref-in-If-2.ensures c.deref-in-If-3.ensures) c.choice.ensures

pub expr-returns-in-Try : goal.expr-returns-in-Try
expr-returns-in-Try t c =
    of_tree c.args.checker.now _ c.args.tail c.args.expected c.handled.result (tree_of c.args.e.now) (TryTree (out-Expr c.args.e.now).span (tree_of c.deref-in-Try.result.now) c.in-Try.x (list_patterns c.deref-in-Try-2.result.now) (tree_of c.deref-in-Try-3.result.now)) (try-is c.args.e.now c.in-Try.a c.in-Try.x c.in-Try.ps c.in-Try.h c.deref-in-Try.result.now c.deref-in-Try-2.result.now c.deref-in-Try-3.result.now c.in-Try.is c.deref-in-Try.ensures c.deref-in-Try-2.ensures.value c.deref-in-Try-3.ensures) c.handled.ensures

pub expr-returns-in-Fetch : goal.expr-returns-in-Fetch
expr-returns-in-Fetch t c =
    arm c.args.checker.now _ c.args.tail c.args.expected c.fetch.result (tree_of c.args.e.now) (FetchTree (out-Expr c.args.e.now).span c.in-Fetch.mem c.in-Fetch.n (tree_of c.deref-in-Fetch.result.now)) (fetch-is c.args.e.now c.in-Fetch.mem c.in-Fetch.n c.in-Fetch.a c.deref-in-Fetch.result.now c.in-Fetch.is c.deref-in-Fetch.ensures) (λ k vars w. refl) c.fetch.ensures

pub expr-returns-in-Block : goal.expr-returns-in-Block
expr-returns-in-Block t c =
    of_tree c.args.checker.now _ c.args.tail c.args.expected c.block.result (tree_of c.args.e.now) (BlockTree (out-Expr c.args.e.now).span (list_statements c.deref-in-Block.result.now) (tree_of c.deref-in-Block-2.result.now)) (block-is c.args.e.now c.in-Block.sts c.in-Block.last c.deref-in-Block.result.now c.deref-in-Block-2.result.now c.in-Block.is c.deref-in-Block.ensures.value c.deref-in-Block-2.ensures) c.block.ensures

pub tuple-loop-e-init : goal.tuple-loop-e-init
tuple-loop-e-init t c =
    record { so = all_start c.args.checker.now None (list_trees c.args.es.now); types = subst (λ (l : List ℕ). TypesSo c.args.checker.now c.args.checker.now l (list_trees c.args.es.now) (list_trees c.args.es.now)) (sym c.new-types.ensures.items) (types_start c.args.checker.now (list_trees c.args.es.now)) }

pub tuple-returns-in_err-part : goal.tuple-returns-in_err-part
tuple-returns-in_err-part t c =
    let at = exprs_at c.args.es.now c.loop-e.e-index c.e-item.result c.loop-e-test.true c.e-item.is in
    let so = subst (λ (rest : Trees). AllSo c.args.checker.now c.loop-e.checker None None (list_trees c.args.es.now) rest c.loop-e.parts) at c.loop-e.invariant.so in
    at_err c.args.checker.now _ false c.args.expected _ _ _ c.from_residual.ensures.1 (tuple_failed c.args.checker.now c.loop-e.checker _ c.args.expected c.args.span (list_trees c.args.es.now) (list_trees (drop (c.loop-e.e-index + 1) c.args.es.now)) (tree_of c.e-item.result) c.loop-e.parts _ so c.in_err-part.ensures _)

pub tuple-returns-in_err-push : goal.tuple-returns-in_err-push
tuple-returns-in_err-push t c =
    memory_wanted c.args.checker.now _ false c.args.expected _ _ c.from_residual-in_err-push.ensures.1

pub tuple-loop-e-preserved : goal.tuple-loop-e-preserved
tuple-loop-e-preserved t c =
    let at = exprs_at c.args.es.now c.loop-e.e-index c.e-item.result c.loop-e-test.true c.e-item.is in
    let so = subst (λ (rest : Trees). AllSo c.args.checker.now c.loop-e.checker None None (list_trees c.args.es.now) rest c.loop-e.parts) at c.loop-e.invariant.so in
    let types = subst (λ (rest : Trees). TypesSo c.args.checker.now c.loop-e.checker c.loop-e.types.items (list_trees c.args.es.now) rest) at c.loop-e.invariant.types in
    record {
      so = all_more c.args.checker.now c.loop-e.checker c.expr.new.checker None None None Value (list_trees c.args.es.now) (list_trees (drop (c.loop-e.e-index + 1) c.args.es.now)) (tree_of c.e-item.result) c.loop-e.parts c.beside-parts.result c.in_ok-part.part so (next_value c.loop-e.checker.table) c.in_ok-part.ensures c.beside-parts.ensures;
      types = types_more c.args.checker.now c.loop-e.checker c.expr.new.checker c.loop-e.types.items c.push.new.self.items c.unwrap_or.result (list_trees c.args.es.now) (list_trees (drop (c.loop-e.e-index + 1) c.args.es.now)) (tree_of c.e-item.result) c.in_ok-part.part types c.loop-e.invariant.so.keeps c.in_ok-part.ensures c.unwrap_or.ensures c.in_ok-push.ensures.items;
    }

pub tuple-returns-in_err-list : goal.tuple-returns-in_err-list
tuple-returns-in_err-list t c =
    memory_wanted c.args.checker.now _ false c.args.expected _ _ c.from_residual-in_err-list.ensures.1

pub tuple-returns-in_err-t : goal.tuple-returns-in_err-t
tuple-returns-in_err-t t c =
    memory_wanted c.args.checker.now _ false c.args.expected _ _ c.from_residual-in_err-t.ensures.1

pub tuple-returns : goal.tuple-returns
tuple-returns t c =
    let past : length c.args.es.now ≤ c.loop-e.e-index = omega arith in
    let at = exprs_end c.args.es.now c.loop-e.e-index past in
    let so = subst (λ (rest : Trees). AllSo c.args.checker.now c.loop-e.checker None None (list_trees c.args.es.now) rest c.loop-e.parts) at c.loop-e.invariant.so in
    let types = subst (λ (rest : Trees). TypesSo c.args.checker.now c.loop-e.checker c.loop-e.types.items (list_trees c.args.es.now) rest) at c.loop-e.invariant.types in
    let grows = Extends-trans c.loop-e.checker.table c.parts_of.new.self c.tuple.new.self c.in_ok-list.ensures.grows c.in_ok-t.ensures.grows in
    tuple_checks c.args.checker.now c.loop-e.checker (record c.loop-e.checker { table = c.tuple.new.self }) c.args.expected c.args.span (list_trees c.args.es.now) c.loop-e.types.items c.in_ok-list.list c.in_ok-t.t c.loop-e.parts c.plain.result so types (Keeps-table c.loop-e.checker c.tuple.new.self grows) refl
    (λ ts h. c.in_ok-t.ensures.made ts (c.in_ok-list.ensures.made ts (subst (λ (l : List ℕ). AreTypes c.loop-e.checker.table l ts) (sym c.deref.ensures.value) h)))
    c.plain.ensures.judged c.plain.ensures.same c.plain.ensures.counted

pub fields-loop-e-init : goal.fields-loop-e-init
fields-loop-e-init t c =
    record { so = all_start c.args.checker.now None (unnamed (list_named_trees c.args.es.now)); types = subst (λ (l : List (Bor (List ℕ) × ℕ)). FieldsSo c.args.checker.now c.args.checker.now (named l) (list_named_trees c.args.es.now) (list_named_trees c.args.es.now)) (sym c.new-types.ensures.items) (fields_begin c.args.checker.now (list_named_trees c.args.es.now)) }

pub fields-returns-in_err-part : goal.fields-returns-in_err-part
fields-returns-in_err-part t c =
    let at = named_at c.args.es.now c.loop-e.e-index c.e-item.result c.loop-e-test.true c.e-item.is in
    let so = subst (λ (rest : NamedTrees). AllSo c.args.checker.now c.loop-e.checker None None (unnamed (list_named_trees c.args.es.now)) (unnamed rest) c.loop-e.parts) at c.loop-e.invariant.so in
    at_err c.args.checker.now _ false c.args.expected _ _ _ c.from_residual.ensures.1 (fields_failed c.args.checker.now c.loop-e.checker _ c.args.expected c.args.span (list_named_trees c.args.es.now) (unnamed (list_named_trees (drop (c.loop-e.e-index + 1) c.args.es.now))) (tree_of c.e-item.result.1) c.loop-e.parts _ so c.in_err-part.ensures _)

pub fields-returns-in_err-push : goal.fields-returns-in_err-push
fields-returns-in_err-push t c =
    memory_wanted c.args.checker.now _ false c.args.expected _ _ c.from_residual-in_err-push.ensures.1

pub fields-loop-e-preserved : goal.fields-loop-e-preserved
fields-loop-e-preserved t c =
    let at = named_at c.args.es.now c.loop-e.e-index c.e-item.result c.loop-e-test.true c.e-item.is in
    let so = subst (λ (rest : NamedTrees). AllSo c.args.checker.now c.loop-e.checker None None (unnamed (list_named_trees c.args.es.now)) (unnamed rest) c.loop-e.parts) at c.loop-e.invariant.so in
    let types = subst (λ (rest : NamedTrees). FieldsSo c.args.checker.now c.loop-e.checker (named c.loop-e.types.items) (list_named_trees c.args.es.now) rest) at c.loop-e.invariant.types in
    record {
      so = all_more c.args.checker.now c.loop-e.checker c.expr.new.checker None None None Value (unnamed (list_named_trees c.args.es.now)) (unnamed (list_named_trees (drop (c.loop-e.e-index + 1) c.args.es.now))) (tree_of c.e-item.result.1) c.loop-e.parts c.beside-parts.result c.in_ok-part.part so (next_value c.loop-e.checker.table) c.in_ok-part.ensures c.beside-parts.ensures;
      types = fields_more c.args.checker.now c.loop-e.checker c.expr.new.checker (named c.loop-e.types.items) (named c.push.new.self.items) c.e-item.result.0 c.unwrap_or.result (list_named_trees c.args.es.now) (list_named_trees (drop (c.loop-e.e-index + 1) c.args.es.now)) (tree_of c.e-item.result.1) c.in_ok-part.part types c.loop-e.invariant.so.keeps c.in_ok-part.ensures c.unwrap_or.ensures (ap named c.in_ok-push.ensures.items ∙ named-append c.loop-e.types.items (_ ∷ []));
    }

pub fields-returns : goal.fields-returns
fields-returns t c =
    let past : length c.args.es.now ≤ c.loop-e.e-index = omega arith in
    let at = named_end c.args.es.now c.loop-e.e-index past in
    let so = subst (λ (rest : NamedTrees). AllSo c.args.checker.now c.loop-e.checker None None (unnamed (list_named_trees c.args.es.now)) (unnamed rest) c.loop-e.parts) at c.loop-e.invariant.so in
    let types = subst (λ (l : List (Bor (List ℕ) × ℕ)). FieldsSo c.args.checker.now c.loop-e.checker (named l) (list_named_trees c.args.es.now) no_named_trees) (sym c.deref.ensures.value) (subst (λ (rest : NamedTrees). FieldsSo c.args.checker.now c.loop-e.checker (named c.loop-e.types.items) (list_named_trees c.args.es.now) rest) at c.loop-e.invariant.types) in
    fields_checks c.args.checker.now c.loop-e.checker c.made_record.new.self c.args.expected c.args.span (list_named_trees c.args.es.now) (named c.deref.result.now) c.loop-e.parts c.made_record.result so types
    c.made_record.ensures.judged c.made_record.ensures.typed c.made_record.ensures.counted c.made_record.ensures.keeps c.made_record.ensures.writes

pub dot-returns-in_err-part : goal.dot-returns-in_err-part
dot-returns-in_err-part t c =
    at_err c.args.checker.now _ false c.args.expected _ _ _ c.from_residual.ensures.1 (dot_failed c.args.checker.now _ c.args.expected c.args.span (tree_of c.args.inner.now) c.args.name.now _ c.in_err-part.ensures _)

pub dot-returns-in-Some : goal.dot-returns-in-Some
dot-returns-in-Some t c =
    dot_checks c.args.checker.now c.expr.new.checker c.args.expected c.args.span (tree_of c.args.inner.now) c.args.name.now c.in_ok-part.part c.in-Some.t c.plain.result c.in_ok-part.ensures c.in-Some.ensures c.plain.ensures.judged c.plain.ensures.same c.plain.ensures.counted

pub dot-returns-in-None : goal.dot-returns-in-None
dot-returns-in-None t c =
    dot_unknown c.args.checker.now c.expr.new.checker c.expr.new.checker c.args.expected c.args.span (tree_of c.args.inner.now) c.args.name.now c.in_ok-part.part c.in_ok-part.ensures c.in-None.ensures

pub binary-returns-in_err-left : goal.binary-returns-in_err-left
binary-returns-in_err-left t c =
    at_err c.args.checker.now _ false c.args.expected _ _ _ c.from_residual.ensures.1 (left_failed c.args.checker.now _ c.args.expected c.args.span c.args.op (tree_of c.args.a.now) (tree_of c.args.b.now) c.operand_type.result _ c.operand_type.ensures c.in_err-left.ensures _)

pub binary-returns-in_err-right : goal.binary-returns-in_err-right
binary-returns-in_err-right t c =
    at_err c.args.checker.now _ false c.args.expected _ _ _ c.from_residual-in_err-right.ensures.1 (right_failed c.args.checker.now c.expr.new.checker _ c.args.expected c.args.span c.args.op (tree_of c.args.a.now) (tree_of c.args.b.now) c.operand_type.result c.in_ok-left.left _ c.operand_type.ensures c.in_ok-left.ensures c.in_err-right.ensures _)

pub binary-returns : goal.binary-returns
binary-returns t c =
    binary_checks c.args.checker.now c.expr.new.checker c.expr-2.new.checker c.args.expected c.args.span c.args.op (tree_of c.args.a.now) (tree_of c.args.b.now) c.operand_type.result c.result_type.result c.in_ok-left.left c.in_ok-right.right c.beside-parts.result c.plain.result c.operand_type.ensures c.result_type.ensures c.in_ok-left.ensures c.in_ok-right.ensures c.beside-parts.ensures c.plain.ensures.judged c.plain.ensures.same c.plain.ensures.counted

pub shift-returns-in_err-part : goal.shift-returns-in_err-part
shift-returns-in_err-part t c =
    at_err c.args.checker.now _ false c.args.expected _ _ _ c.from_residual.ensures.1 (shift_failed c.args.checker.now _ c.args.expected c.args.span c.args._op (tree_of c.args.inner.now) c.args.n _ c.in_err-part.ensures _)

pub shift-returns-in_err-judge : goal.shift-returns-in_err-judge
shift-returns-in_err-judge t c =
    let stands = shift_stands c.args.checker.now c.expr.new.checker c.args.span c.args._op (tree_of c.args.inner.now) c.args.n c.in_ok-part.part c.kind_where-count.result c.in_ok-part.ensures (sym c.kind_where-count.ensures) in
    at_err c.args.checker.now _ false c.args.expected _ _ _ c.from_residual-in_err-judge.ensures.1 (node_failed {T = Unit {0}} c.args.checker.now c.expr.new.checker false c.args.expected (ShiftTree c.args.span c.args._op (tree_of c.args.inner.now) c.args.n) (Some 0) c.in_ok-part.part.cost None c.kind_where-count.result (Err c.in_err-judge.field-0.0) _ refl stands c.in_err-judge.ensures)

pub shift-returns : goal.shift-returns
shift-returns t c =
    let stands = shift_stands c.args.checker.now c.expr.new.checker c.args.span c.args._op (tree_of c.args.inner.now) c.args.n c.in_ok-part.part c.kind_where-count.result c.in_ok-part.ensures (sym c.kind_where-count.ensures) in
    node_checks c.args.checker.now c.expr.new.checker false c.args.expected (ShiftTree c.args.span c.args._op (tree_of c.args.inner.now) c.args.n) (Some 0) c.in_ok-part.part.cost None c.kind_where-count.result (Ok c.found.result) stands c.in_ok-judge.ensures c.found.ensures.same c.found.ensures.counted

pub arguments-loop-e-init : goal.arguments-loop-e-init
arguments-loop-e-init t c =
    all_start c.args.checker.now c.args.types (list_trees c.args.es.now)

pub arguments-returns-in_err-part : goal.arguments-returns-in_err-part
arguments-returns-in_err-part t c =
    let at = exprs_at c.args.es.now c.loop-e.e-index c.e-item.result c.loop-e-test.true c.e-item.is in
    let so = subst (λ (rest : Trees). AllSo c.args.checker.now c.loop-e.checker c.args.types c.loop-e.left (list_trees c.args.es.now) rest c.loop-e.parts) at c.loop-e.invariant in
    all_answered c.args.checker.now _ c.args.types _ _ _ c.from_residual.ensures.1 (all_failed c.args.checker.now c.loop-e.checker _ _ c.args.types c.loop-e.left c.next_expected-next.result.1 c.next_expected-next.result.0 (list_trees c.args.es.now) (list_trees (drop (c.loop-e.e-index + 1) c.args.es.now)) (tree_of c.e-item.result) c.loop-e.parts _ so c.next_expected-next.ensures c.in_err-part.ensures)

pub arguments-loop-e-preserved : goal.arguments-loop-e-preserved
arguments-loop-e-preserved t c =
    let at = exprs_at c.args.es.now c.loop-e.e-index c.e-item.result c.loop-e-test.true c.e-item.is in
    let so = subst (λ (rest : Trees). AllSo c.args.checker.now c.loop-e.checker c.args.types c.loop-e.left (list_trees c.args.es.now) rest c.loop-e.parts) at c.loop-e.invariant in
    all_more c.args.checker.now c.loop-e.checker c.expr.new.checker c.args.types c.loop-e.left c.next_expected-next.result.1 c.next_expected-next.result.0 (list_trees c.args.es.now) (list_trees (drop (c.loop-e.e-index + 1) c.args.es.now)) (tree_of c.e-item.result) c.loop-e.parts c.beside-parts.result c.in_ok-part.part so c.next_expected-next.ensures c.in_ok-part.ensures c.beside-parts.ensures

pub arguments-returns : goal.arguments-returns
arguments-returns t c =
    let past : length c.args.es.now ≤ c.loop-e.e-index = omega arith in
    let at = exprs_end c.args.es.now c.loop-e.e-index past in
    all_end c.args.checker.now c.loop-e.checker c.args.types c.loop-e.left (list_trees c.args.es.now) c.loop-e.parts (subst (λ (rest : Trees). AllSo c.args.checker.now c.loop-e.checker c.args.types c.loop-e.left (list_trees c.args.es.now) rest c.loop-e.parts) at c.loop-e.invariant)

pub call-returns-in_err-arguments : goal.call-returns-in_err-arguments
call-returns-in_err-arguments t c =
    at_err c.args.checker.now _ c.args.tail c.args.expected _ _ _ c.from_residual.ensures.1 (call_other c.args.checker.now _ c.args.tail c.args.expected c.args.span c.args.name.now (list_trees c.args.es.now) _ (sym c.in_default.ensures) c.in_err-arguments.ensures _)

pub call-returns-in_default : goal.call-returns-in_default
call-returns-in_default t c =
    call_unknown c.args.checker.now _ c.args.tail c.args.expected c.args.span c.args.name.now (list_trees c.args.es.now) c.in_ok-arguments.field-0 (sym c.in_default.ensures) c.in_ok-arguments.ensures _

pub call-returns-in_err-parts : goal.call-returns-in_err-parts
call-returns-in_err-parts t c =
    at_err c.args.checker.now _ c.args.tail c.args.expected _ _ _ c.from_residual-in_err-parts.ensures.1 (call_failed c.args.checker.now _ c.args.tail c.args.expected c.args.span c.args.name.now c.args.es.now c.in-Some.f c.if_as_many-types.result _ (sym c.in-Some.ensures) c.if_as_many-types.ensures c.in_err-parts.ensures _)

pub call-returns-in_err-fault_where : goal.call-returns-in_err-fault_where
call-returns-in_err-fault_where t c =
    at_err c.args.checker.now _ c.args.tail c.args.expected _ _ _ c.from_residual-in_err-fault_where.ensures.1 (call_outside c.args.checker.now c.arguments-2.new.checker c.args.tail c.args.expected c.args.span c.args.name.now c.args.es.now c.in-Some.f c.if_as_many-types.result c.get-behind.result c.in_ok-parts.parts _ (sym c.in-Some.ensures) c.if_as_many-types.ensures c.in_ok-parts.ensures c.get-behind.ensures
    (subst (λ (b : Bool). IsFirstOf (at_span c.args.span (where_true {A = ℕ} b 12)) c.in_err-fault_where.field-0.0) c.is_outside.ensures c.in_err-fault_where.ensures) _)

pub call-returns-in_err-fault_where-2 : goal.call-returns-in_err-fault_where-2
call-returns-in_err-fault_where-2 t c =
    at_err c.args.checker.now _ c.args.tail c.args.expected _ _ _ c.from_residual-in_err-fault_where-2.ensures.1 (call_number c.args.checker.now c.arguments-2.new.checker c.args.tail c.args.expected c.args.span c.args.name.now c.args.es.now c.in-Some.f c.if_as_many-types.result c.get-behind.result c.in_ok-parts.parts _ (sym c.in-Some.ensures) c.if_as_many-types.ensures c.in_ok-parts.ensures c.get-behind.ensures (ap (λ (b : Bool). at_span c.args.span (where_true {A = ℕ} b 12)) (sym c.is_outside.ensures) ∙ c.in_ok-fault_where.ensures)
    (subst (λ (b : Bool). IsFirstOf (at_span c.args.span (where_true {A = ℕ} b 13)) c.in_err-fault_where-2.field-0.0) (none_test c.if_as_many-types.result _ c.is_none.ensures) c.in_err-fault_where-2.ensures) _)

pub call-returns : goal.call-returns
call-returns t c =
    call_checks c.args.checker.now c.arguments-2.new.checker c.args.tail c.args.expected c.args.span c.args.name.now c.args.es.now c.in-Some.f c.if_as_many-types.result c.get-behind.result c.in_ok-parts.parts c.beside.result c.plain.result (sym c.in-Some.ensures) c.if_as_many-types.ensures c.in_ok-parts.ensures c.get-behind.ensures (ap (λ (b : Bool). at_span c.args.span (where_true {A = ℕ} b 12)) (sym c.is_outside.ensures) ∙ c.in_ok-fault_where.ensures) (ap (λ (b : Bool). at_span c.args.span (where_true {A = ℕ} b 13)) (sym (none_test c.if_as_many-types.result _ c.is_none.ensures)) ∙ c.in_ok-fault_where-2.ensures)
    (c.beside.ensures ∙ ap (λ (x : Cost). two_costs c.in_ok-parts.parts x) c.called_cost-called.ensures) c.plain.ensures.judged c.plain.ensures.same c.plain.ensures.counted

pub unpack-returns-in_err-expr : goal.unpack-returns-in_err-expr
unpack-returns-in_err-expr t c =
    at_err c.args.checker.now _ false c.args.expected _ _ _ c.from_residual.ensures.1 (unpack_other c.args.checker.now _ c.args.expected c.args.span c.args.layout.now (tree_of c.args.inner.now) _ (sym c.in_default.ensures) c.in_err-expr.ensures _)

pub unpack-returns-in_default : goal.unpack-returns-in_default
unpack-returns-in_default t c =
    unpack_unknown c.args.checker.now _ c.args.expected c.args.span c.args.layout.now (tree_of c.args.inner.now) c.in_ok-expr.field-0 (sym c.in_default.ensures) c.in_ok-expr.ensures _

pub unpack-returns-in_err-packed : goal.unpack-returns-in_err-packed
unpack-returns-in_err-packed t c =
    memory_wanted c.args.checker.now _ false c.args.expected _ _ c.from_residual-in_err-packed.ensures.1

pub unpack-returns-in_err-part : goal.unpack-returns-in_err-part
unpack-returns-in_err-part t c =
    at_err c.args.checker.now _ false c.args.expected _ _ _ c.from_residual-in_err-part.ensures.1 (unpack_failed c.args.checker.now (record c.args.checker.now { table = c.words.new.self }) _ c.args.expected c.args.span c.args.layout.now (tree_of c.args.inner.now) c.in-Some.shape c.in_ok-packed.packed c.packed_words.result _ (Keeps-table c.args.checker.now c.words.new.self c.in_ok-packed.ensures.grows) refl (sym c.in-Some.ensures) c.packed_words.ensures c.in_ok-packed.ensures.made c.in_err-part.ensures _)

pub unpack-returns-in_err-t : goal.unpack-returns-in_err-t
unpack-returns-in_err-t t c =
    memory_wanted c.args.checker.now _ false c.args.expected _ _ c.from_residual-in_err-t.ensures.1

pub unpack-returns : goal.unpack-returns
unpack-returns t c =
    unpack_checks c.args.checker.now (record c.args.checker.now { table = c.words.new.self }) c.expr-2.new.checker (record c.expr-2.new.checker { table = c.record_of.new.self }) c.args.expected c.args.span c.args.layout.now (tree_of c.args.inner.now) c.in-Some.shape c.in_ok-packed.packed c.packed_words.result c.in_ok-t.t c.in_ok-part.part c.beside.result c.plain.result
    (Keeps-table c.args.checker.now c.words.new.self c.in_ok-packed.ensures.grows) refl (sym c.in-Some.ensures) c.packed_words.ensures c.in_ok-packed.ensures.made c.in_ok-part.ensures (Keeps-table c.expr-2.new.checker c.record_of.new.self c.in_ok-t.ensures.grows) refl c.in_ok-t.ensures.made
    (c.beside.ensures ∙ ap (λ (x : Cost). two_costs c.in_ok-part.part.cost x) c.field_cost.ensures) c.plain.ensures.judged c.plain.ensures.same c.plain.ensures.counted

pub pack-returns-in_err-expr : goal.pack-returns-in_err-expr
pack-returns-in_err-expr t c =
    at_err c.args.checker.now _ false c.args.expected _ _ _ c.from_residual.ensures.1 (pack_other c.args.checker.now _ c.args.expected c.args.span c.args.layout.now (tree_of c.args.inner.now) _ (sym c.in_default.ensures) c.in_err-expr.ensures _)

pub pack-returns-in_default : goal.pack-returns-in_default
pack-returns-in_default t c =
    pack_unknown c.args.checker.now _ c.args.expected c.args.span c.args.layout.now (tree_of c.args.inner.now) c.in_ok-expr.field-0 (sym c.in_default.ensures) c.in_ok-expr.ensures _

pub pack-returns-in_err-part : goal.pack-returns-in_err-part
pack-returns-in_err-part t c =
    at_err c.args.checker.now _ false c.args.expected _ _ _ c.from_residual-in_err-part.ensures.1 (pack_failed c.args.checker.now _ c.args.expected c.args.span c.args.layout.now (tree_of c.args.inner.now) c.in-Some.shape _ (sym c.in-Some.ensures) c.in_err-part.ensures _)

pub pack-returns-in_err-t : goal.pack-returns-in_err-t
pack-returns-in_err-t t c =
    memory_wanted c.args.checker.now _ false c.args.expected _ _ c.from_residual-in_err-t.ensures.1

pub pack-returns : goal.pack-returns
pack-returns t c =
    pack_checks c.args.checker.now c.expr-2.new.checker (record c.expr-2.new.checker { table = c.words.new.self }) c.args.expected c.args.span c.args.layout.now (tree_of c.args.inner.now) c.in-Some.shape c.packed_words.result c.in_ok-t.t c.in_ok-part.part c.beside.result c.plain.result
    (sym c.in-Some.ensures) c.packed_words.ensures c.in_ok-part.ensures (Keeps-table c.expr-2.new.checker c.words.new.self c.in_ok-t.ensures.grows) refl c.in_ok-t.ensures.made
    (c.beside.ensures ∙ ap (λ (x : Cost). two_costs c.in_ok-part.part.cost x) c.field_cost.ensures) c.plain.ensures.judged c.plain.ensures.same c.plain.ensures.counted

pub raise-returns-in_err-arguments : goal.raise-returns-in_err-arguments
raise-returns-in_err-arguments t c =
    at_err c.args.checker.now _ false c.args.expected _ _ _ c.from_residual.ensures.1 (raise_other c.args.checker.now _ c.args.expected c.args.span c.args.name.now (list_trees c.args.es.now) _ (sym c.in_default.ensures) c.in_err-arguments.ensures _)

pub raise-returns-in_default : goal.raise-returns-in_default
raise-returns-in_default t c =
    raise_unknown c.args.checker.now _ c.args.expected c.args.span c.args.name.now (list_trees c.args.es.now) c.in_ok-arguments.field-0 (sym c.in_default.ensures) c.in_ok-arguments.ensures _

pub raise-returns-in_err-parts : goal.raise-returns-in_err-parts
raise-returns-in_err-parts t c =
    at_err c.args.checker.now _ false c.args.expected _ _ _ c.from_residual-in_err-parts.ensures.1 (raise_failed c.args.checker.now _ c.args.expected c.args.span c.args.name.now c.args.es.now c.in-Some.list c.if_as_many-types.result _ (sym c.in-Some.ensures) c.if_as_many-types.ensures c.in_err-parts.ensures _)

pub raise-returns-in_err-fault_where : goal.raise-returns-in_err-fault_where
raise-returns-in_err-fault_where t c =
    at_err c.args.checker.now _ false c.args.expected _ _ _ c.from_residual-in_err-fault_where.ensures.1 (raise_number c.args.checker.now c.arguments-2.new.checker c.args.expected c.args.span c.args.name.now c.args.es.now c.in-Some.list c.if_as_many-types.result c.in_ok-parts.parts _ (sym c.in-Some.ensures) c.if_as_many-types.ensures c.in_ok-parts.ensures
    (subst (λ (b : Bool). IsFirstOf (at_span c.args.span (where_true {A = ℕ} b 13)) c.in_err-fault_where.field-0.0) (none_test c.if_as_many-types.result _ c.is_none.ensures) c.in_err-fault_where.ensures) _)

pub raise-returns : goal.raise-returns
raise-returns t c =
    raise_checks c.args.checker.now c.arguments-2.new.checker c.args.expected c.args.span c.args.name.now c.args.es.now c.in-Some.list c.if_as_many-types.result c.in_ok-parts.parts c.plain.result (sym c.in-Some.ensures) c.if_as_many-types.ensures c.in_ok-parts.ensures
    (ap (λ (b : Bool). at_span c.args.span (where_true {A = ℕ} b 13)) (sym (none_test c.if_as_many-types.result _ c.is_none.ensures)) ∙ c.in_ok-fault_where.ensures) c.plain.ensures.judged c.plain.ensures.same c.plain.ensures.counted

pub choice-returns-in_err-condition : goal.choice-returns-in_err-condition
choice-returns-in_err-condition t c = at_err _ _ _ _ _ _ _ c.from_residual.ensures.1 (choice_fails_at_condition _ _ _ _ _ _ _ _ _ c.in_err-condition.ensures)

pub choice-returns-in_err-yes : goal.choice-returns-in_err-yes
choice-returns-in_err-yes t c = at_err _ _ _ _ _ _ _ c.from_residual-in_err-yes.ensures.1 (choice_fails_at_first _ _ _ _ _ _ _ _ _ _ _ c.in_ok-condition.ensures c.in_err-yes.ensures)

pub choice-returns-in_err-no : goal.choice-returns-in_err-no
choice-returns-in_err-no t c = at_err _ _ _ _ _ _ _ c.from_residual-in_err-no.ensures.1 (choice_fails_at_second _ _ _ _ _ _ _ _ _ _ _ _ _ _ c.in_ok-condition.ensures c.in_ok-yes.ensures c.same_as.ensures c.in_err-no.ensures)

pub choice-returns : goal.choice-returns
choice-returns t c =
    choice_checks _ _ _ _ _ _ _ _ _ _ _ _ _ _ _ _ _ c.in_ok-condition.ensures c.in_ok-yes.ensures c.same_as.ensures c.in_ok-no.ensures
    c.or.ensures (c.beside-parts.ensures ∙ ap (two_costs c.in_ok-condition.condition.cost) c.beside.ensures) c.plain.ensures.judged c.plain.ensures.same c.plain.ensures.counted

pub handled-returns-in_err-opened : goal.handled-returns-in_err-opened
handled-returns-in_err-opened t c = at_err _ _ _ _ _ _ _ c.from_residual.ensures.1 (c.in_err-opened.ensures.first _ _ _ _ _ c.expr-read.ensures)

pub handled-returns-in_err-caught : goal.handled-returns-in_err-caught
handled-returns-in_err-caught t c =
    let body = subst (λ (r : Result TypedExpr TypeError). Checks c.args.checker.now c.expr-read.new.checker false Anything (tree_of c.args.body.now) r) c.in_ok-opened.ensures.tried c.expr-read.ensures in
    let handler = subst (λ (h : Bor Expr). Checks c.open_handler.new.checker c.expr.new.checker c.args.tail c.in_ok-opened.opened.expected (tree_of h.now) (Err c.in_err-caught.field-0.0)) c.in_ok-opened.ensures.handler c.in_err-caught.ensures in
    at_err _ _ _ _ _ _ _ c.from_residual-in_err-caught.ensures.1 (try_fails_at_handler _ _ _ _ _ _ _ _ _ _ _ _ _ _ _ _ body c.in_ok-opened.ensures.bound c.in_ok-opened.ensures.expected handler)

pub handled-returns-in_err-leave : goal.handled-returns-in_err-leave
handled-returns-in_err-leave t c = at_err _ _ _ _ _ _ NoMemory c.from_residual-in_err-leave.ensures.1 (wants_memory _ _ _ _ _)

pub handled-returns : goal.handled-returns
handled-returns t c =
    let body = subst (λ (r : Result TypedExpr TypeError). Checks c.args.checker.now c.expr-read.new.checker false Anything (tree_of c.args.body.now) r) c.in_ok-opened.ensures.tried c.expr-read.ensures in
    let handler = subst (λ (h : Bor Expr). Checks c.open_handler.new.checker c.expr.new.checker c.args.tail c.in_ok-opened.opened.expected (tree_of h.now) (Ok c.in_ok-caught.caught)) c.in_ok-opened.ensures.handler c.in_ok-caught.ensures in
    try_checks _ _ _ _ _ _ _ _ _ _ _ _ _ _ _ _ _ c.known.result _ _ _ _ body c.in_ok-opened.ensures.bound c.in_ok-opened.ensures.expected handler
    c.mark-mark.ensures c.in_ok-leave.ensures c.known.ensures.of_parts refl c.or.ensures (c.beside-parts.ensures ∙ ap (two_costs _) c.beside.ensures)
    c.plain.ensures.judged c.plain.ensures.same c.plain.ensures.counted

pub fetch-returns-in_err-part : goal.fetch-returns-in_err-part
fetch-returns-in_err-part t c = at_err _ _ _ _ _ _ _ c.from_residual.ensures.1 (fetch_fails_at_address _ _ _ _ _ _ _ _ c.in_err-part.ensures)

pub fetch-returns-in_err-fault_where : goal.fetch-returns-in_err-fault_where
fetch-returns-in_err-fault_where t c = at_err _ _ _ _ _ _ _ c.from_residual-in_err-fault_where.ensures.1 (fetch_fails_at_type _ _ _ _ _ _ _ _ _ _ _ c.in_ok-part.ensures c.is_right_words.ensures c.in_err-fault_where.ensures)

pub fetch-returns-then-not-can_move : goal.fetch-returns-then-not-can_move
fetch-returns-then-not-can_move t c = fetch_fails_at_words _ _ _ _ _ _ _ _ _ _ _ c.in_ok-part.ensures c.is_right_words.ensures c.in_ok-fault_where.ensures c.can_move.ensures c.if-not-can_move.true

pub fetch-returns-in_err-t : goal.fetch-returns-in_err-t
fetch-returns-in_err-t t c = at_err _ _ _ _ _ _ NoMemory c.from_residual-in_err-t.ensures.1 (wants_memory _ _ _ _ _)

pub fetch-returns-in_err-judge : goal.fetch-returns-in_err-judge
fetch-returns-in_err-judge t c =
    let scratch : option_to_list c.if-is_in_reach.place ≡ wrong_scratch c.args.mem (tree_of c.args.address.now) c.args.n =
    elim c.if-is_in_reach.branch [
      | fetch-then-is_in_reach w ↦ no_middle c.args.mem c.args.n (tree_of c.args.address.now) c.is_in_reach.result c.if-is_in_reach.place c.is_in_reach.ensures w.if-is_in_reach.true w.place-is
      | fetch-else-is_in_reach w ↦ some_middle c.args.mem c.args.n (tree_of c.args.address.now) c.is_in_reach.result c.if-is_in_reach.place c.is_in_reach.ensures w.if-is_in_reach.false w.place-is
    ]
    in
    at_err _ _ _ _ _ _ _ c.from_residual-in_err-judge.ensures.1
    (fetch_fails_at_node _ c.expr.new.checker _ c.words.new.self _ _ _ _ _ _ _ _ _ _ c.in_ok-part.ensures c.in_ok-t.ensures.grows c.in_ok-t.ensures.made c.can_move.ensures c.if-not-can_move.false scratch c.in_err-judge.ensures)

pub fetch-returns : goal.fetch-returns
fetch-returns t c =
    let scratch : option_to_list c.if-is_in_reach.place ≡ wrong_scratch c.args.mem (tree_of c.args.address.now) c.args.n =
    elim c.if-is_in_reach.branch [
      | fetch-then-is_in_reach w ↦ no_middle c.args.mem c.args.n (tree_of c.args.address.now) c.is_in_reach.result c.if-is_in_reach.place c.is_in_reach.ensures w.if-is_in_reach.true w.place-is
      | fetch-else-is_in_reach w ↦ some_middle c.args.mem c.args.n (tree_of c.args.address.now) c.is_in_reach.result c.if-is_in_reach.place c.is_in_reach.ensures w.if-is_in_reach.false w.place-is
    ]
    in
    fetch_checks c.args.checker.now c.expr.new.checker c.words.new.self _ _ _ _ _ _ _ _ _ _ c.in_ok-part.ensures c.in_ok-t.ensures.grows c.in_ok-t.ensures.made c.can_move.ensures c.if-not-can_move.false scratch c.in_ok-judge.ensures
    c.found.ensures.same c.found.ensures.counted

pub binding-returns : goal.binding-returns
binding-returns t c = c.let_value.ensures c.args.checker.now (tree_of c.args.value.now) c.expr-read.ensures (c.len-before.ensures ∙ c.args.checker.now.written.ok.0 ∙ as_many_names c.args.checker.now.written.items)

pub store-returns-in_err-address : goal.store-returns-in_err-address
store-returns-in_err-address t c = statement_at_err _ _ _ _ _ c.from_residual.ensures.1 (store_fails_at_address _ _ _ _ _ _ _ _ c.in_err-address.ensures)

pub store-returns-in_err-stored : goal.store-returns-in_err-stored
store-returns-in_err-stored t c = statement_at_err _ _ _ _ _ c.from_residual-in_err-stored.ensures.1 (store_fails_at_value _ _ _ _ _ _ _ _ _ _ c.in_ok-address.ensures c.in_err-stored.ensures)

pub store-returns-in_err-fault_where : goal.store-returns-in_err-fault_where
store-returns-in_err-fault_where t c =
    statement_at_err _ _ _ _ _ c.from_residual-in_err-fault_where.ensures.1
    (store_fails_at_words _ _ _ _ _ _ _ _ _ _ _ _ _ c.in_ok-address.ensures c.in_ok-stored.ensures c.words_of-n.ensures c.can_move.ensures c.in_err-fault_where.ensures)

pub store-returns-in_err-fault_where-2 : goal.store-returns-in_err-fault_where-2
store-returns-in_err-fault_where-2 t c =
    statement_at_err _ _ _ _ _ c.from_residual-in_err-fault_where-2.ensures.1
    (store_fails_at_reach _ _ _ _ _ _ _ _ _ _ _ _ _ _ c.in_ok-address.ensures c.in_ok-stored.ensures c.words_of-n.ensures c.can_move.ensures c.in_ok-fault_where.ensures c.is_in_reach.ensures c.in_err-fault_where-2.ensures)

pub store-returns : goal.store-returns
store-returns t c =
    store_checks _ _ _ _ _ _ _ _ _ _ _ _ _ _ _ _ c.in_ok-address.ensures c.in_ok-stored.ensures c.words_of-n.ensures c.can_move.ensures c.in_ok-fault_where.ensures c.is_in_reach.ensures c.in_ok-fault_where-2.ensures
    (c.len-before.ensures ∙ c.args.checker.now.written.ok.0) (c.node-parts.ensures ∙ ap (node_cost 0) c.beside.ensures) refl refl

pub statement-returns-in-Let : goal.statement-returns-in-Let
statement-returns-in-Let t c =
    subst (λ (st : StatementTree). ChecksStatement c.args.checker.now c.binding.new.checker st c.binding.result) (sym (ap statement_tree c.in-Let.is)) c.binding.ensures

pub statement-returns-in-Store : goal.statement-returns-in-Store
statement-returns-in-Store t c =
    subst (λ (st : StatementTree). ChecksStatement c.args.checker.now c.store.new.checker st c.store.result) (sym (ap statement_tree c.in-Store.is)) c.store.ensures

pub block-loop-st-init : goal.block-loop-st-init
block-loop-st-init t c =
    subst (λ (l : List Step). Behind c.args.checker.now c.args.checker.now [] l 0) (sym c.new-steps.ensures.items) (behind_none c.args.checker.now)

pub block-loop-st-preserved : goal.block-loop-st-preserved
block-loop-st-preserved t c =
    behind_next c.args.checker.now c.loop-st.checker c.statement.new.checker c.args.sts.now c.loop-st.st-index c.st-item.result c.loop-st.steps.items c.push.new.self.items c.loop-st.size c.in_ok-step.step c.in_ok-step.cost
    c.saturating_add-size.result c.loop-st-test.true c.st-item.is c.loop-st.invariant c.in_ok-step.ensures c.in_ok-push.ensures.items c.saturating_add-size.ensures

pub block-returns-in_err-step : goal.block-returns-in_err-step
block-returns-in_err-step t c =
    let sts = c.args.sts.now in
    let i = c.loop-st.st-index in
    let st = c.st-item.result in
    at_err _ _ _ _ _ _ _ c.from_residual.ensures.1
    (block_fails_at_statement _ _ _ _ _ _ _ sts (take i sts) (drop (i + 1) sts) st _ _ _ _ c.loop-st.invariant c.in_err-step.ensures (split_item sts i st c.loop-st-test.true c.st-item.is))

pub block-returns-in_err-push : goal.block-returns-in_err-push
block-returns-in_err-push t c = at_err _ _ _ _ _ _ NoMemory c.from_residual-in_err-push.ensures.1 (wants_memory _ _ _ _ _)

pub block-returns-in_err-result : goal.block-returns-in_err-result
block-returns-in_err-result t c =
    let was = behind_all c.args.checker.now c.loop-st.checker c.args.sts.now c.loop-st.st-index c.loop-st.steps.items c.loop-st.size c.loop-st-test.false c.loop-st.invariant in
    at_err _ _ _ _ _ _ _ c.from_residual-in_err-result.ensures.1 (block_fails_at_tail _ _ _ _ _ _ _ c.args.sts.now _ _ _ _ was c.in_err-result.ensures)

pub block-returns-in_err-leave : goal.block-returns-in_err-leave
block-returns-in_err-leave t c = at_err _ _ _ _ _ _ NoMemory c.from_residual-in_err-leave.ensures.1 (wants_memory _ _ _ _ _)

pub block-returns-in_err-judge : goal.block-returns-in_err-judge
block-returns-in_err-judge t c =
    let was = behind_all c.args.checker.now c.loop-st.checker c.args.sts.now c.loop-st.st-index c.loop-st.steps.items c.loop-st.size c.loop-st-test.false c.loop-st.invariant in
    at_err _ _ _ _ _ _ _ c.from_residual-in_err-judge.ensures.1 (block_fails_at_node _ _ _ _ _ _ _ c.args.sts.now _ _ _ _ _ was c.in_ok-result.ensures c.in_err-judge.ensures)

pub block-block_need-requires : goal.block-block_need-requires
block-block_need-requires t c =
    let was = behind_all c.args.checker.now c.loop-st.checker c.args.sts.now c.loop-st.st-index c.loop-st.steps.items c.loop-st.size c.loop-st-test.false c.loop-st.invariant in
    record {
      inside = behind_inside c.args.checker.now c.loop-st.checker c.expr.new.checker c.args.sts.now c.loop-st.steps.items c.loop-st.size c.len-first.result _ was c.in_ok-result.ensures.writes (c.len-first.ensures ∙ c.args.checker.now.written.ok.0 ∙ as_many_names c.args.checker.now.written.items);
    }

pub block-returns-in_err-need : goal.block-returns-in_err-need
block-returns-in_err-need t c = at_err _ _ _ _ _ _ NoMemory c.from_residual-in_err-need.ensures.1 (wants_memory _ _ _ _ _)

pub block-returns : goal.block-returns
block-returns t c =
    let was = behind_all c.args.checker.now c.loop-st.checker c.args.sts.now c.loop-st.st-index c.loop-st.steps.items c.loop-st.size c.loop-st-test.false c.loop-st.invariant in
    let f = c.in_ok-result.result in
    let made : ℕ → ℕ → TypedExpr = λ a b. record { value = c.in_ok-result.result.value; cost = record { words = c.in_ok-result.result.cost.words; size = a; need = b } } in
    let size : c.saturating_add-3.result ≡ min (min (min (c.loop-st.size + c.in_ok-result.result.cost.size) most + c.in_ok-result.result.cost.words) most + 1) most =
    c.saturating_add-3.ensures ∙ ap (λ (n : ℕ). min (n + 1) most) (c.saturating_add-2.ensures ∙ ap (λ (n : ℕ). min (n + c.in_ok-result.result.cost.words) most) c.saturating_add.ensures)
    in
    block_checks c.args.checker.now c.loop-st.checker c.expr.new.checker _ _ _ c.args.sts.now _ c.loop-st.steps.items f _ c.leave.new.self c.mark-mark.result c.len-first.result c.len-before.result c.loop-st.size c.in_ok-need.need
    was c.in_ok-result.ensures c.mark-mark.ensures c.in_ok-leave.ensures (c.len-first.ensures ∙ c.args.checker.now.written.ok.0) (c.len-before.ensures ∙ c.loop-st.checker.written.ok.0) c.in_ok-judge.ensures
    (c.in_ok-need.ensures ∙ ap (λ (ss : List Step). block_needs (drop c.len-first.result (written_in c.expr.new.checker)) c.len-first.result [] ss c.len-before.result c.in_ok-result.result.cost.need) c.deref.ensures.value)
    (ap (λ (a : ℕ). made a c.saturating_add-4.result) size ∙ ap (made (min (min (min (c.loop-st.size + c.in_ok-result.result.cost.size) most + c.in_ok-result.result.cost.words) most + 1) most)) c.saturating_add-4.ensures)

-- ---- each call is of a lower tree
pub choice-expr-requires : goal.choice-expr-requires
choice-expr-requires t c = (omega (arith, c.decreases), tt)

pub choice-expr-requires-2 : goal.choice-expr-requires-2
choice-expr-requires-2 t c = (omega (arith, c.decreases), tt)

pub choice-expr-requires-3 : goal.choice-expr-requires-3
choice-expr-requires-3 t c = (omega (arith, c.decreases), tt)

pub handled-expr-read-requires : goal.handled-expr-read-requires
handled-expr-read-requires t c = (omega (arith, c.decreases), tt)

pub handled-expr-requires : goal.handled-expr-requires
handled-expr-requires t c = (omega (arith, c.decreases, ap (λ (h : Bor Expr). height (tree_of h.now)) c.in_ok-opened.ensures.handler), tt)

pub fetch-expr-requires : goal.fetch-expr-requires
fetch-expr-requires t c = (omega (arith, c.decreases), tt)

pub block-expr-requires : goal.block-expr-requires
block-expr-requires t c = (omega (arith, c.decreases), tt)

pub binding-expr-read-requires : goal.binding-expr-read-requires
binding-expr-read-requires t c = (omega (arith, c.decreases), tt)

pub store-expr-requires : goal.store-expr-requires
store-expr-requires t c = (omega (arith, c.decreases), tt)

pub store-expr-requires-2 : goal.store-expr-requires-2
store-expr-requires-2 t c = (omega (arith, c.decreases), tt)

pub statement-binding-requires : goal.statement-binding-requires
statement-binding-requires t c = (omega (arith, c.decreases, ap (λ (st : Stmt). statement_height (statement_tree st)) c.in-Let.is), tt)

pub statement-store-requires : goal.statement-store-requires
statement-store-requires t c = (omega (arith, c.decreases, ap (λ (st : Stmt). statement_height (statement_tree st)) c.in-Store.is), tt)

pub block-statement-requires : goal.block-statement-requires
block-statement-requires t c = (omega (arith, c.decreases, statement_within c.args.sts.now c.loop-st.st-index c.st-item.result c.loop-st-test.true c.st-item.is), tt)

pub binary-expr-requires : goal.binary-expr-requires
binary-expr-requires t c = (omega (arith, c.decreases), tt)

pub binary-expr-requires-2 : goal.binary-expr-requires-2
binary-expr-requires-2 t c = (omega (arith, c.decreases), tt)

pub call-arguments-requires : goal.call-arguments-requires
call-arguments-requires t c = (omega (arith, c.decreases), tt)

pub call-arguments-requires-2 : goal.call-arguments-requires-2
call-arguments-requires-2 t c = (omega (arith, c.decreases), tt)

pub dot-expr-requires : goal.dot-expr-requires
dot-expr-requires t c = (omega (arith, c.decreases), tt)

pub pack-expr-requires : goal.pack-expr-requires
pack-expr-requires t c = (omega (arith, c.decreases), tt)

pub pack-expr-requires-2 : goal.pack-expr-requires-2
pack-expr-requires-2 t c = (omega (arith, c.decreases), tt)

pub raise-arguments-requires : goal.raise-arguments-requires
raise-arguments-requires t c = (omega (arith, c.decreases), tt)

pub raise-arguments-requires-2 : goal.raise-arguments-requires-2
raise-arguments-requires-2 t c = (omega (arith, c.decreases), tt)

pub shift-expr-requires : goal.shift-expr-requires
shift-expr-requires t c = (omega (arith, c.decreases), tt)

pub unpack-expr-requires : goal.unpack-expr-requires
unpack-expr-requires t c = (omega (arith, c.decreases), tt)

pub unpack-expr-requires-2 : goal.unpack-expr-requires-2
unpack-expr-requires-2 t c = (omega (arith, c.decreases), tt)

pub tuple-expr-requires : goal.tuple-expr-requires
tuple-expr-requires t c = (omega (arith, c.decreases, expr_within c.args.es.now c.loop-e.e-index c.e-item.result c.loop-e-test.true c.e-item.is), tt)

pub arguments-expr-requires : goal.arguments-expr-requires
arguments-expr-requires t c = (omega (arith, c.decreases, expr_within c.args.es.now c.loop-e.e-index c.e-item.result c.loop-e-test.true c.e-item.is), tt)

pub fields-expr-requires : goal.fields-expr-requires
fields-expr-requires t c = (omega (arith, c.decreases, named_within c.args.es.now c.loop-e.e-index c.e-item.result c.loop-e-test.true c.e-item.is), tt)

pub expr-tuple-requires : goal.expr-tuple-requires
expr-tuple-requires t c = (omega (arith, c.decreases, ap height (tuple-is c.args.e.now c.in-Tuple.es c.deref-in-Tuple.result.now c.in-Tuple.is c.deref-in-Tuple.ensures.value)), tt)

pub expr-fields-requires : goal.expr-fields-requires
expr-fields-requires t c = (omega (arith, c.decreases, ap height (record-is c.args.e.now c.in-Fields.es c.deref-in-Fields.result.now c.in-Fields.is c.deref-in-Fields.ensures.value)), tt)

pub expr-dot-requires : goal.expr-dot-requires
expr-dot-requires t c = (omega (arith, c.decreases, ap height (dot-is c.args.e.now c.in-Dot.inner c.in-Dot.x c.deref-in-Dot.result.now c.in-Dot.is c.deref-in-Dot.ensures)), tt)

pub expr-binary-requires : goal.expr-binary-requires
expr-binary-requires t c = (omega (arith, c.decreases, ap height (binary-is c.args.e.now c.in-Binary.op c.in-Binary.a c.in-Binary.b c.deref-in-Binary.result.now c.deref-in-Binary-2.result.now c.in-Binary.is c.deref-in-Binary.ensures c.deref-in-Binary-2.ensures)), tt)

pub expr-shift-requires : goal.expr-shift-requires
expr-shift-requires t c = (omega (arith, c.decreases, ap height (shift-is c.args.e.now c.in-Shift.op c.in-Shift.inner c.in-Shift.n c.deref-in-Shift.result.now c.in-Shift.is c.deref-in-Shift.ensures)), tt)

pub expr-call-requires : goal.expr-call-requires
expr-call-requires t c = (omega (arith, c.decreases, ap height (call-is c.args.e.now c.in-Call.f c.in-Call.es c.deref-in-Call.result.now c.in-Call.is c.deref-in-Call.ensures.value)), tt)

pub expr-unpack-requires : goal.expr-unpack-requires
expr-unpack-requires t c = (omega (arith, c.decreases, ap height (unpack-is c.args.e.now c.in-Unpack.l c.in-Unpack.inner c.deref-in-Unpack.result.now c.in-Unpack.is c.deref-in-Unpack.ensures)), tt)

pub expr-pack-requires : goal.expr-pack-requires
expr-pack-requires t c = (omega (arith, c.decreases, ap height (pack-is c.args.e.now c.in-Pack.l c.in-Pack.inner c.deref-in-Pack.result.now c.in-Pack.is c.deref-in-Pack.ensures)), tt)

pub expr-raise-requires : goal.expr-raise-requires
expr-raise-requires t c = (omega (arith, c.decreases, ap height (raise-is c.args.e.now c.in-Raise.x c.in-Raise.es c.deref-in-Raise.result.now c.in-Raise.is c.deref-in-Raise.ensures.value)), tt)

pub expr-block-requires : goal.expr-block-requires
expr-block-requires t c = (omega (arith, c.decreases, ap height (block-is c.args.e.now c.in-Block.sts c.in-Block.last c.deref-in-Block.result.now c.deref-in-Block-2.result.now c.in-Block.is c.deref-in-Block.ensures.value c.deref-in-Block-2.ensures)), tt)
