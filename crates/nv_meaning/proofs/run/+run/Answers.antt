use Rattle.std.proofs.Common.{◌≡◌, ◌∙◌, ◌+◌, ◌-◌, ◌*◌, ◌≤◌, [], ◌∷◌, ◌++◌, refl, sym, ap, subst, drop, Ok, Err, arith, append-nil}
use Rattle.std.proofs.lemmas.Result.{err_from_is_err_and}
use Rattle.std.proofs.lemmas.List.{drop_all}
use Rattle.nv_ast.specs.declared.tree.Expr.{out-Expr}
use Rattle.nv_ast.specs.ExprView.{tree_of, list_trees, list_named_trees, list_statements, statement_tree}
use Rattle.nv_ast.specs.PatternView.{pattern_tree, list_patterns}
use Rattle.nv_ast.specs.TypeView.{list_named_types}
use Rattle.nv_ast.specs.ProgramView.{fun_tree}
use Rattle.nv_ast.specs.Tree.{NumberTree, TruthTree, VarTree, ParenTree, TupleTree, FieldsTree, BinaryTree, CallTree, RaiseTree, IfTree, TryTree, BlockTree}
use Rattle.nv_meaning_values.specs.Values.{Word, Truth, all_matched, matched, word_of, words_of}
use Rattle.nv_meaning_values.specs.Running.{Gives, exception_number, store, then_stated}
use Rattle.nv_meaning.specs.Meaning.{eval as evaluated, run_one, entered}
use Rattle.nv_meaning_values.specs.inner.TableView.{declared_in}
use Rattle.nv_meaning_values.specs.inner.View.{view, list_values, scope_of}
use Rattle.nv_meaning.specs.inner.Ran.{at, IsStep, RanScope, RanCall}
use Rattle.nv_meaning_values.specs.Callers.{IsMark, LieAbove}
use Rattle.nv_meaning_values.specs.declared.value.Value as code
use Rattle.nv_meaning.specs.declared.step.Step.TheVariants.{Done, Again}
use Rattle.nv_meaning_values.specs.declared.stop.Interruption.TheVariants.{NoMemory, Raised, Fault, Going}
use Rattle.nv_meaning.proofs.Bindings.{extends-more}
use Rattle.nv_meaning.proofs.Moments.{ran-here}
use Rattle.nv_meaning.proofs.Arms.{Front, FrontNamed, in-scope, in-scope_value, of-tree, of-step, of-stop, settled-again, front-none, front-more, front-all, front-stop, front-short, named-none, named-more, named-all, named-stop, named-short, led-none, led-more, led-all, led-stop, let-stop, let-short, let-done, store-stop, store-stop_value, store-done, tuple-stop, tuple-done, again-stop, again-done, raise-stop, raise-done, record-stop, record-done}
use Rattle.nv_meaning.proofs.Choices.{looked-up, restored, binary-stop, binary-decided, binary-stop_right, binary-done, choose-stop, choose-yes, choose-no, try-done, try-short, try-fault, try-going, try-other, try-handled, short-before, in-matched, block-stop, block-tail, store-scope, operand-stop, operand-made, entered-as}
use Rattle.nv_meaning.proofs.Jumps.{turned, jump-none, jump-more, jump-end, jump-none_left, jump-no_function, jump-short, jump-short_inside, call-behind}
use Rattle.nv_ast.proofs.TreeKinds.{number-is, truth-is, variable-is, paren-is, binary-is, if-is, try-is, tuple-is, record-is, call-is, raise-is, block-is, let-is, store-is}
use Rattle.nv_meaning.proofs.TreeKinds.{of-operand, OverOperand, over-operand}
use Rattle.nv_meaning.specs.inner.Weight.{weight, weight_all, weight_named, weight_statement, weight_statements, span}
use Rattle.nv_meaning.proofs.Falls.{word-same, falls, falls_all, falls_call, body-below, item-weight, item-weight_named, item-weight_statement}
use Rattle.nv_meaning.proofs.Kept.{fewer, extends-nothing, extends-same, extends-from, kept-given, kept-then}
use Rattle.nv_base.specs.Words.{word}
use Rattle.nv_meaning.proofs.run.+run.Goals as goal
use Rattle.nv_ast.proofs.Items.{next_item}

pub eval-returns-in-Number : goal.eval-returns-in-Number
eval-returns-in-Number t c = record {
  ran = rw (← c.set_here.ensures) (of-tree (declared_in c.args.t.now) (at c.args.left.now c.args.p.now c.set_here.new.self) (at c.args.left.now c.args.p.now c.set_here.new.self) (Ok (Done (code.Word c.in-Number.n))) (scope_of c.args.scope.now.items []) (tree_of c.args.e.now) (NumberTree (out-Expr c.args.e.now).span c.in-Number.n) (number-is c.args.e.now c.in-Number.n c.in-Number.is) (ran-here (declared_in c.args.t.now) (at c.args.left.now c.args.p.now c.set_here.new.self) (λ call now last. IsStep call (Ok (Done (code.Word c.in-Number.n))) last (Gives (Word (word c.in-Number.n)) now)) (λ call grows x same. ap (λ k. Gives (Word k) x) (word-same c.in-Number.n (omega arith)))));
  left = omega arith;
  extends = extends-nothing c.args.scope.now.items;
  same = refl;
}

pub eval-returns-in-Truth : goal.eval-returns-in-Truth
eval-returns-in-Truth t c = record {
  ran = rw (← c.set_here.ensures) (of-tree (declared_in c.args.t.now) (at c.args.left.now c.args.p.now c.set_here.new.self) (at c.args.left.now c.args.p.now c.set_here.new.self) (Ok (Done (code.Truth c.in-Truth.b))) (scope_of c.args.scope.now.items []) (tree_of c.args.e.now) (TruthTree (out-Expr c.args.e.now).span c.in-Truth.b) (truth-is c.args.e.now c.in-Truth.b c.in-Truth.is) (ran-here (declared_in c.args.t.now) (at c.args.left.now c.args.p.now c.set_here.new.self) (λ call now last. IsStep call (Ok (Done (code.Truth c.in-Truth.b))) last (Gives (Truth c.in-Truth.b) now)) (λ call grows x same. refl)));
  left = omega arith;
  extends = extends-nothing c.args.scope.now.items;
  same = refl;
}

pub eval-returns-in-Var : goal.eval-returns-in-Var
eval-returns-in-Var t c = record {
  ran = rw (← c.set_here.ensures) (of-tree (declared_in c.args.t.now) (at c.args.left.now c.args.p.now c.set_here.new.self) (at c.args.left.now c.args.p.now c.set_here.new.self) c.look_up.result (scope_of c.args.scope.now.items []) (tree_of c.args.e.now) (VarTree (out-Expr c.args.e.now).span c.in-Var.x) (variable-is c.args.e.now c.in-Var.x c.in-Var.is) (looked-up (declared_in c.args.t.now) (at c.args.left.now c.args.p.now c.set_here.new.self) c.look_up.result c.in-Var.x c.deref.result.now c.args.scope.now.items c.deref.ensures.value c.look_up.ensures));
  left = omega arith;
  extends = extends-nothing c.args.scope.now.items;
  same = kept-given c.look_up.result _ refl;
}

pub eval-returns-in-Paren : goal.eval-returns-in-Paren
eval-returns-in-Paren t c = record {
  ran = rw (← c.set_here.ensures) (of-tree (declared_in c.args.t.now) (at c.args.left.now c.args.p.now c.set_here.new.self) (at c.eval.new.left c.eval.new.p c.eval.new.log) c.eval.result (scope_of c.args.scope.now.items []) (tree_of c.args.e.now) (ParenTree (out-Expr c.args.e.now).span (tree_of c.deref-in-Paren.result.now)) (paren-is c.args.e.now c.in-Paren.a c.deref-in-Paren.result.now c.in-Paren.is c.deref-in-Paren.ensures) c.eval.ensures.ran);
  left = c.eval.ensures.left;
  extends = c.eval.ensures.extends;
  same = c.eval.ensures.same;
}

pub eval-returns-in-Tuple : goal.eval-returns-in-Tuple
eval-returns-in-Tuple t c = record {
  ran = rw (← c.set_here.ensures) (of-tree (declared_in c.args.t.now) (at c.args.left.now c.args.p.now c.set_here.new.self) (at c.tuple.new.left c.tuple.new.p c.tuple.new.log) c.tuple.result (scope_of c.args.scope.now.items []) (tree_of c.args.e.now) (TupleTree (out-Expr c.args.e.now).span (list_trees c.deref-in-Tuple.result.now)) (tuple-is c.args.e.now c.in-Tuple.es c.deref-in-Tuple.result.now c.in-Tuple.is c.deref-in-Tuple.ensures.value) c.tuple.ensures.ran);
  left = c.tuple.ensures.left;
  extends = c.tuple.ensures.extends;
  same = c.tuple.ensures.same;
}

pub eval-returns-in-Fields : goal.eval-returns-in-Fields
eval-returns-in-Fields t c = record {
  ran = rw (← c.set_here.ensures) (of-tree (declared_in c.args.t.now) (at c.args.left.now c.args.p.now c.set_here.new.self) (at c.record.new.left c.record.new.p c.record.new.log) c.record.result (scope_of c.args.scope.now.items []) (tree_of c.args.e.now) (FieldsTree (out-Expr c.args.e.now).span (list_named_trees c.deref-in-Fields.result.now)) (record-is c.args.e.now c.in-Fields.es c.deref-in-Fields.result.now c.in-Fields.is c.deref-in-Fields.ensures.value) c.record.ensures.ran);
  left = c.record.ensures.left;
  extends = c.record.ensures.extends;
  same = c.record.ensures.same;
}

pub eval-returns-in-Binary : goal.eval-returns-in-Binary
eval-returns-in-Binary t c = record {
  ran = rw (← c.set_here.ensures) (of-tree (declared_in c.args.t.now) (at c.args.left.now c.args.p.now c.set_here.new.self) (at c.binary.new.left c.binary.new.p c.binary.new.log) c.binary.result (scope_of c.args.scope.now.items []) (tree_of c.args.e.now) (BinaryTree (out-Expr c.args.e.now).span c.in-Binary.op (tree_of c.deref-in-Binary.result.now) (tree_of c.deref-in-Binary-2.result.now)) (binary-is c.args.e.now c.in-Binary.op c.in-Binary.a c.in-Binary.b c.deref-in-Binary.result.now c.deref-in-Binary-2.result.now c.in-Binary.is c.deref-in-Binary.ensures c.deref-in-Binary-2.ensures) c.binary.ensures.ran);
  left = c.binary.ensures.left;
  extends = c.binary.ensures.extends;
  same = c.binary.ensures.same;
}

pub eval-returns-in-Call : goal.eval-returns-in-Call
eval-returns-in-Call t c = record {
  ran = rw (← c.set_here.ensures) (of-tree (declared_in c.args.t.now) (at c.args.left.now c.args.p.now c.set_here.new.self) (at c.again.new.left c.again.new.p c.again.new.log) c.again.result (scope_of c.args.scope.now.items []) (tree_of c.args.e.now) (CallTree (out-Expr c.args.e.now).span c.in-Call.f (list_trees c.deref-in-Call.result.now)) (call-is c.args.e.now c.in-Call.f c.in-Call.es c.deref-in-Call.result.now c.in-Call.is c.deref-in-Call.ensures.value) c.again.ensures.ran);
  left = c.again.ensures.left;
  extends = c.again.ensures.extends;
  same = c.again.ensures.same;
}

pub eval-returns-in-Raise : goal.eval-returns-in-Raise
eval-returns-in-Raise t c = record {
  ran = rw (← c.set_here.ensures) (of-tree (declared_in c.args.t.now) (at c.args.left.now c.args.p.now c.set_here.new.self) (at c.raise.new.left c.raise.new.p c.raise.new.log) c.raise.result (scope_of c.args.scope.now.items []) (tree_of c.args.e.now) (RaiseTree (out-Expr c.args.e.now).span c.in-Raise.x (list_trees c.deref-in-Raise.result.now)) (raise-is c.args.e.now c.in-Raise.x c.in-Raise.es c.deref-in-Raise.result.now c.in-Raise.is c.deref-in-Raise.ensures.value) c.raise.ensures.ran);
  left = c.raise.ensures.left;
  extends = c.raise.ensures.extends;
  same = c.raise.ensures.same;
}

pub eval-returns-in-If : goal.eval-returns-in-If
eval-returns-in-If t c = record {
  ran = rw (← c.set_here.ensures) (of-tree (declared_in c.args.t.now) (at c.args.left.now c.args.p.now c.set_here.new.self) (at c.choose.new.left c.choose.new.p c.choose.new.log) c.choose.result (scope_of c.args.scope.now.items []) (tree_of c.args.e.now) (IfTree (out-Expr c.args.e.now).span (tree_of c.deref-in-If.result.now) (tree_of c.deref-in-If-2.result.now) (tree_of c.deref-in-If-3.result.now)) (if-is c.args.e.now c.in-If.c c.in-If.a c.in-If.b c.deref-in-If.result.now c.deref-in-If-2.result.now c.deref-in-If-3.result.now c.in-If.is c.deref-in-If.ensures c.deref-in-If-2.ensures c.deref-in-If-3.ensures) c.choose.ensures.ran);
  left = c.choose.ensures.left;
  extends = c.choose.ensures.extends;
  same = c.choose.ensures.same;
}

pub eval-returns-in-Try : goal.eval-returns-in-Try
eval-returns-in-Try t c = record {
  ran = rw (← c.set_here.ensures) (of-tree (declared_in c.args.t.now) (at c.args.left.now c.args.p.now c.set_here.new.self) (at c.try_.new.left c.try_.new.p c.try_.new.log) c.try_.result (scope_of c.args.scope.now.items []) (tree_of c.args.e.now) (TryTree (out-Expr c.args.e.now).span (tree_of c.deref-in-Try.result.now) c.in-Try.x (list_patterns c.deref-in-Try-2.result.now) (tree_of c.deref-in-Try-3.result.now)) (try-is c.args.e.now c.in-Try.a c.in-Try.x c.in-Try.ps c.in-Try.h c.deref-in-Try.result.now c.deref-in-Try-2.result.now c.deref-in-Try-3.result.now c.in-Try.is c.deref-in-Try.ensures c.deref-in-Try-2.ensures.value c.deref-in-Try-3.ensures) c.try_.ensures.ran);
  left = c.try_.ensures.left;
  extends = c.try_.ensures.extends;
  same = c.try_.ensures.same;
}

pub eval-returns-in-Block : goal.eval-returns-in-Block
eval-returns-in-Block t c = record {
  ran = rw (← c.set_here.ensures) (of-tree (declared_in c.args.t.now) (at c.args.left.now c.args.p.now c.set_here.new.self) (at c.block.new.left c.block.new.p c.block.new.log) c.block.result (scope_of c.args.scope.now.items []) (tree_of c.args.e.now) (BlockTree (out-Expr c.args.e.now).span (list_statements c.deref-in-Block.result.now) (tree_of c.deref-in-Block-2.result.now)) (block-is c.args.e.now c.in-Block.sts c.in-Block.a c.deref-in-Block.result.now c.deref-in-Block-2.result.now c.in-Block.is c.deref-in-Block.ensures.value c.deref-in-Block-2.ensures) c.block.ensures.ran);
  left = c.block.ensures.left;
  extends = c.block.ensures.extends;
  same = c.block.ensures.same;
}

pub eval-returns-in-Dot : goal.eval-returns-in-Dot
eval-returns-in-Dot t c =
    let it : OverOperand (tree_of c.args.e.now) (tree_of c.deref-in-Dot.result.now) = over-operand c.args.e.now c.in-Dot.a c.deref-in-Dot.result.now c.in-Dot.is c.deref-in-Dot.ensures in record {
      ran = rw (← c.set_here.ensures) (of-operand (declared_in c.args.t.now) (at c.args.left.now c.args.p.now c.set_here.new.self) (at c.of_operand.new.left c.of_operand.new.p c.of_operand.new.log) c.of_operand.result (scope_of c.args.scope.now.items []) (tree_of c.args.e.now) it.0 (tree_of c.deref-in-Dot.result.now) it.1 it.2 c.of_operand.ensures.ran);
      left = c.of_operand.ensures.left;
      extends = c.of_operand.ensures.extends;
      same = c.of_operand.ensures.same;
    }

pub eval-eval-requires : goal.eval-eval-requires
eval-eval-requires t c =
    (let w : weight (tree_of c.args.e.now) ≡ 1 + weight (tree_of c.deref-in-Paren.result.now) = ap weight (paren-is c.args.e.now c.in-Paren.a c.deref-in-Paren.result.now c.in-Paren.is c.deref-in-Paren.ensures) in omega (arith, w, c.decreases), tt)

pub eval-tuple-requires : goal.eval-tuple-requires
eval-tuple-requires t c =
    (let w : weight (tree_of c.args.e.now) ≡ 1 + weight_all (list_trees c.deref-in-Tuple.result.now) = ap weight (tuple-is c.args.e.now c.in-Tuple.es c.deref-in-Tuple.result.now c.in-Tuple.is c.deref-in-Tuple.ensures.value) in omega (arith, w, c.decreases), tt)

pub eval-record-requires : goal.eval-record-requires
eval-record-requires t c =
    (let w : weight (tree_of c.args.e.now) ≡ 1 + weight_named (list_named_trees c.deref-in-Fields.result.now) = ap weight (record-is c.args.e.now c.in-Fields.es c.deref-in-Fields.result.now c.in-Fields.is c.deref-in-Fields.ensures.value) in omega (arith, w, c.decreases), tt)

pub eval-binary-requires : goal.eval-binary-requires
eval-binary-requires t c =
    (let w : weight (tree_of c.args.e.now) ≡ 1 + (weight (tree_of c.deref-in-Binary.result.now) + weight (tree_of c.deref-in-Binary-2.result.now)) = ap weight (binary-is c.args.e.now c.in-Binary.op c.in-Binary.a c.in-Binary.b c.deref-in-Binary.result.now c.deref-in-Binary-2.result.now c.in-Binary.is c.deref-in-Binary.ensures c.deref-in-Binary-2.ensures) in omega (arith, w, c.decreases), tt)

pub eval-again-requires : goal.eval-again-requires
eval-again-requires t c =
    (let w : weight (tree_of c.args.e.now) ≡ 1 + weight_all (list_trees c.deref-in-Call.result.now) = ap weight (call-is c.args.e.now c.in-Call.f c.in-Call.es c.deref-in-Call.result.now c.in-Call.is c.deref-in-Call.ensures.value) in omega (arith, w, c.decreases), tt)

pub eval-raise-requires : goal.eval-raise-requires
eval-raise-requires t c =
    (let w : weight (tree_of c.args.e.now) ≡ 1 + weight_all (list_trees c.deref-in-Raise.result.now) = ap weight (raise-is c.args.e.now c.in-Raise.x c.in-Raise.es c.deref-in-Raise.result.now c.in-Raise.is c.deref-in-Raise.ensures.value) in omega (arith, w, c.decreases), tt)

pub eval-choose-requires : goal.eval-choose-requires
eval-choose-requires t c =
    (let w : weight (tree_of c.args.e.now) ≡ 1 + (weight (tree_of c.deref-in-If.result.now) + (weight (tree_of c.deref-in-If-2.result.now) + weight (tree_of c.deref-in-If-3.result.now))) = ap weight (if-is c.args.e.now c.in-If.c c.in-If.a c.in-If.b c.deref-in-If.result.now c.deref-in-If-2.result.now c.deref-in-If-3.result.now c.in-If.is c.deref-in-If.ensures c.deref-in-If-2.ensures c.deref-in-If-3.ensures) in omega (arith, w, c.decreases), tt)

pub eval-try_-requires : goal.eval-try_-requires
eval-try_-requires t c =
    (let w : weight (tree_of c.args.e.now) ≡ 1 + (weight (tree_of c.deref-in-Try.result.now) + weight (tree_of c.deref-in-Try-3.result.now)) = ap weight (try-is c.args.e.now c.in-Try.a c.in-Try.x c.in-Try.ps c.in-Try.h c.deref-in-Try.result.now c.deref-in-Try-2.result.now c.deref-in-Try-3.result.now c.in-Try.is c.deref-in-Try.ensures c.deref-in-Try-2.ensures.value c.deref-in-Try-3.ensures) in omega (arith, w, c.decreases), tt)

pub eval-block-requires : goal.eval-block-requires
eval-block-requires t c =
    (let w : weight (tree_of c.args.e.now) ≡ 1 + (weight_statements (list_statements c.deref-in-Block.result.now) + weight (tree_of c.deref-in-Block-2.result.now)) = ap weight (block-is c.args.e.now c.in-Block.sts c.in-Block.a c.deref-in-Block.result.now c.deref-in-Block-2.result.now c.in-Block.is c.deref-in-Block.ensures.value c.deref-in-Block-2.ensures) in omega (arith, w, c.decreases), tt)

pub eval-of_operand-requires : goal.eval-of_operand-requires
eval-of_operand-requires t c =
    (let it : OverOperand (tree_of c.args.e.now) (tree_of c.deref-in-Dot.result.now) = over-operand c.args.e.now c.in-Dot.a c.deref-in-Dot.result.now c.in-Dot.is c.deref-in-Dot.ensures in let w : weight (tree_of c.args.e.now) ≡ 1 + weight (tree_of c.deref-in-Dot.result.now) = ap weight it.1 ∙ it.3 in omega (arith, w, c.decreases), tt)

pub settled-returns-in_err-v : goal.settled-returns-in_err-v
settled-returns-in_err-v t c = record {
  ran = (let p = err_from_is_err_and c.from_residual.result c.from_residual.ensures.1 in rw (p.1, p.2) (c.in_err-v.ensures.ran));
  left = c.in_err-v.ensures.left;
  extends = c.in_err-v.ensures.extends;
  same = (let p = err_from_is_err_and c.from_residual.result c.from_residual.ensures.1 in rw p.1 tt);
}

pub settled-returns-in-Done : goal.settled-returns-in-Done
settled-returns-in-Done t c = record {
  ran = of-step (declared_in c.args.t.now) (at c.args.left.now c.args.p.now c.args.log.now) (at c.eval.new.left c.eval.new.p c.eval.new.log) _ (Done c.in-Done.v) (λ call now. evaluated (declared_in c.args.t.now) call (tree_of c.args.e.now) (scope_of c.args.scope.now.items []) now) c.in-Done.is c.in_ok-v.ensures.ran;
  left = c.in_ok-v.ensures.left;
  extends = c.in_ok-v.ensures.extends;
  same = c.in_ok-v.ensures.same;
}

pub settled-returns-in-Again : goal.settled-returns-in-Again
settled-returns-in-Again t c = record {
  ran = settled-again (declared_in c.args.t.now) (at c.args.left.now c.args.p.now c.args.log.now) (at c.eval.new.left c.eval.new.p c.eval.new.log) (at c.call-answer.new.left c.call-answer.new.p c.back.new.self) (λ call now. evaluated (declared_in c.args.t.now) call (tree_of c.args.e.now) (scope_of c.args.scope.now.items []) now) c.in-Again.f c.in-Again.vs c.call-answer.result (of-step (declared_in c.args.t.now) (at c.args.left.now c.args.p.now c.args.log.now) (at c.eval.new.left c.eval.new.p c.eval.new.log) _ _ (λ call now. evaluated (declared_in c.args.t.now) call (tree_of c.args.e.now) (scope_of c.args.scope.now.items []) now) c.in-Again.is c.in_ok-v.ensures.ran)
      (call-behind (declared_in c.args.t.now) (at c.eval.new.left c.eval.new.p c.eval.new.log) (at c.call-answer.new.left c.call-answer.new.p c.call-answer.new.log) c.back.new.self c.call-answer.result c.in-Again.f.now (list_values c.in-Again.vs.items) c.call-answer.ensures.ran
      (record { log = c.back.ensures.log; trail = c.back.ensures.trail })
      (λ k later knows later_knows above room there. c.back.ensures.calls k
      (subst (λ x. IsMark c.mark-before.result x.calls) (knows room) c.mark-before.ensures)
      (sym (ap (λ x. x.groups) (later_knows there) ∙ above.0))
      (subst (λ x. LieAbove k.calls x.calls) (sym (later_knows there)) (above.1, above.2))
      there));
  left = fewer c.call-answer.new.left c.eval.new.left c.args.left.now c.call-answer.ensures.left c.in_ok-v.ensures.left;
  extends = c.in_ok-v.ensures.extends;
  same = kept-given c.call-answer.result _ c.in_ok-v.ensures.same;
}

pub settled-eval-requires : goal.settled-eval-requires
settled-eval-requires t c =
    (omega (arith, c.decreases), tt)

pub settled-call-answer-requires : goal.settled-call-answer-requires
settled-call-answer-requires t c =
    (let f = falls_all c.eval.new.left c.args.left.now (span (declared_in c.args.t.now).functions) (8 * weight (tree_of c.args.e.now) + 1) c.in_ok-v.ensures.left (omega arith) in omega (arith, f, c.decreases), tt)

pub call-loop-left-init : goal.call-loop-left-init
call-loop-left-init t c =
    record { ran = jump-none (declared_in c.args.t.now) (at c.args.left.now c.args.p.now c.args.log.now) c.args.f.now (list_values c.args.vs.items); left = omega arith }

pub call-returns-then-left-eq0 : goal.call-returns-then-left-eq0
call-returns-then-left-eq0 t c = record {
  ran = jump-none_left (declared_in c.args.t.now) (at c.args.left.now c.args.p.now c.args.log.now) (at c.loop-left.left c.loop-left.p c.loop-left.log) c.args.f.now (list_values c.args.vs.items) c.loop-left.callee.now (list_values c.loop-left.args.items) c.if-left-eq0.true c.loop-left.invariant.ran;
  left = c.loop-left.invariant.left;
}

pub call-returns-in-None : goal.call-returns-in-None
call-returns-in-None t c = record {
  ran = jump-no_function (declared_in c.args.t.now) (at c.args.left.now c.args.p.now c.args.log.now) (at c.loop-left.left c.loop-left.p c.loop-left.log) c.args.f.now (list_values c.args.vs.items) c.loop-left.callee.now (list_values c.loop-left.args.items) (omega arith) c.in-None.ensures.function c.loop-left.invariant.ran;
  left = (let b : c.loop-left.left ≤ c.args.left.now = c.loop-left.invariant.left in omega arith);
}

pub call-returns-in_err-follow-in-Some : goal.call-returns-in_err-follow-in-Some
call-returns-in_err-follow-in-Some t c = record {
  ran = (let p = err_from_is_err_and c.from_residual.result c.from_residual.ensures.1 in rw (p.1, p.2) (subst (λ n. RanCall (declared_in c.args.t.now) (at c.args.left.now c.args.p.now c.args.log.now) (at (c.loop-left.left - 1) c.loop-left.p n) (Err NoMemory) c.args.f.now (list_values c.args.vs.items)) (sym c.in_err-follow-in-Some.ensures.same)
      (jump-short (declared_in c.args.t.now) (at c.args.left.now c.args.p.now c.args.log.now) (at c.loop-left.left c.loop-left.p c.loop-left.log) c.args.f.now (list_values c.args.vs.items) c.loop-left.callee.now (list_values c.loop-left.args.items) (omega arith) c.loop-left.invariant.ran)));
  left = (let b : c.loop-left.left ≤ c.args.left.now = c.loop-left.invariant.left in omega arith);
}

pub call-returns-in_err-enter-in-Some : goal.call-returns-in_err-enter-in-Some
call-returns-in_err-enter-in-Some t c = record {
  ran = (let p = err_from_is_err_and c.from_residual-in_err-enter-in-Some.result c.from_residual-in_err-enter-in-Some.ensures.1 in rw (p.1, p.2) (jump-short_inside (declared_in c.args.t.now) (at c.args.left.now c.args.p.now c.args.log.now) (at c.loop-left.left c.loop-left.p c.loop-left.log) c.args.f.now (list_values c.args.vs.items) c.loop-left.callee.now (list_values c.loop-left.args.items) c.follow.new.self (record { log = c.in_ok-follow-in-Some.ensures.log; trail = c.in_ok-follow-in-Some.ensures.trail }) (turned (declared_in c.args.t.now) c.loop-left.log c.follow.new.self c.loop-left.callee.now c.in-Some.place (record { log = c.in_ok-follow-in-Some.ensures.log; trail = c.in_ok-follow-in-Some.ensures.trail }) c.in_ok-follow-in-Some.ensures.called c.in-Some.ensures.place) (omega arith) c.loop-left.invariant.ran));
  left = (let b : c.loop-left.left ≤ c.args.left.now = c.loop-left.invariant.left in omega arith);
}

pub call-returns-in_err-v-in-Some : goal.call-returns-in_err-v-in-Some
call-returns-in_err-v-in-Some t c = record {
  ran = (let p = err_from_is_err_and c.from_residual-in_err-v-in-Some.result c.from_residual-in_err-v-in-Some.ensures.1 in rw (p.1, p.2) (jump-end (declared_in c.args.t.now) (at c.args.left.now c.args.p.now c.args.log.now) (at c.loop-left.left c.loop-left.p c.loop-left.log) c.args.f.now (list_values c.args.vs.items) c.loop-left.callee.now (list_values c.loop-left.args.items) c.follow.new.self (record { log = c.in_ok-follow-in-Some.ensures.log; trail = c.in_ok-follow-in-Some.ensures.trail }) (turned (declared_in c.args.t.now) c.loop-left.log c.follow.new.self c.loop-left.callee.now c.in-Some.place (record { log = c.in_ok-follow-in-Some.ensures.log; trail = c.in_ok-follow-in-Some.ensures.trail }) c.in_ok-follow-in-Some.ensures.called c.in-Some.ensures.place) (omega arith) c.loop-left.invariant.ran (at c.eval.new.left c.eval.new.p c.eval.new.log) (Err _) (entered-as (declared_in c.args.t.now) (at (c.loop-left.left - 1) c.loop-left.p c.follow.new.self) (at c.eval.new.left c.eval.new.p c.eval.new.log) (Err c.in_err-v-in-Some.field-0.0) c.loop-left.callee.now (list_values c.loop-left.args.items) (fun_tree c.in-Some.function.now) (scope_of c.enter.new.scope.items []) c.in-Some.ensures.function (c.in_ok-enter-in-Some.ensures ∙ ap (λ l. entered (list_named_types l) (list_values c.loop-left.args.items) (scope_of c.clear.new.self.items [])) c.deref.ensures.value ∙ ap (λ l. entered (list_named_types c.in-Some.function.now.params.items) (list_values c.loop-left.args.items) (scope_of l [])) c.clear.ensures.items) c.in_err-v-in-Some.ensures.ran)));
  left = (let a : c.eval.new.left ≤ c.loop-left.left - 1 = c.in_err-v-in-Some.ensures.left in let b : c.loop-left.left ≤ c.args.left.now = c.loop-left.invariant.left in omega arith);
}

pub call-returns-in-Done : goal.call-returns-in-Done
call-returns-in-Done t c = record {
  ran = jump-end (declared_in c.args.t.now) (at c.args.left.now c.args.p.now c.args.log.now) (at c.loop-left.left c.loop-left.p c.loop-left.log) c.args.f.now (list_values c.args.vs.items) c.loop-left.callee.now (list_values c.loop-left.args.items) c.follow.new.self (record { log = c.in_ok-follow-in-Some.ensures.log; trail = c.in_ok-follow-in-Some.ensures.trail }) (turned (declared_in c.args.t.now) c.loop-left.log c.follow.new.self c.loop-left.callee.now c.in-Some.place (record { log = c.in_ok-follow-in-Some.ensures.log; trail = c.in_ok-follow-in-Some.ensures.trail }) c.in_ok-follow-in-Some.ensures.called c.in-Some.ensures.place) (omega arith) c.loop-left.invariant.ran (at c.eval.new.left c.eval.new.p c.eval.new.log) (Ok c.in-Done.v) (entered-as (declared_in c.args.t.now) (at (c.loop-left.left - 1) c.loop-left.p c.follow.new.self) (at c.eval.new.left c.eval.new.p c.eval.new.log) (Ok (Done c.in-Done.v)) c.loop-left.callee.now (list_values c.loop-left.args.items) (fun_tree c.in-Some.function.now) (scope_of c.enter.new.scope.items []) c.in-Some.ensures.function (c.in_ok-enter-in-Some.ensures ∙ ap (λ l. entered (list_named_types l) (list_values c.loop-left.args.items) (scope_of c.clear.new.self.items [])) c.deref.ensures.value ∙ ap (λ l. entered (list_named_types c.in-Some.function.now.params.items) (list_values c.loop-left.args.items) (scope_of l [])) c.clear.ensures.items) (of-step (declared_in c.args.t.now) (at (c.loop-left.left - 1) c.loop-left.p c.follow.new.self) (at c.eval.new.left c.eval.new.p c.eval.new.log) _ (Done c.in-Done.v) (λ call now. evaluated (declared_in c.args.t.now) call (tree_of c.in-Some.function.now.body) (scope_of c.enter.new.scope.items []) now) c.in-Done.is c.in_ok-v-in-Some.ensures.ran));
  left = (let a : c.eval.new.left ≤ c.loop-left.left - 1 = c.in_ok-v-in-Some.ensures.left in let b : c.loop-left.left ≤ c.args.left.now = c.loop-left.invariant.left in omega arith);
}

pub call-loop-left-preserved : goal.call-loop-left-preserved
call-loop-left-preserved t c =
    record { ran = jump-more (declared_in c.args.t.now) (at c.args.left.now c.args.p.now c.args.log.now) (at c.loop-left.left c.loop-left.p c.loop-left.log) c.args.f.now (list_values c.args.vs.items) c.loop-left.callee.now (list_values c.loop-left.args.items) c.follow.new.self (record { log = c.in_ok-follow-in-Some.ensures.log; trail = c.in_ok-follow-in-Some.ensures.trail }) (turned (declared_in c.args.t.now) c.loop-left.log c.follow.new.self c.loop-left.callee.now c.in-Some.place (record { log = c.in_ok-follow-in-Some.ensures.log; trail = c.in_ok-follow-in-Some.ensures.trail }) c.in_ok-follow-in-Some.ensures.called c.in-Some.ensures.place) (omega arith) c.loop-left.invariant.ran (at c.eval.new.left c.eval.new.p c.eval.new.log) c.in-Again.next c.in-Again.values (entered-as (declared_in c.args.t.now) (at (c.loop-left.left - 1) c.loop-left.p c.follow.new.self) (at c.eval.new.left c.eval.new.p c.eval.new.log) (Ok (Again c.in-Again.next c.in-Again.values)) c.loop-left.callee.now (list_values c.loop-left.args.items) (fun_tree c.in-Some.function.now) (scope_of c.enter.new.scope.items []) c.in-Some.ensures.function (c.in_ok-enter-in-Some.ensures ∙ ap (λ l. entered (list_named_types l) (list_values c.loop-left.args.items) (scope_of c.clear.new.self.items [])) c.deref.ensures.value ∙ ap (λ l. entered (list_named_types c.in-Some.function.now.params.items) (list_values c.loop-left.args.items) (scope_of l [])) c.clear.ensures.items) (of-step (declared_in c.args.t.now) (at (c.loop-left.left - 1) c.loop-left.p c.follow.new.self) (at c.eval.new.left c.eval.new.p c.eval.new.log) _ (Again c.in-Again.next c.in-Again.values) (λ call now. evaluated (declared_in c.args.t.now) call (tree_of c.in-Some.function.now.body) (scope_of c.enter.new.scope.items []) now) c.in-Again.is c.in_ok-v-in-Some.ensures.ran)); left = (let a : c.eval.new.left ≤ c.loop-left.left - 1 = c.in_ok-v-in-Some.ensures.left in let b : c.loop-left.left ≤ c.args.left.now = c.loop-left.invariant.left in omega arith) }

pub call-eval-requires : goal.call-eval-requires
call-eval-requires t c =
    (let f = falls_call c.loop-left.left c.args.left.now (span (declared_in c.args.t.now).functions) (8 * weight (tree_of c.in-Some.function.now.body)) (omega arith) c.loop-left.invariant.left (body-below (declared_in c.args.t.now).functions c.loop-left.callee.now (fun_tree c.in-Some.function.now) c.in-Some.ensures.function) in omega (arith, f, c.decreases), tt)

pub each-returns-in_err-vs : goal.each-returns-in_err-vs
each-returns-in_err-vs t c = record {
  ran = (let p = err_from_is_err_and c.from_residual.result c.from_residual.ensures.1 in rw (p.1, p.2) (front-short (declared_in c.args.t.now) (scope_of c.args.scope.now.items []) c.args.es.now (at c.args.left.now c.args.p.now c.args.log.now) (at c.args.left.now c.args.p.now c.args.log.now) [] c.args.es.now (front-none (declared_in c.args.t.now) (scope_of c.args.scope.now.items []) c.args.es.now (at c.args.left.now c.args.p.now c.args.log.now))));
  left = omega arith;
  extends = extends-nothing c.args.scope.now.items;
  same = (let p = err_from_is_err_and c.from_residual.result c.from_residual.ensures.1 in rw p.1 tt);
}

pub each-returns-in_err-settled : goal.each-returns-in_err-settled
each-returns-in_err-settled t c = record {
  ran = (let p = err_from_is_err_and c.from_residual-in_err-settled.result c.from_residual-in_err-settled.ensures.1 in rw (p.1, p.2) (front-stop (declared_in c.args.t.now) (scope_of c.args.scope.now.items []) c.args.es.now (at c.args.left.now c.args.p.now c.args.log.now) (at c.loop-e.left c.loop-e.p c.loop-e.log) (at c.settled.new.left c.settled.new.p c.settled.new.log) c.loop-e.vs.items (drop c.loop-e.e-index c.args.es.now) (drop (c.loop-e.e-index + 1) c.args.es.now) c.e-item.result _ (next_item c.args.es.now c.loop-e.e-index c.e-item.result (omega arith) c.e-item.is) c.loop-e.invariant.ran (in-scope_value (declared_in c.args.t.now) (at c.loop-e.left c.loop-e.p c.loop-e.log) (at c.settled.new.left c.settled.new.p c.settled.new.log) (Err c.in_err-settled.field-0.0) (tree_of c.e-item.result) c.loop-e.scope.items c.args.scope.now.items c.loop-e.invariant.same c.in_err-settled.ensures.ran)));
  left = fewer c.settled.new.left c.loop-e.left c.args.left.now c.in_err-settled.ensures.left c.loop-e.invariant.left;
  extends = extends-from c.args.scope.now.items c.loop-e.scope.items c.settled.new.scope.items c.loop-e.invariant.same c.in_err-settled.ensures.extends;
  same = (let p = err_from_is_err_and c.from_residual-in_err-settled.result c.from_residual-in_err-settled.ensures.1 in rw p.1 tt);
}

pub each-returns-in_err-push : goal.each-returns-in_err-push
each-returns-in_err-push t c = record {
  ran = (let p = err_from_is_err_and c.from_residual-in_err-push.result c.from_residual-in_err-push.ensures.1 in rw (p.1, p.2) (front-short (declared_in c.args.t.now) (scope_of c.args.scope.now.items []) c.args.es.now (at c.args.left.now c.args.p.now c.args.log.now) (at c.settled.new.left c.settled.new.p c.settled.new.log) (c.loop-e.vs.items ++ c.in_ok-settled.field-0 ∷ []) (drop (c.loop-e.e-index + 1) c.args.es.now) (front-more (declared_in c.args.t.now) (scope_of c.args.scope.now.items []) c.args.es.now (at c.args.left.now c.args.p.now c.args.log.now) (at c.loop-e.left c.loop-e.p c.loop-e.log) (at c.settled.new.left c.settled.new.p c.settled.new.log) c.loop-e.vs.items (drop c.loop-e.e-index c.args.es.now) (drop (c.loop-e.e-index + 1) c.args.es.now) c.e-item.result c.in_ok-settled.field-0 (next_item c.args.es.now c.loop-e.e-index c.e-item.result (omega arith) c.e-item.is) c.loop-e.invariant.ran (in-scope_value (declared_in c.args.t.now) (at c.loop-e.left c.loop-e.p c.loop-e.log) (at c.settled.new.left c.settled.new.p c.settled.new.log) (Ok c.in_ok-settled.field-0) (tree_of c.e-item.result) c.loop-e.scope.items c.args.scope.now.items c.loop-e.invariant.same c.in_ok-settled.ensures.ran))));
  left = fewer c.settled.new.left c.loop-e.left c.args.left.now c.in_ok-settled.ensures.left c.loop-e.invariant.left;
  extends = extends-same c.args.scope.now.items c.settled.new.scope.items (c.in_ok-settled.ensures.same ∙ c.loop-e.invariant.same);
  same = (let p = err_from_is_err_and c.from_residual-in_err-push.result c.from_residual-in_err-push.ensures.1 in rw p.1 tt);
}

pub each-loop-e-init : goal.each-loop-e-init
each-loop-e-init t c =
    record { ran = subst (λ l. Front (declared_in c.args.t.now) (scope_of c.args.scope.now.items []) c.args.es.now (at c.args.left.now c.args.p.now c.args.log.now) (at c.args.left.now c.args.p.now c.args.log.now) l c.args.es.now) (sym c.in_ok-vs.ensures.items) (front-none (declared_in c.args.t.now) (scope_of c.args.scope.now.items []) c.args.es.now (at c.args.left.now c.args.p.now c.args.log.now)); same = refl; left = omega arith }

pub each-loop-e-preserved : goal.each-loop-e-preserved
each-loop-e-preserved t c =
    record { ran = subst (λ l. Front (declared_in c.args.t.now) (scope_of c.args.scope.now.items []) c.args.es.now (at c.args.left.now c.args.p.now c.args.log.now) (at c.settled.new.left c.settled.new.p c.settled.new.log) l (drop (c.loop-e.e-index + 1) c.args.es.now)) (sym c.in_ok-push.ensures.items) (front-more (declared_in c.args.t.now) (scope_of c.args.scope.now.items []) c.args.es.now (at c.args.left.now c.args.p.now c.args.log.now) (at c.loop-e.left c.loop-e.p c.loop-e.log) (at c.settled.new.left c.settled.new.p c.settled.new.log) c.loop-e.vs.items (drop c.loop-e.e-index c.args.es.now) (drop (c.loop-e.e-index + 1) c.args.es.now) c.e-item.result c.in_ok-settled.field-0 (next_item c.args.es.now c.loop-e.e-index c.e-item.result (omega arith) c.e-item.is) c.loop-e.invariant.ran (in-scope_value (declared_in c.args.t.now) (at c.loop-e.left c.loop-e.p c.loop-e.log) (at c.settled.new.left c.settled.new.p c.settled.new.log) (Ok c.in_ok-settled.field-0) (tree_of c.e-item.result) c.loop-e.scope.items c.args.scope.now.items c.loop-e.invariant.same c.in_ok-settled.ensures.ran)); same = c.in_ok-settled.ensures.same ∙ c.loop-e.invariant.same; left = (let a : c.settled.new.left ≤ c.loop-e.left = c.in_ok-settled.ensures.left in let b : c.loop-e.left ≤ c.args.left.now = c.loop-e.invariant.left in omega arith) }

pub each-returns : goal.each-returns
each-returns t c = record {
  ran = front-all (declared_in c.args.t.now) (scope_of c.args.scope.now.items []) c.args.es.now (at c.args.left.now c.args.p.now c.args.log.now) (at c.loop-e.left c.loop-e.p c.loop-e.log) c.loop-e.vs (drop c.loop-e.e-index c.args.es.now) (drop_all c.loop-e.e-index c.args.es.now (omega arith)) c.loop-e.invariant.ran;
  left = c.loop-e.invariant.left;
  extends = extends-same c.args.scope.now.items c.loop-e.scope.items c.loop-e.invariant.same;
  same = c.loop-e.invariant.same;
}

pub each-settled-requires : goal.each-settled-requires
each-settled-requires t c =
    (let f = falls c.loop-e.left c.args.left.now (span (declared_in c.args.t.now).functions) (8 * weight (tree_of c.e-item.result) + 1) (8 * weight_all (list_trees c.args.es.now) + 2) c.loop-e.invariant.left (let k = item-weight c.args.es.now c.loop-e.e-index c.e-item.result (omega arith) c.e-item.is in omega (arith, k)) in omega (arith, f, c.decreases), tt)

pub each_named-returns-in_err-fields : goal.each_named-returns-in_err-fields
each_named-returns-in_err-fields t c = record {
  ran = (let p = err_from_is_err_and c.from_residual.result c.from_residual.ensures.1 in rw (p.1, p.2) (named-short (declared_in c.args.t.now) (scope_of c.args.scope.now.items []) c.args.es.now (at c.args.left.now c.args.p.now c.args.log.now) (at c.args.left.now c.args.p.now c.args.log.now) [] c.args.es.now (named-none (declared_in c.args.t.now) (scope_of c.args.scope.now.items []) c.args.es.now (at c.args.left.now c.args.p.now c.args.log.now))));
  left = omega arith;
  extends = extends-nothing c.args.scope.now.items;
  same = (let p = err_from_is_err_and c.from_residual.result c.from_residual.ensures.1 in rw p.1 tt);
}

pub each_named-returns-in_err-v : goal.each_named-returns-in_err-v
each_named-returns-in_err-v t c = record {
  ran = (let p = err_from_is_err_and c.from_residual-in_err-v.result c.from_residual-in_err-v.ensures.1 in rw (p.1, p.2) (named-stop (declared_in c.args.t.now) (scope_of c.args.scope.now.items []) c.args.es.now (at c.args.left.now c.args.p.now c.args.log.now) (at c.loop-e.left c.loop-e.p c.loop-e.log) (at c.settled.new.left c.settled.new.p c.settled.new.log) c.loop-e.fields.items (drop c.loop-e.e-index c.args.es.now) (drop (c.loop-e.e-index + 1) c.args.es.now) c.e-item.result _ (next_item c.args.es.now c.loop-e.e-index c.e-item.result (omega arith) c.e-item.is) c.loop-e.invariant.ran (in-scope_value (declared_in c.args.t.now) (at c.loop-e.left c.loop-e.p c.loop-e.log) (at c.settled.new.left c.settled.new.p c.settled.new.log) (Err c.in_err-v.field-0.0) (tree_of c.e-item.result.1) c.loop-e.scope.items c.args.scope.now.items c.loop-e.invariant.same c.in_err-v.ensures.ran)));
  left = fewer c.settled.new.left c.loop-e.left c.args.left.now c.in_err-v.ensures.left c.loop-e.invariant.left;
  extends = extends-from c.args.scope.now.items c.loop-e.scope.items c.settled.new.scope.items c.loop-e.invariant.same c.in_err-v.ensures.extends;
  same = (let p = err_from_is_err_and c.from_residual-in_err-v.result c.from_residual-in_err-v.ensures.1 in rw p.1 tt);
}

pub each_named-returns-in_err-push : goal.each_named-returns-in_err-push
each_named-returns-in_err-push t c = record {
  ran = (let p = err_from_is_err_and c.from_residual-in_err-push.result c.from_residual-in_err-push.ensures.1 in rw (p.1, p.2) (named-short (declared_in c.args.t.now) (scope_of c.args.scope.now.items []) c.args.es.now (at c.args.left.now c.args.p.now c.args.log.now) (at c.settled.new.left c.settled.new.p c.settled.new.log) (c.loop-e.fields.items ++ (record { ref_ptr = (0, 0); now = c.e-item.result.0 }, c.in_ok-v.v) ∷ []) (drop (c.loop-e.e-index + 1) c.args.es.now) (named-more (declared_in c.args.t.now) (scope_of c.args.scope.now.items []) c.args.es.now (at c.args.left.now c.args.p.now c.args.log.now) (at c.loop-e.left c.loop-e.p c.loop-e.log) (at c.settled.new.left c.settled.new.p c.settled.new.log) c.loop-e.fields.items (drop c.loop-e.e-index c.args.es.now) (drop (c.loop-e.e-index + 1) c.args.es.now) c.e-item.result (record { ref_ptr = (0, 0); now = c.e-item.result.0 }, c.in_ok-v.v) refl (next_item c.args.es.now c.loop-e.e-index c.e-item.result (omega arith) c.e-item.is) c.loop-e.invariant.ran (in-scope_value (declared_in c.args.t.now) (at c.loop-e.left c.loop-e.p c.loop-e.log) (at c.settled.new.left c.settled.new.p c.settled.new.log) (Ok c.in_ok-v.v) (tree_of c.e-item.result.1) c.loop-e.scope.items c.args.scope.now.items c.loop-e.invariant.same c.in_ok-v.ensures.ran))));
  left = fewer c.settled.new.left c.loop-e.left c.args.left.now c.in_ok-v.ensures.left c.loop-e.invariant.left;
  extends = extends-same c.args.scope.now.items c.settled.new.scope.items (c.in_ok-v.ensures.same ∙ c.loop-e.invariant.same);
  same = (let p = err_from_is_err_and c.from_residual-in_err-push.result c.from_residual-in_err-push.ensures.1 in rw p.1 tt);
}

pub each_named-loop-e-init : goal.each_named-loop-e-init
each_named-loop-e-init t c =
    record { ran = subst (λ l. FrontNamed (declared_in c.args.t.now) (scope_of c.args.scope.now.items []) c.args.es.now (at c.args.left.now c.args.p.now c.args.log.now) (at c.args.left.now c.args.p.now c.args.log.now) l c.args.es.now) (sym c.in_ok-fields.ensures.items) (named-none (declared_in c.args.t.now) (scope_of c.args.scope.now.items []) c.args.es.now (at c.args.left.now c.args.p.now c.args.log.now)); same = refl; left = omega arith }

pub each_named-loop-e-preserved : goal.each_named-loop-e-preserved
each_named-loop-e-preserved t c =
    record { ran = subst (λ l. FrontNamed (declared_in c.args.t.now) (scope_of c.args.scope.now.items []) c.args.es.now (at c.args.left.now c.args.p.now c.args.log.now) (at c.settled.new.left c.settled.new.p c.settled.new.log) l (drop (c.loop-e.e-index + 1) c.args.es.now)) (sym c.in_ok-push.ensures.items) (named-more (declared_in c.args.t.now) (scope_of c.args.scope.now.items []) c.args.es.now (at c.args.left.now c.args.p.now c.args.log.now) (at c.loop-e.left c.loop-e.p c.loop-e.log) (at c.settled.new.left c.settled.new.p c.settled.new.log) c.loop-e.fields.items (drop c.loop-e.e-index c.args.es.now) (drop (c.loop-e.e-index + 1) c.args.es.now) c.e-item.result (_, c.in_ok-v.v) refl (next_item c.args.es.now c.loop-e.e-index c.e-item.result (omega arith) c.e-item.is) c.loop-e.invariant.ran (in-scope_value (declared_in c.args.t.now) (at c.loop-e.left c.loop-e.p c.loop-e.log) (at c.settled.new.left c.settled.new.p c.settled.new.log) (Ok c.in_ok-v.v) (tree_of c.e-item.result.1) c.loop-e.scope.items c.args.scope.now.items c.loop-e.invariant.same c.in_ok-v.ensures.ran)); same = c.in_ok-v.ensures.same ∙ c.loop-e.invariant.same; left = (let a : c.settled.new.left ≤ c.loop-e.left = c.in_ok-v.ensures.left in let b : c.loop-e.left ≤ c.args.left.now = c.loop-e.invariant.left in omega arith) }

pub each_named-returns : goal.each_named-returns
each_named-returns t c = record {
  ran = named-all (declared_in c.args.t.now) (scope_of c.args.scope.now.items []) c.args.es.now (at c.args.left.now c.args.p.now c.args.log.now) (at c.loop-e.left c.loop-e.p c.loop-e.log) c.loop-e.fields (drop c.loop-e.e-index c.args.es.now) (drop_all c.loop-e.e-index c.args.es.now (omega arith)) c.loop-e.invariant.ran;
  left = c.loop-e.invariant.left;
  extends = extends-same c.args.scope.now.items c.loop-e.scope.items c.loop-e.invariant.same;
  same = c.loop-e.invariant.same;
}

pub each_named-settled-requires : goal.each_named-settled-requires
each_named-settled-requires t c =
    (let f = falls c.loop-e.left c.args.left.now (span (declared_in c.args.t.now).functions) (8 * weight (tree_of c.e-item.result.1) + 1) (8 * weight_named (list_named_trees c.args.es.now) + 2) c.loop-e.invariant.left (let k = item-weight_named c.args.es.now c.loop-e.e-index c.e-item.result (omega arith) c.e-item.is in omega (arith, k)) in omega (arith, f, c.decreases), tt)

pub statements-returns-in_err-statement : goal.statements-returns-in_err-statement
statements-returns-in_err-statement t c = record {
  ran = (let p = err_from_is_err_and c.from_residual.result c.from_residual.ensures.1 in rw (p.1, p.2) (led-stop (declared_in c.args.t.now) (scope_of c.args.scope.now.items []) c.args.sts.now (at c.args.left.now c.args.p.now c.args.log.now) (at c.loop-st.left c.loop-st.p c.loop-st.log) (at c.statement.new.left c.statement.new.p c.statement.new.log) (scope_of c.loop-st.scope.items []) (scope_of c.statement.new.scope.items []) (drop c.loop-st.st-index c.args.sts.now) (drop (c.loop-st.st-index + 1) c.args.sts.now) c.st-item.result _ (next_item c.args.sts.now c.loop-st.st-index c.st-item.result (omega arith) c.st-item.is) c.loop-st.invariant.ran c.in_err-statement.ensures.ran));
  left = fewer c.statement.new.left c.loop-st.left c.args.left.now c.in_err-statement.ensures.left c.loop-st.invariant.left;
  extends = extends-more _ _ _ c.loop-st.invariant.extends c.in_err-statement.ensures.extends;
}

pub statements-loop-st-init : goal.statements-loop-st-init
statements-loop-st-init t c =
    record { ran = led-none (declared_in c.args.t.now) (scope_of c.args.scope.now.items []) c.args.sts.now (at c.args.left.now c.args.p.now c.args.log.now); extends = ([], sym (append-nil c.args.scope.now.items)); left = omega arith }

pub statements-loop-st-preserved : goal.statements-loop-st-preserved
statements-loop-st-preserved t c =
    record { ran = led-more (declared_in c.args.t.now) (scope_of c.args.scope.now.items []) c.args.sts.now (at c.args.left.now c.args.p.now c.args.log.now) (at c.loop-st.left c.loop-st.p c.loop-st.log) (at c.statement.new.left c.statement.new.p c.statement.new.log) (scope_of c.loop-st.scope.items []) (scope_of c.statement.new.scope.items []) (drop c.loop-st.st-index c.args.sts.now) (drop (c.loop-st.st-index + 1) c.args.sts.now) c.st-item.result (next_item c.args.sts.now c.loop-st.st-index c.st-item.result (omega arith) c.st-item.is) c.loop-st.invariant.ran c.in_ok-statement.ensures.ran; extends = extends-more _ _ _ c.loop-st.invariant.extends c.in_ok-statement.ensures.extends; left = (let a : c.statement.new.left ≤ c.loop-st.left = c.in_ok-statement.ensures.left in let b : c.loop-st.left ≤ c.args.left.now = c.loop-st.invariant.left in omega arith) }

pub statements-returns : goal.statements-returns
statements-returns t c = record {
  ran = led-all (declared_in c.args.t.now) (scope_of c.args.scope.now.items []) c.args.sts.now (at c.args.left.now c.args.p.now c.args.log.now) (at c.loop-st.left c.loop-st.p c.loop-st.log) (scope_of c.loop-st.scope.items []) (drop c.loop-st.st-index c.args.sts.now) (drop_all c.loop-st.st-index c.args.sts.now (omega arith)) c.loop-st.invariant.ran;
  left = c.loop-st.invariant.left;
  extends = c.loop-st.invariant.extends;
}

pub statements-statement-requires : goal.statements-statement-requires
statements-statement-requires t c =
    (let f = falls c.loop-st.left c.args.left.now (span (declared_in c.args.t.now).functions) (8 * weight_statement (statement_tree c.st-item.result)) (8 * weight_statements (list_statements c.args.sts.now) + 3) c.loop-st.invariant.left (let k = item-weight_statement c.args.sts.now c.loop-st.st-index c.st-item.result (omega arith) c.st-item.is in omega (arith, k)) in omega (arith, f, c.decreases), tt)

pub statement-returns-in_err-v-in-Let : goal.statement-returns-in_err-v-in-Let
statement-returns-in_err-v-in-Let t c = record {
  ran = (let p = err_from_is_err_and c.from_residual.result c.from_residual.ensures.1 in rw (p.1, p.2) (subst (λ st. RanScope (declared_in c.args.t.now) (at c.args.left.now c.args.p.now c.args.log.now) (at c.settled.new.left c.settled.new.p c.settled.new.log) (Err c.in_err-v-in-Let.field-0.0) (scope_of c.settled.new.scope.items []) (λ call now. run_one (declared_in c.args.t.now) call st (scope_of c.args.scope.now.items []) now)) (sym (let-is c.args.st.now c.in-Let.pattern c.in-Let.e c.in-Let.field-2 c.in-Let.is)) (let-stop (declared_in c.args.t.now) (at c.args.left.now c.args.p.now c.args.log.now) (at c.settled.new.left c.settled.new.p c.settled.new.log) (pattern_tree c.in-Let.pattern) (tree_of c.in-Let.e) (scope_of c.args.scope.now.items []) (scope_of c.settled.new.scope.items []) _ c.in_err-v-in-Let.ensures.ran)));
  left = c.in_err-v-in-Let.ensures.left;
  extends = c.in_err-v-in-Let.ensures.extends;
}

pub statement-returns-in_err-bind-in-Let : goal.statement-returns-in_err-bind-in-Let
statement-returns-in_err-bind-in-Let t c = record {
  ran = (let p = err_from_is_err_and c.from_residual-in_err-bind-in-Let.result c.from_residual-in_err-bind-in-Let.ensures.1 in rw (p.1, p.2, c.bound.ensures) (subst (λ st. RanScope (declared_in c.args.t.now) (at c.args.left.now c.args.p.now c.args.log.now) (at c.settled.new.left c.settled.new.p c.settled.new.log) (Err NoMemory) (scope_of c.bind.new.scope.items []) (λ call now. run_one (declared_in c.args.t.now) call st (scope_of c.args.scope.now.items []) now)) (sym (let-is c.args.st.now c.in-Let.pattern c.in-Let.e c.in-Let.field-2 c.in-Let.is)) (let-short (declared_in c.args.t.now) (at c.args.left.now c.args.p.now c.args.log.now) (at c.settled.new.left c.settled.new.p c.settled.new.log) (pattern_tree c.in-Let.pattern) (tree_of c.in-Let.e) (scope_of c.args.scope.now.items []) (scope_of c.bind.new.scope.items []) c.in_ok-v-in-Let.v c.in_ok-v-in-Let.ensures.ran)));
  left = c.in_ok-v-in-Let.ensures.left;
  extends = extends-from c.args.scope.now.items c.settled.new.scope.items c.bind.new.scope.items c.in_ok-v-in-Let.ensures.same c.in_err-bind-in-Let.ensures.extends;
}

pub statement-returns-in_ok-bind-in-Let : goal.statement-returns-in_ok-bind-in-Let
statement-returns-in_ok-bind-in-Let t c = record {
  ran = rw c.bound.ensures (subst (λ st. RanScope (declared_in c.args.t.now) (at c.args.left.now c.args.p.now c.args.log.now) (at c.settled.new.left c.settled.new.p c.settled.new.log) (Ok tt) (scope_of c.bind.new.scope.items []) (λ call now. run_one (declared_in c.args.t.now) call st (scope_of c.args.scope.now.items []) now)) (sym (let-is c.args.st.now c.in-Let.pattern c.in-Let.e c.in-Let.field-2 c.in-Let.is)) (let-done (declared_in c.args.t.now) (at c.args.left.now c.args.p.now c.args.log.now) (at c.settled.new.left c.settled.new.p c.settled.new.log) (pattern_tree c.in-Let.pattern) (tree_of c.in-Let.e) (scope_of c.args.scope.now.items []) (scope_of c.bind.new.scope.items []) c.in_ok-v-in-Let.v (c.in_ok-bind-in-Let.ensures.matches ∙ ap (λ l. matched (pattern_tree c.in-Let.pattern) (view c.in_ok-v-in-Let.v) (scope_of l [])) c.in_ok-v-in-Let.ensures.same) c.in_ok-v-in-Let.ensures.ran));
  left = c.in_ok-v-in-Let.ensures.left;
  extends = extends-from c.args.scope.now.items c.settled.new.scope.items c.bind.new.scope.items c.in_ok-v-in-Let.ensures.same c.in_ok-bind-in-Let.ensures.extends;
}

pub statement-returns-in-Store : goal.statement-returns-in-Store
statement-returns-in-Store t c = record {
  ran = subst (λ st. RanScope (declared_in c.args.t.now) (at c.args.left.now c.args.p.now c.args.log.now) (at c.store.new.left c.store.new.p c.store.new.log) c.store.result (scope_of c.store.new.scope.items []) (λ call now. run_one (declared_in c.args.t.now) call st (scope_of c.args.scope.now.items []) now)) (sym (store-is c.args.st.now c.in-Store.m c.in-Store.a c.in-Store.e c.in-Store.span c.in-Store.is)) (c.store.ensures.ran);
  left = c.store.ensures.left;
  extends = c.store.ensures.extends;
}

pub statement-settled-requires : goal.statement-settled-requires
statement-settled-requires t c =
    (let w : weight_statement (statement_tree c.args.st.now) ≡ 1 + weight (tree_of c.in-Let.e) = ap weight_statement (let-is c.args.st.now c.in-Let.pattern c.in-Let.e c.in-Let.field-2 c.in-Let.is) in omega (arith, w, c.decreases), tt)

pub statement-store-requires : goal.statement-store-requires
statement-store-requires t c =
    (let w : weight_statement (statement_tree c.args.st.now) ≡ 1 + (weight (tree_of c.in-Store.a) + weight (tree_of c.in-Store.e)) = ap weight_statement (store-is c.args.st.now c.in-Store.m c.in-Store.a c.in-Store.e c.in-Store.span c.in-Store.is) in omega (arith, w, c.decreases), tt)

pub store-returns-in_err-at : goal.store-returns-in_err-at
store-returns-in_err-at t c = record {
  ran = (let p = err_from_is_err_and c.from_residual.result c.from_residual.ensures.1 in rw (p.1, p.2) (store-stop (declared_in c.args.t.now) (at c.args.left.now c.args.p.now c.args.log.now) (at c.settled.new.left c.settled.new.p c.settled.new.log) c.args.span c.args.m (tree_of c.args.a.now) (tree_of c.args.e.now) (scope_of c.args.scope.now.items []) (scope_of c.settled.new.scope.items []) _ c.in_err-at.ensures.ran));
  left = c.in_err-at.ensures.left;
  extends = c.in_err-at.ensures.extends;
}

pub store-returns-in_err-v : goal.store-returns-in_err-v
store-returns-in_err-v t c = record {
  ran = (let p = err_from_is_err_and c.from_residual-in_err-v.result c.from_residual-in_err-v.ensures.1 in rw (p.1, p.2) (store-stop_value (declared_in c.args.t.now) (at c.args.left.now c.args.p.now c.args.log.now) (at c.settled.new.left c.settled.new.p c.settled.new.log) c.args.span c.args.m (tree_of c.args.a.now) (tree_of c.args.e.now) (scope_of c.args.scope.now.items []) (at c.settled-2.new.left c.settled-2.new.p c.settled-2.new.log) (scope_of c.settled-2.new.scope.items []) c.in_ok-at.at _ c.in_ok-at.ensures.ran (in-scope_value (declared_in c.args.t.now) (at c.settled.new.left c.settled.new.p c.settled.new.log) (at c.settled-2.new.left c.settled-2.new.p c.settled-2.new.log) (Err c.in_err-v.field-0.0) (tree_of c.args.e.now) _ _ c.in_ok-at.ensures.same c.in_err-v.ensures.ran)));
  left = fewer c.settled-2.new.left c.settled.new.left c.args.left.now c.in_err-v.ensures.left c.in_ok-at.ensures.left;
  extends = extends-from c.args.scope.now.items c.settled.new.scope.items c.settled-2.new.scope.items c.in_ok-at.ensures.same c.in_err-v.ensures.extends;
}

pub store-returns : goal.store-returns
store-returns t c = record {
  ran = store-scope (declared_in c.args.t.now) (at c.args.left.now c.args.p.now c.args.log.now) (at c.settled-2.new.left c.stored.new.p c.stored.new.log) c.stored.result (λ call now. then_stated (evaluated (declared_in c.args.t.now) call (tree_of c.args.a.now) (scope_of c.args.scope.now.items []) now) (λ v next. then_stated (evaluated (declared_in c.args.t.now) call (tree_of c.args.e.now) (scope_of c.args.scope.now.items []) next) (λ w last. store c.args.span (scope_of c.args.scope.now.items []) c.args.m (word_of v) (words_of w) last))) _ _ (c.in_ok-v.ensures.same ∙ c.in_ok-at.ensures.same) (store-done (declared_in c.args.t.now) (at c.args.left.now c.args.p.now c.args.log.now) (at c.settled.new.left c.settled.new.p c.settled.new.log) c.args.span c.args.m (tree_of c.args.a.now) (tree_of c.args.e.now) (scope_of c.args.scope.now.items []) (at c.settled-2.new.left c.settled-2.new.p c.settled-2.new.log) (at c.settled-2.new.left c.stored.new.p c.stored.new.log) (scope_of c.args.scope.now.items []) c.in_ok-at.at c.in_ok-v.v c.word_in.result c.stored.result c.word_in.ensures c.in_ok-at.ensures.ran (in-scope_value (declared_in c.args.t.now) (at c.settled.new.left c.settled.new.p c.settled.new.log) (at c.settled-2.new.left c.settled-2.new.p c.settled-2.new.log) (Ok c.in_ok-v.v) (tree_of c.args.e.now) _ _ c.in_ok-at.ensures.same c.in_ok-v.ensures.ran) (c.stored.ensures (declared_in c.args.t.now) c.settled-2.new.left (scope_of c.args.scope.now.items [])));
  left = fewer c.settled-2.new.left c.settled.new.left c.args.left.now c.in_ok-v.ensures.left c.in_ok-at.ensures.left;
  extends = extends-same c.args.scope.now.items c.settled-2.new.scope.items (c.in_ok-v.ensures.same ∙ c.in_ok-at.ensures.same);
}

pub store-settled-requires : goal.store-settled-requires
store-settled-requires t c =
    (omega (arith, c.decreases), tt)

pub store-settled-requires-2 : goal.store-settled-requires-2
store-settled-requires-2 t c =
    (let f = falls c.settled.new.left c.args.left.now (span (declared_in c.args.t.now).functions) (8 * weight (tree_of c.args.e.now) + 1) (8 * (weight (tree_of c.args.a.now) + weight (tree_of c.args.e.now)) + 2) c.in_ok-at.ensures.left (omega arith) in omega (arith, f, c.decreases), tt)

pub tuple-returns-in_err-vs : goal.tuple-returns-in_err-vs
tuple-returns-in_err-vs t c = record {
  ran = (let p = err_from_is_err_and c.from_residual.result c.from_residual.ensures.1 in rw (p.1, p.2) (tuple-stop (declared_in c.args.t.now) (at c.args.left.now c.args.p.now c.args.log.now) (at c.each.new.left c.each.new.p c.each.new.log) (list_trees c.args.es.now) (scope_of c.args.scope.now.items []) _ c.in_err-vs.ensures.ran));
  left = c.in_err-vs.ensures.left;
  extends = c.in_err-vs.ensures.extends;
  same = (let p = err_from_is_err_and c.from_residual.result c.from_residual.ensures.1 in rw p.1 tt);
}

pub tuple-returns : goal.tuple-returns
tuple-returns t c = record {
  ran = tuple-done (declared_in c.args.t.now) (at c.args.left.now c.args.p.now c.args.log.now) (at c.each.new.left c.each.new.p c.each.new.log) (list_trees c.args.es.now) (scope_of c.args.scope.now.items []) c.in_ok-vs.vs c.in_ok-vs.ensures.ran;
  left = c.in_ok-vs.ensures.left;
  extends = c.in_ok-vs.ensures.extends;
  same = c.in_ok-vs.ensures.same;
}

pub tuple-each-requires : goal.tuple-each-requires
tuple-each-requires t c =
    (omega (arith, c.decreases), tt)

pub record-returns-in_err-fields : goal.record-returns-in_err-fields
record-returns-in_err-fields t c = record {
  ran = (let p = err_from_is_err_and c.from_residual.result c.from_residual.ensures.1 in rw (p.1, p.2) (record-stop (declared_in c.args.t.now) (at c.args.left.now c.args.p.now c.args.log.now) (at c.each_named.new.left c.each_named.new.p c.each_named.new.log) (list_named_trees c.args.es.now) (scope_of c.args.scope.now.items []) _ c.in_err-fields.ensures.ran));
  left = c.in_err-fields.ensures.left;
  extends = c.in_err-fields.ensures.extends;
  same = (let p = err_from_is_err_and c.from_residual.result c.from_residual.ensures.1 in rw p.1 tt);
}

pub record-returns : goal.record-returns
record-returns t c = record {
  ran = record-done (declared_in c.args.t.now) (at c.args.left.now c.args.p.now c.args.log.now) (at c.each_named.new.left c.each_named.new.p c.each_named.new.log) (list_named_trees c.args.es.now) (scope_of c.args.scope.now.items []) c.in_ok-fields.fields c.in_ok-fields.ensures.ran;
  left = c.in_ok-fields.ensures.left;
  extends = c.in_ok-fields.ensures.extends;
  same = c.in_ok-fields.ensures.same;
}

pub record-each_named-requires : goal.record-each_named-requires
record-each_named-requires t c =
    (omega (arith, c.decreases), tt)

pub again-returns-in_err-vs : goal.again-returns-in_err-vs
again-returns-in_err-vs t c = record {
  ran = (let p = err_from_is_err_and c.from_residual.result c.from_residual.ensures.1 in rw (p.1, p.2) (again-stop (declared_in c.args.t.now) (at c.args.left.now c.args.p.now c.args.log.now) (at c.each.new.left c.each.new.p c.each.new.log) (list_trees c.args.es.now) (scope_of c.args.scope.now.items []) c.args.f.now _ c.in_err-vs.ensures.ran));
  left = c.in_err-vs.ensures.left;
  extends = c.in_err-vs.ensures.extends;
  same = (let p = err_from_is_err_and c.from_residual.result c.from_residual.ensures.1 in rw p.1 tt);
}

pub again-returns : goal.again-returns
again-returns t c = record {
  ran = again-done (declared_in c.args.t.now) (at c.args.left.now c.args.p.now c.args.log.now) (at c.each.new.left c.each.new.p c.each.new.log) (list_trees c.args.es.now) (scope_of c.args.scope.now.items []) c.args.f c.in_ok-vs.vs c.in_ok-vs.ensures.ran;
  left = c.in_ok-vs.ensures.left;
  extends = c.in_ok-vs.ensures.extends;
  same = c.in_ok-vs.ensures.same;
}

pub again-each-requires : goal.again-each-requires
again-each-requires t c =
    (omega (arith, c.decreases), tt)

pub raise-returns-in_err-vs : goal.raise-returns-in_err-vs
raise-returns-in_err-vs t c = record {
  ran = (let p = err_from_is_err_and c.from_residual.result c.from_residual.ensures.1 in rw (p.1, p.2) (raise-stop (declared_in c.args.t.now) (at c.args.left.now c.args.p.now c.args.log.now) (at c.each.new.left c.each.new.p c.each.new.log) (list_trees c.args.es.now) (scope_of c.args.scope.now.items []) (exception_number (declared_in c.args.t.now).exceptions c.args.x.now) _ c.in_err-vs.ensures.ran));
  left = c.in_err-vs.ensures.left;
  extends = c.in_err-vs.ensures.extends;
  same = (let p = err_from_is_err_and c.from_residual.result c.from_residual.ensures.1 in rw p.1 tt);
}

pub raise-returns : goal.raise-returns
raise-returns t c = record {
  ran = rw c.raised.ensures (raise-done (declared_in c.args.t.now) (at c.args.left.now c.args.p.now c.args.log.now) (at c.each.new.left c.each.new.p c.each.new.log) (list_trees c.args.es.now) (scope_of c.args.scope.now.items []) (exception_number (declared_in c.args.t.now).exceptions c.args.x.now) c.exception.result c.in_ok-vs.vs c.exception.ensures c.in_ok-vs.ensures.ran);
  left = c.in_ok-vs.ensures.left;
  extends = c.in_ok-vs.ensures.extends;
  same = tt;
}

pub raise-each-requires : goal.raise-each-requires
raise-each-requires t c =
    (omega (arith, c.decreases), tt)

pub binary-returns-in_err-v : goal.binary-returns-in_err-v
binary-returns-in_err-v t c = record {
  ran = (let p = err_from_is_err_and c.from_residual.result c.from_residual.ensures.1 in rw (p.1, p.2) (binary-stop (declared_in c.args.t.now) (at c.args.left.now c.args.p.now c.args.log.now) (at c.settled.new.left c.settled.new.p c.settled.new.log) c.args.op (tree_of c.args.a.now) (tree_of c.args.b.now) (scope_of c.args.scope.now.items []) _ c.in_err-v.ensures.ran));
  left = c.in_err-v.ensures.left;
  extends = c.in_err-v.ensures.extends;
  same = (let p = err_from_is_err_and c.from_residual.result c.from_residual.ensures.1 in rw p.1 tt);
}

pub binary-returns-in-Some : goal.binary-returns-in-Some
binary-returns-in-Some t c = record {
  ran = binary-decided (declared_in c.args.t.now) (at c.args.left.now c.args.p.now c.args.log.now) (at c.settled.new.left c.settled.new.p c.settled.new.log) c.args.op (tree_of c.args.a.now) (tree_of c.args.b.now) (scope_of c.args.scope.now.items []) c.in_ok-v.v c.in-Some.known (sym c.decided.ensures ∙ c.in-Some.is) c.in_ok-v.ensures.ran;
  left = c.in_ok-v.ensures.left;
  extends = c.in_ok-v.ensures.extends;
  same = c.in_ok-v.ensures.same;
}

pub binary-returns-in_err-w : goal.binary-returns-in_err-w
binary-returns-in_err-w t c = record {
  ran = (let p = err_from_is_err_and c.from_residual-in_err-w.result c.from_residual-in_err-w.ensures.1 in rw (p.1, p.2) (binary-stop_right (declared_in c.args.t.now) (at c.args.left.now c.args.p.now c.args.log.now) (at c.settled.new.left c.settled.new.p c.settled.new.log) c.args.op (tree_of c.args.a.now) (tree_of c.args.b.now) (scope_of c.args.scope.now.items []) (at c.settled-2.new.left c.settled-2.new.p c.settled-2.new.log) c.in_ok-v.v _ (sym c.decided.ensures ∙ c.in_default.is) c.in_ok-v.ensures.ran (in-scope_value (declared_in c.args.t.now) (at c.settled.new.left c.settled.new.p c.settled.new.log) (at c.settled-2.new.left c.settled-2.new.p c.settled-2.new.log) (Err c.in_err-w.field-0.0) (tree_of c.args.b.now) _ _ c.in_ok-v.ensures.same c.in_err-w.ensures.ran)));
  left = fewer c.settled-2.new.left c.settled.new.left c.args.left.now c.in_err-w.ensures.left c.in_ok-v.ensures.left;
  extends = extends-from c.args.scope.now.items c.settled.new.scope.items c.settled-2.new.scope.items c.in_ok-v.ensures.same c.in_err-w.ensures.extends;
  same = (let p = err_from_is_err_and c.from_residual-in_err-w.result c.from_residual-in_err-w.ensures.1 in rw p.1 tt);
}

pub binary-returns : goal.binary-returns
binary-returns t c = record {
  ran = binary-done (declared_in c.args.t.now) (at c.args.left.now c.args.p.now c.args.log.now) (at c.settled.new.left c.settled.new.p c.settled.new.log) c.args.op (tree_of c.args.a.now) (tree_of c.args.b.now) (scope_of c.args.scope.now.items []) (at c.settled-2.new.left c.settled-2.new.p c.settled-2.new.log) c.in_ok-v.v c.in_ok-w.w c.joined.result (sym c.decided.ensures ∙ c.in_default.is) c.joined.ensures c.in_ok-v.ensures.ran (in-scope_value (declared_in c.args.t.now) (at c.settled.new.left c.settled.new.p c.settled.new.log) (at c.settled-2.new.left c.settled-2.new.p c.settled-2.new.log) (Ok c.in_ok-w.w) (tree_of c.args.b.now) _ _ c.in_ok-v.ensures.same c.in_ok-w.ensures.ran);
  left = fewer c.settled-2.new.left c.settled.new.left c.args.left.now c.in_ok-w.ensures.left c.in_ok-v.ensures.left;
  extends = extends-same c.args.scope.now.items c.settled-2.new.scope.items (c.in_ok-w.ensures.same ∙ c.in_ok-v.ensures.same);
  same = c.in_ok-w.ensures.same ∙ c.in_ok-v.ensures.same;
}

pub binary-settled-requires : goal.binary-settled-requires
binary-settled-requires t c =
    (omega (arith, c.decreases), tt)

pub binary-settled-requires-2 : goal.binary-settled-requires-2
binary-settled-requires-2 t c =
    (let f = falls c.settled.new.left c.args.left.now (span (declared_in c.args.t.now).functions) (8 * weight (tree_of c.args.b.now) + 1) (8 * (weight (tree_of c.args.a.now) + weight (tree_of c.args.b.now)) + 2) c.in_ok-v.ensures.left (omega arith) in omega (arith, f, c.decreases), tt)

pub choose-returns-in_err-v : goal.choose-returns-in_err-v
choose-returns-in_err-v t c = record {
  ran = (let p = err_from_is_err_and c.from_residual.result c.from_residual.ensures.1 in rw (p.1, p.2) (choose-stop (declared_in c.args.t.now) (at c.args.left.now c.args.p.now c.args.log.now) (at c.settled.new.left c.settled.new.p c.settled.new.log) (tree_of c.args.c.now) (tree_of c.args.a.now) (tree_of c.args.b.now) (scope_of c.args.scope.now.items []) _ c.in_err-v.ensures.ran));
  left = c.in_err-v.ensures.left;
  extends = c.in_err-v.ensures.extends;
  same = (let p = err_from_is_err_and c.from_residual.result c.from_residual.ensures.1 in rw p.1 tt);
}

pub choose-returns-then-truth_in : goal.choose-returns-then-truth_in
choose-returns-then-truth_in t c = record {
  ran = choose-yes (declared_in c.args.t.now) (at c.args.left.now c.args.p.now c.args.log.now) (at c.settled.new.left c.settled.new.p c.settled.new.log) (tree_of c.args.c.now) (tree_of c.args.a.now) (tree_of c.args.b.now) (scope_of c.args.scope.now.items []) (at c.eval.new.left c.eval.new.p c.eval.new.log) c.in_ok-v.v c.eval.result (sym c.truth_in.ensures ∙ c.if-truth_in.true) c.in_ok-v.ensures.ran (in-scope (declared_in c.args.t.now) (at c.settled.new.left c.settled.new.p c.settled.new.log) (at c.eval.new.left c.eval.new.p c.eval.new.log) c.eval.result (tree_of c.args.a.now) _ _ c.in_ok-v.ensures.same c.eval.ensures.ran);
  left = fewer c.eval.new.left c.settled.new.left c.args.left.now c.eval.ensures.left c.in_ok-v.ensures.left;
  extends = extends-from c.args.scope.now.items c.settled.new.scope.items c.eval.new.scope.items c.in_ok-v.ensures.same c.eval.ensures.extends;
  same = kept-then c.eval.result c.args.scope.now.items c.settled.new.scope.items c.eval.new.scope.items c.in_ok-v.ensures.same c.eval.ensures.same;
}

pub choose-returns-else-truth_in : goal.choose-returns-else-truth_in
choose-returns-else-truth_in t c = record {
  ran = choose-no (declared_in c.args.t.now) (at c.args.left.now c.args.p.now c.args.log.now) (at c.settled.new.left c.settled.new.p c.settled.new.log) (tree_of c.args.c.now) (tree_of c.args.a.now) (tree_of c.args.b.now) (scope_of c.args.scope.now.items []) (at c.eval-else-truth_in.new.left c.eval-else-truth_in.new.p c.eval-else-truth_in.new.log) c.in_ok-v.v c.eval-else-truth_in.result (sym c.truth_in.ensures ∙ c.if-truth_in.false) c.in_ok-v.ensures.ran (in-scope (declared_in c.args.t.now) (at c.settled.new.left c.settled.new.p c.settled.new.log) (at c.eval-else-truth_in.new.left c.eval-else-truth_in.new.p c.eval-else-truth_in.new.log) c.eval-else-truth_in.result (tree_of c.args.b.now) _ _ c.in_ok-v.ensures.same c.eval-else-truth_in.ensures.ran);
  left = fewer c.eval-else-truth_in.new.left c.settled.new.left c.args.left.now c.eval-else-truth_in.ensures.left c.in_ok-v.ensures.left;
  extends = extends-from c.args.scope.now.items c.settled.new.scope.items c.eval-else-truth_in.new.scope.items c.in_ok-v.ensures.same c.eval-else-truth_in.ensures.extends;
  same = kept-then c.eval-else-truth_in.result c.args.scope.now.items c.settled.new.scope.items c.eval-else-truth_in.new.scope.items c.in_ok-v.ensures.same c.eval-else-truth_in.ensures.same;
}

pub choose-settled-requires : goal.choose-settled-requires
choose-settled-requires t c =
    (omega (arith, c.decreases), tt)

pub choose-eval-requires : goal.choose-eval-requires
choose-eval-requires t c =
    (let f = falls c.settled.new.left c.args.left.now (span (declared_in c.args.t.now).functions) (8 * weight (tree_of c.args.a.now)) (8 * (weight (tree_of c.args.c.now) + (weight (tree_of c.args.a.now) + weight (tree_of c.args.b.now))) + 2) c.in_ok-v.ensures.left (omega arith) in omega (arith, f, c.decreases), tt)

pub choose-eval-requires-else-truth_in : goal.choose-eval-requires-else-truth_in
choose-eval-requires-else-truth_in t c =
    (let f = falls c.settled.new.left c.args.left.now (span (declared_in c.args.t.now).functions) (8 * weight (tree_of c.args.b.now)) (8 * (weight (tree_of c.args.c.now) + (weight (tree_of c.args.a.now) + weight (tree_of c.args.b.now))) + 2) c.in_ok-v.ensures.left (omega arith) in omega (arith, f, c.decreases), tt)

pub try_-returns-in-Ok : goal.try_-returns-in-Ok
try_-returns-in-Ok t c = record {
  ran = try-done (declared_in c.args.t.now) (at c.args.left.now c.args.p.now c.args.log.now) (at c.settled.new.left c.settled.new.p c.settled.new.log) (tree_of c.args.a.now) (tree_of c.args.h.now) (exception_number (declared_in c.args.t.now).exceptions c.args.x.now) (list_patterns c.args.ps.now) (scope_of c.args.scope.now.items []) c.in-Ok.v c.in-Ok.ensures.ran;
  left = c.in-Ok.ensures.left;
  extends = c.in-Ok.ensures.extends;
  same = c.in-Ok.ensures.same;
}

pub try_-returns-in-NoMemory : goal.try_-returns-in-NoMemory
try_-returns-in-NoMemory t c = record {
  ran = try-short (declared_in c.args.t.now) (at c.args.left.now c.args.p.now c.args.log.now) (at c.settled.new.left c.settled.new.p c.settled.new.log) (tree_of c.args.a.now) (tree_of c.args.h.now) (exception_number (declared_in c.args.t.now).exceptions c.args.x.now) (list_patterns c.args.ps.now) (scope_of c.args.scope.now.items []) (of-stop (declared_in c.args.t.now) (at c.args.left.now c.args.p.now c.args.log.now) (at c.settled.new.left c.settled.new.p c.settled.new.log) _ NoMemory (λ call now. evaluated (declared_in c.args.t.now) call (tree_of c.args.a.now) (scope_of c.args.scope.now.items []) now) c.in-NoMemory.is c.in-Err.ensures.ran);
  left = c.in-Err.ensures.left;
  extends = c.in-Err.ensures.extends;
  same = tt;
}

pub try_-returns-in-Fault : goal.try_-returns-in-Fault
try_-returns-in-Fault t c = record {
  ran = try-fault (declared_in c.args.t.now) (at c.args.left.now c.args.p.now c.args.log.now) (at c.settled.new.left c.settled.new.p c.settled.new.log) (tree_of c.args.a.now) (tree_of c.args.h.now) (exception_number (declared_in c.args.t.now).exceptions c.args.x.now) (list_patterns c.args.ps.now) (scope_of c.args.scope.now.items []) c.in-Fault.m c.in-Fault.at (of-stop (declared_in c.args.t.now) (at c.args.left.now c.args.p.now c.args.log.now) (at c.settled.new.left c.settled.new.p c.settled.new.log) _ (Fault c.in-Fault.m c.in-Fault.at) (λ call now. evaluated (declared_in c.args.t.now) call (tree_of c.args.a.now) (scope_of c.args.scope.now.items []) now) c.in-Fault.is c.in-Err.ensures.ran);
  left = c.in-Err.ensures.left;
  extends = c.in-Err.ensures.extends;
  same = tt;
}

pub try_-returns-in-Going : goal.try_-returns-in-Going
try_-returns-in-Going t c = record {
  ran = try-going (declared_in c.args.t.now) (at c.args.left.now c.args.p.now c.args.log.now) (at c.settled.new.left c.settled.new.p c.settled.new.log) (tree_of c.args.a.now) (tree_of c.args.h.now) (exception_number (declared_in c.args.t.now).exceptions c.args.x.now) (list_patterns c.args.ps.now) (scope_of c.args.scope.now.items []) (of-stop (declared_in c.args.t.now) (at c.args.left.now c.args.p.now c.args.log.now) (at c.settled.new.left c.settled.new.p c.settled.new.log) _ Going (λ call now. evaluated (declared_in c.args.t.now) call (tree_of c.args.a.now) (scope_of c.args.scope.now.items []) now) c.in-Going.is c.in-Err.ensures.ran);
  left = c.in-Err.ensures.left;
  extends = c.in-Err.ensures.extends;
  same = tt;
}

pub try_-returns-else-k-exception : goal.try_-returns-else-k-exception
try_-returns-else-k-exception t c = record {
  ran = try-other (declared_in c.args.t.now) (at c.args.left.now c.args.p.now c.args.log.now) (at c.settled.new.left c.settled.new.p c.settled.new.log) (tree_of c.args.a.now) (tree_of c.args.h.now) (exception_number (declared_in c.args.t.now).exceptions c.args.x.now) (list_patterns c.args.ps.now) (scope_of c.args.scope.now.items []) c.in-Raised.k c.in-Raised.vs (λ same. c.if-k-exception.false (same ∙ sym c.exception.ensures)) (of-stop (declared_in c.args.t.now) (at c.args.left.now c.args.p.now c.args.log.now) (at c.settled.new.left c.settled.new.p c.settled.new.log) _ (Raised c.in-Raised.k c.in-Raised.vs) (λ call now. evaluated (declared_in c.args.t.now) call (tree_of c.args.a.now) (scope_of c.args.scope.now.items []) now) c.in-Raised.is c.in-Err.ensures.ran);
  left = c.in-Err.ensures.left;
  extends = c.in-Err.ensures.extends;
  same = tt;
}

pub try_-returns-then-k-exception : goal.try_-returns-then-k-exception
try_-returns-then-k-exception t c = record {
  ran = try-handled (declared_in c.args.t.now) (at c.args.left.now c.args.p.now c.args.log.now) (at c.settled.new.left c.settled.new.p c.settled.new.log) (tree_of c.args.a.now) (tree_of c.args.h.now) (exception_number (declared_in c.args.t.now).exceptions c.args.x.now) (list_patterns c.args.ps.now) (scope_of c.args.scope.now.items []) (at c.handle.new.left c.handle.new.p c.handle.new.log) c.in-Raised.k c.in-Raised.vs c.handle.result (c.if-k-exception.true ∙ c.exception.ensures) (of-stop (declared_in c.args.t.now) (at c.args.left.now c.args.p.now c.args.log.now) (at c.settled.new.left c.settled.new.p c.settled.new.log) _ (Raised c.in-Raised.k c.in-Raised.vs) (λ call now. evaluated (declared_in c.args.t.now) call (tree_of c.args.a.now) (scope_of c.args.scope.now.items []) now) c.in-Raised.is c.in-Err.ensures.ran) (in-matched (declared_in c.args.t.now) (at c.settled.new.left c.settled.new.p c.settled.new.log) (at c.handle.new.left c.handle.new.p c.handle.new.log) c.handle.result (tree_of c.args.h.now) (all_matched (list_patterns c.args.ps.now) (list_values c.in-Raised.vs.items) (scope_of c.args.scope.now.items [])) _ (ap (λ l. all_matched (list_patterns c.args.ps.now) (list_values c.in-Raised.vs.items) (scope_of l [])) (restored c.args.scope.now.items c.settled.new.scope.items c.truncate.new.self.items c.len-mark.result c.truncate.ensures.items (c.len-mark.ensures ∙ c.args.scope.now.ok.0) c.in-Err.ensures.extends)) c.handle.ensures.ran);
  left = fewer c.handle.new.left c.settled.new.left c.args.left.now c.handle.ensures.left c.in-Err.ensures.left;
  extends = extends-from c.args.scope.now.items c.truncate.new.self.items c.handle.new.scope.items (restored c.args.scope.now.items c.settled.new.scope.items c.truncate.new.self.items c.len-mark.result c.truncate.ensures.items (c.len-mark.ensures ∙ c.args.scope.now.ok.0) c.in-Err.ensures.extends) c.handle.ensures.extends;
  same = kept-then c.handle.result c.args.scope.now.items c.truncate.new.self.items c.handle.new.scope.items (restored c.args.scope.now.items c.settled.new.scope.items c.truncate.new.self.items c.len-mark.result c.truncate.ensures.items (c.len-mark.ensures ∙ c.args.scope.now.ok.0) c.in-Err.ensures.extends) c.handle.ensures.same;
}

pub try_-settled-requires : goal.try_-settled-requires
try_-settled-requires t c =
    (omega (arith, c.decreases), tt)

pub try_-handle-requires : goal.try_-handle-requires
try_-handle-requires t c =
    (let f = falls c.settled.new.left c.args.left.now (span (declared_in c.args.t.now).functions) (8 * weight (tree_of c.args.h.now) + 1) (8 * (weight (tree_of c.args.a.now) + weight (tree_of c.args.h.now)) + 2) c.in-Err.ensures.left (omega arith) in omega (arith, f, c.decreases), tt)

pub handle-returns-in_err-bind_all : goal.handle-returns-in_err-bind_all
handle-returns-in_err-bind_all t c = record {
  ran = (let p = err_from_is_err_and c.from_residual.result c.from_residual.ensures.1 in rw (p.1, p.2) (short-before (declared_in c.args.t.now) (at c.args.left.now c.args.p.now c.args.log.now) (tree_of c.args.h.now) (all_matched (list_patterns c.args.ps.now) (list_values c.args.vs.items) (scope_of c.args.scope.now.items []))));
  left = omega arith;
  extends = c.in_err-bind_all.ensures.extends;
  same = (let p = err_from_is_err_and c.from_residual.result c.from_residual.ensures.1 in rw p.1 tt);
}

pub handle-returns-in_err-step : goal.handle-returns-in_err-step
handle-returns-in_err-step t c = record {
  ran = (let p = err_from_is_err_and c.from_residual-in_err-step.result c.from_residual-in_err-step.ensures.1 in rw (p.1, p.2) (in-matched (declared_in c.args.t.now) (at c.args.left.now c.args.p.now c.args.log.now) (at c.eval.new.left c.eval.new.p c.eval.new.log) (Err c.in_err-step.field-0.0) (tree_of c.args.h.now) (all_matched (list_patterns c.args.ps.now) (list_values c.args.vs.items) (scope_of c.args.scope.now.items [])) _ c.in_ok-bind_all.ensures.matches c.in_err-step.ensures.ran));
  left = c.in_err-step.ensures.left;
  extends = extends-more _ _ _ c.in_ok-bind_all.ensures.extends c.in_err-step.ensures.extends;
  same = (let p = err_from_is_err_and c.from_residual-in_err-step.result c.from_residual-in_err-step.ensures.1 in rw p.1 tt);
}

pub handle-returns : goal.handle-returns
handle-returns t c = record {
  ran = in-matched (declared_in c.args.t.now) (at c.args.left.now c.args.p.now c.args.log.now) (at c.eval.new.left c.eval.new.p c.eval.new.log) (Ok c.in_ok-step.step) (tree_of c.args.h.now) (all_matched (list_patterns c.args.ps.now) (list_values c.args.vs.items) (scope_of c.args.scope.now.items [])) _ c.in_ok-bind_all.ensures.matches c.in_ok-step.ensures.ran;
  left = c.in_ok-step.ensures.left;
  extends = extends-same c.args.scope.now.items c.truncate.new.self.items (restored c.args.scope.now.items c.eval.new.scope.items c.truncate.new.self.items c.len-mark.result c.truncate.ensures.items (c.len-mark.ensures ∙ c.args.scope.now.ok.0) (extends-more _ _ _ c.in_ok-bind_all.ensures.extends c.in_ok-step.ensures.extends));
  same = (restored c.args.scope.now.items c.eval.new.scope.items c.truncate.new.self.items c.len-mark.result c.truncate.ensures.items (c.len-mark.ensures ∙ c.args.scope.now.ok.0) (extends-more _ _ _ c.in_ok-bind_all.ensures.extends c.in_ok-step.ensures.extends));
}

pub handle-eval-requires : goal.handle-eval-requires
handle-eval-requires t c =
    (omega (arith, c.decreases), tt)

pub block-returns-in_err-statements : goal.block-returns-in_err-statements
block-returns-in_err-statements t c = record {
  ran = (let p = err_from_is_err_and c.from_residual.result c.from_residual.ensures.1 in rw (p.1, p.2) (block-stop (declared_in c.args.t.now) (at c.args.left.now c.args.p.now c.args.log.now) (at c.statements.new.left c.statements.new.p c.statements.new.log) (list_statements c.args.sts.now) (tree_of c.args.tail.now) (scope_of c.args.scope.now.items []) (scope_of c.statements.new.scope.items []) _ c.in_err-statements.ensures.ran));
  left = c.in_err-statements.ensures.left;
  extends = c.in_err-statements.ensures.extends;
  same = (let p = err_from_is_err_and c.from_residual.result c.from_residual.ensures.1 in rw p.1 tt);
}

pub block-returns-in_err-step : goal.block-returns-in_err-step
block-returns-in_err-step t c = record {
  ran = (let p = err_from_is_err_and c.from_residual-in_err-step.result c.from_residual-in_err-step.ensures.1 in rw (p.1, p.2) (block-tail (declared_in c.args.t.now) (at c.args.left.now c.args.p.now c.args.log.now) (at c.statements.new.left c.statements.new.p c.statements.new.log) (list_statements c.args.sts.now) (tree_of c.args.tail.now) (scope_of c.args.scope.now.items []) (at c.eval.new.left c.eval.new.p c.eval.new.log) (scope_of c.statements.new.scope.items []) (Err c.in_err-step.field-0.0) c.in_ok-statements.ensures.ran c.in_err-step.ensures.ran));
  left = fewer c.eval.new.left c.statements.new.left c.args.left.now c.in_err-step.ensures.left c.in_ok-statements.ensures.left;
  extends = extends-more _ _ _ c.in_ok-statements.ensures.extends c.in_err-step.ensures.extends;
  same = (let p = err_from_is_err_and c.from_residual-in_err-step.result c.from_residual-in_err-step.ensures.1 in rw p.1 tt);
}

pub block-returns : goal.block-returns
block-returns t c = record {
  ran = block-tail (declared_in c.args.t.now) (at c.args.left.now c.args.p.now c.args.log.now) (at c.statements.new.left c.statements.new.p c.statements.new.log) (list_statements c.args.sts.now) (tree_of c.args.tail.now) (scope_of c.args.scope.now.items []) (at c.eval.new.left c.eval.new.p c.eval.new.log) (scope_of c.statements.new.scope.items []) (Ok c.in_ok-step.step) c.in_ok-statements.ensures.ran c.in_ok-step.ensures.ran;
  left = fewer c.eval.new.left c.statements.new.left c.args.left.now c.in_ok-step.ensures.left c.in_ok-statements.ensures.left;
  extends = extends-same c.args.scope.now.items c.truncate.new.self.items (restored c.args.scope.now.items c.eval.new.scope.items c.truncate.new.self.items c.len-mark.result c.truncate.ensures.items (c.len-mark.ensures ∙ c.args.scope.now.ok.0) (extends-more _ _ _ c.in_ok-statements.ensures.extends c.in_ok-step.ensures.extends));
  same = (restored c.args.scope.now.items c.eval.new.scope.items c.truncate.new.self.items c.len-mark.result c.truncate.ensures.items (c.len-mark.ensures ∙ c.args.scope.now.ok.0) (extends-more _ _ _ c.in_ok-statements.ensures.extends c.in_ok-step.ensures.extends));
}

pub block-statements-requires : goal.block-statements-requires
block-statements-requires t c =
    (omega (arith, c.decreases), tt)

pub block-eval-requires : goal.block-eval-requires
block-eval-requires t c =
    (let f = falls c.statements.new.left c.args.left.now (span (declared_in c.args.t.now).functions) (8 * weight (tree_of c.args.tail.now)) (8 * (weight_statements (list_statements c.args.sts.now) + weight (tree_of c.args.tail.now)) + 4) c.in_ok-statements.ensures.left (omega arith) in omega (arith, f, c.decreases), tt)

pub of_operand-returns-in_err-v : goal.of_operand-returns-in_err-v
of_operand-returns-in_err-v t c = record {
  ran = (let p = err_from_is_err_and c.from_residual.result c.from_residual.ensures.1 in rw (p.1, p.2) (operand-stop (declared_in c.args.t.now) (at c.args.left.now c.args.p.now c.args.log.now) (at c.settled.new.left c.settled.new.p c.settled.new.log) (tree_of c.args.a.now) (tree_of c.args.e.now) (scope_of c.args.scope.now.items []) _ c.in_err-v.ensures.ran));
  left = c.in_err-v.ensures.left;
  extends = c.in_err-v.ensures.extends;
  same = (let p = err_from_is_err_and c.from_residual.result c.from_residual.ensures.1 in rw p.1 tt);
}

pub of_operand-returns-in_err-made_of : goal.of_operand-returns-in_err-made_of
of_operand-returns-in_err-made_of t c = record {
  ran = (let p = err_from_is_err_and c.from_residual-in_err-made_of.result c.from_residual-in_err-made_of.ensures.1 in rw (p.1, p.2, c.note_fetch.ensures) (operand-made (declared_in c.args.t.now) (at c.args.left.now c.args.p.now c.args.log.now) (at c.settled.new.left c.settled.new.p c.settled.new.log) (tree_of c.args.a.now) (tree_of c.args.e.now) (scope_of c.args.scope.now.items []) c.in_ok-v.v (Err _) c.in_ok-v.ensures.ran (λ call now same. c.in_err-made_of.ensures now same)));
  left = c.in_ok-v.ensures.left;
  extends = c.in_ok-v.ensures.extends;
  same = (let p = err_from_is_err_and c.from_residual-in_err-made_of.result c.from_residual-in_err-made_of.ensures.1 in rw p.1 tt);
}

pub of_operand-returns : goal.of_operand-returns
of_operand-returns t c = record {
  ran = rw c.note_fetch.ensures (operand-made (declared_in c.args.t.now) (at c.args.left.now c.args.p.now c.args.log.now) (at c.settled.new.left c.settled.new.p c.settled.new.log) (tree_of c.args.a.now) (tree_of c.args.e.now) (scope_of c.args.scope.now.items []) c.in_ok-v.v (Ok (Done c.in_ok-made_of.field-0)) c.in_ok-v.ensures.ran (λ call now same. c.in_ok-made_of.ensures now same));
  left = c.in_ok-v.ensures.left;
  extends = c.in_ok-v.ensures.extends;
  same = c.in_ok-v.ensures.same;
}

pub of_operand-settled-requires : goal.of_operand-settled-requires
of_operand-settled-requires t c = (omega (arith, c.decreases), tt)
