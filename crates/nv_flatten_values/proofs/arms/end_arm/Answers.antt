use Rattle.std.proofs.Common.{◌∙◌, sym, ap}
use Rattle.nv_ast.specs.ExprView.{tree_of}
use Rattle.nv_ast.specs.Tree.{BinaryTree}
use Rattle.nv_ast.specs.declared.tree.Expr.{out-Expr}
use Rattle.nv_ast.proofs.TreeKinds.{paren-is, binary-is, call-is, raise-is, if-is, try-is, block-is}
use Rattle.nv_flatten_values.proofs.Ways.{both-op, either-op}
use Rattle.nv_flatten_values.proofs.arms.end_arm.Goals as goal

pub returns-in-Paren : goal.returns-in-Paren
returns-in-Paren c = ((out-Expr c.args.e.now).span, paren-is c.args.e.now c.in-Paren.a c.deref.result.now c.in-Paren.is c.deref.ensures)

pub returns-in-Both : goal.returns-in-Both
returns-in-Both c = ((out-Expr c.args.e.now).span, binary-is c.args.e.now c.in-Binary.op c.in-Binary.a c.in-Binary.b c.deref-in-Both.result.now c.deref-in-Both-2.result.now c.in-Binary.is c.deref-in-Both.ensures c.deref-in-Both-2.ensures ∙ ap (λ o. BinaryTree (out-Expr c.args.e.now).span o (tree_of c.deref-in-Both.result.now) (tree_of c.deref-in-Both-2.result.now)) (both-op c.in-Binary.op (sym c.in-Both.ensures)))

pub returns-in-Either : goal.returns-in-Either
returns-in-Either c = ((out-Expr c.args.e.now).span, binary-is c.args.e.now c.in-Binary.op c.in-Binary.a c.in-Binary.b c.deref-in-Either.result.now c.deref-in-Either-2.result.now c.in-Binary.is c.deref-in-Either.ensures c.deref-in-Either-2.ensures ∙ ap (λ o. BinaryTree (out-Expr c.args.e.now).span o (tree_of c.deref-in-Either.result.now) (tree_of c.deref-in-Either-2.result.now)) (either-op c.in-Binary.op (sym c.in-Either.ensures)))

pub returns-in-Call : goal.returns-in-Call
returns-in-Call c = ((out-Expr c.args.e.now).span, call-is c.args.e.now c.in-Call.f c.in-Call.es c.deref-in-Call.result.now c.in-Call.is c.deref-in-Call.ensures.value)

pub returns-in-Raise : goal.returns-in-Raise
returns-in-Raise c = ((out-Expr c.args.e.now).span, raise-is c.args.e.now c.in-Raise.x c.in-Raise.es c.deref-in-Raise.result.now c.in-Raise.is c.deref-in-Raise.ensures.value)

pub returns-in-If : goal.returns-in-If
returns-in-If c = ((out-Expr c.args.e.now).span, if-is c.args.e.now c.in-If.c c.in-If.a c.in-If.b c.deref-in-If.result.now c.deref-in-If-2.result.now c.deref-in-If-3.result.now c.in-If.is c.deref-in-If.ensures c.deref-in-If-2.ensures c.deref-in-If-3.ensures)

pub returns-in-Try : goal.returns-in-Try
returns-in-Try c = ((out-Expr c.args.e.now).span, try-is c.args.e.now c.in-Try.a c.in-Try.x c.in-Try.ps c.in-Try.h c.deref-in-Try.result.now c.deref-in-Try-2.result.now c.deref-in-Try-3.result.now c.in-Try.is c.deref-in-Try.ensures c.deref-in-Try-2.ensures.value c.deref-in-Try-3.ensures)

pub returns-in-Block : goal.returns-in-Block
returns-in-Block c = ((out-Expr c.args.e.now).span, block-is c.args.e.now c.in-Block.sts c.in-Block.a c.deref-in-Block.result.now c.deref-in-Block-2.result.now c.in-Block.is c.deref-in-Block.ensures.value c.deref-in-Block-2.ensures)
