use Rattle.std.proofs.Common.{sym}
use Rattle.nv_ast.specs.declared.tree.Expr.{out-Expr}
use Rattle.nv_ast.proofs.TreeKinds.{paren-is, negate-is, binary-is}
use Rattle.nv_flatten_values.proofs.arms.test_arm.Goals as goal

pub returns-in-Paren : goal.returns-in-Paren
returns-in-Paren c = ((out-Expr c.args.e.now).span, paren-is c.args.e.now c.in-Paren.a c.deref.result.now c.in-Paren.is c.deref.ensures)

pub returns-in-Negate : goal.returns-in-Negate
returns-in-Negate c = ((out-Expr c.args.e.now).span, negate-is c.args.e.now c.in-Negate.a c.deref-in-Negate.result.now c.in-Negate.is c.deref-in-Negate.ensures)

pub returns-in-Some : goal.returns-in-Some
returns-in-Some c = ((out-Expr c.args.e.now).span, c.in-Binary.op, sym c.in-Some.ensures, binary-is c.args.e.now c.in-Binary.op c.in-Binary.a c.in-Binary.b c.deref-in-Some.result.now c.deref-in-Some-2.result.now c.in-Binary.is c.deref-in-Some.ensures c.deref-in-Some-2.ensures)
