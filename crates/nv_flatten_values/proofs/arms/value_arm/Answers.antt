use Rattle.std.proofs.Common.{sym}
use Rattle.nv_ast.specs.declared.tree.Expr.{out-Expr}
use Rattle.nv_ast.proofs.TreeKinds.{number-is, truth-is, variable-is, paren-is, tuple-is, record-is, dot-is, invert-is, negate-is, shift-is, binary-is, unpack-is, pack-is, fetch-is, block-is}
use Rattle.nv_flatten_values.proofs.arms.value_arm.Goals as goal

pub returns-in-Number : goal.returns-in-Number
returns-in-Number c = ((out-Expr c.args.e.now).span, number-is c.args.e.now c.in-Number.n c.in-Number.is)

pub returns-in-Truth : goal.returns-in-Truth
returns-in-Truth c = ((out-Expr c.args.e.now).span, truth-is c.args.e.now c.in-Truth.b c.in-Truth.is)

pub returns-in-Var : goal.returns-in-Var
returns-in-Var c = ((out-Expr c.args.e.now).span, variable-is c.args.e.now c.in-Var.x c.in-Var.is)

pub returns-in-Paren : goal.returns-in-Paren
returns-in-Paren c = ((out-Expr c.args.e.now).span, paren-is c.args.e.now c.in-Paren.a c.deref.result.now c.in-Paren.is c.deref.ensures)

pub returns-in-Tuple : goal.returns-in-Tuple
returns-in-Tuple c = ((out-Expr c.args.e.now).span, tuple-is c.args.e.now c.in-Tuple.es c.deref-in-Tuple.result.now c.in-Tuple.is c.deref-in-Tuple.ensures.value)

pub returns-in-Fields : goal.returns-in-Fields
returns-in-Fields c = ((out-Expr c.args.e.now).span, record-is c.args.e.now c.in-Fields.es c.deref-in-Fields.result.now c.in-Fields.is c.deref-in-Fields.ensures.value)

pub returns-in-Dot : goal.returns-in-Dot
returns-in-Dot c = ((out-Expr c.args.e.now).span, dot-is c.args.e.now c.in-Dot.a c.in-Dot.x c.deref-in-Dot.result.now c.in-Dot.is c.deref-in-Dot.ensures)

pub returns-in-Invert : goal.returns-in-Invert
returns-in-Invert c = ((out-Expr c.args.e.now).span, invert-is c.args.e.now c.in-Invert.a c.deref-in-Invert.result.now c.in-Invert.is c.deref-in-Invert.ensures)

pub returns-in-Negate : goal.returns-in-Negate
returns-in-Negate c = ((out-Expr c.args.e.now).span, negate-is c.args.e.now c.in-Negate.a c.deref-in-Negate.result.now c.in-Negate.is c.deref-in-Negate.ensures)

pub returns-in-Shift : goal.returns-in-Shift
returns-in-Shift c = ((out-Expr c.args.e.now).span, shift-is c.args.e.now c.in-Shift.op c.in-Shift.a c.in-Shift.n c.deref-in-Shift.result.now c.in-Shift.is c.deref-in-Shift.ensures)

pub returns-in-Some : goal.returns-in-Some
returns-in-Some c = ((out-Expr c.args.e.now).span, c.in-Binary.op, sym c.in-Some.ensures, binary-is c.args.e.now c.in-Binary.op c.in-Binary.a c.in-Binary.b c.deref-in-Some.result.now c.deref-in-Some-2.result.now c.in-Binary.is c.deref-in-Some.ensures c.deref-in-Some-2.ensures)

pub returns-in-Unpack : goal.returns-in-Unpack
returns-in-Unpack c = ((out-Expr c.args.e.now).span, unpack-is c.args.e.now c.in-Unpack.l c.in-Unpack.a c.deref-in-Unpack.result.now c.in-Unpack.is c.deref-in-Unpack.ensures)

pub returns-in-Pack : goal.returns-in-Pack
returns-in-Pack c = ((out-Expr c.args.e.now).span, pack-is c.args.e.now c.in-Pack.l c.in-Pack.a c.deref-in-Pack.result.now c.in-Pack.is c.deref-in-Pack.ensures)

pub returns-in-Fetch : goal.returns-in-Fetch
returns-in-Fetch c = ((out-Expr c.args.e.now).span, fetch-is c.args.e.now c.in-Fetch.m c.in-Fetch.n c.in-Fetch.a c.deref-in-Fetch.result.now c.in-Fetch.is c.deref-in-Fetch.ensures)

pub returns-in-Block : goal.returns-in-Block
returns-in-Block c = ((out-Expr c.args.e.now).span, block-is c.args.e.now c.in-Block.sts c.in-Block.a c.deref-in-Block.result.now c.deref-in-Block-2.result.now c.in-Block.is c.deref-in-Block.ensures.value c.deref-in-Block-2.ensures)
