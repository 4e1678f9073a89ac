use Rattle.std.proofs.Common.{arith}
use Rattle.nova_compile.proofs.Named.{exceptions-turn, exceptions-done}
use Rattle.nova_compile.proofs.naming.declared.Goals as goal

pub loop-decl-preserved : goal.loop-decl-preserved
loop-decl-preserved c = (
  exceptions-turn c.args.text.now c.args.decls.now c.loop-decl.decl-index c.decl-item.result c.loop-decl.list.items c.add_exception.new.list.items _ c.loop-decl-test.true c.decl-item.is c.in_ok-last.ensures.added c.loop-decl.invariant.0,
  c.in_ok-last.ensures.mark,
)

pub returns : goal.returns
returns c = exceptions-done c.args.text.now c.args.decls.now c.loop-decl.decl-index c.loop-decl.list.items _ (omega arith) c.loop-decl.invariant.0
