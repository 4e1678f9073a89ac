use Rattle.std.proofs.Common.{arith}
use Rattle.nv_flatten_values.proofs.Sources.{raised-turn, raised-done}
use Rattle.nv_flatten_values.proofs.source.raised.Goals as goal

pub loop-decl-preserved : goal.loop-decl-preserved
loop-decl-preserved c =
    raised-turn c.args.decls.now c.loop-decl.decl-index c.decl-item.result _ _ _ c.loop-decl-test.true c.decl-item.is c.in-Ok.ensures c.loop-decl.invariant

pub returns : goal.returns
returns c =
    raised-done c.args.decls.now c.loop-decl.decl-index _ _ (omega arith) c.loop-decl.invariant
