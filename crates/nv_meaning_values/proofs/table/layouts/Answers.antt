use Rattle.std.proofs.Common.{refl}
use Rattle.nv_meaning_values.proofs.NameIndices.{layouts-turn}
use Rattle.nv_meaning_values.proofs.table.layouts.Goals as goal

pub loop-decl-preserved : goal.loop-decl-preserved
loop-decl-preserved c = layouts-turn c.args.decls.now c.loop-decl.decl-index c.decl-item.result c.loop-decl-test.true c.decl-item.is _ _ _ c.loop-decl.invariant refl c.in_ok-add_layout.ensures
