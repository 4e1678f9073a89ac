use Rattle.std.proofs.Common.{refl, arith}
use Rattle.nv_meaning_values.proofs.NameIndices.{exceptions-turn, counts-turn}
use Rattle.nv_meaning_values.proofs.table.exceptions.Goals as goal

pub loop-decl-preserved : goal.loop-decl-preserved
loop-decl-preserved c =
    record {
      names = exceptions-turn c.args.decls.now c.loop-decl.decl-index c.decl-item.result c.loop-decl-test.true c.decl-item.is _ _ _ c.loop-decl.invariant.names refl c.in_ok-add_exception.ensures.names;
      count = omega (arith, c.loop-decl.invariant.count, c.in_ok-add_exception.ensures.count, counts-turn c.args.decls.now c.loop-decl.decl-index c.decl-item.result c.loop-decl-test.true c.decl-item.is);
    }
