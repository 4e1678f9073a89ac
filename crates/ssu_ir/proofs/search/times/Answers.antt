use Rattle.std.proofs.lemmas.List.{take_more}
use Rattle.ssu_ir.proofs.Searches.{one_more}
use Rattle.ssu_ir.proofs.search.times.Goals as goal

pub loop-y-preserved : goal.loop-y-preserved
loop-y-preserved c = one_more _ _ _ _ _ _ _ (take_more c.args.xs.now c.loop-y.y-index 0 c.loop-y-test.true) c.loop-y.invariant c.same.ensures c.saturating_add-n.ensures
