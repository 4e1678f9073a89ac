use Rattle.std.proofs.Common.{arith}
use Rattle.cps_rules.proofs.Flows.{done_next, item_scoped, all_scoped}
use Rattle.cps_rules.proofs.program.simplify_all.Goals as goal

pub simplify_label-requires-clause-formed : goal.simplify_label-requires-clause-formed
simplify_label-requires-clause-formed g c = item_scoped c.args.labels.now c.loop-l.l-index c.l-item.result c.l-item.result (omega arith) c.l-item.is (all_scoped _ _ c.requires.formed)

pub loop-l-preserved : goal.loop-l-preserved
loop-l-preserved g c = done_next _ c.args.labels.now c.loop-l.l-index c.l-item.result c.l-item.result c.in_ok-simplify_label.field-0 c.loop-l.done.items _ (omega arith) c.l-item.is c.loop-l.invariant c.in_ok-simplify_label.ensures c.in_ok-push.ensures.items
