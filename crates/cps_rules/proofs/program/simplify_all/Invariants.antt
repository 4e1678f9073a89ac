use Rattle.std.proofs.Common.{map, take}
use Rattle.flow_ir.specs.View.{label_view}
use Rattle.cps_rules.specs.inner.Way.{Counted, AreDone}
use Rattle.cps_rules.proofs.program.simplify_all.Given as goal

abbrev pub invariant-loop-l : goal.invariant-loop-l
invariant-loop-l g l = AreDone (Counted (g.R.Rewrite.answers l.r)) (map label_view (take l.l-index l.labels)) (map label_view l.done.items)
