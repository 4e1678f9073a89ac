use Rattle.cps_rules.specs.inner.Marked.{is_marked}
use Rattle.flow_ir.specs.Substitution.{look}
use Rattle.cps_rules.specs.inner.Way.{Counted}
use Rattle.cps_rules.proofs.Along.{Along}
use Rattle.cps_rules.proofs.fold.+simplify_tree.Given as goal

abbrev pub invariant-spine : goal.invariant-spine
invariant-spine g l =
    Along (Counted (g.R.Rewrite.answers l.r)) l.t (look l.initial.names.items) (is_marked l.initial.marks) l.cur (look l.names.items) (is_marked l.marks) l.steps.items
