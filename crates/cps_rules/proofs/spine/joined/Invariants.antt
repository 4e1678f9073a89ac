use Rattle.std.proofs.Common.{vec_len}
use Rattle.flow_ir.specs.View.{tree_view}
use Rattle.cps_rules.specs.inner.Marked.{is_marked}
use Rattle.cps_rules.proofs.Back.{Coming}
use Rattle.cps_rules.proofs.spine.joined.Given as goal

abbrev pub invariant-loop-s : goal.invariant-loop-s
invariant-loop-s l = Coming (is_marked l.initial.marks) l.initial.steps.items (tree_view l.initial.t) l.steps.items (tree_view l.t) (is_marked l.marks)

abbrev pub decreases-loop-s : goal.decreases-loop-s
decreases-loop-s l = vec_len l.steps
