use Rattle.std.proofs.Common.{◌≡◌, vec_len}
use Rattle.flow_ir.specs.View.{tree_view}
use Rattle.flow_ir.specs.Spine.{put_all}
use Rattle.flow_ir.proofs.spine.join.Given as goal

abbrev pub invariant-loop-s : goal.invariant-loop-s
invariant-loop-s l = put_all l.steps.items (tree_view l.t) ≡ put_all l.initial.steps.items (tree_view l.initial.t)

abbrev pub decreases-loop-s : goal.decreases-loop-s
decreases-loop-s l = vec_len l.steps
