use Rattle.std.proofs.Common.{◌≡◌}
use Rattle.std.proofs.lemmas.Result.{IfOk-weaker}
use Rattle.flow_ir.specs.View.{tree_view}
use Rattle.flow_ir.specs.Reachable.{GoesTo}
use Rattle.flow_ir.proofs.Noting.{noted-both, noted-weaker, pass-if, pass-first, pass-jump}
use Rattle.flow_ir.proofs.prune.+note_all.Goals as goal

pub spine-preserved : goal.spine-preserved
spine-preserved t c = (
  pass-if c.in-If.field-0 c.in-If.field-1 c.in-If.field-2 _ _ _ _ _ c.spine.invariant.0 c.in-If.is c.deref-cur-in-If.ensures,
  noted-both (GoesTo (tree_view c.args.t.now)) _ _ _ _ _ _ c.spine.invariant.1
      (noted-weaker (GoesTo (tree_view c.deref.result.now)) (GoesTo (tree_view c.args.t.now)) _ _ _ _ (pass-first c.in-If.field-0 c.in-If.field-1 c.in-If.field-2 _ _ _ _ c.deref.result.now c.spine.invariant.0 c.in-If.is c.deref.ensures) c.in_ok-note_all-in-If.ensures),
)

pub returns-in-Jump : goal.returns-in-Jump
returns-in-Jump t c =
    IfOk-weaker c.note.result _ _
    (λ u noted. noted-both (GoesTo (tree_view c.args.t.now)) _ _ _ _ _ _ c.spine.invariant.1 (noted-weaker (λ i. i ≡ c.in-Jump.l) (GoesTo (tree_view c.args.t.now)) _ _ _ _ (pass-jump c.in-Jump.l _ c.spine.invariant.0 c.in-Jump.is) noted)) c.note.ensures
