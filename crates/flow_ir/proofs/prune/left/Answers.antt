use Rattle.std.proofs.Common.{sym, ap, ◌∙◌}
use Rattle.flow_ir.proofs.Leaving.{left-take, left-pass}
use Rattle.flow_ir.proofs.prune.left.Goals as goal
use Rattle.flow_ir.proofs.prune.left.Goals.{then-not-is_out+in_ok-relabelled+in_ok-push, else-not-is_out}

pub loop-i-preserved : goal.loop-i-preserved
loop-i-preserved c =
    elim c.if-not-is_out.branch [
      | then-not-is_out+in_ok-relabelled+in_ok-push w ↦
          left-take _ _ _ c.loop-i.i c.index-labels-i.result w.in_ok-relabelled.field-0 _ _ c.loop-i-test.true c.index-labels-i.is (sym c.is_out.ensures ∙ w.if-not-is_out.true) (ap (λ v. v.items) w.v-is ∙ w.in_ok-push.ensures.items) w.in_ok-relabelled.ensures c.loop-i.invariant
      | else-not-is_out w ↦ left-pass _ _ _ c.loop-i.i c.index-labels-i.result _ _ c.loop-i-test.true c.index-labels-i.is (sym c.is_out.ensures ∙ w.if-not-is_out.false) (ap (λ v. v.items) w.v-is) c.loop-i.invariant
    ]
