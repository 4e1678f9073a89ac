use Rattle.std.proofs.Common.{◌≡◌, [], map, take, sym, subst, ap, ◌∙◌, arith}
use Rattle.std.specs.declared.vec.Vec.{Vec}
use Rattle.std.specs.declared.alloc.Global.{Global}
use Rattle.std.proofs.lemmas.Bool.Decides.{nat_tests}
use Rattle.flow_ir.specs.View.{label_view}
use Rattle.flow_ir.specs.declared.flow.Label.{Label}
use Rattle.flow_merge.specs.inner.Copied.{AreCopied, none}
use Rattle.flow_merge.specs.inner.Numbered.{numbering}
use Rattle.flow_merge.proofs.Whole.{next_stays, next_goes}
use Rattle.flow_merge.proofs.copying.all_copied.Goals.{then-stays+else-to-len+in_ok-label_copied+in_ok-push, else-stays}
use Rattle.flow_merge.proofs.copying.all_copied.Goals as goal

pub loop-i-init : goal.loop-i-init
loop-i-init c = subst (λ l. AreCopied (map label_view c.args.labels.now) (numbering c.args.plan.now) 0 0 [] (map label_view l)) (sym c.new-v.ensures.items) (none 0 0)

pub loop-i-preserved : goal.loop-i-preserved
loop-i-preserved c =
    elim c.if-stays.branch [
      | then-stays+else-to-len+in_ok-label_copied+in_ok-push w ↦
          let same : w.to.result ≡ w.len.result = grind (arith, nat_tests, w.if-to-len.false) in
          next_stays _ _ c.args.labels.now c.loop-i.i c.index-labels-i.result c.index-labels-i.result w.in_ok-label_copied.field-0 c.loop-i.v.items c.if-stays.v.items c.loop-i-test.true c.index-labels-i.is c.loop-i.invariant
          (sym w.to.ensures ∙ same ∙ w.len.ensures ∙ c.loop-i.v.ok.0) w.in_ok-label_copied.ensures (ap (λ (x : Vec Label Global). x.items) w.v-is ∙ w.in_ok-push.ensures.items)
      | else-stays w ↦
          next_goes _ _ c.args.labels.now c.loop-i.i c.index-labels-i.result c.index-labels-i.result c.if-stays.v.items c.loop-i-test.true c.index-labels-i.is
          (subst (λ (x : Vec Label Global). AreCopied (map label_view c.args.labels.now) (numbering c.args.plan.now) 0 0 (map label_view (take c.loop-i.i c.args.labels.now)) (map label_view x.items)) (sym w.v-is) c.loop-i.invariant) (sym w.if-stays.ensures)
    ]
