use Rattle.std.proofs.Common.{ℕ, refl, sym, ap, ◌∙◌, get_or}
use Rattle.std.specs.declared.vec.Vec.{Vec}
use Rattle.std.specs.declared.alloc.Global.{Global}
use Rattle.std.proofs.lemmas.Bool.{false≢true}
use Rattle.flow_merge.proofs.Cutting.{params_more}
use Rattle.flow_merge.proofs.pruning.kept_params.Goals.{then-not-is_gone+in_ok-push, else-not-is_gone}
use Rattle.flow_merge.proofs.pruning.kept_params.Goals as goal

pub loop-p-preserved : goal.loop-p-preserved
loop-p-preserved c =
    elim c.if-not-is_gone.branch [
      | then-not-is_gone+in_ok-push w ↦ params_more c.args.gone.now c.args.params.now c.loop-p.v.items c.if-not-is_gone.v.items c.loop-p.p-index 0 (get_or c.args.params.now c.loop-p.p-index 0) c.loop-p-test.true refl (λ i. absurd (false≢true (sym (sym c.is_gone.ensures ∙ w.if-not-is_gone.true) ∙ i))) (λ o. ap (λ (x : Vec ℕ Global). x.items) w.v-is ∙ w.in_ok-push.ensures.items) c.loop-p.invariant
      | else-not-is_gone w ↦ params_more c.args.gone.now c.args.params.now c.loop-p.v.items c.if-not-is_gone.v.items c.loop-p.p-index 0 (get_or c.args.params.now c.loop-p.p-index 0) c.loop-p-test.true refl (λ i. ap (λ (x : Vec ℕ Global). x.items) w.v-is) (λ o. absurd (false≢true (sym o ∙ sym c.is_gone.ensures ∙ w.if-not-is_gone.false))) c.loop-p.invariant
    ]
