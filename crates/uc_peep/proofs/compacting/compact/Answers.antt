use Rattle.std.proofs.Common.{◌++◌, ◌∷◌, [], get_or, ap, ◌∙◌, true, false}
use Rattle.uc_isa.specs.declared.instruction.Instr.TheVariants.{Halt}
use Rattle.uc_isa.specs.Relocated.{relocated}
use Rattle.uc_peep.proofs.Marking.{compact-more}
use Rattle.uc_peep.proofs.compacting.compact.Goals as goal
use Rattle.uc_peep.proofs.compacting.compact.Goals.{then-not-gone-x+in_ok-push, else-not-gone-x}

pub loop-x-preserved : goal.loop-x-preserved
loop-x-preserved c = elim c.if-not-gone-x.branch [
  | then-not-gone-x+in_ok-push w ↦
      compact-more (λ y. get_or c.args.counts.now y 0) c.args.gone.now c.args.code.now c.loop-x.v.items c.if-not-gone-x.v.items _ c.loop-x.x w.index-code-x.result false c.requires.size c.loop-x-test.true c.loop-x.invariant w.if-not-gone-x.true
      (ap (λ v. v.items) w.v-is ∙ w.in_ok-push.ensures.items ∙ ap (λ i. c.loop-x.v.items ++ i ∷ []) (w.relocate.ensures ∙ ap (relocated (λ y. get_or c.args.counts.now y 0)) w.index-code-x.is))
  | else-not-gone-x w ↦
      compact-more (λ y. get_or c.args.counts.now y 0) c.args.gone.now c.args.code.now c.loop-x.v.items c.if-not-gone-x.v.items _ c.loop-x.x (Halt 0 0) true c.requires.size c.loop-x-test.true c.loop-x.invariant w.if-not-gone-x.false
      (ap (λ v. v.items) w.v-is)
]
