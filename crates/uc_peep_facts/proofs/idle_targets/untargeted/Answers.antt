use Rattle.std.proofs.Common.{◌∙◌, sym, subst}
use Rattle.uc_peep_facts.specs.inner.Operands.{IsUntargeted}
use Rattle.uc_peep_facts.proofs.SameWords.{untargeted-by, untargeted-live, untargeted-same}
use Rattle.uc_peep_facts.proofs.idle_targets.untargeted.Goals as goal

pub returns-then-not-has_dst : goal.returns-then-not-has_dst
returns-then-not-has_dst c = subst (IsUntargeted c.args.live.now c.args.i.now) (sym c.with_target.ensures) (untargeted-by c.args.live.now c.args.i.now c.in-Some.d c.requires c.in-Some.ensures.some (sym c.has_dst.ensures ∙ c.if-not-has_dst.true))

pub returns-else-not-has_dst : goal.returns-else-not-has_dst
returns-else-not-has_dst c = untargeted-live c.args.live.now c.args.i.now c.in-Some.d c.requires c.in-Some.ensures.some (sym c.has_dst.ensures ∙ c.if-not-has_dst.false)

pub returns-in-None : goal.returns-in-None
returns-in-None c = untargeted-same c.args.live.now c.args.i.now c.requires (λ d h. absurd (c.in-None.ensures.none d h))
