use Rattle.std.proofs.Common.{rules, inl, inr}
use Rattle.nova_show.proofs.saving.save.Goals.{then-eq, else-eq}
use Rattle.nova_show.proofs.saving.save.Goals as goal

pub returns-then-not-is_saved-clause-cause : goal.returns-then-not-is_saved-clause-cause
returns-then-not-is_saved-clause-cause g c = λ failed. elim c.if-eq.branch [
  | then-eq w ↦ inr (search rules)
  | else-eq w ↦ inl (c.args.saving.now, search rules, search rules)
]
