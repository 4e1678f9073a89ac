use Rattle.std.proofs.Common.{◌∙◌, ◌<◌, length, sym, subst}
use Rattle.std.proofs.lemmas.Grind.{get_or_default_zero}
use Rattle.uc_isa.specs.Program.{IsLawfulWithin}
use Rattle.uc_peep.specs.Liveness.{IsLiveBefore}
use Rattle.uc_peep.specs.Sets.{IsWithin}
use Rattle.uc_peep.proofs.Passes.{law-at, closed-renewed}
use Rattle.uc_peep.proofs.draft.renew.Goals as goal

pub live_before-new-requires-clause-lawful : goal.live_before-new-requires-clause-lawful
live_before-new-requires-clause-lawful c = subst (λ i. IsLawfulWithin (length c.args.sets.now) c.args.p i) (sym c.index-code-p.is) (law-at c.args.code.now c.args.sets.now c.args.p c.index-code-p.result c.requires.lawful c.requires.sets c.requires.inside)

pub returns-then-is_within-clause-closed : goal.returns-then-is_within-clause-closed
returns-then-is_within-clause-closed c =
    closed-renewed c.args.code.now c.args.sets.now c.args.p c.live_before-new.result c.index-code-p.result (subst (λ n. c.args.p < n) (sym c.requires.sets) c.requires.inside)
    (subst (λ i. IsLiveBefore i c.args.p c.args.sets.now c.live_before-new.result) c.index-code-p.is c.live_before-new.ensures)
    (subst (λ n. IsWithin c.live_before-new.result n) (c.index-sets-p.is ∙ get_or_default_zero c.args.sets.now c.args.p c.index-sets-p.result (subst (λ n. c.args.p < n) (sym c.requires.sets) c.requires.inside)) (c.is_within.ensures c.if-is_within.true))
