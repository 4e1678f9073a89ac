use Rattle.std.proofs.Common.{length, sym, ◌∙◌, subst}
use Rattle.std.proofs.lemmas.Grind.{get_or_default_zero}
use Rattle.uc_isa.specs.Program.{IsLawfulWithin}
use Rattle.uc_peep.specs.Liveness.{IsLiveBefore}
use Rattle.uc_peep.proofs.Sweeps.{lawful-here, updated-same, updated-more, same-not}
use Rattle.uc_peep.proofs.liveness.update.Goals as goal

pub live_before-requires-clause-lawful : goal.live_before-requires-clause-lawful
live_before-requires-clause-lawful c = subst (λ i. IsLawfulWithin (length c.args.sets.now) c.args.x i) (sym c.index-code-x.is) (lawful-here c.args.code.now _ c.args.x c.index-code-x.result c.requires.lawful c.requires.length c.requires.inside)

pub returns-then-same : goal.returns-then-same
returns-then-same c = updated-same c.args.code.now c.args.sets.now c.args.x c.index-sets-x.result c.live_before.result c.with-new.result c.index-code-x.result (c.index-sets-x.is ∙ get_or_default_zero c.args.sets.now c.args.x c.index-sets-x.result c.requires.inside) (subst (λ i. IsLiveBefore i c.args.x c.args.sets.now c.live_before.result) c.index-code-x.is c.live_before.ensures) c.with-new.ensures.either (c.same.ensures.0 c.if-same.true)

pub returns : goal.returns
returns c = updated-more c.args.code.now c.args.sets.now c.args.x c.index-sets-x.result c.live_before.result c.with-new.result c.index-code-x.result c.requires.length c.requires.inside (c.index-sets-x.is ∙ get_or_default_zero c.args.sets.now c.args.x c.index-sets-x.result c.requires.inside) (subst (λ i. IsLiveBefore i c.args.x c.args.sets.now c.live_before.result) c.index-code-x.is c.live_before.ensures) c.with-new.ensures.either c.with-new.ensures.more c.with-new.ensures.small (same-not c.same.result _ c.same.ensures.1 c.if-same.false)
