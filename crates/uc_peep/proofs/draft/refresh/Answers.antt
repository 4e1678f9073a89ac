use Rattle.std.proofs.Common.{◌<◌, ◌-◌, length, arith, ◌∙◌, sym, subst}
use Rattle.uc_isa.specs.Program.{IsLawfulWithin}
use Rattle.uc_peep.specs.Liveness.{IsLiveBefore}
use Rattle.uc_peep.proofs.Passes.{law-at, fresh-more}
use Rattle.uc_peep.proofs.draft.refresh.Goals as goal

pub live_before-requires-clause-lawful : goal.live_before-requires-clause-lawful
live_before-requires-clause-lawful c =
    let lt : c.loop-x.x - 1 < length c.args.code.now = let m = c.loop-x.invariant.most in let t = c.loop-x-test.true in let i = c.requires.inside in omega arith in
    subst (λ i. IsLawfulWithin (length c.loop-x.sets) (c.loop-x.x - 1) i) (sym c.index-code-x.is) (law-at c.args.code.now c.loop-x.sets (c.loop-x.x - 1) c.index-code-x.result c.requires.lawful (c.loop-x.invariant.size ∙ c.requires.sets) lt)

pub loop-x-preserved : goal.loop-x-preserved
loop-x-preserved c = fresh-more c.args.code.now c.args.p c.args.k c.args.sets.now c.loop-x.sets c.loop-x.x c.live_before.result c.index-code-x.result c.loop-x-test.true c.requires.sets c.requires.inside (λ z y i. c.requires.ahead z y i) c.loop-x.invariant (subst (λ i. IsLiveBefore i (c.loop-x.x - 1) c.loop-x.sets c.live_before.result) c.index-code-x.is c.live_before.ensures)
