use Rattle.std.proofs.Common.{take, subst, arith}
use Rattle.zo_solve_dive.specs.inner.Least.{AnswersLeast, IsPreferredBy}
use Rattle.zo_solve_dive.proofs.Choice.{wanted_all, wanted_more, wanted_of_none}
use Rattle.zo_solve_dive.proofs.pick.least_preferred.Goals as goal

pub loop-i-init : goal.loop-i-init
loop-i-init c = wanted_of_none c.args.fixed.now.at.items

pub loop-i-preserved : goal.loop-i-preserved
loop-i-preserved c =
    wanted_more c.args.fixed.now.at.items c.args.z.now.rows.items c.loop-i.i c.index.result.now c.lesser-best.result (omega arith) c.index.ensures
    (c.lesser-best.ensures c.args.fixed.now.at.items (take c.loop-i.i c.args.z.now.rows.items) c.index.result.now c.loop-i.invariant
    (subst (λ f. AnswersLeast (IsPreferredBy f c.index.result.now) c.first_free_of_unmet.result) c.deref.ensures.value c.first_free_of_unmet.ensures))

pub returns : goal.returns
returns c = wanted_all c.args.fixed.now.at.items c.args.z.now.rows.items c.loop-i.i c.loop-i.best (omega arith) c.loop-i.invariant
