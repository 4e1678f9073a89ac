use Rattle.std.proofs.Common.{◌∙◌, length, sym, arith}
use Rattle.ssu_ir.specs.Points.{points}
use Rattle.ssu_ir.specs.View.{labels_view}
use Rattle.place_plan.specs.Plan.{plan_view}
use Rattle.place_ir_checks.specs.inner.Checks as checks
use Rattle.place_ir_checks.proofs.Decided.{all-below-miss, all-below-more}
use Rattle.place_ir_checks.proofs.checking.points_fit.Goals as goal

pub returns-then-not-point_fits : goal.returns-then-not-point_fits
returns-then-not-point_fits c = sym (all-below-miss (checks.point_fits (labels_view c.args.s.now) (plan_view c.args.p.now)) (length (points (labels_view c.args.s.now))) c.loop-k.k (omega (arith, c.loop-k-test.true, c.count-k-end.ensures)) (sym c.point_fits.ensures ∙ c.if-not-point_fits.true))

pub loop-k-preserved : goal.loop-k-preserved
loop-k-preserved c = all-below-more (checks.point_fits (labels_view c.args.s.now) (plan_view c.args.p.now)) c.loop-k.k c.loop-k.invariant (sym c.point_fits.ensures ∙ c.if-not-point_fits.false)
