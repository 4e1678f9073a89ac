use Rattle.std.proofs.Common.{◌∙◌, sym, ap}
use Rattle.ssu_ir.specs.View.{labels_view}
use Rattle.place_plan.specs.Plan.{home_view, plan_view}
use Rattle.place_ir_checks.specs.inner.Checks as checks
use Rattle.place_ir_checks.proofs.Loops.{all-miss, all-more}
use Rattle.place_ir_checks.proofs.keeps.keeps_held.Goals as goal

pub returns-then-not-live_fits : goal.returns-then-not-live_fits
returns-then-not-live_fits c = all-miss (λ h. checks.live_fits (labels_view c.args.s.now) (plan_view c.args.p.now) c.args.k h.var) home_view c.args.p.now.homes.items _ _ _ (home_view c.h-item.result) c.deref-h-items.ensures.value c.loop-h-test.true (ap home_view c.h-item.is) (sym c.live_fits.ensures ∙ c.if-not-live_fits.true)

pub loop-h-preserved : goal.loop-h-preserved
loop-h-preserved c = all-more (λ h. checks.live_fits (labels_view c.args.s.now) (plan_view c.args.p.now) c.args.k h.var) home_view c.args.p.now.homes.items _ _ _ (home_view c.h-item.result) c.deref-h-items.ensures.value c.loop-h-test.true c.loop-h.invariant (ap home_view c.h-item.is) (sym c.live_fits.ensures ∙ c.if-not-live_fits.false)
