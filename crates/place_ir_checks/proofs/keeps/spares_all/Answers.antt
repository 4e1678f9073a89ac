use Rattle.std.proofs.Common.{◌∙◌, sym, ap}
use Rattle.ssu_ir.specs.View.{labels_view}
use Rattle.place_plan.specs.Plan.{home_view, plan_view}
use Rattle.place_ir_checks.specs.inner.Checks as checks
use Rattle.place_ir_checks.proofs.Loops.{all-miss, all-more}
use Rattle.place_ir_checks.proofs.keeps.spares_all.Goals as goal

pub returns-then-not-spares : goal.returns-then-not-spares
returns-then-not-spares c = all-miss (λ h. checks.spares (labels_view c.args.s.now) (plan_view c.args.p.now) c.args.k c.args.m c.args.xs.now h.var) home_view c.args.p.now.homes.items _ _ _ (home_view c.h-item.result) c.deref-h-items.ensures.value c.loop-h-test.true (ap home_view c.h-item.is) (sym c.spares.ensures ∙ c.if-not-spares.true)

pub loop-h-preserved : goal.loop-h-preserved
loop-h-preserved c = all-more (λ h. checks.spares (labels_view c.args.s.now) (plan_view c.args.p.now) c.args.k c.args.m c.args.xs.now h.var) home_view c.args.p.now.homes.items _ _ _ (home_view c.h-item.result) c.deref-h-items.ensures.value c.loop-h-test.true c.loop-h.invariant (ap home_view c.h-item.is) (sym c.spares.ensures ∙ c.if-not-spares.false)
