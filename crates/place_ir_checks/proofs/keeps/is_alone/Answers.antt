use Rattle.std.proofs.Common.{◌∙◌, sym}
use Rattle.ssu_ir.specs.View.{labels_view}
use Rattle.place_plan.specs.Plan.{plan_view}
use Rattle.place_plan.specs.inner.UseViews.{use_view}
use Rattle.place_ir_checks.specs.inner.Checks as checks
use Rattle.place_ir_checks.specs.inner.NodeLookups.{found_use}
use Rattle.place_ir_checks.proofs.Loops.{all-miss}
use Rattle.place_ir_checks.proofs.keeps.is_alone.Goals as goal

pub returns-then-not-is_other : goal.returns-then-not-is_other
returns-then-not-is_other c = all-miss (checks.is_other (labels_view c.args.s.now) (plan_view c.args.p.now) c.args.k (use_view c.args.u)) (found_use (labels_view c.args.s.now)) c.args.p.now.serves.items _ _ _ (use_view c.use_of.result) c.deref-serve-items.ensures.value c.loop-serve-test.true c.use_of.ensures (sym c.is_other.ensures ∙ c.if-not-is_other.true)
