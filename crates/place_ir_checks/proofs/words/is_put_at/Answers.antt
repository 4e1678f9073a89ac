use Rattle.std.proofs.Common.{◌∙◌, sym}
use Rattle.ssu_ir.specs.View.{labels_view}
use Rattle.place_plan.specs.Plan.{plan_view}
use Rattle.place_plan.specs.inner.UseViews.{use_view}
use Rattle.place_ir_checks.specs.inner.Checks as checks
use Rattle.place_ir_checks.specs.inner.NodeLookups.{found_use}
use Rattle.place_ir_checks.proofs.Loops.{any-hit}
use Rattle.place_ir_checks.proofs.words.is_put_at.Goals as goal

pub returns-then-is_word_at : goal.returns-then-is_word_at
returns-then-is_word_at c = any-hit (checks.is_word_at (plan_view c.args.p.now) c.args.x c.args.q) (found_use (labels_view c.args.s.now)) c.args.p.now.serves.items _ _ _ (use_view c.use_of.result) c.deref-serve-items.ensures.value c.loop-serve-test.true c.use_of.ensures (sym c.is_word_at.ensures ∙ c.if-is_word_at.true)
