use Rattle.std.proofs.Common.{◌∙◌, sym}
use Rattle.ssu_ir.specs.View.{labels_view}
use Rattle.place_ir_checks.specs.inner.Checks as checks
use Rattle.place_ir_checks.specs.inner.NodeLookups.{found_use}
use Rattle.place_ir_checks.proofs.Loops.{any-hit}
use Rattle.place_ir_checks.proofs.words.is_used_below.Goals as goal
use Rattle.place_plan.specs.inner.UseViews.{use_view}

pub returns-then-is_of_below : goal.returns-then-is_of_below
returns-then-is_of_below c = any-hit (checks.is_of_below (labels_view c.args.s.now) c.args.k c.args.here c.args.x) (found_use (labels_view c.args.s.now)) c.args.p.now.serves.items _ _ _ (use_view c.use_of.result) c.deref-serve-items.ensures.value c.loop-serve-test.true c.use_of.ensures (sym c.is_of_below.ensures ∙ c.if-is_of_below.true)
