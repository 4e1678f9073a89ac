use Rattle.std.proofs.Common.{◌∙◌, ap}
use Rattle.ssu_ir.specs.View.{labels_view}
use Rattle.place_ir_checks.specs.inner.Checks as checks
use Rattle.place_ir_checks.specs.inner.NodeLookups.{found_use}
use Rattle.place_ir_checks.proofs.Loops.{any-hit}
use Rattle.std.proofs.Common.{nat_eq}
use Rattle.ssu_liveness.proofs.Scoped.{in-itself}
use Rattle.place_ir_checks.proofs.words.is_used.Goals as goal
use Rattle.place_plan.specs.inner.UseViews.{use_view}

pub returns-then-use_of-x : goal.returns-then-use_of-x
returns-then-use_of-x c = any-hit (checks.is_of c.args.x) (found_use (labels_view c.args.s.now)) c.args.p.now.serves.items _ _ _ (use_view c.use_of.result) c.deref-serve-items.ensures.value c.loop-serve-test.true c.use_of.ensures (ap (λ n. nat_eq n c.args.x) c.if-use_of-x.true ∙ in-itself c.args.x)
