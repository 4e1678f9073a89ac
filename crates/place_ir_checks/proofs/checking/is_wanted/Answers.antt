use Rattle.std.proofs.Common.{◌∙◌, length, sym, arith}
use Rattle.ssu_ir.specs.Points.{points}
use Rattle.ssu_ir.specs.View.{labels_view}
use Rattle.place_plan.specs.Plan.{plan_view}
use Rattle.place_ir_checks.specs.inner.Checks as checks
use Rattle.place_ir_checks.proofs.Seen.{below-from}
use Rattle.place_ir_checks.proofs.checking.is_wanted.Goals as goal

pub returns-then-wants_at : goal.returns-then-wants_at
returns-then-wants_at c = sym (below-from (checks.wants_at (labels_view c.args.s.now) (plan_view c.args.p.now) c.args.x) (length (points (labels_view c.args.s.now))) c.loop-k.k (omega (arith, c.loop-k-test.true, c.count-k-end.ensures)) (sym c.wants_at.ensures ∙ c.if-wants_at.true))
