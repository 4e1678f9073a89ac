use Rattle.std.proofs.Common.{◌∙◌, ap}
use Rattle.std.specs.List.{list_all}
use Rattle.ssu_ir.specs.View.{labels_view}
use Rattle.place_plan.specs.Plan.{plan_view}
use Rattle.place_ir_checks.specs.inner.Checks as checks
use Rattle.place_ir_checks.specs.inner.NodeLookups.{place_at}
use Rattle.place_ir_checks.proofs.Valued.{entry-values}
use Rattle.place_ir_checks.proofs.values.values_fit.Goals as goal

pub returns-in-None : goal.returns-in-None
returns-in-None c =
    c.params_fit.ensures
    ∙ ap (list_all (checks.param_fits (checks.found (labels_view c.args.s.now) (plan_view c.args.p.now)) (plan_view c.args.p.now))) c.values_at.ensures
    ∙ entry-values (checks.found (labels_view c.args.s.now) (plan_view c.args.p.now)) (plan_view c.args.p.now) c.args.k (place_at (labels_view c.args.s.now) c.args.k) c.in-None.ensures
