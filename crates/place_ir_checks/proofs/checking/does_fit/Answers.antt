use Rattle.std.proofs.Common.{◌∙◌, sym}
use Rattle.ssu_ir.specs.View.{labels_view}
use Rattle.place_plan.specs.Plan.{plan_view}
use Rattle.place_ir_checks.proofs.Decided.{lists-ordered}
use Rattle.place_ir_checks.proofs.checking.does_fit.Goals as goal

pub uses_fit-requires : goal.uses_fit-requires
uses_fit-requires c = lists-ordered (labels_view c.args.s.now) (plan_view c.args.p.now) c.requires (sym c.lists_fit.ensures ∙ c.if-not-lists_fit.false)

pub points_fit-requires : goal.points_fit-requires
points_fit-requires c = lists-ordered (labels_view c.args.s.now) (plan_view c.args.p.now) c.requires (sym c.lists_fit.ensures ∙ c.if-not-lists_fit.false)
