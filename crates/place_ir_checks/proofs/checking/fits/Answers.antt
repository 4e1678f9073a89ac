use Rattle.std.proofs.Common.{◌∙◌, sym}
use Rattle.ssu_ir.specs.View.{labels_view}
use Rattle.place_plan.specs.Plan.{plan_view}
use Rattle.place_ir_checks.proofs.Decided.{fits-from, fits-to}
use Rattle.place_ir_checks.proofs.checking.fits.Goals as goal

pub returns-clause-fits : goal.returns-clause-fits
returns-clause-fits c = λ e. fits-from (labels_view c.args.s.now) (plan_view c.args.p.now) c.requires.single (sym c.does_fit.ensures ∙ e)

pub returns-clause-only_fits : goal.returns-clause-only_fits
returns-clause-only_fits c = λ f. c.does_fit.ensures ∙ fits-to (labels_view c.args.s.now) (plan_view c.args.p.now) c.requires.single f
