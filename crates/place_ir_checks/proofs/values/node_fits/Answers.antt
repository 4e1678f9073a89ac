use Rattle.std.proofs.Common.{◌∙◌, sym, ap}
use Rattle.std.specs.List.{list_all}
use Rattle.std.proofs.Math.Bool.{and-true}
use Rattle.ssu_ir.specs.Slots.{node_of}
use Rattle.ssu_ir.specs.View.{labels_view}
use Rattle.place_plan.specs.Plan.{plan_view, first}
use Rattle.place_plan.specs.Uses.{node_values}
use Rattle.place_ir_checks.specs.inner.Checks as checks
use Rattle.place_ir_checks.proofs.Valued.{fetched-all}
use Rattle.place_ir_checks.proofs.values.node_fits.Goals as goal

pub returns-in-Lit : goal.returns-in-Lit
returns-in-Lit c = c.result_fits.ensures ∙ sym (and-true (checks.result_fits (checks.found (labels_view c.args.s.now) (plan_view c.args.p.now)) (plan_view c.args.p.now) c.in-Lit.x)) ∙ ap (λ n. list_all (checks.value_fits (checks.found (labels_view c.args.s.now) (plan_view c.args.p.now)) (plan_view c.args.p.now)) (node_values c.args.k (node_of n))) (sym c.in-Lit.is)

pub returns-in-Una : goal.returns-in-Una
returns-in-Una c = c.result_fits-in-Una.ensures ∙ sym (and-true (checks.result_fits (checks.found (labels_view c.args.s.now) (plan_view c.args.p.now)) (plan_view c.args.p.now) c.in-Una.x)) ∙ ap (λ n. list_all (checks.value_fits (checks.found (labels_view c.args.s.now) (plan_view c.args.p.now)) (plan_view c.args.p.now)) (node_values c.args.k (node_of n))) (sym c.in-Una.is)

pub returns-in-Bin : goal.returns-in-Bin
returns-in-Bin c = c.result_fits-in-Bin.ensures ∙ sym (and-true (checks.result_fits (checks.found (labels_view c.args.s.now) (plan_view c.args.p.now)) (plan_view c.args.p.now) c.in-Bin.x)) ∙ ap (λ n. list_all (checks.value_fits (checks.found (labels_view c.args.s.now) (plan_view c.args.p.now)) (plan_view c.args.p.now)) (node_values c.args.k (node_of n))) (sym c.in-Bin.is)

pub returns-in-Read : goal.returns-in-Read
returns-in-Read c =
    c.fetched_fit.ensures
    ∙ ap (λ f. checks.fetched_fit (checks.found (labels_view c.args.s.now) (plan_view c.args.p.now)) (plan_view c.args.p.now) c.in-Read.m f 0 c.deref.result.now) c.first_of.ensures
    ∙ ap (λ xs. checks.fetched_fit (checks.found (labels_view c.args.s.now) (plan_view c.args.p.now)) (plan_view c.args.p.now) c.in-Read.m (first (plan_view c.args.p.now) c.args.k) 0 xs) c.deref.ensures
    ∙ fetched-all (checks.found (labels_view c.args.s.now) (plan_view c.args.p.now)) (plan_view c.args.p.now) c.args.k c.in-Read.m 0 c.in-Read.xs.items
    ∙ ap (λ n. list_all (checks.value_fits (checks.found (labels_view c.args.s.now) (plan_view c.args.p.now)) (plan_view c.args.p.now)) (node_values c.args.k (node_of n))) (sym c.in-Read.is)
