use Rattle.std.proofs.Common.{◌≡◌, ℕ, List, length, map, sym, ap, subst, ◌∙◌}
use Rattle.std.proofs.lemmas.Result.{IfOk-weaker}
use Rattle.ssu_ir.specs.declared.ssu.Ssu.{Ssu}
use Rattle.ssu_ir.specs.Single.{single}
use Rattle.ssu_ir.specs.View.{labels_view}
use Rattle.place_plan.specs.Costs.{cost}
use Rattle.place_plan.specs.Fits.{Fits}
use Rattle.place_plan.specs.Plan.{plan_view}
use Rattle.zo_model.specs.declared.program.Assignment.{Assignment}
use Rattle.zo_model.specs.Program.{vector, costs_of}
use Rattle.bank_prog_form.specs.Columns.{columns, costs}
use Rattle.bank_prog.specs.Meaning.{IsFeasible}
use Rattle.bank_prog.specs.Weighted.{weighted_costs}
use Rattle.place_plan.specs.Weighted.{weighted_cost}
use Rattle.reg_assign_reading.specs.inner.Chosen.{chosen}
use Rattle.reg_assign.specs.Assigned.{IsVectorOf}
use Rattle.reg_assign.proofs.chosen.from_placement.Goals as goal

pub vector_of-requires-clause-single : goal.vector_of-requires-clause-single
vector_of-requires-clause-single c = ap (λ t. single (labels_view t)) c.in-Ok.ensures.form ∙ c.requires.single

pub vector_of-requires-clause-fits : goal.vector_of-requires-clause-fits
vector_of-requires-clause-fits c = subst (λ t. Fits (labels_view t) (plan_view c.args.p.now)) (sym c.in-Ok.ensures.form) c.requires.fits

pub returns-in-Ok-clause-columns : goal.returns-in-Ok-clause-columns
returns-in-Ok-clause-columns c =
    let s = c.args.s.now in
    let p = c.args.p.now in
    IfOk-weaker c.vector_of.result (IsVectorOf (labels_view c.in-Ok.bank.form.ssu.now) p) (λ (x : Assignment). length x.on.items ≡ length (columns (labels_view s)))
    (λ x h. (subst (λ (t : Ssu). IsVectorOf (labels_view t) p x) c.in-Ok.ensures.form h).one_a_column) c.vector_of.ensures

pub returns-in-Ok-clause-has : goal.returns-in-Ok-clause-has
returns-in-Ok-clause-has c =
    let s = c.args.s.now in
    let p = c.args.p.now in
    IfOk-weaker c.vector_of.result (IsVectorOf (labels_view c.in-Ok.bank.form.ssu.now) p) (λ (x : Assignment). x.on.items ≡ map (chosen (labels_view s) (plan_view p)) (columns (labels_view s)))
    (λ x h. (subst (λ (t : Ssu). IsVectorOf (labels_view t) p x) c.in-Ok.ensures.form h).has) c.vector_of.ensures

pub returns-in-Ok-clause-feasible : goal.returns-in-Ok-clause-feasible
returns-in-Ok-clause-feasible c =
    let s = c.args.s.now in
    let p = c.args.p.now in
    IfOk-weaker c.vector_of.result (IsVectorOf (labels_view c.in-Ok.bank.form.ssu.now) p) (λ (x : Assignment). IsFeasible (labels_view s) p.slots (vector x.on.items))
    (λ x h. (subst (λ (t : Ssu). IsVectorOf (labels_view t) p x) c.in-Ok.ensures.form h).feasible) c.vector_of.ensures

pub returns-in-Ok-clause-cost : goal.returns-in-Ok-clause-cost
returns-in-Ok-clause-cost c =
    let s = c.args.s.now in
    let p = c.args.p.now in
    IfOk-weaker c.vector_of.result (IsVectorOf (labels_view c.in-Ok.bank.form.ssu.now) p) (λ (x : Assignment). costs_of (costs (labels_view s)) (vector x.on.items) ≡ cost (labels_view s) (plan_view p))
    (λ x h. (subst (λ (t : Ssu). IsVectorOf (labels_view t) p x) c.in-Ok.ensures.form h).costs_same) c.vector_of.ensures

pub returns-in-Ok-clause-weighted_cost : goal.returns-in-Ok-clause-weighted_cost
returns-in-Ok-clause-weighted_cost c =
    let s = c.args.s.now in
    let p = c.args.p.now in
    IfOk-weaker c.vector_of.result (IsVectorOf (labels_view c.in-Ok.bank.form.ssu.now) p) (λ (x : Assignment). (ws : List ℕ) → costs_of (weighted_costs (labels_view s) ws) (vector x.on.items) ≡ weighted_cost (labels_view s) ws (plan_view p))
    (λ x h. (subst (λ (t : Ssu). IsVectorOf (labels_view t) p x) c.in-Ok.ensures.form h).weighted_same) c.vector_of.ensures
