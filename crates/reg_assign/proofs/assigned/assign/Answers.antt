use Rattle.std.proofs.Common.{◌≡◌, ℕ, ◌≤◌, List, sym, ap, subst, ◌∙◌}
use Rattle.std.proofs.lemmas.Result.{IfOk-weaker}
use Rattle.ssu_ir.specs.Single.{single}
use Rattle.ssu_ir.specs.View.{labels_view}
use Rattle.place_plan.specs.declared.place.Placement.{Placement}
use Rattle.place_plan.specs.Costs.{cost}
use Rattle.place_plan.specs.Fits.{Fits}
use Rattle.place_plan.specs.Plan.{plan_view}
use Rattle.zo_model.specs.Program.{vector, costs_of}
use Rattle.bank_prog_form.specs.Columns.{costs}
use Rattle.bank_prog.specs.Meaning.{IsFeasible}
use Rattle.bank_prog.specs.Weighted.{weighted_costs}
use Rattle.place_plan.specs.ByLabel.{label_cost}
use Rattle.place_plan.specs.Weighted.{weighted_cost}
use Rattle.reg_assign_reading.specs.ByLabel.{label_price}
use Rattle.reg_assign.specs.Assigned.{IsAssigned, IsReadFrom}
use Rattle.reg_assign.proofs.Promised.{assigned-of}
use Rattle.reg_assign.proofs.assigned.assign.Goals as goal

pub assign_by-requires-clause-single : goal.assign_by-requires-clause-single
assign_by-requires-clause-single c = ap (λ t. single (labels_view t)) c.in-Ok.ensures.form ∙ c.requires.single

pub assign_by-requires-clause-feasible : goal.assign_by-requires-clause-feasible
assign_by-requires-clause-feasible c = subst (λ t. IsFeasible (labels_view t) c.args.slots (vector c.args.x.now.on.items)) (sym c.in-Ok.ensures.form) c.requires.feasible

pub returns-in-Ok-clause-read : goal.returns-in-Ok-clause-read
returns-in-Ok-clause-read c =
    let s = c.args.s.now in
    let x = vector c.args.x.now.on.items in
    IfOk-weaker c.assign_by.result (IsAssigned (labels_view s) c.args.slots x) (λ (p : Placement). IsReadFrom (labels_view s) c.args.slots x p) (λ p h. h.read)
    (assigned-of c.in-Ok.bank.form.ssu.now s c.args.slots x c.assign_by.result c.in-Ok.ensures.form c.assign_by.ensures)

pub returns-in-Ok-clause-fits : goal.returns-in-Ok-clause-fits
returns-in-Ok-clause-fits c =
    let s = c.args.s.now in
    let x = vector c.args.x.now.on.items in
    IfOk-weaker c.assign_by.result (IsAssigned (labels_view s) c.args.slots x) (λ (p : Placement). Fits (labels_view s) (plan_view p)) (λ p h. h.fits)
    (assigned-of c.in-Ok.bank.form.ssu.now s c.args.slots x c.assign_by.result c.in-Ok.ensures.form c.assign_by.ensures)

pub returns-in-Ok-clause-slots : goal.returns-in-Ok-clause-slots
returns-in-Ok-clause-slots c =
    let s = c.args.s.now in
    let x = vector c.args.x.now.on.items in
    IfOk-weaker c.assign_by.result (IsAssigned (labels_view s) c.args.slots x) (λ (p : Placement). p.slots ≡ c.args.slots) (λ p h. h.slots_are)
    (assigned-of c.in-Ok.bank.form.ssu.now s c.args.slots x c.assign_by.result c.in-Ok.ensures.form c.assign_by.ensures)

pub returns-in-Ok-clause-cost : goal.returns-in-Ok-clause-cost
returns-in-Ok-clause-cost c =
    let s = c.args.s.now in
    let x = vector c.args.x.now.on.items in
    IfOk-weaker c.assign_by.result (IsAssigned (labels_view s) c.args.slots x) (λ (p : Placement). cost (labels_view s) (plan_view p) ≤ costs_of (costs (labels_view s)) x) (λ p h. h.paid)
    (assigned-of c.in-Ok.bank.form.ssu.now s c.args.slots x c.assign_by.result c.in-Ok.ensures.form c.assign_by.ensures)

pub returns-in-Ok-clause-label_cost : goal.returns-in-Ok-clause-label_cost
returns-in-Ok-clause-label_cost c =
    let s = c.args.s.now in
    let x = vector c.args.x.now.on.items in
    IfOk-weaker c.assign_by.result (IsAssigned (labels_view s) c.args.slots x) (λ (p : Placement). (l : ℕ) → label_cost (labels_view s) l (plan_view p) ≤ label_price (labels_view s) l x) (λ p h. h.label_paid)
    (assigned-of c.in-Ok.bank.form.ssu.now s c.args.slots x c.assign_by.result c.in-Ok.ensures.form c.assign_by.ensures)

pub returns-in-Ok-clause-weighted_cost : goal.returns-in-Ok-clause-weighted_cost
returns-in-Ok-clause-weighted_cost c =
    let s = c.args.s.now in
    let x = vector c.args.x.now.on.items in
    IfOk-weaker c.assign_by.result (IsAssigned (labels_view s) c.args.slots x) (λ (p : Placement). (ws : List ℕ) → weighted_cost (labels_view s) ws (plan_view p) ≤ costs_of (weighted_costs (labels_view s) ws) x) (λ p h. h.weighted_paid)
    (assigned-of c.in-Ok.bank.form.ssu.now s c.args.slots x c.assign_by.result c.in-Ok.ensures.form c.assign_by.ensures)
