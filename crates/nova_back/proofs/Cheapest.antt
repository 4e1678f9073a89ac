-- Each placement that fits has a vector that meets the rows and costs the same. So none costs less than a vector that costs least, and none
-- fits where no vector meets the rows.
use Rattle.std.proofs.Common.{◌≡◌, ℕ, Bool, true, ◌≤◌, List, map, refl, ap, subst, ◌∙◌}
use Rattle.ssu_ir.specs.Single.{single}
use Rattle.ssu_ir.specs.Tree.{Label}
use Rattle.zo_model.specs.Program.{Feasible, cost_of, costs_of, vector}
use Rattle.zo_cert.specs.declared.report.Report.{Report}
use Rattle.place_plan.specs.Fits.{Fits}
use Rattle.place_plan.specs.Plan.{Plan}
use Rattle.place_plan.specs.Weighted.{weighted_cost}
use Rattle.bank_prog_form.specs.Columns.{columns}
use Rattle.bank_prog.specs.Meaning.{IsFeasible}
use Rattle.bank_prog.proofs.LawsRows.{feasible-by-name}
use Rattle.reg_assign_reading.specs.inner.Chosen.{chosen}
use Rattle.reg_assign_reading.proofs.ChosenVector.{IsVector, vector-feasible, vector-weighted}
use Rattle.nova_back.specs.Causes.{IsReportOn, report_cost}

-- the vector of a placement
abbrev vector-of : List Label → Plan → List Bool
vector-of labels p = map (chosen labels p) (columns labels)

is-vector : (labels : List Label) (p : Plan) → IsVector labels p (vector-of labels p)
is-vector labels p = record { is = refl }

fits-meets : (labels : List Label) (slots : ℕ) (ws : List ℕ) (budget : ℕ) (r : Report) → single labels ≡ true → IsReportOn labels slots ws budget r → (p : Plan) → Fits labels p → p.slots ≡ slots → Feasible r.z (vector (vector-of labels p))
fits-meets labels slots ws budget r once on p fits same =
    let xs = vector-of labels p in
    let meets : IsFeasible labels slots (vector xs) = subst (λ n. IsFeasible labels n (vector xs)) same (vector-feasible labels p xs once fits (is-vector labels p)) in
    (feasible-by-name r.z labels slots ws (vector xs) on.program).1 meets

pub cheapest-of : (labels : List Label) (slots : ℕ) (ws : List ℕ) (budget : ℕ) (r : Report) → single labels ≡ true → IsReportOn labels slots ws budget r
    → ((x : ℕ → Bool) → Feasible r.z x → report_cost r ≤ cost_of r.z x) → (p : Plan) → Fits labels p → p.slots ≡ slots → report_cost r ≤ weighted_cost labels ws p
cheapest-of labels slots ws budget r once on least p fits same =
    let xs = vector-of labels p in
    let costs = ap (λ c. costs_of c.costs (vector xs)) on.program ∙ vector-weighted labels p xs once fits (is-vector labels p) ws in
    subst (λ n. report_cost r ≤ n) costs (least (vector xs) (fits-meets labels slots ws budget r once on p fits same))

pub none-fits : (labels : List Label) (slots : ℕ) (ws : List ℕ) (budget : ℕ) (r : Report) → single labels ≡ true → IsReportOn labels slots ws budget r
    → ((x : ℕ → Bool) → Feasible r.z x → ⊥) → (p : Plan) → Fits labels p → p.slots ≡ slots → ⊥
none-fits labels slots ws budget r once on none p fits same = none (vector (vector-of labels p)) (fits-meets labels slots ws budget r once on p fits same)
