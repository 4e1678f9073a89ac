-- The placement that is read off from a vector that meets the rows fits, and costs no more than the vector.
use Rattle.std.proofs.Common.{◌≡◌, ℕ, ◌≤◌, Bool, true, List, map, sym, ap, subst, arith}
use Rattle.std.proofs.lemmas.Result.{IfOk-weaker}
use Rattle.std.specs.Prelude.{Result as Outcome, IfOk}
use Rattle.ssu_ir.specs.declared.ssu.Ssu.{Ssu}
use Rattle.ssu_ir.specs.Tree.{Label}
use Rattle.ssu_ir.specs.Single.{single}
use Rattle.ssu_ir.specs.View.{labels_view}
use Rattle.place_plan.specs.declared.place.Placement.{Placement}
use Rattle.place_plan.specs.Costs.{cost}
use Rattle.place_plan.specs.Fits.{Fits}
use Rattle.place_plan.specs.Plan.{Plan, home_view, plan_view}
use Rattle.zo_model.specs.Program.{vector, costs_of}
use Rattle.bank_prog_form.specs.Columns.{priced, costs}
use Rattle.bank_prog.specs.Meaning.{on, named_cost, IsFeasible}
use Rattle.bank_prog.proofs.LawsColumns.{on-there}
use Rattle.bank_prog.proofs.LawsCost.{costs-by-name}
use Rattle.reg_assign.specs.declared.given.AssignmentInputs.{AssignmentInputs}
use Rattle.reg_assign_reading.specs.declared.numbers.BankNumbers.{BankNumbers}
use Rattle.reg_assign_reading.specs.declared.reading.Reading.{Reading}
use Rattle.place_plan.specs.ByLabel.{label_cost}
use Rattle.reg_assign_reading.specs.ByLabel.{label_price}
use Rattle.reg_assign_reading.specs.inner.Facts.{OnlyThere}
use Rattle.reg_assign_reading.specs.ReadOff.{Numbers, AreNumbered, read_off, IsReadOff}
use Rattle.reg_assign.specs.inner.AssignmentInputs.{labels_in, says_in, numbers_in}
use Rattle.reg_assign_reading.specs.inner.Reading.{labels_of, says, numbers_of}
use Rattle.reg_assign.specs.Assigned.{IsAssigned}
use Rattle.reg_assign_reading.proofs.CostAll.{plan-cost, label-paid}
use Rattle.reg_assign_reading.proofs.Weighed.{weighted-paid}
use Rattle.reg_assign_reading.proofs.FitAll.{read-off-fits}

read-assigned : (labels : List Label) (n : ℕ) (v : ℕ → Bool) (numbers : Numbers) (p : Placement) → single labels ≡ true → n ≤ 128 → IsFeasible labels n v → AreNumbered labels n (on labels v) numbers → IsReadOff labels n (on labels v) numbers p
    → IsAssigned labels n v p
read-assigned labels n v numbers p form few rows numbered r =
    let hs = map home_view p.homes.items in
    let only : OnlyThere labels (on labels v) = λ c e. on-there labels v c e in
    let paid = plan-cost labels n (on labels v) numbers hs form only rows r.homes in
    let same : cost labels (plan_view p) ≡ cost labels (read_off labels n (on labels v) numbers hs) = ap (cost labels) r.same in
    let labels_paid : (l : ℕ) → label_cost labels l (plan_view p) ≤ label_price labels l v = subst (λ (q : Plan). (l : ℕ) → label_cost labels l q ≤ label_price labels l v) (sym r.same) (label-paid labels n v numbers hs form only rows r.homes) in
    let law : costs_of (costs labels) v ≡ named_cost (on labels v) (priced labels) = costs-by-name labels v form in
    record {
      read = record { numbers = numbers; numbered = numbered; same = r };
      fits = subst (λ (q : Plan). Fits labels q) (sym r.same) (read-off-fits labels n (on labels v) numbers hs form few only rows r.homes numbered);
      slots_are = ap (λ (q : Plan). q.slots) r.same;
      paid = omega arith;
      label_paid = labels_paid;
      weighted_paid = weighted-paid labels (plan_view p) v form labels_paid;
    }

-- the numbers of homes by which the vector that is read meets the rows
abbrev HasNumbers : Reading → BankNumbers → Type 0
HasNumbers r b = (n : ℕ) → n ≤ 128 → IsFeasible (labels_of r) n (vector r.x.now.on.items) → AreNumbered (labels_of r) n (says r) (numbers_of b)

pub assigned : {E : Type 0} (n : ℕ) (r : Reading) (b : BankNumbers) (g : AssignmentInputs) (o : Outcome Placement E) → g.reading ≡ r → g.numbers ≡ b → single (labels_of r) ≡ true → n ≤ 128 → IsFeasible (labels_of r) n (vector r.x.now.on.items)
    → HasNumbers r b → IfOk o (IsReadOff (labels_in g) n (says_in g) (numbers_in g)) → IfOk o (IsAssigned (labels_of r) n (vector r.x.now.on.items))
assigned n r b g o er eb form few rows numbered it = IfOk-weaker o (IsReadOff (labels_in g) n (says_in g) (numbers_in g)) (IsAssigned (labels_of r) n (vector r.x.now.on.items))
    (λ p q.
    let q' : IsReadOff (labels_of r) n (says r) (numbers_of g.numbers) p = subst (λ (t : Reading). IsReadOff (labels_of t) n (says t) (numbers_of g.numbers) p) er q in
    let q'' : IsReadOff (labels_of r) n (says r) (numbers_of b) p = subst (λ (t : BankNumbers). IsReadOff (labels_of r) n (says r) (numbers_of t) p) eb q' in
    read-assigned (labels_of r) n (vector r.x.now.on.items) (numbers_of b) p form few rows (numbered n few rows) q'')
    it

-- the same of the form whose tables were lent
pub assigned-of : {E : Type 0} (t s : Ssu) (n : ℕ) (x : ℕ → Bool) (o : Outcome Placement E) → t ≡ s → IfOk o (IsAssigned (labels_view t) n x) → IfOk o (IsAssigned (labels_view s) n x)
assigned-of t s n x o e h = IfOk-weaker o (IsAssigned (labels_view t) n x) (IsAssigned (labels_view s) n x) (λ p a. subst (λ (u : Ssu). IsAssigned (labels_view u) n x p) e a) h
