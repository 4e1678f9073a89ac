-- What the steps of the back end hand on: a choice to begin the search with, the report of the search, and why there is none.
use Rattle.std.specs.Prelude.{◌≡◌, ◌≤◌, ◌<◌, ◌+◌, ◌-◌, ◌^◌, ℕ, List, Option, Some, None, length, ⊤}
use Rattle.ssu_ir.specs.Measures.{peak}
use Rattle.ssu_ir.specs.Tree.{Label}
use Rattle.zo_model.specs.Program.{costs_of, vector}
use Rattle.zo_model.specs.Program as zero_one
use Rattle.zo_model.specs.declared.program.Assignment.{Assignment}
use Rattle.zo_model.specs.declared.program.ZeroOne.{ZeroOne}
use Rattle.zo_cert.specs.Certificate.{IsTreeWith, branches}
use Rattle.zo_cert.specs.Report.{IsValidReport, IsTrueReport}
use Rattle.zo_cert.specs.Searched.{IsSearched}
use Rattle.zo_cert.specs.declared.report.Report.{Report}
use Rattle.zo_cert.specs.declared.report.Verdict.{Verdict}
use Rattle.zo_cert.specs.declared.report.Verdict.TheVariants.{Optimal, Feasible, Infeasible, Spent}
use Rattle.zo_solve.specs.Solved.{CostsAtMost}
use Rattle.zo_solve_dive.specs.Vector.{IsVector, cost_at, start_cost}
use Rattle.bank_prog_form.specs.Columns.{columns}
use Rattle.bank_prog.specs.Weighted.{weighted_costs}
use Rattle.bank_prog.specs.Meaning.{IsFeasible}
use Rattle.nova_back.specs.Causes.{IsReportOn, IsWithout, HasLargeProgram, HasVector, IsEnded, IsCheapFor, claim_of, report_cost}
use Rattle.nova_back.specs.declared.error.BackError.{BackError}
use Rattle.nova_back.specs.declared.error.BackError.TheVariants as back

-- ---- where a search begins

-- one place for each column, and the vector meets the rows
pub record IsChoice (labels : List Label) (slots : ℕ) (x : Assignment) : Type 0 where
  pub one_a_column : length x.on.items ≡ length (columns labels)
  pub feasible : IsFeasible labels slots (vector x.on.items)

-- at some point more values are held than fit a bank, and more than fit the slots
pub record IsCrowded (labels : List Label) (slots : ℕ) : Type 0 where
  pub over_bank : 15 < peak labels
  pub over_slots : slots < peak labels

-- a choice to begin with; there is none only where the form is crowded
abbrev pub IsStart : List Label → ℕ → Option Assignment → Type 0
IsStart labels slots (Some x) = IsChoice labels slots x
IsStart labels slots None = IsCrowded labels slots

-- under all weights the choice to begin with costs at most two copies a value and one a use, each times the greatest weight of a label
abbrev pub IsCheap : List Label → Option Assignment → Type 0
IsCheap labels (Some x) = (ws : List ℕ) → IsCheapFor labels ws (costs_of (weighted_costs labels ws) (vector x.on.items))
IsCheap labels None = ⊤

-- what a search begins with in place of the start: a vector that is no dearer, or nothing where there was none
abbrev pub Betters : ZeroOne → Option Assignment → Option Assignment → Type 0
Betters z start (Some x) = IsVector z x × CostsAtMost (cost_at z x) (start_cost z start)
Betters z start None = start ≡ None

-- ---- where it ends

-- a search that was given a vector answers one
abbrev pub HadNone : Option Assignment → Verdict → Type 0
HadNone start Optimal = ⊤
HadNone start Feasible = ⊤
HadNone start Infeasible = start ≡ None
HadNone start Spent = start ≡ None

-- the report's vector is no dearer than that which the search was begun with
abbrev pub IsNoDearer : ZeroOne → Option Assignment → Verdict → Report → Type 0
IsNoDearer z start Optimal r = CostsAtMost (report_cost r) (start_cost z start)
IsNoDearer z start Feasible r = CostsAtMost (report_cost r) (start_cost z start)
IsNoDearer z start Infeasible r = ⊤
IsNoDearer z start Spent r = ⊤

-- the report of a search of this program that was begun so
pub record IsFound (z : ZeroOne) (start : Option Assignment) (slots budget : ℕ) (r : Report) : Type 0 where
  pub valid : IsValidReport r
  pub holds : IsTrueReport r
  pub program : r.z ≡ z
  pub slots_are : r.slots ≡ slots
  pub budget_is : r.budget ≡ budget
  pub searched : IsTreeWith (IsSearched r.z (claim_of r.verdict r)) r.tree
  pub within_budget : branches r.tree.nodes.items ≤ budget
  pub ended : 2 ^ (zero_one.columns r.z + 1) - 1 ≤ budget → IsEnded r.verdict
  pub had_none : HadNone start r.verdict
  pub no_dearer : IsNoDearer z start r.verdict r

-- ---- what it says of the form

-- without a vector the form is crowded
abbrev pub IsCrowdedWithout : List Label → ℕ → Verdict → Type 0
IsCrowdedWithout labels slots Optimal = ⊤
IsCrowdedWithout labels slots Feasible = ⊤
IsCrowdedWithout labels slots Infeasible = IsCrowded labels slots
IsCrowdedWithout labels slots Spent = IsCrowded labels slots

-- the report of a search on the form
pub record IsSearchOn (labels : List Label) (slots : ℕ) (ws : List ℕ) (budget : ℕ) (r : Report) : Type 0 where
  pub report : IsReportOn labels slots ws budget r
  pub crowded : IsCrowdedWithout labels slots r.verdict
  pub cheap : peak labels ≤ 15 → HasVector r.verdict → IsCheapFor labels ws (report_cost r)

-- such a report with a vector
pub record IsChosen (labels : List Label) (slots : ℕ) (ws : List ℕ) (budget : ℕ) (r : Report) : Type 0 where
  pub on_form : IsSearchOn labels slots ws budget r
  pub found : HasVector r.verdict

-- the report is told by its verdict
abbrev pub IsTold : Report → BackError → Type 0
IsTold report back.NoMemory = ⊥
IsTold report (back.TooLarge n) = ⊥
IsTold report (back.Infeasible r) = (r ≡ report) × (r.verdict ≡ Infeasible)
IsTold report (back.Spent r) = (r ≡ report) × (r.verdict ≡ Spent)
IsTold report (back.StoreFull n) = ⊥

-- why a form has no program of the banks
abbrev pub IsUnbuilt : List Label → ℕ → BackError → Type 0
IsUnbuilt labels slots back.NoMemory = ⊤
IsUnbuilt labels slots (back.TooLarge n) = HasLargeProgram labels slots n
IsUnbuilt labels slots (back.Infeasible r) = ⊥
IsUnbuilt labels slots (back.Spent r) = ⊥
IsUnbuilt labels slots (back.StoreFull n) = ⊥

-- why no choice is found for it
abbrev pub IsUnfound : List Label → ℕ → List ℕ → ℕ → BackError → Type 0
IsUnfound labels slots ws budget back.NoMemory = ⊤
IsUnfound labels slots ws budget (back.TooLarge n) = HasLargeProgram labels slots n
IsUnfound labels slots ws budget (back.Infeasible r) = IsWithout labels slots ws budget Infeasible r
IsUnfound labels slots ws budget (back.Spent r) = IsWithout labels slots ws budget Spent r
IsUnfound labels slots ws budget (back.StoreFull n) = ⊥
