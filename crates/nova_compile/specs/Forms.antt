-- The forms in single use of a program, their banks and its code, and why it has none.
use Rattle.std.specs.Prelude.{◌≡◌, ◌≤◌, ◌<◌, ◌+◌, ◌*◌, ◌^◌, ◌⊎◌, ℕ, Bool, true, List, length}
use Rattle.nv_ast.specs.Sizes.{expanded_size, main_words, room}
use Rattle.nv_ast.specs.Tree.{ProgramTree}
use Rattle.nv_base.specs.Meanings.{KeepsOutcomes}
use Rattle.nv_meaning.specs.Meaning.{source}
use Rattle.ssu_ir.specs.Meaning.{ssu_meaning, ssu_params}
use Rattle.ssu_ir.specs.Measures.{peak, size, code_bound}
use Rattle.ssu_ir.specs.Single.{single}
use Rattle.ssu_ir.specs.Tree.{Label}
use Rattle.place_plan.specs.Fits.{Fits}
use Rattle.place_plan.specs.Plan.{Plan}
use Rattle.place_plan.specs.Weighted.{weighted_cost}
use Rattle.bank_prog_form.specs.Columns.{columns}
use Rattle.bank_prog_form.specs.Program.{rows, IsTooLarge}
use Rattle.uc_isa.specs.Agrees.{Agrees}
use Rattle.uc_isa.specs.Code.{CodeView}
use Rattle.uc_isa.specs.Lawful.{IsLawful}
use Rattle.uc_isa.specs.Moves.{moves}
use Rattle.zo_model.specs.Program.{cost_of, vector, Feasible}
use Rattle.zo_cert.specs.declared.report.Report.{Report}
use Rattle.zo_cert.specs.declared.report.Verdict.{Verdict}
use Rattle.zo_cert.specs.declared.report.Verdict.TheVariants.{Optimal, Infeasible}
use Rattle.nova_back.specs.Causes.{IsCodeOf, AreStartsOf, IsReportOn, IsCheapFor, IsWithout, HasVector, report_cost}
use Rattle.nova_back.specs.Placed.{IsPlacedBy}
use Rattle.nova_middle.specs.Reduced.{IsMadeOfReduced}

-- what bounds the size of a program's form, and the length of its code
abbrev pub form_bound : ProgramTree → ℕ
form_bound program = 48 * (expanded_size program * (room program + 8))

-- what bounds the columns and the rows of the program of its banks, each: 64 for each unit of the form's size
abbrev pub banks_bound : ProgramTree → ℕ
banks_bound program = 64 * form_bound program

-- a form in single use that has the program's outcomes
pub record IsFormOf (program : ProgramTree) (labels : List Label) : Type 0 where
  pub used_once : single labels ≡ true
  pub kept : KeepsOutcomes (main_words program) (ssu_params labels) (source program) (ssu_meaning labels)

-- the same of a form that keeps to the program's bounds, made of a flow in which the passes have nothing left to do
pub record IsBoundedFormOf (program : ProgramTree) (labels : List Label) : Type 0 where
  pub form : IsFormOf program labels
  pub made : IsMadeOfReduced labels
  pub narrow : peak labels ≤ room program
  pub small : size labels ≤ form_bound program
  pub brief : code_bound labels ≤ form_bound program

-- lawful code that does what the program says
pub record IsCodeFor (program : ProgramTree) (c : CodeView) : Type 0 where
  pub lawful : IsLawful c.list
  pub agrees : Agrees (main_words program) (source program) c

-- no placement that fits the form with N slots costs less than this, under the weights of the labels
abbrev pub IsCheapest : List Label → ℕ → List ℕ → ℕ → Type 0
IsCheapest labels slots ws n = (p : Plan) → Fits labels p → p.slots ≡ slots → n ≤ weighted_cost labels ws p

-- no placement fits the form with N slots
abbrev pub NoneFits : List Label → ℕ → Type 0
NoneFits labels slots = (p : Plan) → Fits labels p → p.slots ≡ slots → ⊥

-- The report is on the banks of a form of the program, whose labels have these weights, with a vector that meets the rows. Where the
-- verdict is optimal, no vector that meets them costs less, and so no placement that fits the form. The code is that of the form with these slots, and the form's labels start at these
-- places. Under the weights the code's moves cost no more than the report's vector; where all live values at once fit a bank, that
-- is at most 2 a value and 1 a use, each times the greatest weight of a label.
pub record HasBanks (program : ProgramTree) (slots : ℕ) (ws : List ℕ) (budget : ℕ) (code : CodeView) (starts : List ℕ) (r : Report) : Type 0 where
  pub form : List Label
  pub is_form : IsBoundedFormOf program form
  pub report : IsReportOn form slots ws budget r
  pub found : HasVector r.verdict
  pub meets : Feasible r.z (vector r.x.on.items)
  pub optimal : r.verdict ≡ Optimal → (x : ℕ → Bool) → Feasible r.z x → report_cost r ≤ cost_of r.z x
  pub cheapest : r.verdict ≡ Optimal → IsCheapest form slots ws (report_cost r)
  pub form_code : IsCodeOf form slots code
  pub labels_start : AreStartsOf form code starts
  pub light : moves code.list starts ws ≤ report_cost r
  pub cheap : peak form ≤ 15 → IsCheapFor form ws (report_cost r)

-- the program of the banks of a form of the program has N columns, or else rows, and more than fit
pub record HasLargeBanks (program : ProgramTree) (slots n : ℕ) : Type 0 where
  pub form : List Label
  pub is_form : IsBoundedFormOf program form
  pub large : IsTooLarge form slots n
  pub bounded : n ≤ banks_bound program

-- no program of the banks of a form of the program is too large: the bound fits, or else all columns and all rows do
abbrev pub HasSmallBanks : ProgramTree → ℕ → Type 0
HasSmallBanks program slots =
    (banks_bound program ≤ 2 ^ 26)
    ⊎ ((form : List Label) → IsBoundedFormOf program form → (length (columns form) ≤ 2 ^ 26) × (length (rows form slots) ≤ 2 ^ 26))

-- The report is on the banks of a form of the program, has no vector, and says why. Where the verdict is infeasible, no placement fits the
-- form. The form holds more values at once than there are slots, so the program has more room.
pub record HasNoBanks (program : ProgramTree) (slots : ℕ) (ws : List ℕ) (budget : ℕ) (verdict : Verdict) (r : Report) : Type 0 where
  pub form : List Label
  pub is_form : IsBoundedFormOf program form
  pub without : IsWithout form slots ws budget verdict r
  pub none : verdict ≡ Infeasible → NoneFits form slots
  pub few_slots : slots < room program

-- the program of the banks of a form of the program fits, and the code that the vector of the report on them gives has so many instructions,
-- more than were allowed
pub record HasLongCode (program : ProgramTree) (slots : ℕ) (ws : List ℕ) (budget store n : ℕ) : Type 0 where
  pub r : Report
  pub c : CodeView
  pub starts : List ℕ
  pub code : IsCodeFor program c
  pub banks : HasBanks program slots ws budget c starts r
  pub placed : IsPlacedBy banks.form slots (vector r.x.on.items) c.list
  pub few : length (columns banks.form) ≤ 2 ^ 26
  pub few_rows : length (rows banks.form slots) ≤ 2 ^ 26
  pub counted : n ≡ length c.list
  pub bounded : n ≤ form_bound program
  pub long : store < n
