-- What the back end makes of a form in single use: lawful code and a true report, and why it makes none.
use Rattle.std.specs.Prelude.{◌≡◌, ◌≤◌, ◌<◌, ◌+◌, ◌-◌, ◌*◌, ◌^◌, ℕ, List, length, ⊤}
use Rattle.ssu_ir.specs.Entered.{entered}
use Rattle.ssu_ir.specs.Meaning.{ssu_meaning, ssu_params}
use Rattle.ssu_ir.specs.Measures.{peak, size, code_bound}
use Rattle.ssu_ir.specs.Tree.{Label}
use Rattle.place_plan.specs.Uses.{values, uses}
use Rattle.uc_isa.specs.Agrees.{Agrees}
use Rattle.uc_isa.specs.Code.{CodeView}
use Rattle.uc_isa.specs.Lawful.{IsLawful}
use Rattle.uc_isa.specs.Moves.{moves}
use Rattle.place_weights.specs.Weighted.{weight_of}
use Rattle.uc_isa.specs.Entries.{IsVisited}
use Rattle.uc_isa.specs.Entry.{AssumesNoMore}
use Rattle.uc_peep.specs.Needless.{HasNoNeedless}
use Rattle.uc_isa.specs.Starts.{AreStarts}
use Rattle.ucode_emit.specs.SpillBase.{SpillsByBase}
use Rattle.ucode_emit.specs.Operations.{code_operations, form_operations}
use Rattle.nova_back.specs.LeftOut.{LeavesOut}
use Rattle.nova_back.specs.Placed.{IsPlacedBy}
use Rattle.zo_model.specs.Contents.{contents}
use Rattle.zo_model.specs.Program.{columns, cost_of, vector}
use Rattle.zo_cert.specs.Certificate.{IsTreeWith, branches}
use Rattle.zo_cert.specs.Report.{IsValidReport, IsTrueReport}
use Rattle.zo_cert.specs.Searched.{IsSearched}
use Rattle.zo_cert_tree.specs.declared.cert.Claim.{Claim}
use Rattle.zo_cert_tree.specs.declared.cert.Claim.TheVariants.{Least, Nothing}
use Rattle.zo_cert.specs.declared.report.Report.{Report}
use Rattle.zo_cert.specs.declared.report.Verdict.{Verdict}
use Rattle.zo_cert.specs.declared.report.Verdict.TheVariants.{Optimal, Feasible, Infeasible, Spent}
use Rattle.bank_prog_form.specs.Program.{IsTooLarge}
use Rattle.bank_prog.specs.Weighted.{weighted_program}
use Rattle.nova_back.specs.declared.error.BackError.{BackError}
use Rattle.nova_back.specs.declared.error.BackError.TheVariants as back

-- ---- code

-- lawful code that does what the form says, from any engine that holds the arguments and the spill base. It has B15 for the addresses of N
-- slots alone, and of scratch from 512 on reaches these alone. Without its moves it is the operations of the form's nodes in order, but for
-- computations that nothing needs
pub record IsCodeOf (labels : List Label) (slots : ℕ) (c : CodeView) : Type 0 where
  pub lawful : IsLawful c.list
  pub agrees : Agrees (ssu_params labels) (ssu_meaning labels) c
  pub entry : AssumesNoMore (ssu_params labels) (ssu_meaning labels) slots c.list
  pub spills : SpillsByBase slots c.list
  pub does : LeavesOut (form_operations labels) (code_operations c.list)

-- where the labels of the form start in the code: the engine comes to the start of a label as often as the form's run enters the label,
-- and between the starts no instruction is needless
pub record AreStartsOf (labels : List Label) (c : CodeView) (starts : List ℕ) : Type 0 where
  pub starts_are : AreStarts (length labels) c.list starts
  pub visited : IsVisited (ssu_params labels) (entered labels) c.list starts
  pub settled : HasNoNeedless c.list starts

-- ---- reports

-- what the report's vector costs
abbrev pub report_cost : Report → ℕ
report_cost r = cost_of r.z (vector r.x.on.items)

-- the claim that the closed leaves of a report's tree are closed for
abbrev pub claim_of : Verdict → Report → Claim
claim_of Optimal r = Least (report_cost r)
claim_of Feasible r = Least (report_cost r)
claim_of Infeasible r = Nothing
claim_of Spent r = Nothing

-- the report has a vector that meets the rows
abbrev pub HasVector : Verdict → Type 0
HasVector Optimal = ⊤
HasVector Feasible = ⊤
HasVector Infeasible = ⊥
HasVector Spent = ⊥

-- the search came to its end
abbrev pub IsEnded : Verdict → Type 0
IsEnded Optimal = ⊤
IsEnded Feasible = ⊥
IsEnded Infeasible = ⊤
IsEnded Spent = ⊥

-- a true report on the program of the banks of a form under weights of its labels, with a tree that was searched within the budget. A
-- budget that is enough for every tree over the program's columns ends every search
pub record IsReportOn (labels : List Label) (slots : ℕ) (ws : List ℕ) (budget : ℕ) (r : Report) : Type 0 where
  pub valid : IsValidReport r
  pub holds : IsTrueReport r
  pub program : contents r.z ≡ weighted_program labels slots ws
  pub slots_are : r.slots ≡ slots
  pub budget_is : r.budget ≡ budget
  pub searched : IsTreeWith (IsSearched r.z (claim_of r.verdict r)) r.tree
  pub within_budget : branches r.tree.nodes.items ≤ budget
  pub ended : 2 ^ (columns r.z + 1) - 1 ≤ budget → IsEnded r.verdict

-- two copies a value, and one a use
abbrev pub copies_cost : List Label → ℕ
copies_cost labels = 2 * length (values labels) + length (uses labels)

-- no label of the form weighs more than this
abbrev pub WeighAtMost : List Label → List ℕ → ℕ → Type 0
WeighAtMost labels ws most = (l : ℕ) → l < length labels → weight_of ws l ≤ most

-- a vector that costs so much costs at most those copies, each times the greatest weight of a label
abbrev pub IsCheapFor : List Label → List ℕ → ℕ → Type 0
IsCheapFor labels ws cost = (most : ℕ) → WeighAtMost labels ws most → cost ≤ copies_cost labels * most

-- code by the vector of such a report, with its labels' starts: the moves cost at most what the vector does. Where all live values
-- at once fit a bank, that is at most two copies a value and one a use, each times the greatest weight of a label
pub record IsCodeBy (labels : List Label) (slots : ℕ) (ws : List ℕ) (budget : ℕ) (r : Report) (c : CodeView) (starts : List ℕ) : Type 0 where
  pub report : IsReportOn labels slots ws budget r
  pub found : HasVector r.verdict
  pub code : IsCodeOf labels slots c
  pub labels_start : AreStartsOf labels c starts
  pub light : moves c.list starts ws ≤ report_cost r
  pub cheap : peak labels ≤ 15 → IsCheapFor labels ws (report_cost r)

-- ---- causes

-- the form's program of the banks has N columns, or else rows, and more than fit: at most 64 for each point, value and use of the form
abbrev pub HasLargeProgram : List Label → ℕ → ℕ → Type 0
HasLargeProgram labels slots n = IsTooLarge labels slots n × (n ≤ 64 * size labels)

-- a report without a vector: at some point more values are held than fit a bank, and more than there are slots
pub record IsWithout (labels : List Label) (slots : ℕ) (ws : List ℕ) (budget : ℕ) (verdict : Verdict) (r : Report) : Type 0 where
  pub report : IsReportOn labels slots ws budget r
  pub says : r.verdict ≡ verdict
  pub over_bank : 15 < peak labels
  pub over_slots : slots < peak labels

-- the code that a report's vector gives has so many instructions, more than were allowed
pub record IsLong (labels : List Label) (slots : ℕ) (ws : List ℕ) (budget store n : ℕ) : Type 0 where
  pub r : Report
  pub c : CodeView
  pub starts : List ℕ
  pub code : IsCodeBy labels slots ws budget r c starts
  pub placed : IsPlacedBy labels slots (vector r.x.on.items) c.list
  pub counted : n ≡ length c.list
  pub bounded : n ≤ code_bound labels
  pub long : store < n

-- why a form has no code of at most so many instructions
abbrev pub IsCause : List Label → ℕ → List ℕ → ℕ → ℕ → BackError → Type 0
IsCause labels slots ws budget store back.NoMemory = ⊥
IsCause labels slots ws budget store (back.TooLarge n) = HasLargeProgram labels slots n
IsCause labels slots ws budget store (back.Infeasible r) = IsWithout labels slots ws budget Infeasible r
IsCause labels slots ws budget store (back.Spent r) = IsWithout labels slots ws budget Spent r
IsCause labels slots ws budget store (back.StoreFull n) = IsLong labels slots ws budget store n
