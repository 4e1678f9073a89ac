-- What a compilation says, sentence by sentence, each by as few definitions as it needs.
use Rattle.std.specs.Prelude.{◌≡◌, ◌≤◌, ℕ, Bool, List, Option, Some, length}
use Rattle.nv_outside.specs.Holding.{Holding}
use Rattle.nv_ast.specs.Sizes.{main_words}
use Rattle.nv_ast.specs.Tree.{ProgramTree}
use Rattle.nv_base.specs.Meanings.{KeepsOutcomes}
use Rattle.nv_meaning.specs.Meaning.{source}
use Rattle.nova_compile.specs.Sources.{IsSource}
use Rattle.ssu_ir.specs.Entered.{entered}
use Rattle.ssu_ir.specs.Meaning.{ssu_meaning, ssu_params}
use Rattle.ssu_ir.specs.Tree.{Label}
use Rattle.place_plan.specs.Fits.{Fits}
use Rattle.place_plan.specs.Plan.{Plan}
use Rattle.place_plan.specs.Weighted.{weighted_cost}
use Rattle.uc_isa.specs.Agrees.{Agrees}
use Rattle.uc_isa.specs.Code.{CodeView}
use Rattle.uc_isa.specs.Lawful.{IsLawful}
use Rattle.uc_isa.specs.Moves.{moves}
use Rattle.uc_isa.specs.Entries.{IsVisited}
use Rattle.uc_isa.specs.Starts.{AreStarts}
use Rattle.uc_object.specs.Object.{IsTaggedObject}
use Rattle.uc_object.specs.Tagged.{TaggedView}
use Rattle.zo_cert.specs.Contents.{report_contents}
use Rattle.zo_cert.specs.Report.{IsTrueReport}
use Rattle.zo_cert.specs.ReportText.{report_text}
use Rattle.zo_cert.specs.declared.report.Report.{Report}
use Rattle.zo_cert.specs.declared.report.Verdict.TheVariants.{Optimal}
use Rattle.zo_model.specs.Contents.{contents}
use Rattle.zo_model.specs.Program.{cost_of, vector, Feasible}
use Rattle.bank_prog.specs.Weighted.{weighted_program}
use Rattle.novac_commands.specs.Compiling.{IsCompiled}
use Rattle.novac_commands.specs.Weighing.{HasWeights}

-- the source is the text of a program, and the object is that of lawful code that does what the program does
abbrev pub SaysAgreement : Type 0
SaysAgreement = (old new : Holding) (source_name object_name report_name : List ℕ) (slots budget store : ℕ) (weights_name : Option (List ℕ)) (line : List ℕ) → IsCompiled old new source_name object_name report_name slots budget store weights_name line
    → (text : List ℕ) × (old source_name ≡ Some text) × (object : List ℕ) × (new object_name ≡ Some object) × (program : ProgramTree) × IsSource text program
    × (tagged : TaggedView) × IsTaggedObject object tagged × IsLawful tagged.code.list × (length tagged.code.list ≤ store) × Agrees (main_words program) (source program) tagged.code

-- what the report says of a form with these weights: it is true, and its program is that of the form's banks. Where the verdict is optimal, no
-- vector that meets the rows costs less than its own, and no placement that fits the form with these slots
pub record SaysOf (labels : List Label) (slots : ℕ) (ws : List ℕ) (r : Report) : Type 0 where
  pub is_true : IsTrueReport r
  pub banks : contents r.z ≡ weighted_program labels slots ws
  pub meets : Feasible r.z (vector r.x.on.items)
  pub optimal : r.verdict ≡ Optimal → (x : ℕ → Bool) → Feasible r.z x → cost_of r.z (vector r.x.on.items) ≤ cost_of r.z x
  pub cheapest : r.verdict ≡ Optimal → (p : Plan) → Fits labels p → p.slots ≡ slots → cost_of r.z (vector r.x.on.items) ≤ weighted_cost labels ws p

-- the report is the text of one that says so of a form that has the program's outcomes, with the weights of the file that the command names
abbrev pub SaysReport : Type 0
SaysReport = (old new : Holding) (source_name object_name report_name : List ℕ) (slots budget store : ℕ) (weights_name : Option (List ℕ)) (line : List ℕ) → IsCompiled old new source_name object_name report_name slots budget store weights_name line
    → (text : List ℕ) × (old source_name ≡ Some text) × (program : ProgramTree) × IsSource text program
    × (r : Report) × (new report_name ≡ Some (report_text (report_contents r)))
    × (labels : List Label) × KeepsOutcomes (main_words program) (ssu_params labels) (source program) (ssu_meaning labels)
    × (ws : List ℕ) × HasWeights old weights_name ws × SaysOf labels slots ws r

-- Under the weights of a form's labels the moves of code cost at most what the vector of a report on the form's banks does. The code of a label begins
-- at its start: the engine comes there as often as a run of the form enters the label.
pub record MovesOf (labels : List Label) (slots : ℕ) (ws : List ℕ) (r : Report) (c : CodeView) (starts : List ℕ) : Type 0 where
  pub banks : contents r.z ≡ weighted_program labels slots ws
  pub starts_are : AreStarts (length labels) c.list starts
  pub visited : IsVisited (ssu_params labels) (entered labels) c.list starts
  pub light : moves c.list starts ws ≤ cost_of r.z (vector r.x.on.items)

-- so much do the moves of the object's code cost, by the saved report, by the object's starts, on a form that has the program's outcomes, and with the weights of the file
-- that the command names
abbrev pub SaysMoves : Type 0
SaysMoves = (old new : Holding) (source_name object_name report_name : List ℕ) (slots budget store : ℕ) (weights_name : Option (List ℕ)) (line : List ℕ) → IsCompiled old new source_name object_name report_name slots budget store weights_name line
    → (text : List ℕ) × (old source_name ≡ Some text) × (program : ProgramTree) × IsSource text program
    × (object : List ℕ) × (new object_name ≡ Some object) × (tagged : TaggedView) × IsTaggedObject object tagged
    × (r : Report) × (new report_name ≡ Some (report_text (report_contents r)))
    × (labels : List Label) × KeepsOutcomes (main_words program) (ssu_params labels) (source program) (ssu_meaning labels)
    × (ws : List ℕ) × HasWeights old weights_name ws × MovesOf labels slots ws r tagged.code tagged.starts
