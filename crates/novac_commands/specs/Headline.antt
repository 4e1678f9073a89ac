-- The headline: what holds when `compile` ends with 0.
use Rattle.std.specs.Prelude.{◌≡◌, ◌≤◌, ℕ, Bool, List, [], ◌∷◌, Option, Some, length}
use Rattle.nv_outside.specs.Holding.{Holding}
use Rattle.nv_ast.specs.Sizes.{main_words}
use Rattle.nv_ast.specs.Tree.{ProgramTree}
use Rattle.nv_meaning.specs.Meaning.{source}
use Rattle.nova_compile.specs.Sources.{IsSource}
use Rattle.ssu_ir.specs.Tree.{Label}
use Rattle.bank_prog.specs.Weighted.{weighted_program}
use Rattle.uc_isa.specs.Agrees.{Agrees}
use Rattle.uc_isa.specs.Code.{CodeView}
use Rattle.uc_isa.specs.Lawful.{IsLawful}
use Rattle.uc_isa.specs.Moves.{moves}
use Rattle.uc_object.specs.Object.{IsTaggedObject}
use Rattle.uc_object.specs.Tagged.{TaggedView}
use Rattle.zo_cert.specs.Contents.{report_contents}
use Rattle.zo_cert.specs.Report.{IsTrueReport}
use Rattle.zo_cert.specs.ReportText.{report_text}
use Rattle.zo_cert.specs.declared.report.Report.{Report}
use Rattle.zo_cert.specs.declared.report.Verdict.TheVariants.{Optimal}
use Rattle.zo_model.specs.Contents.{contents}
use Rattle.zo_model.specs.Program.{cost_of, vector, Feasible}
use Rattle.nova_back.specs.Causes.{HasVector}
use Rattle.nova_compile.specs.Forms.{IsFormOf}
use Rattle.nova_compile.specs.Naming.{source_exceptions}
use Rattle.novac_commands.specs.Weighing.{HasWeights}
use Rattle.novac_machine.specs.Saving.{IsSameBut}

-- The report is a true one on the 0-1 program of the banks of a form that has the program's outcomes, with these slots and under these
-- weights of the form's labels. It has a vector that meets the rows. Where the verdict is optimal, no vector that meets them costs less.
-- By the starts of the labels the code's moves cost at most what the report's vector does.
pub record IsReportFor (program : ProgramTree) (slots : ℕ) (ws : List ℕ) (budget : ℕ) (c : CodeView) (starts : List ℕ) (r : Report) : Type 0 where
  pub form : List Label
  pub is_form : IsFormOf program form
  pub banks : contents r.z ≡ weighted_program form slots ws
  pub slots_are : r.slots ≡ slots
  pub budget_is : r.budget ≡ budget
  pub is_true : IsTrueReport r
  pub found : HasVector r.verdict
  pub meets : Feasible r.z (vector r.x.on.items)
  pub optimal : r.verdict ≡ Optimal → (x : ℕ → Bool) → Feasible r.z x → cost_of r.z (vector r.x.on.items) ≤ cost_of r.z x
  pub light : moves c.list starts ws ≤ cost_of r.z (vector r.x.on.items)

-- The source is held, and the object that was saved decodes to lawful code of at most so many instructions. From every packet memory and for
-- all arguments the code does what the source does, both ways. The object names the source's exceptions. The report that was saved is the
-- text of such a report, and no other file changed.
pub record KeepsItsPromise (old new : Holding) (source_name object_name report_name : List ℕ) (slots budget store : ℕ) (weights_name : Option (List ℕ)) : Type 0 where
  pub text : List ℕ
  pub held : old source_name ≡ Some text
  pub program : ProgramTree
  pub is_source : IsSource text program
  pub object : List ℕ
  pub saved : new object_name ≡ Some object
  pub tagged : TaggedView
  pub decodes : IsTaggedObject object tagged
  pub lawful : IsLawful tagged.code.list
  pub short : length tagged.code.list ≤ store
  pub agrees : Agrees (main_words program) (source program) tagged.code
  pub exceptions : tagged.exceptions ≡ source_exceptions text program
  pub ws : List ℕ
  pub weighed : HasWeights old weights_name ws
  pub r : Report
  pub reported : new report_name ≡ Some (report_text (report_contents r))
  pub report : IsReportFor program slots ws budget tagged.code tagged.starts r
  pub elsewhere : IsSameBut (object_name ∷ report_name ∷ []) old new
