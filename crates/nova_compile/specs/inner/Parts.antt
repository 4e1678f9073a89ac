-- What the compilation of a text comes to.
use Rattle.std.specs.Prelude.{◌≤◌, ◌<◌, ◌^◌, ℕ, List, All, length, ⊤}
use Rattle.nv_ast.specs.Tree.{ProgramTree}
use Rattle.nv_ast.specs.TypedView.{typed_program}
use Rattle.ssu_ir.specs.View.{labels_view}
use Rattle.zo_cert.specs.Report.{IsValidReport}
use Rattle.zo_cert.specs.declared.report.Report.{Report}
use Rattle.zo_cert.specs.declared.report.Verdict.{Verdict}
use Rattle.zo_model.specs.Program.{vector}
use Rattle.nova_back.specs.Causes.{IsCodeOf, AreStartsOf, IsReportOn}
use Rattle.nova_back.specs.Placed.{IsPlacedBy}
use Rattle.nova_compile.specs.Sources.{IsTypedSource}
use Rattle.nova_compile.specs.Forms.{form_bound, IsCodeFor, IsBoundedFormOf, HasBanks, HasNoBanks}
use Rattle.nova_compile.specs.declared.build.Compiled.{Compiled}
use Rattle.nova_compile.specs.declared.build.CompileError.{CompileError}
use Rattle.nova_compile.specs.declared.build.CompileError.TheVariants as compile

-- The form that is returned beside the code is one of the program. The code is that of this form, whose labels start at these places. The
-- report is on its banks, and the code is by a placement that is read from its vector.
pub record IsOfItsForm (slots : ℕ) (ws : List ℕ) (budget : ℕ) (t : Compiled) : Type 0 where
  pub is_form : IsBoundedFormOf (typed_program t.typed) (labels_view t.built.ssu)
  pub code : IsCodeOf (labels_view t.built.ssu) slots t.built.code
  pub starts : AreStartsOf (labels_view t.built.ssu) t.built.code t.built.starts.items
  pub report : IsReportOn (labels_view t.built.ssu) slots ws budget t.built.report
  pub placed : IsPlacedBy (labels_view t.built.ssu) slots (vector t.built.report.x.on.items) t.built.code.list

-- the typed program of the text, its form and code, and the report on its banks
pub record IsBuilt (text : List ℕ) (slots : ℕ) (ws : List ℕ) (budget store : ℕ) (t : Compiled) : Type 0 where
  pub is_source : IsTypedSource text (typed_program t.typed)
  pub code : IsCodeFor (typed_program t.typed) t.built.code
  pub short : length t.built.code.list ≤ store
  pub brief : length t.built.code.list ≤ form_bound (typed_program t.typed)
  pub form : IsOfItsForm slots ws budget t
  pub banks : HasBanks (typed_program t.typed) slots ws budget t.built.code t.built.starts.items t.built.report

-- the text has a typed program, and the report says with this verdict why no banks were found for it
pub record IsWithoutBanks (text : List ℕ) (slots : ℕ) (ws : List ℕ) (budget : ℕ) (verdict : Verdict) (r : Report) : Type 0 where
  pub program : ProgramTree
  pub is_source : IsTypedSource text program
  pub without : HasNoBanks program slots ws budget verdict r

-- its report is valid, and its starts are as an object can have them
pub record HasParts (t : Compiled) : Type 0 where
  pub report : IsValidReport t.built.report
  pub starts : length t.built.starts.items ≤ 2 ^ 20
  pub inside : All (λ start. start < length t.built.code.list) t.built.starts.items

-- where the error has a report, that is valid
abbrev pub HasValidReport : CompileError → Type 0
HasValidReport (compile.Infeasible r) = IsValidReport r
HasValidReport (compile.Spent r) = IsValidReport r
HasValidReport _ = ⊤
