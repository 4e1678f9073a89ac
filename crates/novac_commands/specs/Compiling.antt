-- What a compilation promises, and when it is refused.
use Rattle.std.specs.Prelude.{◌≡◌, ◌≤◌, ◌<◌, ◌⊎◌, ℕ, List, [], ◌∷◌, Option, Some, None, length, ⊤}
use Rattle.nv_outside.specs.Holding.{Holding, Replaced}
use Rattle.nv_ast.specs.Sizes.{main_words, room}
use Rattle.nv_ast.specs.Tree.{ProgramTree}
use Rattle.nv_meaning.specs.Meaning.{source}
use Rattle.uc_isa.specs.Agrees.{Agrees}
use Rattle.uc_isa.specs.Lawful.{IsLawful}
use Rattle.uc_object.specs.Object.{IsTaggedObject}
use Rattle.uc_object.specs.Tagged.{TaggedView}
use Rattle.zo_cert.specs.declared.report.Report.{Report}
use Rattle.zo_cert.specs.declared.report.Verdict.{Verdict}
use Rattle.zo_cert.specs.declared.report.Verdict.TheVariants as verdict
use Rattle.nova_back.specs.Causes.{report_cost}
use Rattle.nova_compile.specs.Sources.{IsTypedSource}
use Rattle.novac_commands.specs.Checking.{IsReportOf}
use Rattle.nova_compile.specs.Naming.{source_exceptions}
use Rattle.nova_compile.specs.Forms.{form_bound, HasBanks, HasSmallBanks, HasLargeBanks, HasNoBanks, HasLongCode}
use Rattle.novac_words.specs.Lines.{compiled_text, infeasible_text, spent_text}
use Rattle.novac_words.specs.Limits.{source_limit}
use Rattle.nova_compile.specs.Programs.{HasTyped}
use Rattle.novac_commands.specs.Reading.{SourceRefuses}
use Rattle.novac_commands.specs.Weighing.{AreWeighed, HasWeights, TextsRefuse}
use Rattle.novac_machine.specs.Saving.{File, file, IsSameBut}
use Rattle.novac_words.specs.declared.refusal.Refusal.{Refusal}
use Rattle.novac_words.specs.declared.refusal.Refusal.TheVariants.{SourceLarge, StoreFull}
use Rattle.novac_words.specs.declared.status.Status.{Status}
use Rattle.novac_words.specs.declared.status.Status.TheVariants as ends

-- ---- what is compiled

-- The object is that of lawful code, of this length, which does what the typed program of the text says; it names the program's exceptions,
-- and tells where the labels of a form of the program start. The report is the text of this one, which is true, on the banks of that form,
-- with these slots, weights of labels and budget: no vector that meets its rows costs less than its own, where the verdict is optimal, and
-- by those starts and the weights the code's moves cost no more.
pub record IsCompiledTo (text object report : List ℕ) (slots : ℕ) (ws : List ℕ) (budget store instructions : ℕ) (r : Report) : Type 0 where
  pub program : ProgramTree
  pub is_source : IsTypedSource text program
  pub tagged : TaggedView
  pub decodes : IsTaggedObject object tagged
  pub lawful : IsLawful tagged.code.list
  pub agrees : Agrees (main_words program) (source program) tagged.code
  pub exceptions : tagged.exceptions ≡ source_exceptions text program
  pub number : instructions ≡ length tagged.code.list
  pub short : instructions ≤ store
  pub brief : instructions ≤ form_bound program
  pub reports : IsReportOf report r
  pub banks : HasBanks program slots ws budget tagged.code tagged.starts r

-- the source and the weights are held; the object and the report are now those of its code and its banks, which are told, and no other file
-- changed
pub record IsCompiled (old new : Holding) (source_name object_name report_name : List ℕ) (slots budget store : ℕ) (weights_name : Option (List ℕ)) (line : List ℕ) : Type 0 where
  pub text : List ℕ
  pub held : old source_name ≡ Some text
  pub short : length text ≤ source_limit
  pub ws : List ℕ
  pub weighed : HasWeights old weights_name ws
  pub object : List ℕ
  pub saved : new object_name ≡ Some object
  pub report : List ℕ
  pub reported : new report_name ≡ Some report
  pub elsewhere : IsSameBut (object_name ∷ report_name ∷ []) old new
  pub instructions : ℕ
  pub r : Report
  pub compiled : IsCompiledTo text object report slots ws budget store instructions r
  pub told : line ≡ compiled_text instructions r.verdict (report_cost r)

-- ---- what isn't, for want of banks

-- with these statuses no banks were found, and a verdict says why
abbrev pub IfWithout : Status → (Verdict → Type 0) → Type 0
IfWithout ends.Infeasible P = P verdict.Infeasible
IfWithout ends.BudgetSpent P = P verdict.Spent
IfWithout _ P = ⊤

-- the source and the weights are held; the report is now the text of a true one on the banks of a form of its program, which has this
-- verdict, and no other file changed
pub record IsReported (old new : Holding) (source_name report_name : List ℕ) (slots budget : ℕ) (weights_name : Option (List ℕ)) (verdict : Verdict) : Type 0 where
  pub text : List ℕ
  pub held : old source_name ≡ Some text
  pub ws : List ℕ
  pub weighed : HasWeights old weights_name ws
  pub program : ProgramTree
  pub is_source : IsTypedSource text program
  pub report : List ℕ
  pub saved : Replaced old new report_name report
  pub r : Report
  pub reports : IsReportOf report r
  pub without : HasNoBanks program slots ws budget verdict r

-- ---- what `compile` saves and tells

-- the object of a source's code and the report on its banks are saved, and told
pub record CompiledMakes (text object_name report_name : List ℕ) (slots : ℕ) (ws : List ℕ) (budget store : ℕ) (files : List File) (line : List ℕ) : Type 0 where
  pub object : List ℕ
  pub report : List ℕ
  pub instructions : ℕ
  pub r : Report
  pub compiled : IsCompiledTo text object report slots ws budget store instructions r
  pub saves : files ≡ file object_name object ∷ file report_name report ∷ []
  pub told : line ≡ compiled_text instructions r.verdict (report_cost r)

-- no banks of a source's code were found: the report alone is saved, which is true and says why
pub record WithoutMakes (text report_name : List ℕ) (slots : ℕ) (ws : List ℕ) (budget : ℕ) (verdict : Verdict) (files : List File) : Type 0 where
  pub program : ProgramTree
  pub is_source : IsTypedSource text program
  pub report : List ℕ
  pub r : Report
  pub reports : IsReportOf report r
  pub without : HasNoBanks program slots ws budget verdict r
  pub saves : files ≡ file report_name report ∷ []

-- what `compile` makes of a source, by the status
abbrev pub CompileMakes : List ℕ → List ℕ → List ℕ → ℕ → List ℕ → ℕ → ℕ → Status → List File → List ℕ → Type 0
CompileMakes text object_name report_name slots ws budget store ends.Done files line = CompiledMakes text object_name report_name slots ws budget store files line
CompileMakes text object_name report_name slots ws budget store ends.Infeasible files line = WithoutMakes text report_name slots ws budget verdict.Infeasible files × (line ≡ infeasible_text)
CompileMakes text object_name report_name slots ws budget store ends.BudgetSpent files line = WithoutMakes text report_name slots ws budget verdict.Spent files × (line ≡ spent_text budget)
CompileMakes text object_name report_name slots ws budget store _ files line = ⊥

-- what it makes of a source and the file of weights, where one was given
abbrev pub WeighedMakes : List ℕ → List (List ℕ) → List ℕ → List ℕ → ℕ → ℕ → ℕ → Status → List File → List ℕ → Type 0
WeighedMakes text given object_name report_name slots budget store status files line =
    (ws : List ℕ) × AreWeighed given ws × CompileMakes text object_name report_name slots ws budget store status files line

-- ---- why it is refused

-- why a typed program isn't compiled: the program of its banks is too large, or its code is too long
abbrev pub IsUnfit : ProgramTree → ℕ → List ℕ → ℕ → ℕ → Refusal → Type 0
IsUnfit program slots ws budget store (SourceLarge n) = HasLargeBanks program slots n
IsUnfit program slots ws budget store (StoreFull n) = HasLongCode program slots ws budget store n
IsUnfit program slots ws budget store _ = ⊥

-- the source is refused, or its program isn't compiled
abbrev pub CompileRefuses : List ℕ → ℕ → List ℕ → ℕ → ℕ → Refusal → Type 0
CompileRefuses text slots ws budget store e = SourceRefuses text e ⊎ HasTyped text (λ program. IsUnfit program slots ws budget store e)

-- the source or the file of weights is refused, or its program isn't compiled under the weights
abbrev pub WeighedRefuses : List ℕ → List (List ℕ) → ℕ → ℕ → ℕ → Refusal → Type 0
WeighedRefuses text given slots budget store e =
    TextsRefuse text given e ⊎ ((ws : List ℕ) × AreWeighed given ws × HasTyped text (λ program. IsUnfit program slots ws budget store e))

-- how the compilation of a typed program can end: without banks only where there are fewer slots than room
abbrev pub IsEndOf : ProgramTree → ℕ → ℕ → Status → Type 0
IsEndOf program slots store ends.Done = ⊤
IsEndOf program slots store ends.TooLarge = (n : ℕ) × HasLargeBanks program slots n
IsEndOf program slots store ends.Infeasible = slots < room program
IsEndOf program slots store ends.BudgetSpent = slots < room program
IsEndOf program slots store ends.StoreFull = store < form_bound program
IsEndOf program slots store _ = ⊥

-- ---- what must be compiled

-- A text of a typed program is held under this name, which isn't too long, and a text of weights under the other, where there is one. The
-- program of its banks isn't too large, and the slots and the store hold all that the program's sizes may want.
pub record IsCompilable (held : Holding) (source_name : List ℕ) (slots store : ℕ) (weights_name : Option (List ℕ)) : Type 0 where
  pub text : List ℕ
  pub here : held source_name ≡ Some text
  pub short : length text ≤ source_limit
  pub program : ProgramTree
  pub is_source : IsTypedSource text program
  pub ws : List ℕ
  pub weighed : HasWeights held weights_name ws
  pub banks : HasSmallBanks program slots
  pub room_in_slots : room program ≤ slots
  pub code_in_store : form_bound program ≤ store

-- this holds of the name, where there is one
abbrev pub IfNamed : Option (List ℕ) → (List ℕ → Type 0) → Type 0
IfNamed None P = ⊤
IfNamed (Some name) P = P name

-- no count of faults rose that `compile` can raise: of loads of the source and of the weights, of saves of the object and of the report, of
-- the sink
pub record IsUndisturbed (LoadRises SaveRises : List ℕ → Type 0) (PutFailed : Type 0) (source_name object_name report_name : List ℕ) (weights_name : Option (List ℕ)) : Type 0 where
  pub source : ¬ LoadRises source_name
  pub weights : IfNamed weights_name (λ name. ¬ LoadRises name)
  pub object : ¬ SaveRises object_name
  pub report : ¬ SaveRises report_name
  pub sink : ¬ PutFailed
