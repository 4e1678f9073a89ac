-- What a source that isn't refused comes to, as what `compile` makes of it.
use Rattle.std.proofs.Common.{◌≡◌, ℕ, ◌≤◌, List, [], ◌∷◌, length, refl, ap, sym, ◌∙◌, subst, Result, Ok, Err, IfOk}
use Rattle.nv_ast.specs.TypedView.{typed_program}
use Rattle.uc_object.specs.Object.{IsTaggedObject}
use Rattle.uc_object.specs.Tagged.{TaggedView}
use Rattle.zo_cert.specs.declared.report.Report.{Report}
use Rattle.zo_cert.specs.declared.report.Verdict.{Verdict}
use Rattle.zo_cert.specs.declared.report.Verdict.TheVariants as verdict
use Rattle.nova_back.specs.Causes.{report_cost}
use Rattle.novac_commands.specs.Checking.{IsReportOf}
use Rattle.nova_compile.specs.Naming.{source_exceptions}
use Rattle.nova_compile.proofs.Objects.{built-parts, with_exceptions}
use Rattle.novac_commands.specs.Compiling.{CompiledMakes, WithoutMakes, CompileMakes}
use Rattle.novac_words.specs.Limits.{store_limit}
use Rattle.novac_words.specs.Lines.{compiled_text, infeasible_text, spent_text}
use Rattle.novac_machine.specs.Saving.{File, file}
use Rattle.novac_machine.specs.inner.Files.{files_of}
use Rattle.nova_compile.specs.inner.Parts.{IsBuilt, IsWithoutBanks}
use Rattle.novac_commands.specs.inner.CompileOutcome.{IsCompileOutcome, IsSavable}
use Rattle.nova_compile.specs.declared.build.Compiled.{Compiled}
use Rattle.novac_commands.specs.declared.compile.CompileOutcome.{CompileOutcome}
use Rattle.novac_commands.specs.declared.compile.CompileOutcome.TheVariants as found
use Rattle.novac_machine.specs.declared.save.Made.{Made}
use Rattle.nv_base.specs.declared.error.NoMemory.{NoMemory}
use Rattle.novac_words.specs.declared.status.Status.{Status}
use Rattle.novac_words.specs.declared.status.Status.TheVariants as status

-- the object of what was compiled
abbrev tagged_of : List ℕ → Compiled → TaggedView
tagged_of text t = with_exceptions t.built.code t.built.starts.items (source_exceptions text (typed_program t.typed))

built-made : (text object_name report_name object report : List ℕ) (slots : ℕ) (ws : List ℕ) (budget store : ℕ) (t : Compiled) (files : List File) (line : List ℕ) → IsBuilt text slots ws budget store t
    → IsTaggedObject object (tagged_of text t) → IsReportOf report t.built.report → files ≡ file object_name object ∷ file report_name report ∷ []
    → line ≡ compiled_text (length t.built.code.list) t.built.report.verdict (report_cost t.built.report) → CompiledMakes text object_name report_name slots ws budget store files line
built-made text object_name report_name object report slots ws budget store t files line h encoded reports saves told = record {
  object = object;
  report = report;
  instructions = length t.built.code.list;
  r = t.built.report;
  compiled = record {
    program = typed_program t.typed;
    is_source = h.is_source;
    tagged = tagged_of text t;
    decodes = encoded;
    lawful = h.code.lawful;
    agrees = h.code.agrees;
    exceptions = refl;
    number = refl;
    short = h.short;
    brief = h.brief;
    reports = reports;
    banks = h.banks;
  };
  saves = saves;
  told = told;
}

pub without-made : (text report_name report : List ℕ) (slots : ℕ) (ws : List ℕ) (budget : ℕ) (v : Verdict) (r : Report) (files : List File) → IsWithoutBanks text slots ws budget v r → IsReportOf report r → files ≡ file report_name report ∷ []
    → WithoutMakes text report_name slots ws budget v files
without-made text report_name report slots ws budget v r files h reports saves = record {
  program = h.program;
  is_source = h.is_source;
  report = report;
  r = r;
  reports = reports;
  without = h.without;
  saves = saves;
}

-- its parts are as they can be saved
pub found-savable : (text : List ℕ) (slots : ℕ) (ws : List ℕ) (budget store : ℕ) (f : CompileOutcome) → store ≤ store_limit → IsCompileOutcome text slots ws budget store f → IsSavable f
found-savable text slots ws budget store (found.Code t) low h = built-parts text slots ws budget store t low h
found-savable text slots ws budget store (found.Infeasible r) low h = h.without.without.report.valid
found-savable text slots ws budget store (found.Spent r) low h = h.without.without.report.valid

pub two-files : (a b f g : File) → a ≡ f → b ≡ g → a ∷ b ∷ [] ≡ f ∷ g ∷ []
two-files a b f g h k = ap (λ (x : File). x ∷ b ∷ []) h ∙ ap (λ (x : File). f ∷ x ∷ []) k

pub told-by : (n : ℕ) (v : Verdict) (k l : ℕ) (line : List ℕ) → line ≡ compiled_text n v k → k ≡ l → line ≡ compiled_text n v l
told-by n v k l line told e = told ∙ ap (λ (x : ℕ). compiled_text n v x) e

-- by the status
pub code-found : (text object_name report_name object report : List ℕ) (slots : ℕ) (ws : List ℕ) (budget store instructions : ℕ) (t : Compiled) (q : Result Made NoMemory) → IsBuilt text slots ws budget store t
    → IsTaggedObject object (tagged_of text t) → IfOk q (λ _. IsReportOf report t.built.report) → instructions ≡ length t.built.code.list
    → IfOk q (λ m. m.status ≡ status.Done) → IfOk q (λ m. files_of m.outputs ≡ file object_name object ∷ file report_name report ∷ [])
    → IfOk q (λ m. m.text.items ≡ compiled_text instructions t.built.report.verdict (report_cost t.built.report))
    → IfOk q (λ m. CompileMakes text object_name report_name slots ws budget store m.status (files_of m.outputs) m.text.items)
code-found text object_name report_name object report slots ws budget store instructions t (Ok m) h encoded reports e is saves told =
    subst (λ (x : Status). CompileMakes text object_name report_name slots ws budget store x (files_of m.outputs) m.text.items) (sym is)
    (built-made text object_name report_name object report slots ws budget store t (files_of m.outputs) m.text.items h encoded reports saves
    (told ∙ ap (λ (n : ℕ). compiled_text n t.built.report.verdict (report_cost t.built.report)) e))
code-found text object_name report_name object report slots ws budget store instructions t (Err x) h encoded reports e is saves told = tt

pub infeasible-made : (text object_name report_name report : List ℕ) (slots : ℕ) (ws : List ℕ) (budget store : ℕ) (r : Report) (s : Status) (files : List File) (line : List ℕ) → IsWithoutBanks text slots ws budget verdict.Infeasible r → IsReportOf report r
    → s ≡ status.Infeasible → files ≡ file report_name report ∷ [] → line ≡ infeasible_text → CompileMakes text object_name report_name slots ws budget store s files line
infeasible-made text object_name report_name report slots ws budget store r s files line h reports is saves told =
    subst (λ (x : Status). CompileMakes text object_name report_name slots ws budget store x files line) (sym is) (without-made text report_name report slots ws budget verdict.Infeasible r files h reports saves, told)

pub spent-made : (text object_name report_name report : List ℕ) (slots : ℕ) (ws : List ℕ) (budget store : ℕ) (r : Report) (s : Status) (files : List File) (line : List ℕ) → IsWithoutBanks text slots ws budget verdict.Spent r → IsReportOf report r
    → s ≡ status.BudgetSpent → files ≡ file report_name report ∷ [] → line ≡ spent_text budget → CompileMakes text object_name report_name slots ws budget store s files line
spent-made text object_name report_name report slots ws budget store r s files line h reports is saves told =
    subst (λ (x : Status). CompileMakes text object_name report_name slots ws budget store x files line) (sym is) (without-made text report_name report slots ws budget verdict.Spent r files h reports saves, told)

pub infeasible-found : (text object_name report_name report line : List ℕ) (slots : ℕ) (ws : List ℕ) (budget store : ℕ) (r : Report) (q : Result Made NoMemory) → IsWithoutBanks text slots ws budget verdict.Infeasible r → IsReportOf report r → line ≡ infeasible_text
    → IfOk q (λ m. m.status ≡ status.Infeasible) → IfOk q (λ m. m.text.items ≡ line) → IfOk q (λ m. files_of m.outputs ≡ file report_name report ∷ [])
    → IfOk q (λ m. CompileMakes text object_name report_name slots ws budget store m.status (files_of m.outputs) m.text.items)
infeasible-found text object_name report_name report line slots ws budget store r (Ok m) h reports is s told saves = infeasible-made text object_name report_name report slots ws budget store r m.status (files_of m.outputs) m.text.items h reports s saves (told ∙ is)
infeasible-found text object_name report_name report line slots ws budget store r (Err e) h reports is s told saves = tt

pub spent-found : (text object_name report_name report line : List ℕ) (slots : ℕ) (ws : List ℕ) (budget store : ℕ) (r : Report) (q : Result Made NoMemory) → IsWithoutBanks text slots ws budget verdict.Spent r → IsReportOf report r → line ≡ spent_text budget
    → IfOk q (λ m. m.status ≡ status.BudgetSpent) → IfOk q (λ m. m.text.items ≡ line) → IfOk q (λ m. files_of m.outputs ≡ file report_name report ∷ [])
    → IfOk q (λ m. CompileMakes text object_name report_name slots ws budget store m.status (files_of m.outputs) m.text.items)
spent-found text object_name report_name report line slots ws budget store r (Ok m) h reports is s told saves = spent-made text object_name report_name report slots ws budget store r m.status (files_of m.outputs) m.text.items h reports s saves (told ∙ is)
spent-found text object_name report_name report line slots ws budget store r (Err e) h reports is s told saves = tt
