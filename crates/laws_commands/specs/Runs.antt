-- What a compiled object prints, beside what its source does.
use Rattle.std.specs.Prelude.{◌≡◌, ◌≢◌, ◌++◌, ℕ, List, [], ◌∷◌, codes}
use Rattle.zo_cert.specs.declared.report.Report.{Report}
use Rattle.zo_cert.specs.declared.report.Verdict.TheVariants.{Optimal}
use Rattle.novac_machine.specs.Machine.{IsRun}
use Rattle.novac_machine.specs.Saving.{File}
use Rattle.novac_words.specs.declared.refusal.Refusal.{Refusal}
use Rattle.novac_words.specs.declared.status.Status.{Status}
use Rattle.novac_words.specs.declared.status.Status.TheVariants.{Raised, StepsSpent}
use Rattle.novac_commands.specs.Entries.{CountsMake}
use Rattle.novac_commands.specs.Executing.{IsExecuted}
use Rattle.novac_commands.specs.Generating.{generated_text, GenRefuses, IsGenerated, IsSmallMade}
use Rattle.novac_commands.specs.Compiling.{IsCompiledTo}

-- Where `run` ends on the object of a compilation, `exec` ends on its source with some number of calls, and the other way. Both end with the same
-- status on one memory text, and unless it is that of an exception, whose name `run` prints too, with the same text.
pub record RunsAsSource (text object memory : List ℕ) : Type 0 where
  pub same : (steps calls : ℕ) (status status' : Status) (out out' : List ℕ) → IsRun object memory steps status out → IsExecuted text memory calls status' out' → status ≢ StepsSpent → status' ≢ StepsSpent → (status ≡ status') × (status ≢ Raised → out ≡ out')
  pub comes : (calls : ℕ) (status : Status) (out : List ℕ) → IsExecuted text memory calls status out → status ≢ StepsSpent → (steps : ℕ) × (out' : List ℕ) × IsRun object memory steps status out'
  pub only : (steps : ℕ) (status : Status) (out : List ℕ) → IsRun object memory steps status out → status ≢ StepsSpent → (calls : ℕ) × (out' : List ℕ) × IsExecuted text memory calls status out'

abbrev pub CompiledRunsAsSource : Type 0
CompiledRunsAsSource = (text object report : List ℕ) (slots : ℕ) (ws : List ℕ) (budget store instructions : ℕ) (r : Report) → IsCompiledTo text object report slots ws budget store instructions r → (memory : List ℕ) → RunsAsSource text object memory

-- where `counts` ends, `exec` prints the same with some number of calls
abbrev pub CountsAsSource : Type 0
CountsAsSource = (text memory name : List ℕ) (jumps : ℕ) (status : Status) (files : List File) (out : List ℕ) → CountsMake text memory name jumps status files out → status ≢ StepsSpent → (calls : ℕ) × IsExecuted text memory calls status out

-- The line of `gen`. The lines of one seed and one size tell one word, and a small program is never refused.
pub record GeneratedLines : Type 0 where
  pub line : generated_text 1 2 30 4 Optimal 5 12 ≡ codes "gen 1 2 source 30 length 4 optimal 5 outcome 0000000c" ++ 10 ∷ []
  pub one_word : (seed size : ℕ) (line line' : List ℕ) (h : IsGenerated seed size line) (k : IsGenerated seed size line') → h.word ≡ k.word
  pub small : (seed size : ℕ) (e : Refusal) → IsSmallMade seed size → GenRefuses seed size e → ⊥
