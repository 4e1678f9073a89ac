-- What the compilation of a source that isn't refused comes to.
use Rattle.std.specs.Prelude.{◌≡◌, ℕ, List, Result, Ok, Err}
use Rattle.zo_cert.specs.Report.{IsValidReport}
use Rattle.zo_cert.specs.declared.report.Verdict.TheVariants as verdict
use Rattle.nova_compile.specs.inner.Parts.{HasParts, IsBuilt, IsWithoutBanks}
use Rattle.nova_compile.specs.declared.build.CompileError.{CompileError}
use Rattle.nova_compile.specs.declared.build.CompileError.TheVariants as compile
use Rattle.novac_commands.specs.declared.compile.CompileOutcome.{CompileOutcome}
use Rattle.novac_commands.specs.declared.compile.CompileOutcome.TheVariants as found
use Rattle.novac_words.specs.declared.refusal.Refusal.{Refusal}
use Rattle.novac_words.specs.declared.refusal.Refusal.TheVariants as refusal
use Rattle.novac_commands.specs.inner.Telling.{IsSpelledAs}

abbrev pub IsCompileOutcome : List ℕ → ℕ → List ℕ → ℕ → ℕ → CompileOutcome → Type 0
IsCompileOutcome text slots ws budget store (found.Code t) = IsBuilt text slots ws budget store t
IsCompileOutcome text slots ws budget store (found.Infeasible r) = IsWithoutBanks text slots ws budget verdict.Infeasible r
IsCompileOutcome text slots ws budget store (found.Spent r) = IsWithoutBanks text slots ws budget verdict.Spent r

abbrev pub IsSavable : CompileOutcome → Type 0
IsSavable (found.Code t) = HasParts t
IsSavable (found.Infeasible r) = IsValidReport r
IsSavable (found.Spent r) = IsValidReport r

-- how a text without code is sorted: those with a report aren't refused
abbrev pub IsRefusedAs : Result CompileOutcome Refusal → (Refusal → Type 0) → Type 0
IsRefusedAs (Ok f) P = ⊥
IsRefusedAs (Err e) P = P e

abbrev pub IsSortedAs : CompileError → Result CompileOutcome Refusal → Type 0
IsSortedAs (compile.Infeasible r) result = result ≡ Ok (found.Infeasible r)
IsSortedAs (compile.Spent r) result = result ≡ Ok (found.Spent r)
IsSortedAs compile.NoMemory result = result ≡ Err refusal.NoMemory
IsSortedAs (compile.Text f) result = IsRefusedAs result (IsSpelledAs f)
IsSortedAs (compile.Fault kind place) result = result ≡ Err (refusal.SourceType kind place)
IsSortedAs (compile.TooLarge n) result = result ≡ Err (refusal.SourceLarge n)
IsSortedAs (compile.StoreFull n) result = result ≡ Err (refusal.StoreFull n)
