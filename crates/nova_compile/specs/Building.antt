-- Why a text has no code.
use Rattle.std.specs.Prelude.{◌⊎◌, ℕ, List}
use Rattle.nv_ast.specs.Tree.{ProgramTree}
use Rattle.nv_text.specs.Program.{FaultOf}
use Rattle.nova_compile.specs.Sources.{IsUntyped, IsLarge}
use Rattle.zo_cert.specs.declared.report.Verdict.TheVariants as verdict
use Rattle.nova_compile.specs.Forms.{HasLargeBanks, HasNoBanks, HasLongCode}
use Rattle.nova_compile.specs.Programs.{HasTyped}
use Rattle.nova_compile.specs.declared.build.CompileError.{CompileError}
use Rattle.nova_compile.specs.declared.build.CompileError.TheVariants as compile

-- the text has this fault, or its program has a fault of its types or is too large
abbrev pub IsTextCause : List ℕ → CompileError → Type 0
IsTextCause bytes (compile.Text f) = FaultOf bytes f
IsTextCause bytes (compile.Fault kind place) = IsUntyped bytes kind place
IsTextCause bytes (compile.TooLarge size) = IsLarge bytes size
IsTextCause bytes _ = ⊥

-- the program of a typed program's banks is too large, or has no vector that was found, or its code is too long
abbrev pub IsFormCause : ProgramTree → ℕ → List ℕ → ℕ → ℕ → CompileError → Type 0
IsFormCause program slots ws budget store (compile.TooLarge n) = HasLargeBanks program slots n
IsFormCause program slots ws budget store (compile.Infeasible r) = HasNoBanks program slots ws budget verdict.Infeasible r
IsFormCause program slots ws budget store (compile.Spent r) = HasNoBanks program slots ws budget verdict.Spent r
IsFormCause program slots ws budget store (compile.StoreFull n) = HasLongCode program slots ws budget store n
IsFormCause program slots ws budget store _ = ⊥

-- one of them is why the text has no code of at most so many instructions
abbrev pub IsCompileCause : List ℕ → ℕ → List ℕ → ℕ → ℕ → CompileError → Type 0
IsCompileCause bytes slots ws budget store e = IsTextCause bytes e ⊎ HasTyped bytes (λ program. IsFormCause program slots ws budget store e)
