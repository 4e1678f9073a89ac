-- What the assembler may answer, memory exhaustion apart.
use Rattle.std.specs.Prelude.{◌≡◌, ℕ, ◌⊎◌, List, Result, Err}
use Rattle.uc_isa.specs.Code.{CodeView}
use Rattle.uc_asm.specs.Text.{IsSyntaxError}
use Rattle.uc_asm.specs.Labels.{IsLabelError, IsUnlawfulError}
use Rattle.uc_asm.specs.declared.error.AsmError.{AsmError}
use Rattle.uc_asm.specs.declared.error.AsmError.TheVariants.{NoMemory, Syntax, Label, Unlawful}

-- the error says what is wrong with the text
abbrev pub IsTrueError : List ℕ → AsmError → Type 0
IsTrueError bytes NoMemory = Unit {0}
IsTrueError bytes (Syntax n) = IsSyntaxError bytes n
IsTrueError bytes (Label n) = IsLabelError bytes n
IsTrueError bytes (Unlawful n rule) = IsUnlawfulError bytes n rule

-- this answer, or memory exhaustion
abbrev pub Answers : Result CodeView AsmError → Result CodeView AsmError → Type 0
Answers result answer = (result ≡ answer) ⊎ (result ≡ Err NoMemory)
