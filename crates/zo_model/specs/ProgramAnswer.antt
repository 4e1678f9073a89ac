-- the answers of `read_program`: memory exhaustion is an answer to any bytes
use Rattle.std.specs.Prelude.{◌≡◌, ℕ, List, Result, Ok, Err}
use Rattle.zo_model.specs.Contents.{Contents, contents}
use Rattle.zo_model.specs.ProgramText.{IsFirstFault}
use Rattle.zo_model.specs.declared.program.ZeroOne.{ZeroOne}
use Rattle.zo_model.specs.declared.error.ZoError.{ZoError}
use Rattle.zo_model.specs.declared.error.ZoError.TheVariants.{NoMemory, Bad}

-- the refusal is true of the bytes
abbrev pub IsTrueRefusal : List ℕ → ZoError → Type 0
IsTrueRefusal bytes NoMemory = Unit {0}
IsTrueRefusal bytes (Bad n) = IsFirstFault bytes n

-- a program of these contents, or memory exhaustion
abbrev pub AnswersProgram : Result ZeroOne ZoError → Contents → Type 0
AnswersProgram (Ok z) p = contents z ≡ p
AnswersProgram (Err NoMemory) p = Unit {0}
AnswersProgram (Err (Bad n)) p = ⊥

-- a fault of line n, or memory exhaustion
abbrev pub AnswersBad : Result ZeroOne ZoError → ℕ → Type 0
AnswersBad (Ok z) n = ⊥
AnswersBad (Err NoMemory) n = Unit {0}
AnswersBad (Err (Bad m)) n = m ≡ n
