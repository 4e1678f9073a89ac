-- where bytes stop to begin a program's text
use Rattle.std.specs.Prelude.{◌≡◌, ℕ, ◌+◌, ◌<◌, ◌^◌, List, [], ◌∷◌, ◌++◌, All, length, map}
use Rattle.nv_lines.specs.Line.{text_of}
use Rattle.nv_lines.specs.Format.{Begins}
use Rattle.zo_model.specs.Contents.{RowContents}
use Rattle.zo_model.specs.ProgramText.{AreProgramLines, cost_line, row_line, IsRowText}
use Rattle.zo_model.specs.inner.LineFault.{NoLine, IsCost, IsRowLine}
use Rattle.zo_model.specs.declared.error.ZoError.{ZoError}
use Rattle.zo_model.specs.declared.error.ZoError.TheVariants.{NoMemory, Bad}

-- The lines `front` begin a program's text, and some line more; but the next line isn't there, or isn't one more.
pub record HasFaultAfter (bytes : List ℕ) (front : List (List ℕ)) : Type 0 where
  pub rest : List ℕ
  pub spelled : bytes ≡ text_of front ++ rest
  pub next : List ℕ
  pub goes_on : Begins AreProgramLines (front ++ next ∷ [])
  pub no_line : NoLine (λ line. Begins AreProgramLines (front ++ line ∷ [])) rest

-- memory exhaustion, or the number of the line at which the bytes stop, counted behind so many
abbrev pub IsProgramFault : List ℕ → ℕ → ZoError → Type 0
IsProgramFault bytes number NoMemory = Unit {0}
IsProgramFault bytes number (Bad n) = (front : List (List ℕ)) × (n ≡ number + (length front + 1)) × HasFaultAfter bytes front

-- some columns were read, and the next one wasn't
pub record StopsAtCost (n : ℕ) (bytes : List ℕ) (costs : List ℕ) : Type 0 where
  pub rest : List ℕ
  pub fewer : length costs < n
  pub fit : All (λ c. c < 2 ^ 20) costs
  pub spelled : bytes ≡ text_of (map cost_line costs) ++ rest
  pub no_line : NoLine IsCost rest

abbrev pub IsCostFault : ℕ → List ℕ → ℕ → ZoError → Type 0
IsCostFault n bytes number NoMemory = Unit {0}
IsCostFault n bytes number (Bad k) = (costs : List ℕ) × (k ≡ number + (length costs + 1)) × StopsAtCost n bytes costs

-- some rows were read, and the next one wasn't
pub record StopsAtRow (n m : ℕ) (bytes : List ℕ) (rows : List RowContents) : Type 0 where
  pub rest : List ℕ
  pub fewer : length rows < m
  pub fit : All (IsRowText n) rows
  pub spelled : bytes ≡ text_of (map row_line rows) ++ rest
  pub no_line : NoLine (IsRowLine n) rest

abbrev pub IsRowFault : ℕ → ℕ → List ℕ → ℕ → ZoError → Type 0
IsRowFault n m bytes number NoMemory = Unit {0}
IsRowFault n m bytes number (Bad k) = (rows : List RowContents) × (k ≡ number + (length rows + 1)) × StopsAtRow n m bytes rows
