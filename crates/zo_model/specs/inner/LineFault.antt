-- a line that has to come next in a text
use Rattle.std.specs.Prelude.{◌≡◌, ℕ, ◌+◌, ◌<◌, ◌≤◌, ◌^◌, List, [], ◌∷◌, ◌++◌, decimal}
use Rattle.nv_lines.specs.Line.{Lacks, parted}
use Rattle.zo_model.specs.Contents.{RowContents}
use Rattle.zo_model.specs.ProgramText.{cost_line, row_line, IsRowText}
use Rattle.zo_model.specs.declared.error.ZoError.{ZoError}
use Rattle.zo_model.specs.declared.error.ZoError.TheVariants.{NoMemory, Bad}

-- a name and a number of at most `most`
pub record IsCounted (name : List ℕ) (most : ℕ) (line : List ℕ) : Type 0 where
  pub number : ℕ
  pub within : number ≤ most
  pub spelled : line ≡ parted (name ∷ decimal number ∷ [])

-- a column
pub record IsCost (line : List ℕ) : Type 0 where
  pub cost : ℕ
  pub within : cost < 2 ^ 20
  pub spelled : line ≡ cost_line cost

-- a row over n columns
pub record IsRowLine (n : ℕ) (line : List ℕ) : Type 0 where
  pub row : RowContents
  pub fits : IsRowText n row
  pub spelled : line ≡ row_line row

-- no line of this kind stands in front: no whole line does, or another one
pub data NoLine (Kind : List ℕ → Type 0) (bytes : List ℕ) : Type 0 where
  cut : Lacks 10 bytes → NoLine Kind bytes
  other : (line back : List ℕ) → bytes ≡ line ++ 10 ∷ back → Lacks 10 line → ¬ Kind line → NoLine Kind bytes

-- memory exhaustion, or the number of the line behind so many, which isn't of this kind
abbrev pub IsLineFault : (List ℕ → Type 0) → List ℕ → ℕ → ZoError → Type 0
IsLineFault Kind bytes number NoMemory = Unit {0}
IsLineFault Kind bytes number (Bad n) = (n ≡ number + 1) × NoLine Kind bytes
