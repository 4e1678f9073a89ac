-- the text of a program
use Rattle.std.specs.Prelude.{◌≡◌, ℕ, ◌<◌, ◌≤◌, ◌^◌, List, [], ◌∷◌, ◌++◌, length, map, All, ℤ, codes, decimal}
use Rattle.std.specs.Fmt.{signed_decimal}
use Rattle.nv_lines.specs.Line.{text_of, parted}
use Rattle.nv_lines.specs.Format.{Begins, FirstFault}
use Rattle.zo_model.specs.Contents.{Contents, RowContents}
use Rattle.zo_model.specs.Program.{AreTerms, AtMost}

-- the first line: how many columns
abbrev pub columns_line : ℕ → List ℕ
columns_line n = parted (codes "columns" ∷ decimal n ∷ [])

-- the second line: how many rows
abbrev pub rows_line : ℕ → List ℕ
rows_line m = parted (codes "rows" ∷ decimal m ∷ [])

-- a column: its cost
abbrev pub cost_line : ℕ → List ℕ
cost_line c = parted (codes "c" ∷ decimal c ∷ [])

-- a term: its column, a colon, its coefficient
abbrev pub term_text : ℕ × ℤ → List ℕ
term_text t = decimal t.0 ++ 58 ∷ signed_decimal t.1

-- a row: its least, and its terms
abbrev pub row_line : RowContents → List ℕ
row_line r = parted (codes "r" ∷ signed_decimal r.least ∷ map term_text r.terms)

-- the lines of a program: the counts, the columns, the rows
abbrev pub program_lines : Contents → List (List ℕ)
program_lines p = columns_line (length p.costs) ∷ rows_line (length p.rows) ∷ map cost_line p.costs ++ map row_line p.rows

-- the text of these lines
unfoldable pub program_text : Contents → List ℕ
program_text p = text_of (program_lines p)

-- a row over n columns that keeps the limits
pub record IsRowText (n : ℕ) (r : RowContents) : Type 0 where
  pub terms_fit : AreTerms n r.terms
  pub least_fits : AtMost (2 ^ 30) r.least

-- a program that keeps the limits
pub record IsValidContents (p : Contents) : Type 0 where
  pub columns_fit : length p.costs ≤ 2 ^ 26
  pub rows_fit : length p.rows ≤ 2 ^ 26
  pub costs_fit : All (λ c. c < 2 ^ 20) p.costs
  pub rows_ok : All (IsRowText (length p.costs)) p.rows

-- the lines are those of a valid program
pub record AreProgramLines (ls : List (List ℕ)) : Type 0 where
  pub program : Contents
  pub valid : IsValidContents program
  pub lines : ls ≡ program_lines program

-- Line n is the first that isn't of the format: some valid program's text begins with the lines before it, and none with
-- it too; or the bytes end before its line feed, and are no whole text.
abbrev pub IsFirstFault : List ℕ → ℕ → Type 0
IsFirstFault bytes n = FirstFault (Begins AreProgramLines) AreProgramLines bytes n
