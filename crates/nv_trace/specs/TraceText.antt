-- The text of the writes of a trace.
use Rattle.std.specs.Prelude.{ℕ, ◌==◌, List, [], ◌∷◌, ◌++◌, Option, Some, None, length, map, codes, decimal, if◌then◌else◌}
use Rattle.std.specs.List.{flat_map}
use Rattle.nv_lines.specs.Line.{text_of}
use Rattle.nv_lines.specs.LineColumn.{line_at}
use Rattle.nv_meaning_values.specs.Running.{Made}
use Rattle.nv_memtext.specs.OutcomeText.{write_line}

-- the line of the source on which the statement of a write begins
abbrev pub statement_line : List ℕ → Made → ℕ
statement_line source m = line_at source m.span.first

-- a write, the line of its statement, and the functions in progress
abbrev pub made_line : List ℕ → Made → List ℕ
made_line source m = write_line m.write ++ codes " line " ++ decimal (statement_line source m) ++ codes " in" ++ flat_map (λ x. 32 ∷ x) m.chain

-- with a line: up to the first write whose statement begins there, if there is one
abbrev pub up_to_line : List ℕ → ℕ → List Made → List Made
up_to_line source line [] = []
up_to_line source line (m ∷ ms) = m ∷ (if statement_line source m == line then [] else up_to_line source line ms)

abbrev pub shown : List ℕ → Option ℕ → List Made → List Made
shown source None ms = ms
shown source (Some line) ms = up_to_line source line ms

-- the lines of these writes, and their number
abbrev pub trace_text : List ℕ → List Made → List ℕ
trace_text source ms = text_of (map (made_line source) ms) ++ codes "traced " ++ decimal (length ms) ++ 10 ∷ []
