-- The text of a made source, drawn from a seed: `let`s of a word each, with an operator between two of the newest names.
use Rattle.std.specs.Prelude.{ℕ, zero, suc, ◌+◌, ◌-◌, ◌*◌, ◌/◌, ◌%◌, ◌^◌, min, List, [], ◌∷◌, ◌++◌, codes, decimal, slice_index}
use Rattle.nv_generate.specs.declared.draws.Line.{Line}

-- ---- draws: each makes a new number of 32 bits from the one before, and gives its upper 16 bits
abbrev pub after_draw : ℕ → ℕ
after_draw z = (z * 1664525 + 1013904223) % 2 ^ 32

abbrev pub drawn : ℕ → ℕ
drawn z = after_draw z / 2 ^ 16

-- ---- names, counted from 0: a, b, x0, x1 and so on
abbrev pub name_of : ℕ → List ℕ
name_of zero = codes "a"
name_of (suc zero) = codes "b"
name_of (suc (suc i)) = codes "x" ++ decimal i

-- ---- operators, counted from 0, each of one byte
abbrev pub sign_of : ℕ → ℕ
sign_of operator = slice_index (codes "+-&|^") operator

-- ---- lines, counted from 0

-- of the names in front of line i, of which the newest is i + 1, one of the eight newest, or of all where they are fewer
abbrev pub name_back : ℕ → ℕ → ℕ
name_back i draw = suc i - draw % min (i + 2) 8

-- line i: an operator and the names on its two sides, by three draws
abbrev pub line_at : ℕ → ℕ → Line
line_at i z = record { operator = drawn z % 5; left = name_back i (drawn (after_draw z)); right = name_back i (drawn (after_draw (after_draw z))) }

abbrev pub after_line : ℕ → ℕ
after_line z = after_draw (after_draw (after_draw z))

-- so many lines from line i on
abbrev pub lines_from : ℕ → ℕ → ℕ → List Line
lines_from zero i z = []
lines_from (suc n) i z = line_at i z ∷ lines_from n (suc i) (after_line z)

-- ---- the text
abbrev pub line_text : ℕ → Line → List ℕ
line_text i line = codes "let " ++ (name_of (suc (suc i)) ++ (codes " = " ++ (name_of line.left ++ 32 ∷ sign_of line.operator ∷ 32 ∷ (name_of line.right ++ (codes ";" ++ 10 ∷ [])))))

-- of some lines, the first of which is line i
abbrev pub lines_text : ℕ → List Line → List ℕ
lines_text i [] = []
lines_text i (line ∷ lines) = line_text i line ++ lines_text (suc i) lines

-- the text that a seed makes, of so many lines between the first line and the last name
abbrev pub made : ℕ → ℕ → List ℕ
made seed size = codes "fun main[a: word, b: word]: word {" ++ 10 ∷ (lines_text 0 (lines_from size 0 seed) ++ (name_of (suc size) ++ (codes " }" ++ 10 ∷ [])))
