-- The trees of a made source are low, and its text is short.
use Rattle.std.proofs.Common.{ℕ, zero, suc, ◌+◌, ◌*◌, ◌≤◌, ◌<◌, List, [], ◌∷◌, ◌++◌, length, arith, length-append, codes}
use Rattle.std.proofs.lemmas.Fmt.{length-decimal-le}
use Rattle.nv_ast.specs.Height.{highest_statement, pattern_inside_statements, highest_decl}
use Rattle.nv_text.specs.Limits.{source_limit}
use Rattle.nv_generate.specs.Made.{name_of, sign_of, line_text, lines_text, lines_from, made}
use Rattle.nv_generate.specs.inner.Lines.{IsLine, AreLines}
use Rattle.nv_generate.specs.inner.Program.{next_place, statements_of, program_of}
use Rattle.nv_generate.specs.declared.draws.Line.{Line}
use Rattle.nv_generate.proofs.Drawn.{lines-drawn, lines-number}

statements-low : (i p : ℕ) (lines : List Line) → highest_statement (statements_of i p lines) ≤ 3
statements-low i p [] = omega arith
statements-low i p (line ∷ lines) = let h = statements-low (suc i) (next_place i p line) lines in omega arith

patterns-low : (i p : ℕ) (lines : List Line) → pattern_inside_statements (statements_of i p lines) ≤ 1
patterns-low i p [] = omega arith
patterns-low i p (line ∷ lines) = let h = patterns-low (suc i) (next_place i p line) lines in omega arith

pub low : (lines : List Line) (name bytes : ℕ) → highest_decl (program_of lines name bytes).decls ≤ 100
low lines name bytes =
    let h = statements-low 0 35 lines in
    let g = patterns-low 0 35 lines in
    omega arith

-- ---- lengths
pub name-short : (n : ℕ) → n < 502 → length (name_of n) ≤ 4
name-short zero h = omega arith
name-short (suc zero) h = omega arith
name-short (suc (suc i)) h = omega (arith, length-decimal-le 3 i (omega arith) (omega arith) (omega arith))

line-short : (i : ℕ) (line : Line) → i < 500 → IsLine i line → length (line_text i line) ≤ 24
line-short i line lt h =
    let a = name-short (suc (suc i)) (omega arith) in
    let b = name-short line.left (omega (arith, h.left)) in
    let c = name-short line.right (omega (arith, h.right)) in
    let right : List ℕ = codes ";" ++ 10 ∷ [] in
    let left : List ℕ = 32 ∷ sign_of line.operator ∷ 32 ∷ (name_of line.right ++ right) in
    let rest : List ℕ = codes " = " ++ (name_of line.left ++ left) in
    let e = length-append (name_of (suc (suc i))) rest in
    let f = length-append (name_of line.left) left in
    let g = length-append (name_of line.right) right in
    omega (arith, a, b, c, e, f, g)

lines-short : (i : ℕ) (lines : List Line) → i + length lines ≤ 500 → AreLines i lines → length (lines_text i lines) ≤ 24 * length lines
lines-short i [] le h = omega arith
lines-short i (line ∷ lines) le h =
    let a = line-short i line (omega arith) h.0 in
    let b = lines-short (suc i) lines (omega arith) h.1 in
    let e = length-append (line_text i line) (lines_text (suc i) lines) in
    omega (arith, a, b, e)

pub short : (seed size : ℕ) → size ≤ 500 → length (made seed size) ≤ source_limit
short seed size le =
    let n = lines-number size 0 seed in
    let a = lines-short 0 (lines_from size 0 seed) (omega arith) (lines-drawn size 0 seed) in
    let b = name-short (suc size) (omega arith) in
    let last : List ℕ = codes " }" ++ 10 ∷ [] in
    let e = length-append (lines_text 0 (lines_from size 0 seed)) (name_of (suc size) ++ last) in
    let f = length-append (name_of (suc size)) last in
    omega (arith, n, a, b, e, f)
