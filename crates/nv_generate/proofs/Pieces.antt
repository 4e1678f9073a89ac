-- A text that is written piece by piece.
use Rattle.std.proofs.Common.{◌≡◌, ℕ, suc, ◌+◌, ◌-◌, ◌<◌, ◌≤◌, List, [], ◌∷◌, ◌++◌, sym, ap, ◌∙◌, arith, append_assoc, append-nil, add-one, codes}
use Rattle.nv_generate.specs.Made.{name_of, sign_of, line_text, lines_text, line_at, lines_from, after_line}
use Rattle.nv_generate.specs.declared.draws.Line.{Line}

pub join : (i j k a b : List ℕ) → j ≡ i ++ a → k ≡ j ++ b → k ≡ i ++ (a ++ b)
join i j k a b e f = f ∙ (ap (λ t. t ++ b) e ∙ append_assoc i a b)

-- a line, in seven pieces
pub line_pieces : (i : ℕ) (line : Line) (t0 t1 t2 t3 t4 t5 t6 t7 : List ℕ) → t1 ≡ t0 ++ codes "let " → t2 ≡ t1 ++ name_of (i + 2) → t3 ≡ t2 ++ codes " = " → t4 ≡ t3 ++ name_of line.left → t5 ≡ t4 ++ (32 ∷ sign_of line.operator ∷ 32 ∷ []) → t6 ≡ t5 ++ name_of line.right → t7 ≡ t6 ++ (codes ";" ++ 10 ∷ []) → t7 ≡ t0 ++ line_text i line
line_pieces i line t0 t1 t2 t3 t4 t5 t6 t7 e1 e2 e3 e4 e5 e6 e7 =
    let two : i + 2 ≡ suc (suc i) = omega arith in
    let named : t2 ≡ t1 ++ name_of (suc (suc i)) = e2 ∙ ap (λ n. t1 ++ name_of n) two in
    join t0 t1 t7 (codes "let ") _ e1
    (join t1 t2 t7 (name_of (suc (suc i))) _ named
    (join t2 t3 t7 (codes " = ") _ e3
    (join t3 t4 t7 (name_of line.left) _ e4
    (join t4 t5 t7 (32 ∷ sign_of line.operator ∷ 32 ∷ []) _ e5
    (join t5 t6 t7 (name_of line.right) (codes ";" ++ 10 ∷ []) e6 e7)))))

-- the whole text, in four
pub text_pieces : (lines : List ℕ) (name : ℕ) (t1 t2 t3 t4 : List ℕ) → t1 ≡ codes "fun main[a: word, b: word]: word {" ++ 10 ∷ [] → t2 ≡ t1 ++ lines → t3 ≡ t2 ++ name_of (name + 1) → t4 ≡ t3 ++ (codes " }" ++ 10 ∷ []) → t4 ≡ codes "fun main[a: word, b: word]: word {" ++ 10 ∷ (lines ++ (name_of (suc name) ++ (codes " }" ++ 10 ∷ [])))
text_pieces lines name t1 t2 t3 t4 e1 e2 e3 e4 =
    let one : name + 1 ≡ suc name = omega arith in
    let named : t3 ≡ t2 ++ name_of (suc name) = e3 ∙ ap (λ n. t2 ++ name_of n) one in
    join (codes "fun main[a: word, b: word]: word {" ++ 10 ∷ []) t2 t4 lines (name_of (suc name) ++ (codes " }" ++ 10 ∷ []))
    (e2 ∙ ap (λ t. t ++ lines) e1) (join t2 t3 t4 (name_of (suc name)) (codes " }" ++ 10 ∷ []) named e4)

one_line : (out new goal : List ℕ) (i m z : ℕ) (line : Line) → line ≡ line_at i z → new ≡ out ++ line_text i line → out ++ lines_text i (lines_from (suc m) i z) ≡ goal → new ++ lines_text (suc i) (lines_from m (suc i) (after_line z)) ≡ goal
one_line out new goal i m z line e n h =
    ap (λ t. t ++ lines_text (suc i) (lines_from m (suc i) (after_line z))) (n ∙ ap (λ l. out ++ line_text i l) e)
    ∙ append_assoc out (line_text i (line_at i z)) (lines_text (suc i) (lines_from m (suc i) (after_line z)))
    ∙ h

-- what is still to be written, with one line less
pub line_more : (out new goal : List ℕ) (i size z z' : ℕ) (line : Line) → i < size → line ≡ line_at i z → z' ≡ after_line z → new ≡ out ++ line_text i line → out ++ lines_text i (lines_from (size - i) i z) ≡ goal → new ++ lines_text (i + 1) (lines_from (size - (i + 1)) (i + 1) z') ≡ goal
line_more out new goal i size z z' line lt e f n h =
    let left : size - i ≡ suc (size - suc i) = omega arith in
    let before : out ++ lines_text i (lines_from (suc (size - suc i)) i z) ≡ goal = rw left at h in
    rw (f, add-one) (one_line out new goal i (size - suc i) z line e n before)

-- nothing is to be written before the first line, and after the last one
pub lines_first : (out : List ℕ) (size z : ℕ) → out ++ lines_text 0 (lines_from (size - 0) 0 z) ≡ out ++ lines_text 0 (lines_from size 0 z)
lines_first out size z = let all : size - 0 ≡ size = omega arith in ap (λ n. out ++ lines_text 0 (lines_from n 0 z)) all

pub lines_last : (out goal : List ℕ) (i size z : ℕ) → size ≤ i → out ++ lines_text i (lines_from (size - i) i z) ≡ goal → out ≡ goal
lines_last out goal i size z le h =
    let none : size - i ≡ 0 = omega arith in
    let last : out ++ [] ≡ goal = rw none at h in
    sym (append-nil out) ∙ last
