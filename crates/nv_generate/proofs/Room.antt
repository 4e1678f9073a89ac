-- A made source wants few words at once.
use Rattle.std.proofs.Common.{◌≡◌, ℕ, zero, suc, ◌+◌, ◌-◌, ◌≤◌, ◌<◌, ◌^◌, max, ◌⊎◌, inl, inr, Bool, true, false, ◌||◌, List, [], ◌∷◌, ◌++◌, length, refl, ap, sym, ◌∙◌, subst, decimal, arith}
use Rattle.std.specs.Prelude.{Some, if◌then◌else◌, bytes_eq, codes}
use Rattle.std.proofs.lemmas.Fmt.{decimal_injective}
use Rattle.std.proofs.lemmas.List.{append_cancel_left}
use Rattle.std.proofs.lemmas.List.Folds.{list_any-append}
use Rattle.std.proofs.lemmas.Slice.Eq.{bytes_eq-Decides}
use Rattle.std.proofs.lemmas.Bool.{false_from_ne_true, or_from}
use Rattle.nv_ast.specs.declared.token.Span.{Span}
use Rattle.nv_ast.specs.Scope.{Known, Vars}
use Rattle.nv_ast.specs.Sizes.{Lets, variables_statement, variables_statements, let_of, lets_behind, pending, need, need_statement, need_statements, room}
use Rattle.nv_ast.specs.Tests.{look_up, is_among}
use Rattle.nv_ast.specs.Tree.{BlockTree}
use Rattle.nv_ast.specs.Types.{WordTy}
use Rattle.nv_ast.specs.Typing.{result_ty, vars_after, vars_behind}
use Rattle.nv_generate.specs.Made.{name_of}
use Rattle.nv_generate.specs.inner.Lines.{IsLine, AreLines, AreNear}
use Rattle.nv_generate.specs.inner.Program.{size_of, operator_of, next_place, index_after, name_tree, statement_of, statements_of, main_of, program_of}
use Rattle.nv_generate.specs.declared.draws.Line.{Line}
use Rattle.nv_generate.proofs.Typed.{AllWords, words-more, words-behind, result-word, known_in, first_vars, first-words}

-- ---- names
x-same : (i j : ℕ) → i < 2 ^ 64 → j < 2 ^ 64 → name_of (suc (suc i)) ≡ name_of (suc (suc j)) → i ≡ j
x-same i j low high e = decimal_injective i j low high (append_cancel_left (codes "x") (decimal i) (decimal j) e)

-- the name isn't among these
abbrev IsAbsent : ℕ → List (List ℕ) → Type 0
IsAbsent m names = is_among (name_of m) names ≡ false

other-name : (m n : ℕ) → 2 ≤ m → m < n → n < 2 ^ 64 → bytes_eq (name_of m) (name_of n) ≡ false
other-name zero n low lt small = absurd (omega arith)
other-name (suc zero) n low lt small = absurd (omega arith)
other-name (suc (suc i)) zero low lt small = absurd (omega arith)
other-name (suc (suc i)) (suc zero) low lt small = absurd (omega arith)
other-name (suc (suc i)) (suc (suc j)) low lt small =
    false_from_ne_true (bytes_eq (name_of (suc (suc i))) (name_of (suc (suc j)))) (λ e.
    let same : i ≡ j = x-same i j (omega arith) (omega arith) ((bytes_eq-Decides (name_of (suc (suc i))) (name_of (suc (suc j)))).0 e) in
    omega arith)

absent-one : (m n : ℕ) → 2 ≤ m → m < n → n < 2 ^ 64 → IsAbsent m (name_of n ∷ [])
absent-one m n low lt small = or_from (bytes_eq (name_of m) (name_of n)) false (other-name m n low lt small) refl

absent-both : (m : ℕ) (a b : List (List ℕ)) → IsAbsent m a → IsAbsent m b → IsAbsent m (a ++ b)
absent-both m a b h k = list_any-append (bytes_eq (name_of m)) a b ∙ or_from (is_among (name_of m) a) (is_among (name_of m) b) h k

-- ---- the names in lines
absent-line : (m i p : ℕ) (line : Line) → 2 ≤ m → m + 6 < i → IsLine i line → i ≤ line.left + 6 → i ≤ line.right + 6 → i < 2 ^ 32 → IsAbsent m (variables_statement (statement_of i p line))
absent-line m i p line low lt h left right small =
    absent-both m (name_of line.left ∷ []) (name_of line.right ∷ []) (absent-one m line.left low (omega arith) (omega (arith, h.left))) (absent-one m line.right low (omega arith) (omega (arith, h.right)))

absent-lines : (m i p : ℕ) (lines : List Line) → 2 ≤ m → m + 6 < i → AreLines i lines → AreNear i lines → i + length lines < 2 ^ 32 → IsAbsent m (variables_statements (statements_of i p lines))
absent-lines m i p [] low lt h near small = refl
absent-lines m i p (line ∷ lines) low lt h near small =
    absent-both m (variables_statement (statement_of i p line)) (variables_statements (statements_of (suc i) (next_place i p line) lines)) (absent-line m i p line low lt h.0 near.0.0 near.0.1 (omega arith))
    (absent-lines m (suc i) (next_place i p line) lines low (omega arith) h.1 near.1 (omega arith))

-- ---- lets of a word each, from a name on
lets_from : ℕ → ℕ → Lets
lets_from j zero = []
lets_from j (suc n) = (name_of j ∷ [], 1) ∷ lets_from (suc j) n

lets-more : (j n : ℕ) → lets_from j n ++ (name_of (j + n) ∷ [], 1) ∷ [] ≡ lets_from j (suc n)
unfolding lets_from
lets-more j zero = let e : j + 0 ≡ j = omega arith in rw e refl
lets-more j (suc n) =
    let e : j + suc n ≡ suc j + n = omega arith in
    rw e (ap (λ (lets : Lets). (name_of j ∷ [], 1) ∷ lets) (lets-more (suc j) n))

lets-two : (i : ℕ) → lets_from 2 i ++ (name_of (suc (suc i)) ∷ [], 1) ∷ [] ≡ lets_from 2 (suc i)
lets-two i =
    let e : 2 + i ≡ suc (suc i) = omega arith in
    subst (λ (m : ℕ). lets_from 2 i ++ (name_of m ∷ [], 1) ∷ [] ≡ lets_from 2 (suc i)) e (lets-more 2 i)

one-or-none : (b : Bool) → (if b then 1 else 0) ≤ 1
one-or-none true = omega arith
one-or-none false = omega arith

pending-all : (written : List (List ℕ)) (j n : ℕ) → pending (lets_from j n) written ≤ n
unfolding lets_from
pending-all written j zero = omega arith
pending-all written j (suc n) =
    let one = one-or-none (is_among (name_of j) written || false) in
    let rest = pending-all written (suc j) n in
    omega arith

not-pending : (b : Bool) (p n : ℕ) → b ≡ false → p ≤ n → (if b || false then 1 else 0) + p ≤ n
not-pending true p n e h = absurd cc
not-pending false p n e h = omega arith

pending-newest : (written : List (List ℕ)) (j k n : ℕ) → ((m : ℕ) → j ≤ m → m < j + k → IsAbsent m written) → pending (lets_from j (k + n)) written ≤ n
unfolding lets_from
pending-newest written j zero n h = let e : 0 + n ≡ n = omega arith in rw e (pending-all written j n)
pending-newest written j (suc k) n h =
    let none : IsAbsent j written = h j (omega arith) (omega arith) in
    let rest = pending-newest written (suc j) k n (λ m low lt. h m (omega arith) (omega arith)) in
    let e : suc (k + n) ≡ suc k + n = omega arith in
    subst (λ (m : ℕ). pending (lets_from j m) written ≤ n) e (not-pending (is_among (name_of j) written) (pending (lets_from (suc j) (k + n)) written) n none rest)

-- at line i eight at most are wanted
eight-or_more : (rest n : ℕ) → rest ≡ n - 8 → (n ≤ 8) ⊎ ((k : ℕ) × (n ≡ k + 8))
eight-or_more zero n e = inl (omega arith)
eight-or_more (suc rest) n e = inr (suc rest, omega arith)

pending-few : (written : List (List ℕ)) (i : ℕ) → ((m : ℕ) → 2 ≤ m → m + 6 < i → IsAbsent m written) → pending (lets_from 2 i) written ≤ 8
pending-few written i h = by_number (eight-or_more (i - 8) i refl)
  where
    by_number : (i ≤ 8) ⊎ ((k : ℕ) × (i ≡ k + 8)) → pending (lets_from 2 i) written ≤ 8
    by_number (inl few) = let all = pending-all written 2 i in omega arith
    by_number (inr many) =
        subst (λ (n : ℕ). pending (lets_from 2 n) written ≤ 8) (sym many.1) (pending-newest written 2 many.0 8 (λ m low lt. h m low (let e = many.1 in omega arith)))

-- ---- the lets of lines
let-one : (k : Known) (vars : Vars) (i p : ℕ) (line : Line) → let_of k vars (statement_of i p line) ≡ (name_of (suc (suc i)) ∷ [], 1) ∷ []
let-one k vars i p line = rw (result-word line.operator) refl

lets-lines : (k : Known) (vars : Vars) (i p : ℕ) (lines : List Line) → lets_behind k vars (statements_of i p lines) ≡ lets_from (suc (suc i)) (length lines)
unfolding lets_from
lets-lines k vars i p [] = refl
lets-lines k vars i p (line ∷ lines) =
    ap (λ (first : Lets). first ++ lets_behind k (vars_after k vars (statement_of i p line)) (statements_of (suc i) (next_place i p line) lines)) (let-one k vars i p line)
    ∙ ap (λ (lets : Lets). (name_of (suc (suc i)) ∷ [], 1) ∷ lets) (lets-lines k (vars_after k vars (statement_of i p line)) (suc i) (next_place i p line) lines)

-- ---- needs
name-need : (k : Known) (vars : Vars) (name q : ℕ) → look_up (name_of name) vars ≡ Some WordTy → need [] k vars (name_tree name q) ≡ 3
name-need k vars name q e = rw e refl

line-need : (k : Known) (vars : Vars) (i q : ℕ) (line : Line) → IsLine i line → AllWords (suc (suc i)) vars → need_statement [] k vars (statement_of i q line) ≡ 9
line-need k vars i q line l h =
    let left = h line.left (omega (arith, l.left)) in
    let right = h line.right (omega (arith, l.right)) in
    rw (left, right, result-word line.operator) refl

-- the names below the last ones aren't written behind lines
abbrev AreNewest : ℕ → List (List ℕ) → Type 0
AreNewest i written = (m : ℕ) → 2 ≤ m → m + 6 < i → IsAbsent m written

greatest : (a b n : ℕ) → a ≤ n → b ≤ n → max a b ≤ n
greatest a b n h k = omega arith

lines-need : (k : Known) (vars : Vars) (i p : ℕ) (lines : List Line) (written : List (List ℕ)) → AreLines i lines → AreNear i lines → AllWords (suc (suc i)) vars → i + length lines < 2 ^ 32 → AreNewest (i + length lines) written
    → need_statements [] k vars (lets_from 2 i) (statements_of i p lines) written ≤ 17
lines-need k vars i p [] written l near h small newest = omega arith
lines-need k vars i p (line ∷ lines) written l near h small newest =
    let st = statement_of i p line in
    let next : Vars = (name_of (suc (suc i)), result_ty (operator_of line.operator)) ∷ vars in
    let sts = statements_of (suc i) (next_place i p line) lines in
    let wanted = variables_statement st ++ (variables_statements sts ++ written) in
    let absent : AreNewest i wanted = λ m low lt.
    absent-both m (variables_statement st) (variables_statements sts ++ written) (absent-line m i p line low lt l.0 near.0.0 near.0.1 (omega arith))
    (absent-both m (variables_statements sts) written (absent-lines m (suc i) (next_place i p line) lines low (omega arith) l.1 near.1 (omega arith)) (newest m low (omega arith))) in
    let own = line-need k vars i p line l.0 h in
    let few = pending-few wanted i absent in
    let rest = lines-need k next (suc i) (next_place i p line) lines written l.1 near.1 (words-more (suc (suc i)) (result_ty (operator_of line.operator)) vars (result-word line.operator) h) (omega arith) (λ m low lt. newest m low (omega arith)) in
    greatest (pending (lets_from 2 i) wanted + need_statement [] k vars st) (need_statements [] k next (lets_from 2 i ++ let_of k vars st) sts written) 17 (omega arith)
    (subst (λ (lets : Lets). need_statements [] k next lets sts written ≤ 17) (sym (ap (λ (more : Lets). lets_from 2 i ++ more) (let-one k vars i p line) ∙ lets-two i)) rest)

body-need : (k : Known) (vars : Vars) (s : Span) (lines : List Line) (name q : ℕ) → AreLines 0 lines → AreNear 0 lines → AllWords 2 vars → name < length lines + 2 → length lines ≤ name → length lines ≤ 500
    → need [] k vars (BlockTree s (statements_of 0 35 lines) (name_tree name q)) ≤ 19
unfolding lets_from
body-need k vars s lines name q l near h lt le few =
    let written = name_of name ∷ [] in
    let newest : AreNewest (length lines) written = λ m low behind. absent-one m name low (omega arith) (omega arith) in
    let from_first : AreNewest (0 + length lines) written = λ m low behind. absent-one m name low (omega arith) (omega arith) in
    let sts = statements_of 0 35 lines in
    let first : need_statements [] k vars [] sts written ≤ 17 = lines-need k vars 0 35 lines written l near h (omega arith) from_first in
    let last = name-need k (vars_behind k vars sts) name q (words-behind k 0 35 lines vars h name lt) in
    let lets = lets-lines k vars 0 35 lines in
    let wanted : pending (lets_behind k vars sts) written ≤ 8 = rw lets (pending-few written (length lines) newest) in
    let behind : pending (lets_behind k vars sts) written + need [] k (vars_behind k vars sts) (name_tree name q) ≤ 17 = omega arith in
    let both = greatest (need_statements [] k vars [] sts written) (pending (lets_behind k vars sts) written + need [] k (vars_behind k vars sts) (name_tree name q)) 17 first behind in
    omega arith

pub narrow : (lines : List Line) (name bytes : ℕ) → AreLines 0 lines → AreNear 0 lines → name < length lines + 2 → length lines ≤ name → length lines ≤ 500 → room (program_of lines name bytes) ≤ 29
narrow lines name bytes l near lt le few =
    let q = index_after 0 35 lines in
    let f = main_of lines name q in
    let body : need [] (known_in f) first_vars f.body ≤ 19 = body-need (known_in f) first_vars (record { first = 35; after = q + size_of name }) lines name q l near first-words lt le few in
    omega arith
