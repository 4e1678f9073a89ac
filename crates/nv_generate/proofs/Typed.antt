-- A made source has no fault of its types, and its size.
use Rattle.std.proofs.Common.{◌≡◌, ℕ, zero, suc, ◌+◌, ◌*◌, ◌≤◌, ◌<◌, Bool, true, false, List, [], ◌∷◌, ◌++◌, length, refl, arith, below_more, add-one}
use Rattle.std.specs.Prelude.{Some, Option, if◌then◌else◌, bytes_eq, codes}
use Rattle.std.proofs.lemmas.Slice.Eq.{bytes_eq-Decides}
use Rattle.nv_ast.specs.declared.token.Span.{Span}
use Rattle.nv_ast.specs.Tests.{look_up}
use Rattle.nv_ast.specs.Types.{Ty, WordTy}
use Rattle.nv_ast.specs.Scope.{Known, nothing_known, in_group, Vars, Context, inside, with_vars}
use Rattle.nv_ast.specs.Typing.{operand_ty, result_ty, vars_behind}
use Rattle.nv_ast.specs.Faults.{Fault, anything, a_value, of_type, same_as, node_faults, faults, statement_faults, statements_faults, IsTyped}
use Rattle.nv_ast.specs.Sizes.{expanded, expanded_statements, expanded_size, main_words}
use Rattle.nv_ast.specs.Tree.{BlockTree, FunTree}
use Rattle.nv_generate.specs.Made.{name_of}
use Rattle.nv_generate.specs.inner.Lines.{IsLine, AreLines}
use Rattle.nv_generate.specs.inner.Program.{size_of, operator_of, left_place, right_place, next_place, index_after, name_tree, operation, statement_of, statements_of, main_of, program_of}
use Rattle.nv_generate.specs.declared.draws.Line.{Line}

operand-word : (o : ℕ) → operand_ty (operator_of o) ≡ WordTy
operand-word zero = refl
operand-word (suc zero) = refl
operand-word (suc (suc zero)) = refl
operand-word (suc (suc (suc zero))) = refl
operand-word (suc (suc (suc (suc o)))) = refl

pub result-word : (o : ℕ) → result_ty (operator_of o) ≡ WordTy
result-word zero = refl
result-word (suc zero) = refl
result-word (suc (suc zero)) = refl
result-word (suc (suc (suc zero))) = refl
result-word (suc (suc (suc (suc o)))) = refl

-- ---- variables: the names below a number are words
abbrev pub AllWords : ℕ → Vars → Type 0
AllWords n vars = (j : ℕ) → j < n → look_up (name_of j) vars ≡ Some WordTy

or-word : (t : Bool) (o : Option Ty) → o ≡ Some WordTy → (if t then Some WordTy else o) ≡ Some WordTy
or-word true o e = refl
or-word false o e = e

a-word : (t : Bool) (o : Option Ty) → t ≡ true → (if t then Some WordTy else o) ≡ Some WordTy
a-word true o e = refl
a-word false o e = let h : ⊥ = cc in absurd h

pub words-more : (n : ℕ) (t : Ty) (vars : Vars) → t ≡ WordTy → AllWords n vars → AllWords (suc n) ((name_of n, t) ∷ vars)
words-more n t vars e h = rw e (rw add-one at (below_more (λ j. look_up (name_of j) ((name_of n, WordTy) ∷ vars) ≡ Some WordTy) n old new))
  where
    old : (j : ℕ) → j < n → look_up (name_of j) ((name_of n, WordTy) ∷ vars) ≡ Some WordTy
    old j lt = or-word (bytes_eq (name_of j) (name_of n)) (look_up (name_of j) vars) (h j lt)

    new : look_up (name_of n) ((name_of n, WordTy) ∷ vars) ≡ Some WordTy
    new = a-word (bytes_eq (name_of n) (name_of n)) (look_up (name_of n) vars) ((bytes_eq-Decides (name_of n) (name_of n)).1 refl)

pub words-behind : (k : Known) (i p : ℕ) (lines : List Line) (vars : Vars) → AllWords (suc (suc i)) vars → AllWords (length lines + suc (suc i)) (vars_behind k vars (statements_of i p lines))
words-behind k i p [] vars h = let e : 0 + suc (suc i) ≡ suc (suc i) = omega arith in rw e h
words-behind k i p (line ∷ lines) vars h =
    let e : suc (length lines) + suc (suc i) ≡ length lines + suc (suc (suc i)) = omega arith in
    rw e (words-behind k (suc i) (next_place i p line) lines ((name_of (suc (suc i)), result_ty (operator_of line.operator)) ∷ vars) (words-more (suc (suc i)) (result_ty (operator_of line.operator)) vars (result-word line.operator) h))

-- ---- faults
none : (xs ys : List Fault) → xs ≡ [] → ys ≡ [] → xs ++ ys ≡ []
none xs ys e f = rw (e, f) refl

name-word : (p : Context) (name q : ℕ) → look_up (name_of name) p.vars ≡ Some WordTy → faults p (of_type WordTy) (name_tree name q) ≡ []
name-word p name q e = rw e refl

last-word : (p : Context) (name q : ℕ) → look_up (name_of name) p.vars ≡ Some WordTy → faults p anything (name_tree name q) ≡ []
last-word p name q e = rw e refl

operation-faultless : (p : Context) (i q : ℕ) (line : Line) → IsLine i line → AllWords (suc (suc i)) p.vars → faults p a_value (operation i q line) ≡ []
operation-faultless p i q line l h =
    let left = name-word (inside p) line.left (left_place i q) (h line.left (omega (arith, l.left))) in
    let right = name-word (inside p) line.right (right_place i q line) (h line.right (omega (arith, l.right))) in
    rw (operand-word line.operator, left, right, result-word line.operator) refl

statement-faultless : (p : Context) (i q : ℕ) (line : Line) → IsLine i line → AllWords (suc (suc i)) p.vars → statement_faults p (statement_of i q line) ≡ []
statement-faultless p i q line l h = let e = operation-faultless p i q line l h in rw e refl

statements-faultless : (p : Context) (i q : ℕ) (lines : List Line) → AreLines i lines → AllWords (suc (suc i)) p.vars → statements_faults p (statements_of i q lines) ≡ []
statements-faultless p i q [] l h = refl
statements-faultless p i q (line ∷ lines) l h =
    none (statement_faults p (statement_of i q line)) _ (statement-faultless p i q line l.0 h)
    (statements-faultless (with_vars ((name_of (suc (suc i)), result_ty (operator_of line.operator)) ∷ p.vars) p) (suc i) (next_place i q line) lines l.1 (words-more (suc (suc i)) (result_ty (operator_of line.operator)) p.vars (result-word line.operator) h))

block-faultless : (p : Context) (s : Span) (lines : List Line) (name q : ℕ) → AreLines 0 lines → AllWords 2 p.vars → name < length lines + 2 → faults p (same_as (Some WordTy)) (BlockTree s (statements_of 0 35 lines) (name_tree name q)) ≡ []
block-faultless p s lines name q l h lt =
    let behind = words-behind p.known 0 35 lines p.vars h name lt in
    let first = statements-faultless (inside p) 0 35 lines l h in
    let last = last-word (with_vars (vars_behind p.known p.vars (statements_of 0 35 lines)) p) name q behind in
    none (statements_faults (inside p) (statements_of 0 35 lines)) _ first
    (none (faults (with_vars (vars_behind p.known p.vars (statements_of 0 35 lines)) p) anything (name_tree name q)) (node_faults p (same_as (Some WordTy)) (BlockTree s (statements_of 0 35 lines) (name_tree name q))) last (rw behind refl))

-- what is known in main, and its variables
abbrev pub known_in : FunTree → Known
known_in f = in_group nothing_known (f ∷ [])

abbrev pub first_vars : Vars
first_vars = (codes "b", WordTy) ∷ (codes "a", WordTy) ∷ []

pub first-words : AllWords 2 first_vars
first-words zero h = refl
first-words (suc zero) h = refl
first-words (suc (suc j)) h = absurd (omega arith)

pub typed : (lines : List Line) (name bytes : ℕ) → AreLines 0 lines → name < length lines + 2 → IsTyped (program_of lines name bytes)
typed lines name bytes l lt =
    let q = index_after 0 35 lines in
    let f = main_of lines name q in
    let p : Context = record { known = known_in f; vars = first_vars; tail = true } in
    let body : faults p (same_as (Some WordTy)) f.body ≡ [] = block-faultless p (record { first = 35; after = q + size_of name }) lines name q l first-words lt in
    rw body refl

-- ---- sizes
name-size : (k : Known) (vars : Vars) (name q : ℕ) → look_up (name_of name) vars ≡ Some WordTy → expanded [] k vars (name_tree name q) ≡ 2
name-size k vars name q e = rw e refl

operation-size : (k : Known) (vars : Vars) (i q : ℕ) (line : Line) → IsLine i line → AllWords (suc (suc i)) vars → expanded [] k vars (operation i q line) ≡ 6
operation-size k vars i q line l h =
    let left = name-size k vars line.left (left_place i q) (h line.left (omega (arith, l.left))) in
    let right = name-size k vars line.right (right_place i q line) (h line.right (omega (arith, l.right))) in
    rw (left, right, result-word line.operator) refl

statements-size : (k : Known) (vars : Vars) (i q : ℕ) (lines : List Line) → AreLines i lines → AllWords (suc (suc i)) vars → expanded_statements [] k vars (statements_of i q lines) ≡ 7 * length lines
statements-size k vars i q [] l h = refl
statements-size k vars i q (line ∷ lines) l h =
    let e = operation-size k vars i q line l.0 h in
    let r = statements-size k ((name_of (suc (suc i)), result_ty (operator_of line.operator)) ∷ vars) (suc i) (next_place i q line) lines l.1 (words-more (suc (suc i)) (result_ty (operator_of line.operator)) vars (result-word line.operator) h) in
    rw (e, r) (omega arith)

block-size : (k : Known) (vars : Vars) (s : Span) (lines : List Line) (name q : ℕ) → AreLines 0 lines → AllWords 2 vars → name < length lines + 2 → expanded [] k vars (BlockTree s (statements_of 0 35 lines) (name_tree name q)) ≡ 7 * length lines + 4
block-size k vars s lines name q l h lt =
    let behind = words-behind k 0 35 lines vars h name lt in
    let last = name-size k (vars_behind k vars (statements_of 0 35 lines)) name q behind in
    let first = statements-size k vars 0 35 lines l h in
    rw (behind, first) (omega arith)

pub small : (lines : List Line) (name bytes : ℕ) → AreLines 0 lines → name < length lines + 2 → length lines ≤ 500 → expanded_size (program_of lines name bytes) ≤ 4096
small lines name bytes l lt few =
    let q = index_after 0 35 lines in
    let f = main_of lines name q in
    let body : expanded [] (known_in f) first_vars f.body ≡ 7 * length lines + 4 = block-size (known_in f) first_vars (record { first = 35; after = q + size_of name }) lines name q l first-words lt in
    rw body (omega arith)

pub two_arguments : (lines : List Line) (name bytes : ℕ) → main_words (program_of lines name bytes) ≡ 2
two_arguments lines name bytes = refl
