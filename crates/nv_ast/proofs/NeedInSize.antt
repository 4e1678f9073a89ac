-- The need of an expression and the words of its value are at most 5 times its expanded size, where no exception has more than 8 words.
use Rattle.std.proofs.Common.{◌≡◌, subst, ℕ, ◌+◌, ◌*◌, ◌≤◌, Bool, true, false, cond, List, [], ◌∷◌, ◌++◌, arith, bytes_eq, Some}
use Rattle.std.specs.List.{list_any}
use Rattle.nv_ast.specs.Tree.{Tree, NumberTree, TruthTree, VarTree, ParenTree, TupleTree, FieldsTree, DotTree, InvertTree, NegateTree, BinaryTree, ShiftTree, CallTree, UnpackTree, PackTree, RaiseTree, IfTree, TryTree, FetchTree, BlockTree, Trees, no_trees, tree_and, NamedTrees, no_named_trees, named_tree_and, StatementTree, LetStatement, StoreStatement, StatementTrees, no_statements, statement_and}
use Rattle.nv_ast.specs.Tests.{is_among, value_at, look_up}
use Rattle.nv_ast.specs.Types.{Tys, total_words}
use Rattle.nv_ast.specs.Scope.{Known, Vars}
use Rattle.nv_ast.specs.Typing.{vars_after, vars_behind}
use Rattle.nv_ast.specs.Sizes.{GroupNumbers, Lets, words_at, words_all, words_named, raised_words, handler_vars, expanded, expanded_all, expanded_named, expanded_statement, expanded_statements, need, need_all, need_named, need_statement, need_statements, variables, variables_statement, variables_statements, let_of, lets_behind, pending}

-- the sizes and needs of the groups before, none of which needs more than 5 times its size
abbrev pub Fit : GroupNumbers → GroupNumbers → Type 0
Fit [] [] = Unit {0}
Fit ((x, n) ∷ sizes) ((y, m) ∷ needs) = (x ≡ y) × (m ≤ 5 * n) × Fit sizes needs
Fit _ _ = ⊥

pub fit_at : (sizes needs : GroupNumbers) → Fit sizes needs → (f : List ℕ) → value_at 0 f needs ≤ 5 * value_at 0 f sizes
fit_at [] [] h f = omega arith
fit_at [] (n ∷ needs) h f = absurd h
fit_at (n ∷ sizes) [] h f = absurd h
fit_at ((x, n) ∷ sizes) ((y, m) ∷ needs) h f =
    subst (λ z. value_at 0 f ((z, m) ∷ needs) ≤ 5 * value_at 0 f ((x, n) ∷ sizes)) h.0 (by (bytes_eq f x) (fit_at sizes needs h.2 f))
  where
    by : (b : Bool) → value_at 0 f needs ≤ 5 * value_at 0 f sizes → cond b m (value_at 0 f needs) ≤ 5 * cond b n (value_at 0 f sizes)
    by true rest = h.1
    by false rest = rest

-- exceptions of at most 8 words
abbrev pub AreLow : List (List ℕ × Tys) → Type 0
AreLow [] = Unit {0}
AreLow ((x, ts) ∷ es) = (total_words ts ≤ 8) × AreLow es

pub low_at : (es : List (List ℕ × Tys)) → AreLow es → (x : List ℕ) → raised_words (look_up x es) ≤ 8
low_at [] h x = omega arith
low_at ((y, ts) ∷ es) h x = by (bytes_eq x y) (low_at es h.1 x)
  where
    by : (b : Bool) → raised_words (look_up x es) ≤ 8 → raised_words (cond b (Some ts) (look_up x es)) ≤ 8
    by true rest = h.0
    by false rest = rest

-- ---- words are counted in sizes
pub words_in : (sizes : GroupNumbers) (k : Known) (vars : Vars) (e : Tree) → words_at k vars e + 1 ≤ expanded sizes k vars e
words_in sizes k vars (NumberTree s n) = omega arith
words_in sizes k vars (TruthTree s b) = omega arith
words_in sizes k vars (VarTree s x) = omega arith
words_in sizes k vars (ParenTree s e) = omega arith
words_in sizes k vars (TupleTree s es) = omega arith
words_in sizes k vars (FieldsTree s es) = omega arith
words_in sizes k vars (DotTree s e x) = omega arith
words_in sizes k vars (InvertTree s e) = omega arith
words_in sizes k vars (NegateTree s e) = omega arith
words_in sizes k vars (BinaryTree s op a b) = omega arith
words_in sizes k vars (ShiftTree s op e n) = omega arith
words_in sizes k vars (CallTree s f es) = omega arith
words_in sizes k vars (UnpackTree s l e) = omega arith
words_in sizes k vars (PackTree s l e) = omega arith
words_in sizes k vars (RaiseTree s x es) = omega arith
words_in sizes k vars (IfTree s c a b) = omega arith
words_in sizes k vars (TryTree s a x ps h) = omega arith
words_in sizes k vars (FetchTree s m n a) = omega arith
words_in sizes k vars (BlockTree s sts e) = omega arith

all_words_in : (sizes : GroupNumbers) (k : Known) (vars : Vars) (es : Trees) → words_all k vars es ≤ expanded_all sizes k vars es
all_words_in sizes k vars no_trees = omega arith
all_words_in sizes k vars (tree_and e es) = omega (arith, words_in sizes k vars e, all_words_in sizes k vars es)

named_words_in : (sizes : GroupNumbers) (k : Known) (vars : Vars) (es : NamedTrees) → words_named k vars es ≤ expanded_named sizes k vars es
named_words_in sizes k vars no_named_trees = omega arith
named_words_in sizes k vars (named_tree_and x e es) = omega (arith, words_in sizes k vars e, named_words_in sizes k vars es)

-- ---- the words of all lets
abbrev let_total : Lets → ℕ
let_total [] = 0
let_total ((names, n) ∷ lets) = n + let_total lets

pending_in : (lets : Lets) (written : List (List ℕ)) → pending lets written ≤ let_total lets
pending_in [] written = omega arith
pending_in ((names, n) ∷ lets) written = by (list_any (λ x. is_among x written) names) (pending_in lets written)
  where
    by : (b : Bool) → pending lets written ≤ let_total lets → cond b n 0 + pending lets written ≤ n + let_total lets
    by true rest = omega (arith, rest)
    by false rest = omega (arith, rest)

let_total-append : (a b : Lets) → let_total (a ++ b) ≡ let_total a + let_total b
let_total-append [] b = omega arith
let_total-append ((names, n) ∷ a) b = omega (arith, let_total-append a b)

let_in : (sizes : GroupNumbers) (k : Known) (vars : Vars) (st : StatementTree) → let_total (let_of k vars st) ≤ expanded_statement sizes k vars st
let_in sizes k vars (LetStatement s p e) = omega (arith, words_in sizes k vars e)
let_in sizes k vars (StoreStatement s m a e) = omega arith

lets_in : (sizes : GroupNumbers) (k : Known) (vars : Vars) (sts : StatementTrees) → let_total (lets_behind k vars sts) ≤ expanded_statements sizes k vars sts
lets_in sizes k vars no_statements = omega arith
lets_in sizes k vars (statement_and st sts) =
    omega (arith, let_total-append (let_of k vars st) (lets_behind k (vars_after k vars st) sts), let_in sizes k vars st, lets_in sizes k (vars_after k vars st) sts)

-- ---- needs
pub record Before (sizes needs : GroupNumbers) (k : Known) : Type 0 where
  pub fit : Fit sizes needs
  pub low : AreLow k.exceptions

mutual
  pub need_in : (sizes needs : GroupNumbers) (k : Known) → Before sizes needs k → (vars : Vars) (e : Tree) → need needs k vars e + words_at k vars e ≤ 5 * expanded sizes k vars e
  need_in sizes needs k is vars (NumberTree s n) = omega arith
  need_in sizes needs k is vars (TruthTree s b) = omega arith
  need_in sizes needs k is vars (VarTree s x) = omega arith
  need_in sizes needs k is vars (ParenTree s e) = omega (arith, need_in sizes needs k is vars e)
  need_in sizes needs k is vars (TupleTree s es) = omega (arith, all_in sizes needs k is vars es)
  need_in sizes needs k is vars (FieldsTree s es) = omega (arith, named_in sizes needs k is vars es)
  need_in sizes needs k is vars (DotTree s e x) = omega (arith, need_in sizes needs k is vars e)
  need_in sizes needs k is vars (InvertTree s e) = omega (arith, need_in sizes needs k is vars e)
  need_in sizes needs k is vars (NegateTree s e) = omega (arith, need_in sizes needs k is vars e)
  need_in sizes needs k is vars (BinaryTree s op a b) = omega (arith, words_in sizes k vars a, words_in sizes k vars b, need_in sizes needs k is vars a, need_in sizes needs k is vars b)
  need_in sizes needs k is vars (ShiftTree s op e n) = omega (arith, need_in sizes needs k is vars e)
  need_in sizes needs k is vars (CallTree s f es) = omega (arith, all_words_in sizes k vars es, all_in sizes needs k is vars es, fit_at sizes needs is.fit f)
  need_in sizes needs k is vars (UnpackTree s l e) = omega (arith, need_in sizes needs k is vars e)
  need_in sizes needs k is vars (PackTree s l e) = omega (arith, need_in sizes needs k is vars e)
  need_in sizes needs k is vars (RaiseTree s x es) = omega (arith, all_in sizes needs k is vars es)
  need_in sizes needs k is vars (IfTree s c a b) =
      omega (arith, words_in sizes k vars c, words_in sizes k vars a, words_in sizes k vars b, need_in sizes needs k is vars c, need_in sizes needs k is vars a, need_in sizes needs k is vars b)
  need_in sizes needs k is vars (TryTree s a x ps h) =
      let inner = handler_vars k vars x ps in
      omega (arith, low_at k.exceptions is.low x, words_in sizes k vars a, words_in sizes k inner h, need_in sizes needs k is vars a, need_in sizes needs k is inner h)
  need_in sizes needs k is vars (FetchTree s m n e) = omega (arith, need_in sizes needs k is vars e)
  need_in sizes needs k is vars (BlockTree s sts e) =
      let inner = vars_behind k vars sts in
      omega (arith, statements_in sizes needs k is vars [] sts (variables e), pending_in (lets_behind k vars sts) (variables e), lets_in sizes k vars sts, need_in sizes needs k is inner e)

  all_in : (sizes needs : GroupNumbers) (k : Known) → Before sizes needs k → (vars : Vars) (es : Trees) → need_all needs k vars es + words_all k vars es ≤ 5 * expanded_all sizes k vars es
  all_in sizes needs k is vars no_trees = omega arith
  all_in sizes needs k is vars (tree_and e es) = omega (arith, words_in sizes k vars e, all_words_in sizes k vars es, need_in sizes needs k is vars e, all_in sizes needs k is vars es)

  named_in : (sizes needs : GroupNumbers) (k : Known) → Before sizes needs k → (vars : Vars) (es : NamedTrees) → need_named needs k vars es + words_named k vars es ≤ 5 * expanded_named sizes k vars es
  named_in sizes needs k is vars no_named_trees = omega arith
  named_in sizes needs k is vars (named_tree_and x e es) = omega (arith, words_in sizes k vars e, named_words_in sizes k vars es, need_in sizes needs k is vars e, named_in sizes needs k is vars es)

  statement_in : (sizes needs : GroupNumbers) (k : Known) → Before sizes needs k → (vars : Vars) (st : StatementTree) → need_statement needs k vars st ≤ 5 * expanded_statement sizes k vars st
  statement_in sizes needs k is vars (LetStatement s p e) = omega (arith, need_in sizes needs k is vars e)
  statement_in sizes needs k is vars (StoreStatement s m a e) = omega (arith, words_in sizes k vars a, words_in sizes k vars e, need_in sizes needs k is vars a, need_in sizes needs k is vars e)

  statements_in : (sizes needs : GroupNumbers) (k : Known) → Before sizes needs k → (vars : Vars) (lets : Lets) (sts : StatementTrees) (written : List (List ℕ))
      → need_statements needs k vars lets sts written ≤ let_total lets + 5 * expanded_statements sizes k vars sts
  statements_in sizes needs k is vars lets no_statements written = omega arith
  statements_in sizes needs k is vars lets (statement_and st sts) written =
      omega (arith, pending_in lets (variables_statement st ++ (variables_statements sts ++ written)), statement_in sizes needs k is vars st, let_total-append lets (let_of k vars st), let_in sizes k vars st, statements_in sizes needs k is (vars_after k vars st) (lets ++ let_of k vars st) sts written)
