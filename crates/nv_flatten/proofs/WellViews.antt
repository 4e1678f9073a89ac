-- The lemmas on well formed code, at the values that the functions have.
use Rattle.std.proofs.Common.{◌≡◌, ℕ, ◌+◌, ◌<◌, arith, length, take, get_or, List, [], ◌∷◌, ◌++◌, refl, sym, ap, subst, ◌∙◌}
use Rattle.nv_base.specs.declared.term.Atom.{Atom}
use Rattle.nv_ast.specs.declared.tree.Expr.{Expr}
use Rattle.nv_ast.specs.declared.tree.Stmt.{Stmt}
use Rattle.nv_ast.specs.ExprView.{tree_of, list_trees, list_named_trees, statement_tree, list_statements}
use Rattle.nv_ast.specs.Tree.{Tree, no_trees, no_named_trees, no_statements, statement_and}
use Rattle.flat_ir.specs.declared.spine.Step.{Step}
use Rattle.nv_flatten_values.specs.declared.symbol.Symbol.{Symbol as CodeSymbol}
use Rattle.nv_flatten_values.specs.inner.Symbols.{Symbol, Symbols, NamedSymbols, SymbolScope, symbol_and, named_symbol_and}
use Rattle.nv_flatten_values.specs.inner.Simulation.{Names, Extends}
use Rattle.nv_flatten_values.specs.inner.View.{view, list_symbols, list_named_symbols, scope_of, Named}
use Rattle.nv_flatten_values.specs.inner.Whole.{Whole}
use Rattle.nv_flatten_values.specs.inner.Well.{AreWellLets, IsWellValue, AreWellValues, AreWellFields, IsWellStated}
use Rattle.nv_flatten.proofs.WellLists.{and_last, and_last_named, each-none, each-more, fields-none, fields-more, AreTyped, typed-more, statements-none, statements-more}
use Rattle.nv_ast.proofs.Items.{take_item}

-- ---- at an equal scope, an equal tree and equal operands
pub value-in : (w : Whole) (old names : Names) (low high : ℕ) (l l' : List Named) (e : Tree) (ss : List Step) (v : Symbol) → l ≡ l' → IsWellValue w old names low high (scope_of l []) e ss v → IsWellValue w old names low high (scope_of l' []) e ss v
value-in w old names low high l l' e ss v same a = subst (λ k. IsWellValue w old names low high (scope_of k []) e ss v) same a

pub lets-given : (low high : ℕ) (given given' : List Atom) (ss : List Step) (found : List Atom) → given ≡ given' → AreWellLets low high given ss found → AreWellLets low high given' ss found
lets-given low high given given' ss found same a = subst (λ k. AreWellLets low high k ss found) same a

-- ---- the begin and the end of a loop
pub each-init : (w : Whole) (names : Names) (low : ℕ) (scope : SymbolScope) (ss : List Step) (vs : List CodeSymbol) → ss ≡ [] → vs ≡ [] → AreWellValues w names names low low scope no_trees ss (list_symbols vs)
each-init w names low scope ss vs s v =
    subst (λ k. AreWellValues w names names low low scope no_trees k (list_symbols vs)) (sym s) (subst (λ k. AreWellValues w names names low low scope no_trees [] (list_symbols k)) (sym v) (each-none w names low low scope no_trees (omega arith)))

pub fields-init : (w : Whole) (names : Names) (low : ℕ) (scope : SymbolScope) (ss : List Step) (fs : List Named) → ss ≡ [] → fs ≡ [] → AreWellFields w names names low low scope no_named_trees ss (list_named_symbols fs)
fields-init w names low scope ss fs s v =
    subst (λ k. AreWellFields w names names low low scope no_named_trees k (list_named_symbols fs)) (sym s) (subst (λ k. AreWellFields w names names low low scope no_named_trees [] (list_named_symbols k)) (sym v) (fields-none w names low low scope no_named_trees (omega arith)))

pub statements-init : (w : Whole) (names : Names) (low : ℕ) (scope : SymbolScope) (ss : List Step) → ss ≡ [] → IsWellStated w names names low low scope no_statements ss scope
statements-init w names low scope ss s = subst (λ k. IsWellStated w names names low low scope no_statements k scope) (sym s) (statements-none w names low low scope no_statements (omega arith))

pub each-end : (w : Whole) (old names : Names) (low high : ℕ) (scope : SymbolScope) (es es' : List Expr) (ss : List Step) (vs : Symbols) → es ≡ es' → AreWellValues w old names low high scope (list_trees es) ss vs → AreWellValues w old names low high scope (list_trees es') ss vs
each-end w old names low high scope es es' ss vs same a = subst (λ k. AreWellValues w old names low high scope (list_trees k) ss vs) same a

pub fields-end : (w : Whole) (old names : Names) (low high : ℕ) (scope : SymbolScope) (es es' : List (List ℕ × Expr)) (ss : List Step) (vs : NamedSymbols) → es ≡ es' → AreWellFields w old names low high scope (list_named_trees es) ss vs
    → AreWellFields w old names low high scope (list_named_trees es') ss vs
fields-end w old names low high scope es es' ss vs same a = subst (λ k. AreWellFields w old names low high scope (list_named_trees k) ss vs) same a

pub statements-end : (w : Whole) (old names : Names) (low high : ℕ) (scope inner : SymbolScope) (sts sts' : List Stmt) (ss : List Step) → sts ≡ sts' → IsWellStated w old names low high scope (list_statements sts) ss inner → IsWellStated w old names low high scope (list_statements sts') ss inner
statements-end w old names low high scope inner sts sts' ss same a = subst (λ k. IsWellStated w old names low high scope (list_statements k) ss inner) same a

-- ---- one more symbolic value
pub symbols-last : (vs : List CodeSymbol) (v : CodeSymbol) → list_symbols (vs ++ v ∷ []) ≡ and_last (list_symbols vs) (view v)
symbols-last [] v = refl
symbols-last (u ∷ vs) v = ap (symbol_and (view u)) (symbols-last vs v)

pub named-last : (fs : List Named) (f : Named) → list_named_symbols (fs ++ f ∷ []) ≡ and_last_named (list_named_symbols fs) f.0.now (view f.1)
named-last [] f = refl
named-last (g ∷ fs) f = ap (named_symbol_and g.0.now (view g.1)) (named-last fs f)

-- ---- one more element of a loop
pub each-at : (w : Whole) (old names more : Names) (low mid high : ℕ) (l l' : List Named) (es : List Expr) (i : ℕ) (e : Expr) (ss ts ss' : List Step) (vs vs' : List CodeSymbol) (v : CodeSymbol) → i < length es → e ≡ get_or es i e → ss' ≡ ss ++ ts → vs' ≡ vs ++ v ∷ []
    → l ≡ l' → Extends names more → AreWellValues w old names low mid (scope_of l' []) (list_trees (take i es)) ss (list_symbols vs) → IsWellValue w names more mid high (scope_of l []) (tree_of e) ts (view v)
    → AreWellValues w old more low high (scope_of l' []) (list_trees (take (i + 1) es)) ss' (list_symbols vs')
each-at w old names more low mid high l l' es i e ss ts ss' vs vs' v h is es' vs-eq same ext a b =
    subst (λ k. AreWellValues w old more low high (scope_of l' []) (list_trees k) ss' (list_symbols vs')) (sym (take_item es i e h is))
    (subst (λ k. AreWellValues w old more low high (scope_of l' []) (list_trees (take i es ++ e ∷ [])) k (list_symbols vs')) (sym es')
    (subst (λ k. AreWellValues w old more low high (scope_of l' []) (list_trees (take i es ++ e ∷ [])) (ss ++ ts) k) (sym (ap list_symbols vs-eq ∙ symbols-last vs v))
    (each-more w old names more low mid high (scope_of l' []) (take i es) e ss ts (list_symbols vs) (view v) ext a (value-in w names more mid high l l' (tree_of e) ts (view v) same b))))

pub fields-at : (w : Whole) (old names more : Names) (low mid high : ℕ) (l l' : List Named) (es : List (List ℕ × Expr)) (i : ℕ) (e : List ℕ × Expr) (ss ts ss' : List Step) (fs fs' : List Named) (f : Named) → i < length es → e ≡ get_or es i e → ss' ≡ ss ++ ts → fs' ≡ fs ++ f ∷ []
    → l ≡ l' → Extends names more → AreWellFields w old names low mid (scope_of l' []) (list_named_trees (take i es)) ss (list_named_symbols fs) → IsWellValue w names more mid high (scope_of l []) (tree_of e.1) ts (view f.1)
    → AreWellFields w old more low high (scope_of l' []) (list_named_trees (take (i + 1) es)) ss' (list_named_symbols fs')
fields-at w old names more low mid high l l' es i e ss ts ss' fs fs' f h is es' fs-eq same ext a b =
    subst (λ k. AreWellFields w old more low high (scope_of l' []) (list_named_trees k) ss' (list_named_symbols fs')) (sym (take_item es i e h is))
    (subst (λ k. AreWellFields w old more low high (scope_of l' []) (list_named_trees (take i es ++ e ∷ [])) k (list_named_symbols fs')) (sym es')
    (subst (λ k. AreWellFields w old more low high (scope_of l' []) (list_named_trees (take i es ++ e ∷ [])) (ss ++ ts) k) (sym (ap list_named_symbols fs-eq ∙ named-last fs f))
    (fields-more w old names more low mid high (scope_of l' []) (take i es) e ss ts (list_named_symbols fs) f.0.now (view f.1) ext a (value-in w names more mid high l l' (tree_of e.1) ts (view f.1) same b))))

pub statements-at : (w : Whole) (old names more : Names) (low mid high : ℕ) (scope inner behind : SymbolScope) (sts : List Stmt) (i : ℕ) (x : Stmt) (ss ts ss' : List Step) → i < length sts → x ≡ get_or sts i x → ss' ≡ ss ++ ts → Extends names more
    → IsWellStated w old names low mid scope (list_statements (take i sts)) ss inner → AreTyped w scope (list_statements (take i sts)) inner → IsWellStated w names more mid high inner (statement_and (statement_tree x) no_statements) ts behind
    → IsWellStated w old more low high scope (list_statements (take (i + 1) sts)) ss' behind
statements-at w old names more low mid high scope inner behind sts i x ss ts ss' h is es' ext a vars b =
    subst (λ k. IsWellStated w old more low high scope (list_statements k) ss' behind) (sym (take_item sts i x h is))
    (subst (λ k. IsWellStated w old more low high scope (list_statements (take i sts ++ x ∷ [])) k behind) (sym es') (statements-more w old names more low mid high scope inner behind (take i sts) x ss ts ext a vars b))

pub typed-at : (w : Whole) (scope inner behind : SymbolScope) (sts : List Stmt) (i : ℕ) (x : Stmt) → i < length sts → x ≡ get_or sts i x → AreTyped w scope (list_statements (take i sts)) inner → AreTyped w inner (statement_and (statement_tree x) no_statements) behind
    → AreTyped w scope (list_statements (take (i + 1) sts)) behind
typed-at w scope inner behind sts i x h is a b = subst (λ k. AreTyped w scope (list_statements k) behind) (sym (take_item sts i x h is)) (typed-more w scope inner behind (take i sts) x a b)
