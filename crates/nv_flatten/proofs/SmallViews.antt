-- The lemmas on small code, at the values that the functions have.
use Rattle.std.proofs.Common.{◌≡◌, ℕ, zero, suc, ◌+◌, ◌<◌, ◌≤◌, nat_lt, length, drop, get_or, List, [], ◌∷◌, ◌++◌, append_assoc, append-nil, refl, sym, ap, subst, ◌∙◌, arith}
use Rattle.std.proofs.lemmas.Bool.{ltb-false}
use Rattle.std.proofs.lemmas.List.{drop_all}
use Rattle.nv_base.specs.declared.term.Atom.{Atom}
use Rattle.nv_base.specs.declared.term.Atom.TheVariants.{Var}
use Rattle.nv_ast.specs.declared.token.Span.{Span}
use Rattle.nv_ast.specs.declared.tree.Expr.{Expr}
use Rattle.nv_ast.specs.declared.tree.Stmt.{Stmt}
use Rattle.nv_ast.specs.declared.tree.ShiftOp.{ShiftOp}
use Rattle.nv_ast.specs.ExprView.{tree_of, list_trees, list_named_trees, statement_tree, list_statements}
use Rattle.nv_ast.specs.Tree.{Tree, ShiftTree, no_statements, statement_and}
use Rattle.flat_ir.specs.declared.spine.Step.{Step}
use Rattle.flat_ir.specs.declared.spine.Step.TheVariants.{Let}
use Rattle.nv_flatten_values.specs.declared.symbol.Symbol.{Symbol as CodeSymbol}
use Rattle.nv_flatten_values.specs.inner.Code.{shift_of}
use Rattle.nv_flatten_values.specs.inner.Symbols.{Symbol, SymbolScope, Word, word_operand}
use Rattle.nv_flatten_values.specs.inner.Simulation.{Names, Extends, IsStated}
use Rattle.nv_flatten_values.specs.inner.View.{view, list_symbols, list_named_symbols, scope_of, Named}
use Rattle.nv_flatten_values.specs.inner.Whole.{Whole}
use Rattle.nv_flatten_values.specs.inner.Small.{IsSmallValue, AreSmallValues, AreSmallFields, IsSmallStated}
use Rattle.nv_flatten.proofs.WellTypes.{middle-of}
use Rattle.nv_flatten.proofs.SmallValues.{value-small-more, stated-small-more, shift-none-small, shift-small}
use Rattle.nv_flatten.proofs.SmallLists.{small-values-nil, small-values-cons, small-fields-nil, small-fields-cons, small-stated-nil, small-stated-cons}
use Rattle.nv_flatten_values.proofs.Keeping.{extends-then}
use Rattle.nv_ast.proofs.Items.{next_item}
use Rattle.nv_ast.proofs.Faultless.{not_where}

-- ---- at equal operands, and at an equal scope
small-at : (w : Whole) (names : Names) (scope : SymbolScope) (e : Tree) (ss ss' : List Step) (v v' : Symbol) → ss' ≡ ss → v' ≡ v → IsSmallValue w names scope e ss v → IsSmallValue w names scope e ss' v'
small-at w names scope e ss ss' v v' es ev a = subst (λ k. IsSmallValue w names scope e k v') (sym es) (subst (λ k. IsSmallValue w names scope e ss k) (sym ev) a)

small-in : (w : Whole) (names : Names) (l l' : List Named) (e : Tree) (ss : List Step) (v : Symbol) → l ≡ l' → IsSmallValue w names (scope_of l []) e ss v → IsSmallValue w names (scope_of l' []) e ss v
small-in w names l l' e ss v same a = subst (λ k. IsSmallValue w names (scope_of k []) e ss v) same a

-- ---- a shift, as its function says it
shift-by : (w : Whole) (names : Names) (scope : SymbolScope) (sp : Span) (op : ShiftOp) (a : Tree) (n : ℕ) (ss ss' : List Step) (s : Symbol) (b : Atom) (x : ℕ) → (n ≡ 0 → (b ≡ word_operand s) × (ss' ≡ ss)) → (1 ≤ n → n ≤ 31 → (b ≡ Var x) × (ss' ≡ ss ++ Let x (shift_of op n (word_operand s)) ∷ []))
    → IsSmallValue w names scope a ss s → n ≤ 31 → IsSmallValue w names scope (ShiftTree sp op a n) ss' (Word b)
shift-by w names scope sp op a zero ss ss' s b x none some v le =
    let h = none refl in small-at w names scope (ShiftTree sp op a 0) ss ss' (Word (word_operand s)) (Word b) h.1 (ap Word h.0) (shift-none-small w names scope sp op a 0 ss s v)
shift-by w names scope sp op a (suc n) ss ss' s b x none some v le =
    let one : 1 ≤ suc n = omega arith in
    let h = some one le in
    small-at w names scope (ShiftTree sp op a (suc n)) (ss ++ Let x (shift_of op (suc n) (word_operand s)) ∷ []) ss' (Word (Var x)) (Word b) h.1 (ap Word h.0) (shift-small w names scope sp op a (suc n) ss s x v)

pub shifted-small : (w : Whole) (names : Names) (scope : SymbolScope) (sp : Span) (op : ShiftOp) (a : Tree) (n : ℕ) (ss ss' : List Step) (s : Symbol) (b : Atom) (x : ℕ) → (n ≡ 0 → (b ≡ word_operand s) × (ss' ≡ ss))
    → (1 ≤ n → n ≤ 31 → (b ≡ Var x) × (ss' ≡ ss ++ Let x (shift_of op n (word_operand s)) ∷ [])) → IsSmallValue w names scope a ss s → IsSmallValue w names scope (ShiftTree sp op a n) ss' (Word b)
shifted-small w names scope sp op a n ss ss' s b x none some v = record {
  by = λ c p wanted stands clean.
      let le : n ≤ 31 = ltb-false 31 n (not_where (nat_lt 31 n) 21 (middle-of p wanted (ShiftTree sp op a n) clean)) in
      (shift-by w names scope sp op a n ss ss' s b x none some v le).by c p wanted stands clean;
}

-- ---- loops: whatever comes for the rest, the whole follows
pub record SmallFront (w : Whole) (scope : SymbolScope) (es : List Expr) (names : Names) (ss : List Step) (vs : List CodeSymbol) (rest : List Expr) : Type 0 where
  pub by : (later : Names) (ts : List Step) (us : List CodeSymbol) → Extends names later → AreSmallValues w later scope (list_trees rest) ts (list_symbols us) → AreSmallValues w later scope (list_trees es) (ss ++ ts) (list_symbols (vs ++ us))

pub small-front-first : (w : Whole) (scope : SymbolScope) (es : List Expr) (names : Names) (ss : List Step) (vs : List CodeSymbol) → ss ≡ [] → vs ≡ [] → SmallFront w scope es names ss vs es
small-front-first w scope es names ss vs e f = record {
  by = λ later ts us h a.
      subst (λ k. AreSmallValues w later scope (list_trees es) (k ++ ts) (list_symbols (vs ++ us))) (sym e) (subst (λ k. AreSmallValues w later scope (list_trees es) ts (list_symbols (k ++ us))) (sym f) a);
}

pub small-front-more : (w : Whole) (l l' : List Named) (es : List Expr) (names more : Names) (i : ℕ) (e : Expr) (ss ts ss' : List Step) (vs vs' : List CodeSymbol) (v : CodeSymbol) → i < length es → e ≡ get_or es i e → ss' ≡ ss ++ ts → vs' ≡ vs ++ v ∷ [] → l ≡ l' → Extends names more
    → SmallFront w (scope_of l' []) es names ss vs (drop i es) → IsSmallValue w more (scope_of l []) (tree_of e) ts (view v) → SmallFront w (scope_of l' []) es more ss' vs' (drop (i + 1) es)
small-front-more w l l' es names more i e ss ts ss' vs vs' v h is es' ev same ext a b = record {
  by = λ later ts' us ext' rest.
      let scope = scope_of l' [] in
      let here : AreSmallValues w later scope (list_trees (e ∷ drop (i + 1) es)) (ts ++ ts') (list_symbols (v ∷ us)) =
      small-values-cons w later scope (tree_of e) (list_trees (drop (i + 1) es)) ts ts' (view v) (list_symbols us)
      (value-small-more w more later ext' scope (tree_of e) ts (view v) (small-in w more l l' (tree_of e) ts (view v) same b)) rest in
      let there = a.by later (ts ++ ts') (v ∷ us) (extends-then names more later ext ext') (subst (λ k. AreSmallValues w later scope (list_trees k) (ts ++ ts') (list_symbols (v ∷ us))) (sym (next_item es i e h is)) here) in
      subst (λ k. AreSmallValues w later scope (list_trees es) k (list_symbols (vs' ++ us))) (sym (append_assoc ss ts ts') ∙ ap (λ k. k ++ ts') (sym es'))
      (subst (λ k. AreSmallValues w later scope (list_trees es) (ss ++ (ts ++ ts')) (list_symbols k)) (sym (append_assoc vs (v ∷ []) us) ∙ ap (λ k. k ++ us) (sym ev)) there);
}

pub small-front-last : (w : Whole) (scope : SymbolScope) (es : List Expr) (names : Names) (i : ℕ) (ss : List Step) (vs : List CodeSymbol) → length es ≤ i → SmallFront w scope es names ss vs (drop i es) → AreSmallValues w names scope (list_trees es) ss (list_symbols vs)
small-front-last w scope es names i ss vs h a =
    subst (λ k. AreSmallValues w names scope (list_trees es) k (list_symbols vs)) (append-nil ss)
    (subst (λ k. AreSmallValues w names scope (list_trees es) (ss ++ []) (list_symbols k)) (append-nil vs)
    (a.by names [] [] ([], sym (append-nil names)) (subst (λ k. AreSmallValues w names scope (list_trees k) [] (list_symbols [])) (sym (drop_all i es h)) (small-values-nil w names scope))))

-- fields
pub record SmallFields (w : Whole) (scope : SymbolScope) (es : List (List ℕ × Expr)) (names : Names) (ss : List Step) (vs : List Named) (rest : List (List ℕ × Expr)) : Type 0 where
  pub by : (later : Names) (ts : List Step) (us : List Named) → Extends names later → AreSmallFields w later scope (list_named_trees rest) ts (list_named_symbols us) → AreSmallFields w later scope (list_named_trees es) (ss ++ ts) (list_named_symbols (vs ++ us))

pub small-row-first : (w : Whole) (scope : SymbolScope) (es : List (List ℕ × Expr)) (names : Names) (ss : List Step) (vs : List Named) → ss ≡ [] → vs ≡ [] → SmallFields w scope es names ss vs es
small-row-first w scope es names ss vs e f = record {
  by = λ later ts us h a.
      subst (λ k. AreSmallFields w later scope (list_named_trees es) (k ++ ts) (list_named_symbols (vs ++ us))) (sym e) (subst (λ k. AreSmallFields w later scope (list_named_trees es) ts (list_named_symbols (k ++ us))) (sym f) a);
}

pub small-row-more : (w : Whole) (l l' : List Named) (es : List (List ℕ × Expr)) (names more : Names) (i : ℕ) (e : List ℕ × Expr) (ss ts ss' : List Step) (vs vs' : List Named) (f : Named) → i < length es → e ≡ get_or es i e → ss' ≡ ss ++ ts → vs' ≡ vs ++ f ∷ [] → l ≡ l' → Extends names more
    → SmallFields w (scope_of l' []) es names ss vs (drop i es) → IsSmallValue w more (scope_of l []) (tree_of e.1) ts (view f.1) → SmallFields w (scope_of l' []) es more ss' vs' (drop (i + 1) es)
small-row-more w l l' es names more i e ss ts ss' vs vs' f h is es' ev same ext a b = record {
  by = λ later ts' us ext' rest.
      let scope = scope_of l' [] in
      let here : AreSmallFields w later scope (list_named_trees (e ∷ drop (i + 1) es)) (ts ++ ts') (list_named_symbols (f ∷ us)) =
      small-fields-cons w later scope e.0 f.0.now (tree_of e.1) (list_named_trees (drop (i + 1) es)) ts ts' (view f.1) (list_named_symbols us)
      (value-small-more w more later ext' scope (tree_of e.1) ts (view f.1) (small-in w more l l' (tree_of e.1) ts (view f.1) same b)) rest in
      let there = a.by later (ts ++ ts') (f ∷ us) (extends-then names more later ext ext') (subst (λ k. AreSmallFields w later scope (list_named_trees k) (ts ++ ts') (list_named_symbols (f ∷ us))) (sym (next_item es i e h is)) here) in
      subst (λ k. AreSmallFields w later scope (list_named_trees es) k (list_named_symbols (vs' ++ us))) (sym (append_assoc ss ts ts') ∙ ap (λ k. k ++ ts') (sym es'))
      (subst (λ k. AreSmallFields w later scope (list_named_trees es) (ss ++ (ts ++ ts')) (list_named_symbols k)) (sym (append_assoc vs (f ∷ []) us) ∙ ap (λ k. k ++ us) (sym ev)) there);
}

pub small-row-last : (w : Whole) (scope : SymbolScope) (es : List (List ℕ × Expr)) (names : Names) (i : ℕ) (ss : List Step) (vs : List Named) → length es ≤ i → SmallFields w scope es names ss vs (drop i es) → AreSmallFields w names scope (list_named_trees es) ss (list_named_symbols vs)
small-row-last w scope es names i ss vs h a =
    subst (λ k. AreSmallFields w names scope (list_named_trees es) k (list_named_symbols vs)) (append-nil ss)
    (subst (λ k. AreSmallFields w names scope (list_named_trees es) (ss ++ []) (list_named_symbols k)) (append-nil vs)
    (a.by names [] [] ([], sym (append-nil names)) (subst (λ k. AreSmallFields w names scope (list_named_trees k) [] (list_named_symbols [])) (sym (drop_all i es h)) (small-fields-nil w names scope))))

-- statements
pub record SmallLed (w : Whole) (scope : SymbolScope) (sts : List Stmt) (names : Names) (ss : List Step) (now : SymbolScope) (rest : List Stmt) : Type 0 where
  pub by : (later : Names) (ts : List Step) → Extends names later → IsSmallStated w later now (list_statements rest) ts → IsSmallStated w later scope (list_statements sts) (ss ++ ts)

pub small-led-first : (w : Whole) (scope : SymbolScope) (sts : List Stmt) (names : Names) (ss : List Step) → ss ≡ [] → SmallLed w scope sts names ss scope sts
small-led-first w scope sts names ss e = record { by = λ later ts h a. subst (λ k. IsSmallStated w later scope (list_statements sts) (k ++ ts)) (sym e) a }

pub small-led-more : (w : Whole) (scope now behind : SymbolScope) (sts : List Stmt) (names more : Names) (low high : ℕ) (i : ℕ) (st : Stmt) (ss ts ss' : List Step) → i < length sts → st ≡ get_or sts i st → ss' ≡ ss ++ ts → Extends names more
    → SmallLed w scope sts names ss now (drop i sts) → IsStated w more low high now (statement_and (statement_tree st) no_statements) ts behind → IsSmallStated w more now (statement_and (statement_tree st) no_statements) ts → SmallLed w scope sts more ss' behind (drop (i + 1) sts)
small-led-more w scope now behind sts names more low high i st ss ts ss' h is es' ext a f b = record {
  by = λ later ts' ext' rest.
      let one = statement_and (statement_tree st) no_statements in
      let here : IsSmallStated w later now (list_statements (st ∷ drop (i + 1) sts)) (ts ++ ts') =
      small-stated-cons w later now more low high behind (statement_tree st) (list_statements (drop (i + 1) sts)) ts ts' f (stated-small-more w more later ext' now one ts b) rest in
      subst (λ k. IsSmallStated w later scope (list_statements sts) k) (sym (append_assoc ss ts ts') ∙ ap (λ k. k ++ ts') (sym es'))
      (a.by later (ts ++ ts') (extends-then names more later ext ext') (subst (λ k. IsSmallStated w later now (list_statements k) (ts ++ ts')) (sym (next_item sts i st h is)) here));
}

pub small-led-last : (w : Whole) (scope now : SymbolScope) (sts : List Stmt) (names : Names) (i : ℕ) (ss : List Step) → length sts ≤ i → SmallLed w scope sts names ss now (drop i sts) → IsSmallStated w names scope (list_statements sts) ss
small-led-last w scope now sts names i ss h a =
    subst (λ k. IsSmallStated w names scope (list_statements sts) k) (append-nil ss)
    (a.by names [] ([], sym (append-nil names)) (subst (λ k. IsSmallStated w names now (list_statements k) []) (sym (drop_all i sts h)) (small-stated-nil w names now)))
