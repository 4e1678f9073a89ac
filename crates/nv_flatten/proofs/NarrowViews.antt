-- The lemmas on narrow code, at the values that the functions have.
use Rattle.std.proofs.Common.{◌≡◌, ℕ, zero, suc, ◌+◌, ◌<◌, ◌≤◌, nat_lt, length, drop, get_or, List, [], ◌∷◌, ◌++◌, append_assoc, append-nil, refl, sym, ap, subst, ◌∙◌, arith}
use Rattle.std.proofs.lemmas.Bool.{ltb-false}
use Rattle.std.proofs.lemmas.List.{drop_all}
use Rattle.nv_base.specs.declared.term.Atom.{Atom}
use Rattle.nv_base.specs.declared.term.Atom.TheVariants.{Var}
use Rattle.nv_ast.specs.declared.token.Span.{Span}
use Rattle.nv_ast.specs.declared.tree.Expr.{Expr}
use Rattle.nv_ast.specs.declared.tree.Stmt.{Stmt}
use Rattle.nv_ast.specs.declared.tree.ShiftOp.{ShiftOp}
use Rattle.nv_ast.specs.ExprView.{tree_of, list_trees, list_named_trees, statement_tree, list_statements}
use Rattle.nv_ast.specs.Tree.{Tree, ShiftTree, no_statements, statement_and}
use Rattle.nv_base.specs.Words.{atom_vars}
use Rattle.nv_base.specs.Sets.{all_vars}
use Rattle.flat_ir.specs.declared.spine.Step.{Step}
use Rattle.flat_ir.specs.declared.spine.Step.TheVariants.{Let}
use Rattle.nv_flatten_values.specs.declared.symbol.Symbol.{Symbol as CodeSymbol}
use Rattle.nv_flatten_values.specs.inner.Code.{shift_of}
use Rattle.nv_flatten_values.specs.inner.Symbols.{Symbol, SymbolScope, Word, operands, word_operand}
use Rattle.nv_flatten_values.specs.inner.Simulation.{Names, Extends, HasForm, IsStated}
use Rattle.nv_flatten_values.specs.inner.View.{view, list_symbols, list_named_symbols, scope_of, Named}
use Rattle.nv_flatten_values.specs.inner.Whole.{Whole}
use Rattle.nv_flatten_values.specs.inner.Narrow.{IsWithin, AreNarrowLets, IsNarrowValue, AreNarrowValues, AreNarrowFields, IsNarrowStatement, IsNarrowStated}
use Rattle.nv_flatten.proofs.WellTypes.{middle-of}
use Rattle.nv_flatten_values.proofs.Within.{of-none, into-left, into-right, together, through, turned}
use Rattle.nv_flatten_values.proofs.NarrowFacts.{word-operand-within}
use Rattle.nv_flatten.proofs.NarrowValues.{value-narrow-more, shift-none-narrow, shift-narrow}
use Rattle.nv_flatten.proofs.NarrowLists.{values-cons, fields-cons, values-nil, fields-nil, stated-cons, stated-nil, statement-narrow-more}
use Rattle.nv_flatten_values.proofs.Keeping.{extends-then}
use Rattle.nv_ast.proofs.Items.{next_item}
use Rattle.nv_ast.proofs.Faultless.{not_where}

-- ---- at an equal scope, an equal tree and equal operands
pub narrow-at : (w : Whole) (names : Names) (scope : SymbolScope) (e : Tree) (ss ss' : List Step) (v v' : Symbol) → ss' ≡ ss → v' ≡ v → IsNarrowValue w names scope e ss v → IsNarrowValue w names scope e ss' v'
narrow-at w names scope e ss ss' v v' es ev a = subst (λ k. IsNarrowValue w names scope e k v') (sym es) (subst (λ k. IsNarrowValue w names scope e ss k) (sym ev) a)

pub narrow-in : (w : Whole) (names : Names) (l l' : List Named) (e : Tree) (ss : List Step) (v : Symbol) → l ≡ l' → IsNarrowValue w names (scope_of l []) e ss v → IsNarrowValue w names (scope_of l' []) e ss v
narrow-in w names l l' e ss v same a = subst (λ k. IsNarrowValue w names (scope_of k []) e ss v) same a

narrow-form-in : (w : Whole) (l l' : List Named) (e : Tree) (v : Symbol) → l ≡ l' → HasForm w (scope_of l []) e v → HasForm w (scope_of l' []) e v
narrow-form-in w l l' e v same a = subst (λ k. HasForm w (scope_of k []) e v) same a

-- ---- a shift, as its function says it
shift-by : (w : Whole) (names : Names) (scope : SymbolScope) (sp : Span) (op : ShiftOp) (a : Tree) (n : ℕ) (ss ss' : List Step) (s : Symbol) (b : Atom) (x : ℕ) → (n ≡ 0 → (b ≡ word_operand s) × (ss' ≡ ss)) → (1 ≤ n → n ≤ 31 → (b ≡ Var x) × (ss' ≡ ss ++ Let x (shift_of op n (word_operand s)) ∷ []))
    → IsNarrowValue w names scope a ss s → n ≤ 31 → IsNarrowValue w names scope (ShiftTree sp op a n) ss' (Word b)
shift-by w names scope sp op a zero ss ss' s b x none some v le =
    let h = none refl in narrow-at w names scope (ShiftTree sp op a 0) ss ss' (Word (word_operand s)) (Word b) h.1 (ap Word h.0) (shift-none-narrow w names scope sp op a 0 ss s v)
shift-by w names scope sp op a (suc n) ss ss' s b x none some v le =
    let one : 1 ≤ suc n = omega arith in
    let h = some one le in
    narrow-at w names scope (ShiftTree sp op a (suc n)) (ss ++ Let x (shift_of op (suc n) (word_operand s)) ∷ []) ss' (Word (Var x)) (Word b) h.1 (ap Word h.0) (shift-narrow w names scope sp op a (suc n) ss s x v)

pub shifted-narrow : (w : Whole) (names : Names) (scope : SymbolScope) (sp : Span) (op : ShiftOp) (a : Tree) (n : ℕ) (ss ss' : List Step) (s : Symbol) (b : Atom) (x : ℕ) → (n ≡ 0 → (b ≡ word_operand s) × (ss' ≡ ss))
    → (1 ≤ n → n ≤ 31 → (b ≡ Var x) × (ss' ≡ ss ++ Let x (shift_of op n (word_operand s)) ∷ [])) → IsNarrowValue w names scope a ss s → IsNarrowValue w names scope (ShiftTree sp op a n) ss' (Word b)
shifted-narrow w names scope sp op a n ss ss' s b x none some v = record {
  by = λ c p wanted stands clean.
      let le : n ≤ 31 = ltb-false 31 n (not_where (nat_lt 31 n) 21 (middle-of p wanted (ShiftTree sp op a n) clean)) in
      (shift-by w names scope sp op a n ss ss' s b x none some v le).by c p wanted stands clean;
}

-- ---- loops: whatever comes for the rest, the whole follows
pub record NarrowFront (w : Whole) (scope : SymbolScope) (es : List Expr) (names : Names) (ss : List Step) (vs : List CodeSymbol) (rest : List Expr) : Type 0 where
  pub by : (later : Names) (ts : List Step) (us : List CodeSymbol) → Extends names later → AreNarrowValues w later scope (list_trees rest) ts (list_symbols us) → AreNarrowValues w later scope (list_trees es) (ss ++ ts) (list_symbols (vs ++ us))

pub front-first : (w : Whole) (scope : SymbolScope) (es : List Expr) (names : Names) (ss : List Step) (vs : List CodeSymbol) → ss ≡ [] → vs ≡ [] → NarrowFront w scope es names ss vs es
front-first w scope es names ss vs e f = record {
  by = λ later ts us h a.
      subst (λ k. AreNarrowValues w later scope (list_trees es) (k ++ ts) (list_symbols (vs ++ us))) (sym e) (subst (λ k. AreNarrowValues w later scope (list_trees es) ts (list_symbols (k ++ us))) (sym f) a);
}

pub front-more : (w : Whole) (l l' : List Named) (es : List Expr) (names more : Names) (i : ℕ) (e : Expr) (ss ts ss' : List Step) (vs vs' : List CodeSymbol) (v : CodeSymbol) → i < length es → e ≡ get_or es i e → ss' ≡ ss ++ ts → vs' ≡ vs ++ v ∷ [] → l ≡ l' → Extends names more
    → NarrowFront w (scope_of l' []) es names ss vs (drop i es) → HasForm w (scope_of l []) (tree_of e) (view v) → IsNarrowValue w more (scope_of l []) (tree_of e) ts (view v) → NarrowFront w (scope_of l' []) es more ss' vs' (drop (i + 1) es)
front-more w l l' es names more i e ss ts ss' vs vs' v h is es' ev same ext a f b = record {
  by = λ later ts' us ext' rest.
      let scope = scope_of l' [] in
      let here : AreNarrowValues w later scope (list_trees (e ∷ drop (i + 1) es)) (ts ++ ts') (list_symbols (v ∷ us)) =
      values-cons w later scope (tree_of e) (list_trees (drop (i + 1) es)) ts ts' (view v) (list_symbols us) (narrow-form-in w l l' (tree_of e) (view v) same f)
      (value-narrow-more w more later ext' scope (tree_of e) ts (view v) (narrow-in w more l l' (tree_of e) ts (view v) same b)) rest in
      let there = a.by later (ts ++ ts') (v ∷ us) (extends-then names more later ext ext') (subst (λ k. AreNarrowValues w later scope (list_trees k) (ts ++ ts') (list_symbols (v ∷ us))) (sym (next_item es i e h is)) here) in
      subst (λ k. AreNarrowValues w later scope (list_trees es) k (list_symbols (vs' ++ us))) (sym (append_assoc ss ts ts') ∙ ap (λ k. k ++ ts') (sym es'))
      (subst (λ k. AreNarrowValues w later scope (list_trees es) (ss ++ (ts ++ ts')) (list_symbols k)) (sym (append_assoc vs (v ∷ []) us) ∙ ap (λ k. k ++ us) (sym ev)) there);
}

pub front-last : (w : Whole) (scope : SymbolScope) (es : List Expr) (names : Names) (i : ℕ) (ss : List Step) (vs : List CodeSymbol) → length es ≤ i → NarrowFront w scope es names ss vs (drop i es) → AreNarrowValues w names scope (list_trees es) ss (list_symbols vs)
front-last w scope es names i ss vs h a =
    subst (λ k. AreNarrowValues w names scope (list_trees es) k (list_symbols vs)) (append-nil ss)
    (subst (λ k. AreNarrowValues w names scope (list_trees es) (ss ++ []) (list_symbols k)) (append-nil vs)
    (a.by names [] [] ([], sym (append-nil names)) (subst (λ k. AreNarrowValues w names scope (list_trees k) [] (list_symbols [])) (sym (drop_all i es h)) (values-nil w names scope))))

-- fields
pub record NarrowFields (w : Whole) (scope : SymbolScope) (es : List (List ℕ × Expr)) (names : Names) (ss : List Step) (vs : List Named) (rest : List (List ℕ × Expr)) : Type 0 where
  pub by : (later : Names) (ts : List Step) (us : List Named) → Extends names later → AreNarrowFields w later scope (list_named_trees rest) ts (list_named_symbols us) → AreNarrowFields w later scope (list_named_trees es) (ss ++ ts) (list_named_symbols (vs ++ us))

pub row-first : (w : Whole) (scope : SymbolScope) (es : List (List ℕ × Expr)) (names : Names) (ss : List Step) (vs : List Named) → ss ≡ [] → vs ≡ [] → NarrowFields w scope es names ss vs es
row-first w scope es names ss vs e f = record {
  by = λ later ts us h a.
      subst (λ k. AreNarrowFields w later scope (list_named_trees es) (k ++ ts) (list_named_symbols (vs ++ us))) (sym e) (subst (λ k. AreNarrowFields w later scope (list_named_trees es) ts (list_named_symbols (k ++ us))) (sym f) a);
}

pub row-more : (w : Whole) (l l' : List Named) (es : List (List ℕ × Expr)) (names more : Names) (i : ℕ) (e : List ℕ × Expr) (ss ts ss' : List Step) (vs vs' : List Named) (f : Named) → i < length es → e ≡ get_or es i e → ss' ≡ ss ++ ts → vs' ≡ vs ++ f ∷ [] → l ≡ l' → Extends names more
    → NarrowFields w (scope_of l' []) es names ss vs (drop i es) → HasForm w (scope_of l []) (tree_of e.1) (view f.1) → IsNarrowValue w more (scope_of l []) (tree_of e.1) ts (view f.1) → NarrowFields w (scope_of l' []) es more ss' vs' (drop (i + 1) es)
row-more w l l' es names more i e ss ts ss' vs vs' f h is es' ev same ext a g b = record {
  by = λ later ts' us ext' rest.
      let scope = scope_of l' [] in
      let here : AreNarrowFields w later scope (list_named_trees (e ∷ drop (i + 1) es)) (ts ++ ts') (list_named_symbols (f ∷ us)) =
      fields-cons w later scope e.0 f.0.now (tree_of e.1) (list_named_trees (drop (i + 1) es)) ts ts' (view f.1) (list_named_symbols us) (narrow-form-in w l l' (tree_of e.1) (view f.1) same g)
      (value-narrow-more w more later ext' scope (tree_of e.1) ts (view f.1) (narrow-in w more l l' (tree_of e.1) ts (view f.1) same b)) rest in
      let there = a.by later (ts ++ ts') (f ∷ us) (extends-then names more later ext ext') (subst (λ k. AreNarrowFields w later scope (list_named_trees k) (ts ++ ts') (list_named_symbols (f ∷ us))) (sym (next_item es i e h is)) here) in
      subst (λ k. AreNarrowFields w later scope (list_named_trees es) k (list_named_symbols (vs' ++ us))) (sym (append_assoc ss ts ts') ∙ ap (λ k. k ++ ts') (sym es'))
      (subst (λ k. AreNarrowFields w later scope (list_named_trees es) (ss ++ (ts ++ ts')) (list_named_symbols k)) (sym (append_assoc vs (f ∷ []) us) ∙ ap (λ k. k ++ us) (sym ev)) there);
}

pub row-last : (w : Whole) (scope : SymbolScope) (es : List (List ℕ × Expr)) (names : Names) (i : ℕ) (ss : List Step) (vs : List Named) → length es ≤ i → NarrowFields w scope es names ss vs (drop i es) → AreNarrowFields w names scope (list_named_trees es) ss (list_named_symbols vs)
row-last w scope es names i ss vs h a =
    subst (λ k. AreNarrowFields w names scope (list_named_trees es) k (list_named_symbols vs)) (append-nil ss)
    (subst (λ k. AreNarrowFields w names scope (list_named_trees es) (ss ++ []) (list_named_symbols k)) (append-nil vs)
    (a.by names [] [] ([], sym (append-nil names)) (subst (λ k. AreNarrowFields w names scope (list_named_trees k) [] (list_named_symbols [])) (sym (drop_all i es h)) (fields-nil w names scope))))

-- statements
pub record NarrowLed (w : Whole) (scope : SymbolScope) (sts : List Stmt) (names : Names) (ss : List Step) (now : SymbolScope) (rest : List Stmt) : Type 0 where
  pub by : (later : Names) (ts : List Step) (inner : SymbolScope) → Extends names later → IsNarrowStated w later now (list_statements rest) ts inner → IsNarrowStated w later scope (list_statements sts) (ss ++ ts) inner

pub led-first : (w : Whole) (scope : SymbolScope) (sts : List Stmt) (names : Names) (ss : List Step) → ss ≡ [] → NarrowLed w scope sts names ss scope sts
led-first w scope sts names ss e = record { by = λ later ts inner h a. subst (λ k. IsNarrowStated w later scope (list_statements sts) (k ++ ts) inner) (sym e) a }

pub led-more : (w : Whole) (scope now behind : SymbolScope) (sts : List Stmt) (names more : Names) (low high : ℕ) (i : ℕ) (st : Stmt) (ss ts ss' : List Step) → i < length sts → st ≡ get_or sts i st → ss' ≡ ss ++ ts → Extends names more
    → NarrowLed w scope sts names ss now (drop i sts) → IsStated w more low high now (statement_and (statement_tree st) no_statements) ts behind → IsNarrowStatement w more now (statement_tree st) ts behind → NarrowLed w scope sts more ss' behind (drop (i + 1) sts)
led-more w scope now behind sts names more low high i st ss ts ss' h is es' ext a f b = record {
  by = λ later ts' inner ext' rest.
      let here : IsNarrowStated w later now (list_statements (st ∷ drop (i + 1) sts)) (ts ++ ts') inner =
      stated-cons w later now more low high behind inner (statement_tree st) (list_statements (drop (i + 1) sts)) ts ts' f (statement-narrow-more w more later ext' now (statement_tree st) ts behind b) rest in
      subst (λ k. IsNarrowStated w later scope (list_statements sts) k inner) (sym (append_assoc ss ts ts') ∙ ap (λ k. k ++ ts') (sym es'))
      (a.by later (ts ++ ts') inner (extends-then names more later ext ext') (subst (λ k. IsNarrowStated w later now (list_statements k) (ts ++ ts') inner) (sym (next_item sts i st h is)) here));
}

pub led-last : (w : Whole) (scope now : SymbolScope) (sts : List Stmt) (names : Names) (i : ℕ) (ss : List Step) → length sts ≤ i → NarrowLed w scope sts names ss now (drop i sts) → IsNarrowStated w names scope (list_statements sts) ss now
led-last w scope now sts names i ss h a =
    subst (λ k. IsNarrowStated w names scope (list_statements sts) k now) (append-nil ss)
    (a.by names [] now ([], sym (append-nil names)) (subst (λ k. IsNarrowStated w names now (list_statements k) [] now) (sym (drop_all i sts h)) (stated-nil w names now)))

-- ---- the operands of a comparison, in their order and turned
pub two-operands : (s u : Symbol) → IsWithin (all_vars (word_operand s ∷ word_operand u ∷ [])) (all_vars (operands s) ++ all_vars (operands u))
two-operands s u =
    let a = all_vars (operands s) in
    let b = all_vars (operands u) in
    together (atom_vars (word_operand s)) (atom_vars (word_operand u) ++ []) (a ++ b) (into-left (atom_vars (word_operand s)) a b (word-operand-within s))
    (together (atom_vars (word_operand u)) [] (a ++ b) (into-right (atom_vars (word_operand u)) a b (word-operand-within u)) (of-none (a ++ b)))

pub operands-turned : (s u : Symbol) → IsWithin (all_vars (word_operand u ∷ word_operand s ∷ [])) (all_vars (operands s) ++ all_vars (operands u))
operands-turned s u = through (two-operands u s) (turned (all_vars (operands u)) (all_vars (operands s)))

pub lets-from : (as' bs : List Atom) (ss : List Step) (found : List Atom) → as' ≡ bs → AreNarrowLets as' ss found → AreNarrowLets bs ss found
lets-from as' bs ss found same a = subst (λ k. AreNarrowLets k ss found) same a
