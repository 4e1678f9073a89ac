-- What the walk says of expressions and statements one after another.
use Rattle.std.proofs.Common.{◌≡◌, refl, ap, sym, subst, ℕ, ◌+◌, ◌<◌, ◌≤◌, List, [], ◌∷◌, ◌++◌, length, drop, take, get_or}
use Rattle.std.proofs.lemmas.List.{take_all, drop_all}
use Rattle.nv_base.specs.declared.term.Mem.{Mem}
use Rattle.nv_base.specs.Words.{atom_word, atom_words}
use Rattle.nv_ast.specs.declared.token.Span.{Span}
use Rattle.nv_ast.specs.declared.tree.Expr.{Expr}
use Rattle.nv_ast.specs.declared.tree.Stmt.{Stmt}
use Rattle.nv_ast.specs.ExprView.{tree_of, list_trees, list_named_trees, list_statements, statement_tree}
use Rattle.nv_ast.specs.Tree.{Tree, PatternTree, LetStatement, StoreStatement}
use Rattle.flat_ir.specs.Running as flat
use Rattle.flat_ir.specs.declared.spine.Step.{Step}
use Rattle.flat_ir.specs.declared.spine.Step.TheVariants.{Store}
use Rattle.nv_flatten_values.specs.declared.symbol.Symbol.{Symbol as CodeSymbol}
use Rattle.nv_flatten_values.specs.inner.Symbols.{Symbol, SymbolScope, word_operand, operands, bound}
use Rattle.nv_flatten_values.specs.inner.View.{Named, view, list_symbols, list_named_symbols, scope_of}
use Rattle.nv_flatten_values.specs.inner.Whole.{Whole}
use Rattle.nv_flatten_values.specs.inner.Simulation.{Names, Extends}
use Rattle.nv_flatten_values.specs.inner.Well.{AreWellValues, AreWellFields, IsWellStated}
use Rattle.nv_flatten.specs.inner.Flat.{IsFlatValue, AreFlatValues, AreFlatFields, IsFlatStatement, IsFlatStated}
use Rattle.nv_flatten.proofs.ListArms.{Front, FrontNamed, front-none, front-more, front-all, named-none, named-more, named-all}
use Rattle.nv_flatten.proofs.StatementArms.{Led, let-stated, store-stated, led-none, led-more, led-all}
use Rattle.nv_flatten.proofs.WalkArms.{value-in-scope}
use Rattle.nv_flatten.proofs.WellLists.{AreTyped, typed-none, let-well, store-well}
use Rattle.nv_flatten.proofs.WellViews.{each-init, each-at, each-end, fields-init, fields-at, fields-end, statements-init, statements-at, statements-end, typed-at}
use Rattle.nv_flatten.proofs.NarrowValues.{value-narrow-more}
use Rattle.nv_flatten.proofs.NarrowLists.{let-narrow, store-narrow}
use Rattle.nv_flatten.proofs.NarrowViews.{NarrowFront, NarrowFields, NarrowLed, front-first, front-last, row-first, row-more, row-last, led-first, led-last}
use Rattle.nv_flatten.proofs.NarrowViews as narrow
use Rattle.nv_flatten.proofs.SmallValues.{value-small-more}
use Rattle.nv_flatten.proofs.SmallLists.{let-small, store-small}
use Rattle.nv_flatten.proofs.SmallViews.{SmallFront, SmallFields, SmallLed, small-front-first, small-front-more, small-front-last, small-row-first, small-row-more, small-row-last, small-led-first, small-led-more, small-led-last}
use Rattle.nv_ast.proofs.Items.{next_item}

-- ---- statements
pub let-flat : (w : Whole) (old names : Names) (low high : ℕ) (scope : SymbolScope) (sp : Span) (q : PatternTree) (e : Tree) (ss : List Step) (s : Symbol) → low ≤ high → IsFlatValue w old names low high scope e ss s
    → IsFlatStatement w old names low high scope (LetStatement sp q e) ss (bound q s scope)
let-flat w old names low high scope sp q e ss s le f = record {
  same = let-stated w names low high scope sp q e ss s le f.same;
  well = let-well w old names low high scope sp q e ss s f.well;
  narrow = let-narrow w names scope sp q e ss s f.same.formed f.narrow;
  small = let-small w names scope sp q e ss s f.small;
}

pub store-flat : (w : Whole) (old names more : Names) (low mid high : ℕ) (scope : SymbolScope) (sp : Span) (m : Mem) (a e : Tree) (ss ts us : List Step) (s u : Symbol) (bs : _) → us ≡ (ss ++ ts) ++ Store m (word_operand s) bs ∷ [] → bs.items ≡ operands u
    → Extends names more → low ≤ mid → mid ≤ high → IsFlatValue w old names low mid scope a ss s → IsFlatValue w names more mid high scope e ts u → IsFlatStatement w old more low high scope (StoreStatement sp m a e) us scope
store-flat w old names more low mid high scope sp m a e ss ts us s u bs steps is ext le le' f g = subst (λ l. IsFlatStatement w old more low high scope (StoreStatement sp m a e) l scope) (sym steps) (record {
  same = store-stated w names more low mid high scope sp m a e ss ts s u (Store m (word_operand s) bs) (λ call rest env now. ap (λ l. flat.store m (atom_word env (word_operand s)) (atom_words env l) now (λ x. rest env x)) is) ext le le' f.same g.same;
  well = store-well w old names more low mid high scope sp m a e ss ts ((ss ++ ts) ++ Store m (word_operand s) bs ∷ []) s u bs refl is ext f.well g.well g.same.formed;
  narrow = store-narrow w more scope sp m a e ss ts s u bs f.same.formed g.same.formed (value-narrow-more w names more ext scope a ss s f.narrow) g.narrow is;
  small = store-small w more scope sp m a e ss ts s u bs (value-small-more w names more ext scope a ss s f.small) g.small is;
})

-- ---- so many of some expressions
pub record FlatFront (w : Whole) (old names : Names) (low mid : ℕ) (scope : SymbolScope) (es : List Expr) (i : ℕ) (ss : List Step) (vs : List CodeSymbol) : Type 0 where
  pub same : Front w low scope es names mid ss vs (drop i es)
  pub well : AreWellValues w old names low mid scope (list_trees (take i es)) ss (list_symbols vs)
  pub narrow : NarrowFront w scope es names ss vs (drop i es)
  pub small : SmallFront w scope es names ss vs (drop i es)

pub front-start : (w : Whole) (names : Names) (low : ℕ) (scope : SymbolScope) (es : List Expr) (ss : List Step) (vs : List CodeSymbol) → ss ≡ [] → vs ≡ [] → FlatFront w names names low low scope es 0 ss vs
front-start w names low scope es ss vs none nothing = record {
  same = subst (λ l. Front w low scope es names low l vs es) (sym none) (subst (λ l. Front w low scope es names low [] l es) (sym nothing) (front-none w low scope es names));
  well = each-init w names low scope ss vs none nothing;
  narrow = front-first w scope es names ss vs none nothing;
  small = small-front-first w scope es names ss vs none nothing;
}

pub front-step : (w : Whole) (old names more : Names) (low mid high : ℕ) (l l' : List Named) (es : List Expr) (i : ℕ) (e : Expr) (ss ts ss' : List Step) (vs vs' : List CodeSymbol) (v : CodeSymbol) → i < length es → e ≡ get_or es i e → ss' ≡ ss ++ ts → vs' ≡ vs ++ v ∷ []
    → l ≡ l' → Extends names more → low ≤ mid → mid ≤ high → FlatFront w old names low mid (scope_of l' []) es i ss vs → IsFlatValue w names more mid high (scope_of l []) (tree_of e) ts (view v) → FlatFront w old more low high (scope_of l' []) es (i + 1) ss' vs'
front-step w old names more low mid high l l' es i e ss ts ss' vs vs' v h is steps values here ext le le' f g = record {
  same = subst (λ k. Front w low (scope_of l' []) es more high ss' k (drop (i + 1) es)) (sym values)
      (front-more w low (scope_of l' []) es names more mid high ss ts ss' vs (drop i es) (drop (i + 1) es) e v (next_item es i e h is) le le' ext f.same (value-in-scope w more mid high l l' (tree_of e) ts (view v) here g.same) steps);
  well = each-at w old names more low mid high l l' es i e ss ts ss' vs vs' v h is steps values here ext f.well g.well;
  narrow = narrow.front-more w l l' es names more i e ss ts ss' vs vs' v h is steps values here ext f.narrow g.same.formed g.narrow;
  small = small-front-more w l l' es names more i e ss ts ss' vs vs' v h is steps values here ext f.small g.small;
}

pub front-end : (w : Whole) (old names : Names) (low mid : ℕ) (scope : SymbolScope) (es : List Expr) (i : ℕ) (ss : List Step) (vs : List CodeSymbol) → length es ≤ i → FlatFront w old names low mid scope es i ss vs
    → AreFlatValues w old names low mid scope (list_trees es) ss (list_symbols vs)
front-end w old names low mid scope es i ss vs h f = record {
  same = front-all w low scope es names mid ss vs (drop i es) (drop_all i es h) f.same;
  well = each-end w old names low mid scope (take i es) es ss (list_symbols vs) (take_all i es h) f.well;
  narrow = front-last w scope es names i ss vs h f.narrow;
  small = small-front-last w scope es names i ss vs h f.small;
}

-- ---- so many of some fields
pub record FlatFields (w : Whole) (old names : Names) (low mid : ℕ) (scope : SymbolScope) (es : List (List ℕ × Expr)) (i : ℕ) (ss : List Step) (fs : List Named) : Type 0 where
  pub same : FrontNamed w low scope es names mid ss fs (drop i es)
  pub well : AreWellFields w old names low mid scope (list_named_trees (take i es)) ss (list_named_symbols fs)
  pub narrow : NarrowFields w scope es names ss fs (drop i es)
  pub small : SmallFields w scope es names ss fs (drop i es)

pub fields-start : (w : Whole) (names : Names) (low : ℕ) (scope : SymbolScope) (es : List (List ℕ × Expr)) (ss : List Step) (fs : List Named) → ss ≡ [] → fs ≡ [] → FlatFields w names names low low scope es 0 ss fs
fields-start w names low scope es ss fs none nothing = record {
  same = subst (λ l. FrontNamed w low scope es names low l fs es) (sym none) (subst (λ l. FrontNamed w low scope es names low [] l es) (sym nothing) (named-none w low scope es names));
  well = fields-init w names low scope ss fs none nothing;
  narrow = row-first w scope es names ss fs none nothing;
  small = small-row-first w scope es names ss fs none nothing;
}

pub fields-step : (w : Whole) (old names more : Names) (low mid high : ℕ) (l l' : List Named) (es : List (List ℕ × Expr)) (i : ℕ) (e : List ℕ × Expr) (ss ts ss' : List Step) (fs fs' : List Named) (f : Named) → f.0.now ≡ e.0 → i < length es → e ≡ get_or es i e → ss' ≡ ss ++ ts → fs' ≡ fs ++ f ∷ []
    → l ≡ l' → Extends names more → low ≤ mid → mid ≤ high → FlatFields w old names low mid (scope_of l' []) es i ss fs → IsFlatValue w names more mid high (scope_of l []) (tree_of e.1) ts (view f.1) → FlatFields w old more low high (scope_of l' []) es (i + 1) ss' fs'
fields-step w old names more low mid high l l' es i e ss ts ss' fs fs' f name h is steps values here ext le le' front g = record {
  same = subst (λ k. FrontNamed w low (scope_of l' []) es more high ss' k (drop (i + 1) es)) (sym values)
      (named-more w low (scope_of l' []) es names more mid high ss ts ss' fs (drop i es) (drop (i + 1) es) e f name (next_item es i e h is) le le' ext front.same (value-in-scope w more mid high l l' (tree_of e.1) ts (view f.1) here g.same) steps);
  well = fields-at w old names more low mid high l l' es i e ss ts ss' fs fs' f h is steps values here ext front.well g.well;
  narrow = row-more w l l' es names more i e ss ts ss' fs fs' f h is steps values here ext front.narrow g.same.formed g.narrow;
  small = small-row-more w l l' es names more i e ss ts ss' fs fs' f h is steps values here ext front.small g.small;
}

pub fields-last : (w : Whole) (old names : Names) (low mid : ℕ) (scope : SymbolScope) (es : List (List ℕ × Expr)) (i : ℕ) (ss : List Step) (fs : List Named) → length es ≤ i → FlatFields w old names low mid scope es i ss fs
    → AreFlatFields w old names low mid scope (list_named_trees es) ss (list_named_symbols fs)
fields-last w old names low mid scope es i ss fs h f = record {
  same = named-all w low scope es names mid ss fs (drop i es) (drop_all i es h) f.same;
  well = fields-end w old names low mid scope (take i es) es ss (list_named_symbols fs) (take_all i es h) f.well;
  narrow = row-last w scope es names i ss fs h f.narrow;
  small = small-row-last w scope es names i ss fs h f.small;
}

-- ---- so many of some statements
pub record FlatLed (w : Whole) (old names : Names) (low mid : ℕ) (scope inner : SymbolScope) (sts : List Stmt) (i : ℕ) (ss : List Step) : Type 0 where
  pub same : Led w low scope sts names mid ss inner (drop i sts)
  pub typed : AreTyped w scope (list_statements (take i sts)) inner
  pub well : IsWellStated w old names low mid scope (list_statements (take i sts)) ss inner
  pub narrow : NarrowLed w scope sts names ss inner (drop i sts)
  pub small : SmallLed w scope sts names ss inner (drop i sts)

pub led-start : (w : Whole) (names : Names) (low : ℕ) (scope : SymbolScope) (sts : List Stmt) (ss : List Step) → ss ≡ [] → FlatLed w names names low low scope scope sts 0 ss
led-start w names low scope sts ss none = record {
  same = subst (λ l. Led w low scope sts names low l scope sts) (sym none) (led-none w low scope sts names);
  typed = typed-none w scope;
  well = statements-init w names low scope ss none;
  narrow = led-first w scope sts names ss none;
  small = small-led-first w scope sts names ss none;
}

pub led-step : (w : Whole) (old names more : Names) (low mid high : ℕ) (scope inner behind : SymbolScope) (sts : List Stmt) (i : ℕ) (st : Stmt) (ss ts ss' : List Step) → i < length sts → st ≡ get_or sts i st → ss' ≡ ss ++ ts → Extends names more → mid ≤ high
    → FlatLed w old names low mid scope inner sts i ss → IsFlatStatement w names more mid high inner (statement_tree st) ts behind → FlatLed w old more low high scope behind sts (i + 1) ss'
led-step w old names more low mid high scope inner behind sts i st ss ts ss' h is steps ext le f g = record {
  same = led-more w low scope sts names more mid high ss ts ss' inner behind (drop i sts) (drop (i + 1) sts) st (next_item sts i st h is) le ext f.same g.same steps;
  typed = typed-at w scope inner behind sts i st h is f.typed g.same.formed;
  well = statements-at w old names more low mid high scope inner behind sts i st ss ts ss' h is steps ext f.well f.typed g.well;
  narrow = narrow.led-more w scope inner behind sts names more mid high i st ss ts ss' h is steps ext f.narrow g.same g.narrow;
  small = small-led-more w scope inner behind sts names more mid high i st ss ts ss' h is steps ext f.small g.same g.small;
}

pub led-end : (w : Whole) (old names : Names) (low mid : ℕ) (scope inner : SymbolScope) (sts : List Stmt) (i : ℕ) (ss : List Step) → length sts ≤ i → FlatLed w old names low mid scope inner sts i ss → IsFlatStated w old names low mid scope (list_statements sts) ss inner
led-end w old names low mid scope inner sts i ss h f = record {
  same = led-all w low scope sts names mid ss inner (drop i sts) (drop_all i sts h) f.same;
  well = statements-end w old names low mid scope inner (take i sts) sts ss (take_all i sts h) f.well;
  narrow = led-last w scope inner sts names i ss h f.narrow;
  small = small-led-last w scope inner sts names i ss h f.small;
}
