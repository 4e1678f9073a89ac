-- Expressions one after another, statements and conditions.
use Rattle.std.proofs.Common.{◌≡◌, ℕ, ◌≤◌, Bool, true, false, not, ◌&&◌, List, [], ◌∷◌, ◌++◌, refl, sym, ap, subst, ◌∙◌, append_assoc, append-nil, Option, Some, length, if◌then◌else◌, arith}
use Rattle.std.proofs.lemmas.Bool.{and_from, not-false}
use Rattle.nv_base.specs.declared.term.Mem.{Mem}
use Rattle.nv_base.specs.declared.term.Atom.{Atom}
use Rattle.nv_base.specs.declared.term.Atom.TheVariants.{Lit}
use Rattle.nv_ast.specs.declared.token.Span.{Span}
use Rattle.nv_ast.specs.declared.tree.Op.{Op}
use Rattle.nv_ast.specs.declared.tree.Expr.{Expr}
use Rattle.nv_ast.specs.declared.tree.Stmt.{Stmt}
use Rattle.nv_ast.specs.ExprView.{tree_of, list_trees, list_named_trees, statement_tree, list_statements}
use Rattle.nv_ast.specs.Tree.{Tree, ParenTree, NegateTree, BinaryTree, Trees, NamedTrees, PatternTree, LetStatement, StoreStatement, StatementTrees, no_statements, statement_and}
use Rattle.nv_ast.specs.Types.{Ty, WordTy, BoolTy, words, words_of_value}
use Rattle.nv_ast.specs.Scope.{Known, Vars, Context, inside, with_vars}
use Rattle.nv_ast.specs.Typing.{type_at, vars_after, vars_behind, operand_ty}
use Rattle.nv_ast.specs.Faults.{Expected, a_value, of_type, expected_stored, faults, list_faults, named_faults, statement_faults, statements_faults, wrong_access, wrong_scratch, can_move}
use Rattle.flat_ir.specs.declared.spine.Step.{Step}
use Rattle.flat_ir.specs.declared.spine.Step.TheVariants.{Store}
use Rattle.nv_base.specs.Access as flat
use Rattle.nv_base.specs.Access.{is_known, all_known}
use Rattle.nv_flatten_values.specs.inner.Symbols.{Symbol, Symbols, NamedSymbols, SymbolScope, no_symbols, symbol_and, no_named_symbols, named_symbol_and, operands, all_operands, named_operands, form, word_operand, truth_operand, vars_of, bound}
use Rattle.nv_flatten_values.specs.inner.Simulation.{Names, Extends, HasForm}
use Rattle.nv_flatten_values.specs.inner.Whole.{Whole, Stands}
use Rattle.nv_flatten_values.specs.inner.Well.{ScopeKnown, WellSteps, Knows, IsWellValue, AreWellValues, AreWellFields, IsWellStated, IsWellTest, steps_calls, AreCalled}
use Rattle.nv_flatten_values.proofs.Sound.{value-has-type}
use Rattle.nv_flatten_values.proofs.WellBasics.{knows-left, knows-right, knows-two, knows-word, knows-truth, operands-words, bound-known}
use Rattle.nv_flatten.proofs.WellTypes.{move-same, address-formed}
use Rattle.nv_flatten_values.proofs.WellNames.{called-none, steps-called-more, steps-called-then}
use Rattle.nv_flatten_values.proofs.WellSteps.{steps-none, steps-names, steps-knowing, steps-then, steps-last}
use Rattle.nv_flatten.proofs.WellArms.{two-values}
use Rattle.nv_flatten_values.proofs.Following.{stands-inside}
use Rattle.nv_ast.proofs.Faultless.{no_front, no_rest, no_kinds, not_where}

nil-both : {A : Type 0} (xs ys : List A) → xs ≡ [] → ys ≡ [] → xs ++ ys ≡ []
nil-both xs ys e f = ap (λ l. l ++ ys) e ∙ f

-- ---- expressions one after another
list-last : (p : Context) (ws : List Expected) (xs : List Expr) (e : Expr) → list_faults p ws (list_trees (xs ++ e ∷ [])) ≡ [] → (list_faults p ws (list_trees xs) ≡ []) × (w : Expected) × (faults p w (tree_of e) ≡ [])
list-last p [] [] e h = (refl, a_value, no_front (faults p a_value (tree_of e)) [] h)
list-last p (w ∷ ws) [] e h = (refl, w, no_front (faults p w (tree_of e)) [] h)
list-last p [] (x ∷ xs) e h =
    let rest = list-last p [] xs e (no_rest (faults p a_value (tree_of x)) _ h) in (nil-both (faults p a_value (tree_of x)) _ (no_front (faults p a_value (tree_of x)) _ h) rest.0, rest.1, rest.2)
list-last p (w ∷ ws) (x ∷ xs) e h =
    let rest = list-last p ws xs e (no_rest (faults p w (tree_of x)) _ h) in (nil-both (faults p w (tree_of x)) _ (no_front (faults p w (tree_of x)) _ h) rest.0, rest.1, rest.2)

-- symbolic values and one more
abbrev pub and_last : Symbols → Symbol → Symbols
and_last no_symbols v = symbol_and v no_symbols
and_last (symbol_and u us) v = symbol_and u (and_last us v)

and-last-operands : (vs : Symbols) (v : Symbol) → all_operands (and_last vs v) ≡ all_operands vs ++ operands v
and-last-operands no_symbols v = append-nil (operands v)
and-last-operands (symbol_and u us) v = ap (λ l. operands u ++ l) (and-last-operands us v) ∙ sym (append_assoc (operands u) (all_operands us) (operands v))

pub each-none : (w : Whole) (names : Names) (low high : ℕ) (scope : SymbolScope) (es : Trees) → low ≤ high → AreWellValues w names names low high scope es [] no_symbols
each-none w names low high scope es le = record { well = λ own p wanted st f t. steps-none w names low high own scope (Knows []) le (λ known k. refl); called = called-none names [] }

pub each-more : (w : Whole) (old names more : Names) (low mid high : ℕ) (scope : SymbolScope) (xs : List Expr) (e : Expr) (ss ts : List Step) (vs : Symbols) (v : Symbol) → Extends names more
    → AreWellValues w old names low mid scope (list_trees xs) ss vs → IsWellValue w names more mid high scope (tree_of e) ts v → AreWellValues w old more low high scope (list_trees (xs ++ e ∷ [])) (ss ++ ts) (and_last vs v)
each-more w old names more low mid high scope xs e ss ts vs v h a b = record {
  well = λ own p wanted st f t.
      let parts = list-last p wanted xs e f in
      subst (λ as'. WellSteps w more low high own scope (ss ++ ts) (Knows as')) (sym (and-last-operands vs v))
      (two-values w names more low mid high own scope ss ts (all_operands vs) (operands v) h (a.well own p wanted st parts.0 t) (b.well own p parts.1 st parts.2 t));
  called = steps-called-then old names more ss ts a.called b.called;
}

-- ---- the fields of a record
named-last : (p : Context) (xs : List (List ℕ × Expr)) (e : List ℕ × Expr) → named_faults p (list_named_trees (xs ++ e ∷ [])) ≡ [] → (named_faults p (list_named_trees xs) ≡ []) × (faults p a_value (tree_of e.1) ≡ [])
named-last p [] e h = (refl, no_front (faults p a_value (tree_of e.1)) [] h)
named-last p (x ∷ xs) e h =
    let rest = named-last p xs e (no_rest (faults p a_value (tree_of x.1)) _ h) in (nil-both (faults p a_value (tree_of x.1)) _ (no_front (faults p a_value (tree_of x.1)) _ h) rest.0, rest.1)

abbrev pub and_last_named : NamedSymbols → List ℕ → Symbol → NamedSymbols
and_last_named no_named_symbols x v = named_symbol_and x v no_named_symbols
and_last_named (named_symbol_and y u us) x v = named_symbol_and y u (and_last_named us x v)

and-last-named-operands : (vs : NamedSymbols) (x : List ℕ) (v : Symbol) → named_operands (and_last_named vs x v) ≡ named_operands vs ++ operands v
and-last-named-operands no_named_symbols x v = append-nil (operands v)
and-last-named-operands (named_symbol_and y u us) x v = ap (λ l. operands u ++ l) (and-last-named-operands us x v) ∙ sym (append_assoc (operands u) (named_operands us) (operands v))

pub fields-none : (w : Whole) (names : Names) (low high : ℕ) (scope : SymbolScope) (es : NamedTrees) → low ≤ high → AreWellFields w names names low high scope es [] no_named_symbols
fields-none w names low high scope es le = record { well = λ own p st f t. steps-none w names low high own scope (Knows []) le (λ known k. refl); called = called-none names [] }

pub fields-more : (w : Whole) (old names more : Names) (low mid high : ℕ) (scope : SymbolScope) (xs : List (List ℕ × Expr)) (e : List ℕ × Expr) (ss ts : List Step) (vs : NamedSymbols) (x : List ℕ) (v : Symbol) → Extends names more
    → AreWellFields w old names low mid scope (list_named_trees xs) ss vs → IsWellValue w names more mid high scope (tree_of e.1) ts v → AreWellFields w old more low high scope (list_named_trees (xs ++ e ∷ [])) (ss ++ ts) (and_last_named vs x v)
fields-more w old names more low mid high scope xs e ss ts vs x v h a b = record {
  well = λ own p st f t.
      let parts = named-last p xs e f in
      subst (λ as'. WellSteps w more low high own scope (ss ++ ts) (Knows as')) (sym (and-last-named-operands vs x v))
      (two-values w names more low mid high own scope ss ts (named_operands vs) (operands v) h (a.well own p st parts.0 t) (b.well own p a_value st parts.1 t));
  called = steps-called-then old names more ss ts a.called b.called;
}

-- ---- statements

pub let-well : (w : Whole) (old names : Names) (low high : ℕ) (scope : SymbolScope) (sp : Span) (q : PatternTree) (e : Tree) (ss : List Step) (v : Symbol) → IsWellValue w old names low high scope e ss v
    → IsWellStated w old names low high scope (statement_and (LetStatement sp q e) no_statements) ss (bound q v scope)
let-well w old names low high scope sp q e ss v a = record {
  well = λ own p st f t.
      let none = no_front (faults p a_value e) _ (no_front (statement_faults p (LetStatement sp q e)) [] f) in
      steps-knowing w names low high high own scope ss (Knows (operands v)) (λ known. ScopeKnown known (bound q v scope)) (omega arith) (a.well own p a_value st none t) (λ known k r. bound-known known q v scope r k);
  called = a.called;
}

value-words : (o : Option Ty) (t : Ty) → o ≡ Some t → words_of_value o ≡ words t
value-words o t e = ap words_of_value e

pub store-well : (w : Whole) (old names more : Names) (low mid high : ℕ) (scope : SymbolScope) (sp : Span) (m : Mem) (a e : Tree) (ss ts us : List Step) (u v : Symbol) (bs : _) → us ≡ (ss ++ ts) ++ Store m (word_operand u) bs ∷ [] → bs.items ≡ operands v
    → Extends names more → IsWellValue w old names low mid scope a ss u → IsWellValue w names more mid high scope e ts v → HasForm w scope e v
    → IsWellStated w old more low high scope (statement_and (StoreStatement sp m a e) no_statements) us scope
store-well w old names more low mid high scope sp m a e ss ts us u v bs last same h l r hf = record {
  well = λ own p st f t.
      let f' = no_front (statement_faults p (StoreStatement sp m a e)) [] f in
      let none1 : faults p (of_type WordTy) a ≡ [] = no_front (faults p (of_type WordTy) a) _ f' in
      let rest = no_rest (faults p (of_type WordTy) a) _ f' in
      let none2 : faults p expected_stored e ≡ [] = no_front (faults p expected_stored e) _ rest in
      let n = words_of_value (type_at p.known p.vars e) in
      let kinds : wrong_access m n ++ wrong_scratch m a n ≡ [] = no_kinds sp _ (no_rest (faults p expected_stored e) _ rest) in
      let typed = value-has-type p expected_stored e refl none2 in
      let formed : form v ≡ typed.0 = hf.by own p expected_stored st none2 typed.0 typed.1 in
      let many : length bs.items ≡ n = ap length same ∙ operands-words v ∙ ap words formed ∙ sym (value-words (type_at p.known p.vars e) typed.0 typed.1) in
      let moves : flat.can_move m n ≡ true = move-same m n ∙ not-false (can_move m n) (not_where (not (can_move m n)) 19 (no_front (wrong_access m n) _ kinds)) in
      let address : flat.is_address m (word_operand u) n ≡ true = address-formed m a n u (no_rest (wrong_access m n) (wrong_scratch m a n) kinds) l.literal in
      subst (λ k. WellSteps w more low high own scope k (λ known. ScopeKnown known scope)) (sym last)
      (steps-last w more low high high own scope (ss ++ ts) (Store m (word_operand u) bs) (Knows (operands u ++ operands v)) (λ known. ScopeKnown known scope)
      (two-values w names more low mid high own scope ss ts (operands u) (operands v) h (l.well own p (of_type WordTy) st none1 t) (r.well own p expected_stored st none2 t))
      (λ li known k q.
      and_from (is_known known (word_operand u)) (all_known known bs.items && (flat.can_move m (length bs.items) && flat.is_address m (word_operand u) (length bs.items))) (knows-word known u (knows-left known (operands u) (operands v) q))
      (and_from (all_known known bs.items) (flat.can_move m (length bs.items) && flat.is_address m (word_operand u) (length bs.items)) (subst (λ as'. all_known known as' ≡ true) (sym same) (knows-right known (operands u) (operands v) q))
      (and_from (flat.can_move m (length bs.items)) (flat.is_address m (word_operand u) (length bs.items)) (subst (λ k. flat.can_move m k ≡ true) (sym many) moves) (subst (λ k. flat.is_address m (word_operand u) k ≡ true) (sym many) address))))
      (omega arith) (tt {0}) (λ known k q. k));
  called = subst (λ k. AreCalled old more (steps_calls k)) (sym last) (steps-called-more old more (ss ++ ts) (Store m (word_operand u) bs ∷ []) (steps-called-then old names more ss ts l.called r.called));
}

statements-last : (p : Context) (xs : List Stmt) (x : Stmt) → statements_faults p (list_statements (xs ++ x ∷ [])) ≡ []
    → (statements_faults p (list_statements xs) ≡ []) × (statements_faults (with_vars (vars_behind p.known p.vars (list_statements xs)) p) (statement_and (statement_tree x) no_statements) ≡ [])
statements-last p [] x h = (refl, h)
statements-last p (y ∷ xs) x h =
    let first = statement_faults p (statement_tree y) in
    let p' = with_vars (vars_after p.known p.vars (statement_tree y)) p in
    let rest = statements-last p' xs x (no_rest first _ h) in
    (nil-both first _ (no_front first _ h) rest.0, rest.1)

-- the variables behind statements have the types of these symbolic values
abbrev pub AreTyped : Whole → SymbolScope → StatementTrees → SymbolScope → Type 0
AreTyped w scope sts inner = (own : ℕ) (p : Context) → Stands w own scope p → statements_faults p sts ≡ [] → vars_behind p.known p.vars sts ≡ vars_of inner

vars-last : (k : Known) (vars : Vars) (xs : List Stmt) (x : Stmt) → vars_behind k vars (list_statements (xs ++ x ∷ [])) ≡ vars_behind k (vars_behind k vars (list_statements xs)) (statement_and (statement_tree x) no_statements)
vars-last k vars [] x = refl
vars-last k vars (y ∷ xs) x = vars-last k (vars_after k vars (statement_tree y)) xs x

pub typed-none : (w : Whole) (scope : SymbolScope) → AreTyped w scope no_statements scope
typed-none w scope = λ own p st f. st.vars

pub typed-more : (w : Whole) (scope inner behind : SymbolScope) (xs : List Stmt) (x : Stmt) → AreTyped w scope (list_statements xs) inner → AreTyped w inner (statement_and (statement_tree x) no_statements) behind
    → AreTyped w scope (list_statements (xs ++ x ∷ [])) behind
typed-more w scope inner behind xs x a b =
    λ own p st f.
    let parts = statements-last p xs x f in
    let p' = with_vars (vars_behind p.known p.vars (list_statements xs)) p in
    let stands : Stands w own inner p' = record { part = st.part; vars = a own p st parts.0 } in
    vars-last p.known p.vars xs x ∙ b own p' stands parts.1

pub statements-none : (w : Whole) (names : Names) (low high : ℕ) (scope : SymbolScope) (sts : StatementTrees) → low ≤ high → IsWellStated w names names low high scope sts [] scope
statements-none w names low high scope sts le = record { well = λ own p st f t. steps-none w names low high own scope (λ known. ScopeKnown known scope) le (λ known k. k); called = called-none names [] }

pub statements-more : (w : Whole) (old names more : Names) (low mid high : ℕ) (scope inner behind : SymbolScope) (xs : List Stmt) (x : Stmt) (ss ts : List Step) → Extends names more
    → IsWellStated w old names low mid scope (list_statements xs) ss inner → ((own : ℕ) (p : Context) → Stands w own scope p → statements_faults p (list_statements xs) ≡ [] → vars_behind p.known p.vars (list_statements xs) ≡ vars_of inner)
    → IsWellStated w names more mid high inner (statement_and (statement_tree x) no_statements) ts behind → IsWellStated w old more low high scope (list_statements (xs ++ x ∷ [])) (ss ++ ts) behind
statements-more w old names more low mid high scope inner behind xs x ss ts h a vars b = record {
  well = λ own p st f t.
      let parts = statements-last p xs x f in
      let p' = with_vars (vars_behind p.known p.vars (list_statements xs)) p in
      let stands : Stands w own inner p' = record { part = st.part; vars = vars own p st parts.0 } in
      steps-then w more low mid high own scope inner ss ts (λ known. ScopeKnown known inner) (λ known. ScopeKnown known behind) (λ known. ScopeKnown known behind)
      (steps-names w names more low mid own scope ss (λ known. ScopeKnown known inner) h (a.well own p st parts.0 t)) (λ known k q. q) (b.well own p' stands parts.1 t) (λ known further le q r. r);
  called = steps-called-then old names more ss ts a.called b.called;
}

-- ---- conditions
pub paren-test-well : (w : Whole) (old names : Names) (low high : ℕ) (scope : SymbolScope) (sp : Span) (e : Tree) (ss : List Step) (x y : Atom) → IsWellTest w old names low high scope e ss x y → IsWellTest w old names low high scope (ParenTree sp e) ss x y
paren-test-well w old names low high scope sp e ss x y a = record { well = λ own p wanted st f t. a.well own p a_value st (no_front (faults p a_value e) _ f) t; called = a.called }

pub negate-test-well : (w : Whole) (old names : Names) (low high : ℕ) (scope : SymbolScope) (sp : Span) (e : Tree) (ss : List Step) (x y : Atom) → IsWellTest w old names low high scope e ss x y → IsWellTest w old names low high scope (NegateTree sp e) ss x y
negate-test-well w old names low high scope sp e ss x y a = record {
  well = λ own p wanted st f t. a.well own (inside p) (of_type BoolTy) (stands-inside w own scope p st) (no_front (faults (inside p) (of_type BoolTy) e) _ f) refl;
  called = a.called;
}

pub truth-test-well : (w : Whole) (old names : Names) (low high : ℕ) (scope : SymbolScope) (e : Tree) (ss : List Step) (v : Symbol) → IsWellValue w old names low high scope e ss v → IsWellTest w old names low high scope e ss (truth_operand v) (Lit 0)
truth-test-well w old names low high scope e ss v a = record {
  well = λ own p wanted st f t.
      steps-knowing w names low high high own scope ss (Knows (operands v)) (Knows (truth_operand v ∷ Lit 0 ∷ [])) (omega arith) (a.well own p wanted st f t) (λ known k q. knows-two known (truth_operand v) (Lit 0) (knows-truth known v q) refl);
  called = a.called;
}

either-known : (known : List ℕ) (b : Bool) (x y : Atom) → is_known known x ≡ true → is_known known y ≡ true → is_known known (if b then x else y) ≡ true
either-known known true x y e f = e
either-known known false x y e f = f

-- the operands in either order
pub compare-well : (w : Whole) (old names more : Names) (low mid high : ℕ) (scope : SymbolScope) (sp : Span) (op : Op) (a b : Tree) (ss ts : List Step) (u v : Symbol) (x y : Atom) (swapped : Bool) → Extends names more
    → x ≡ (if swapped then word_operand v else word_operand u) → y ≡ (if swapped then word_operand u else word_operand v) → IsWellValue w old names low mid scope a ss u → IsWellValue w names more mid high scope b ts v
    → IsWellTest w old more low high scope (BinaryTree sp op a b) (ss ++ ts) x y
compare-well w old names more low mid high scope sp op a b ss ts u v x y swapped h ex ey l r = record {
  well = λ own p wanted st f t.
      let want = of_type (operand_ty op) in
      let st' = stands-inside w own scope p st in
      let left = l.well own (inside p) want st' (no_front (faults (inside p) want a) _ f) refl in
      let right = r.well own (inside p) want st' (no_front (faults (inside p) want b) _ (no_rest (faults (inside p) want a) _ f)) refl in
      steps-knowing w more low high high own scope (ss ++ ts) (Knows (operands u ++ operands v)) (Knows (x ∷ y ∷ [])) (omega arith) (two-values w names more low mid high own scope ss ts (operands u) (operands v) h left right)
      (λ known k q.
      knows-two known x y
      (subst (λ z. is_known known z ≡ true) (sym ex) (either-known known swapped (word_operand v) (word_operand u) (knows-word known v (knows-right known (operands u) (operands v) q)) (knows-word known u (knows-left known (operands u) (operands v) q))))
      (subst (λ z. is_known known z ≡ true) (sym ey) (either-known known swapped (word_operand u) (word_operand v) (knows-word known u (knows-left known (operands u) (operands v) q)) (knows-word known v (knows-right known (operands u) (operands v) q)))));
  called = steps-called-then old names more ss ts l.called r.called;
}
