-- Expressions one after another, with and without names: tuples and records.
use Rattle.std.proofs.Common.{◌≡◌, ◌∙◌, refl, ap, sym, subst, ℕ, ◌≤◌, List, [], ◌∷◌, ◌++◌, append_assoc, append-nil, Option, Some, None, option_map, arith}
use Rattle.std.proofs.lemmas.List.Elements.{All-nil, All-append}
use Rattle.std.proofs.lemmas.Option.{same_Some, none-some}
use Rattle.nv_ast.specs.declared.token.Span.{Span}
use Rattle.nv_ast.specs.declared.tree.Expr.{Expr}
use Rattle.nv_ast.specs.ExprView.{tree_of, list_trees, list_named_trees}
use Rattle.nv_ast.specs.Tree.{Tree, TupleTree, FieldsTree, Trees, no_trees, tree_and, NamedTrees, no_named_trees, named_tree_and}
use Rattle.nv_ast.specs.Types.{Ty, TupleTy, RecordTy, Tys, no_tys, ty_and, named_ty_and}
use Rattle.nv_ast.specs.Scope.{Context, inside}
use Rattle.nv_ast.specs.Typing.{type_at, types_at, named_types_at, and_ty, and_named_ty}
use Rattle.nv_ast.specs.Faults.{Expected, faults, list_faults, named_faults, node_faults, a_value}
use Rattle.nv_meaning.specs.Values.{Value, Values, value_and, NamedValues, named_value_and}
use Rattle.nv_meaning.specs.Values as meaning
use Rattle.nv_meaning.specs.Running.{Running, Result, Gives, Raises, Halts, Results, GiveAll, Breaks, NamedResults, GiveNamed, BreaksNamed, then_more, then_named, before_rest, before_named}
use Rattle.nv_meaning.specs.Meaning.{eval, eval_all, eval_named}
use Rattle.flat_ir.specs.Running as flat
use Rattle.flat_ir.specs.Spine.{steps_do}
use Rattle.flat_ir.specs.declared.spine.Step.{Step}
use Rattle.nv_flatten_values.specs.declared.symbol.Symbol as coded
use Rattle.nv_flatten_values.specs.inner.Symbols.{Symbol, Tuple, Record, Symbols, no_symbols, symbol_and, NamedSymbols, no_named_symbols, named_symbol_and, SymbolScope, operands, all_operands, named_operands, form, forms, named_forms, value_in, values_in, named_values_in, Fits, AllFit, NamedFit, IsOlder, scope_in}
use Rattle.nv_flatten_values.specs.inner.View.{view, list_symbols, Named, list_named_symbols}
use Rattle.nv_flatten_values.specs.inner.Runs.{flat_run, onward}
use Rattle.nv_flatten_values.specs.inner.Whole.{Whole}
use Rattle.nv_flatten_values.specs.inner.Simulation.{Names, Extends, IsValue, AreValues, AreFields, onward_all, onward_named}
use Rattle.nv_flatten_values.proofs.Keeping.{older-later, scope-later, keeps-value, keeps-fit, keeps-scope, begins-then, begins-done, done-then, extends-itself, extends-then}
use Rattle.nv_flatten_values.proofs.NoFaults.{value-has-type}
use Rattle.nv_flatten_values.proofs.Following.{onward-all, onward-named, steps-then, stands-inside, fewer}
use Rattle.nv_ast.proofs.Faultless.{no_front, no_rest}

-- ---- what follows the first of some values
onward-more : (r : Result) (k : Value → Running → Results) (next : Values → Running → flat.Result) (never : Value → Running → flat.Result) → onward_all (then_more r k) next never ≡ onward r (λ v now. onward_all (k v now) next never)
onward-more (Gives v now) k next never = refl
onward-more (Raises j vs now) k next never = refl
onward-more (Halts how now) k next never = refl

onward-before : (v : Value) (r : Results) (next : Values → Running → flat.Result) (never : Value → Running → flat.Result) → onward_all (before_rest v r) next never ≡ onward_all r (λ vs now. next (value_and v vs) now) never
onward-before v (GiveAll vs now) next never = refl
onward-before v (Breaks how) next never = refl

onward-more_named : (r : Result) (k : Value → Running → NamedResults) (next : NamedValues → Running → flat.Result) (never : Value → Running → flat.Result) → onward_named (then_named r k) next never ≡ onward r (λ v now. onward_named (k v now) next never)
onward-more_named (Gives v now) k next never = refl
onward-more_named (Raises j vs now) k next never = refl
onward-more_named (Halts how now) k next never = refl

onward-before_named : (x : List ℕ) (v : Value) (r : NamedResults) (next : NamedValues → Running → flat.Result) (never : Value → Running → flat.Result) → onward_named (before_named x v r) next never ≡ onward_named r (λ vs now. next (named_value_and x v vs) now) never
onward-before_named x v (GiveNamed vs now) next never = refl
onward-before_named x v (BreaksNamed how) next never = refl

-- ---- what is wanted of the first, and of the others
abbrev first_wanted : List Expected → Expected
first_wanted [] = a_value
first_wanted (w ∷ ws) = w

abbrev other_wanted : List Expected → List Expected
other_wanted [] = []
other_wanted (w ∷ ws) = ws

list-split : (p : Context) (ws : List Expected) (e : Tree) (es : Trees) → list_faults p ws (tree_and e es) ≡ faults p (first_wanted ws) e ++ list_faults p (other_wanted ws) es
list-split p [] e es = refl
list-split p (w ∷ ws) e es = refl

and-typed : (s : Symbol) (ss : Symbols) (o : Option Ty) (q : Option Tys) (ts : Tys) → ((t : Ty) → o ≡ Some t → form s ≡ t) → ((us : Tys) → q ≡ Some us → forms ss ≡ us) → and_ty o q ≡ Some ts → ty_and (form s) (forms ss) ≡ ts
and-typed s ss None q ts h k e = absurd (none-some ts e)
and-typed s ss (Some t) None ts h k e = absurd (none-some ts e)
and-typed s ss (Some t) (Some us) ts h k e = ap (λ x. ty_and x (forms ss)) (h t refl) ∙ ap (ty_and t) (k us refl) ∙ same_Some (ty_and t us) ts e

module _ (w : Whole) (names more : Names) (low mid high : ℕ) (scope : SymbolScope) where
  pub values-none : AreValues w names low high scope no_trees [] no_symbols
  values-none = record {
    simulate = λ own p wanted stands none older c env now begins rest next never same. same env now (begins-done low env scope now (AllFit env no_symbols) begins tt);
    formed = λ own p wanted stands none ts is. same_Some no_tys ts is;
    older = λ o. All-nil (IsOlder high);
  }

  pub fields-none : AreFields w names low high scope no_named_trees [] no_named_symbols
  fields-none = record {
    simulate = λ own p stands none older c env now begins rest next never same. same env now (begins-done low env scope now (NamedFit env no_named_symbols) begins tt);
    formed = λ own p stands none. refl;
    older = λ o. All-nil (IsOlder high);
  }

  -- an expression and then others
  pub values-and : (e : Tree) (es : Trees) (ss ts : List Step) (s : Symbol) (us : Symbols) → Extends names more → low ≤ mid → mid ≤ high
      → IsValue w names low mid scope e ss s → AreValues w more mid high scope es ts us → AreValues w more low high scope (tree_and e es) (ss ++ ts) (symbol_and s us)
  values-and e es ss ts s us ext le le' v vs = record {
    simulate = λ own p wanted stands none o c env now begins rest next never same.
        let clean = sym (list-split p wanted e es) ∙ none in
        let here = no_front (faults p (first_wanted wanted) e) (list_faults p (other_wanted wanted) es) clean in
        let there = no_rest (faults p (first_wanted wanted) e) (list_faults p (other_wanted wanted) es) clean in
        let d = w.declared in
        steps-then c.fcall ss ts rest env (flat_run now)
        ∙ v.simulates.by own p (first_wanted wanted) stands here o (fewer w names more ext c) env now begins (steps_do c.fcall ts rest) (λ x last. onward_all (before_rest x (eval_all d c.call es (scope_in env scope) last)) next never)
        (λ new last done.
        vs.simulate own p (other_wanted wanted) stands there (scope-later low mid scope le o) c new last (begins-then low env new scope now last (Fits new s) o begins done) rest (λ xs end. next (value_and (value_in new s) xs) end) never
        (λ after end done'.
        let kept = keeps-value mid new after s done'.keeps (v.older o) in
        same after end (done-then low mid env new after (Fits new s) (AllFit after (symbol_and s us)) last end le done (record { sizes = done'.sizes; keeps = done'.keeps; fits = (keeps-fit mid new after s done'.keeps (v.older o) done.fits, done'.fits) }))
        ∙ ap (λ x. next (value_and x (values_in after us)) end) kept)
        ∙ sym (onward-before (value_in new s) (eval_all d c.call es (scope_in new scope) last) next never)
        ∙ ap (λ m. onward_all (before_rest (value_in new s) (eval_all d c.call es m last)) next never) (keeps-scope low env new scope done.keeps o))
        ∙ sym (onward-more (eval d c.call e (scope_in env scope) now) (λ x last. before_rest x (eval_all d c.call es (scope_in env scope) last)) next never);
    formed = λ own p wanted stands none tys is.
        let clean = sym (list-split p wanted e es) ∙ none in
        let here = no_front (faults p (first_wanted wanted) e) (list_faults p (other_wanted wanted) es) clean in
        let there = no_rest (faults p (first_wanted wanted) e) (list_faults p (other_wanted wanted) es) clean in
        and-typed s us (type_at p.known p.vars e) (types_at p.known p.vars es) tys (λ t x. v.formed.by own p (first_wanted wanted) stands here t x) (λ qs x. vs.formed own p (other_wanted wanted) stands there qs x) is;
    older = λ o. All-append (IsOlder high) (operands s) (all_operands us) (older-later mid high (operands s) le' (v.older o)) (vs.older (scope-later low mid scope le o));
  }

  pub fields-and : (x : List ℕ) (e : Tree) (es : NamedTrees) (ss ts : List Step) (s : Symbol) (us : NamedSymbols) → Extends names more → low ≤ mid → mid ≤ high
      → IsValue w names low mid scope e ss s → AreFields w more mid high scope es ts us → AreFields w more low high scope (named_tree_and x e es) (ss ++ ts) (named_symbol_and x s us)
  fields-and x e es ss ts s us ext le le' v vs = record {
    simulate = λ own p stands none o c env now begins rest next never same.
        let here = no_front (faults p a_value e) (named_faults p es) none in
        let there = no_rest (faults p a_value e) (named_faults p es) none in
        let d = w.declared in
        steps-then c.fcall ss ts rest env (flat_run now)
        ∙ v.simulates.by own p a_value stands here o (fewer w names more ext c) env now begins (steps_do c.fcall ts rest) (λ y last. onward_named (before_named x y (eval_named d c.call es (scope_in env scope) last)) next never)
        (λ new last done.
        vs.simulate own p stands there (scope-later low mid scope le o) c new last (begins-then low env new scope now last (Fits new s) o begins done) rest (λ ys end. next (named_value_and x (value_in new s) ys) end) never
        (λ after end done'.
        let kept = keeps-value mid new after s done'.keeps (v.older o) in
        same after end (done-then low mid env new after (Fits new s) (NamedFit after (named_symbol_and x s us)) last end le done (record { sizes = done'.sizes; keeps = done'.keeps; fits = (keeps-fit mid new after s done'.keeps (v.older o) done.fits, done'.fits) }))
        ∙ ap (λ y. next (named_value_and x y (named_values_in after us)) end) kept)
        ∙ sym (onward-before_named x (value_in new s) (eval_named d c.call es (scope_in new scope) last) next never)
        ∙ ap (λ m. onward_named (before_named x (value_in new s) (eval_named d c.call es m last)) next never) (keeps-scope low env new scope done.keeps o))
        ∙ sym (onward-more_named (eval d c.call e (scope_in env scope) now) (λ y last. before_named x y (eval_named d c.call es (scope_in env scope) last)) next never);
    formed = λ own p stands none.
        let here = no_front (faults p a_value e) (named_faults p es) none in
        let there = no_rest (faults p a_value e) (named_faults p es) none in
        let t = value-has-type p a_value e refl here in
        ap (λ o. and_named_ty x o (named_types_at p.known p.vars es)) t.1
        ∙ ap (and_named_ty x (Some t.0)) (vs.formed own p stands there)
        ∙ ap (λ u. Some (named_ty_and x u (named_forms us))) (sym (v.formed.by own p a_value stands here t.0 t.1));
    older = λ o. All-append (IsOlder high) (operands s) (named_operands us) (older-later mid high (operands s) le' (v.older o)) (vs.older (scope-later low mid scope le o));
  }

-- ---- a tuple and a record of them
tuple-typed : (ss : Symbols) (o : Option Tys) (t : Ty) → ((ts : Tys) → o ≡ Some ts → forms ss ≡ ts) → option_map TupleTy o ≡ Some t → TupleTy (forms ss) ≡ t
tuple-typed ss None t h e = absurd (none-some t e)
tuple-typed ss (Some ts) t h e = ap (λ x. TupleTy x) (h ts refl) ∙ same_Some (TupleTy ts) t e

module _ (w : Whole) (names : Names) (low high : ℕ) (scope : SymbolScope) where
  pub tuple-value : (sp : Span) (es : Trees) (steps : List Step) (ss : Symbols) → AreValues w names low high scope es steps ss → IsValue w names low high scope (TupleTree sp es) steps (Tuple ss)
  tuple-value sp es steps ss vs = record {
    simulates = record {
      by = λ own p wanted stands none o c env now begins rest next same.
          let clean = no_front (list_faults (inside p) [] es) (node_faults p wanted (TupleTree sp es)) none in
          vs.simulate own (inside p) [] (stands-inside w own scope p stands) clean o c env now begins rest (λ xs last. next (meaning.Tuple xs) last) next (λ new last done. same new last (record { sizes = done.sizes; keeps = done.keeps; fits = done.fits }))
          ∙ sym (onward-all (eval_all w.declared c.call es (scope_in env scope) now) (λ xs last. Gives (meaning.Tuple xs) last) next);
    };
    formed = record {
      by = λ own p wanted stands none t is.
          let clean = no_front (list_faults (inside p) [] es) (node_faults p wanted (TupleTree sp es)) none in
          tuple-typed ss (types_at p.known p.vars es) t (λ ts e. vs.formed own (inside p) [] (stands-inside w own scope p stands) clean ts e) is;
    };
    older = vs.older;
  }

  pub record-value : (sp : Span) (es : NamedTrees) (steps : List Step) (fs : NamedSymbols) → AreFields w names low high scope es steps fs → IsValue w names low high scope (FieldsTree sp es) steps (Record fs)
  record-value sp es steps fs vs = record {
    simulates = record {
      by = λ own p wanted stands none o c env now begins rest next same.
          let clean = no_front (named_faults (inside p) es) (node_faults p wanted (FieldsTree sp es)) none in
          vs.simulate own (inside p) (stands-inside w own scope p stands) clean o c env now begins rest (λ xs last. next (meaning.Record xs) last) next (λ new last done. same new last (record { sizes = done.sizes; keeps = done.keeps; fits = done.fits }))
          ∙ sym (onward-named (eval_named w.declared c.call es (scope_in env scope) now) (λ xs last. Gives (meaning.Record xs) last) next);
    };
    formed = record {
      by = λ own p wanted stands none t is.
          let clean = no_front (named_faults (inside p) es) (node_faults p wanted (FieldsTree sp es)) none in
          same_Some (RecordTy (named_forms fs)) t (sym (ap (option_map RecordTy) (vs.formed own (inside p) (stands-inside w own scope p stands) clean)) ∙ is);
    };
    older = vs.older;
  }

-- ---- the loops: what the expressions so far came to, and the rest
module _ (w : Whole) (low : ℕ) (scope : SymbolScope) (es : List Expr) where
  abbrev pub Front : Names → ℕ → List Step → List coded.Symbol → List Expr → Type 0
  Front names mid ss symbols rest = (more : Names) (high : ℕ) (ts : List Step) (others : List coded.Symbol) → Extends names more → mid ≤ high
      → AreValues w more mid high scope (list_trees rest) ts (list_symbols others) → AreValues w more low high scope (list_trees es) (ss ++ ts) (list_symbols (symbols ++ others))

  pub front-none : (names : Names) → Front names low [] [] es
  front-none names more high ts others ext le h = h

  pub front-more : (names names' : Names) (mid mid' : ℕ) (ss ts ss' : List Step) (symbols : List coded.Symbol) (rest rest' : List Expr) (e : Expr) (s : coded.Symbol)
      → rest ≡ e ∷ rest' → low ≤ mid → mid ≤ mid' → Extends names names' → Front names mid ss symbols rest → IsValue w names' mid mid' scope (tree_of e) ts (view s) → ss' ≡ ss ++ ts → Front names' mid' ss' (symbols ++ s ∷ []) rest'
  front-more names names' mid mid' ss ts ss' symbols rest rest' e s is le le' ext front v same more high us others ext' le'' h =
      let whole = front more high (ts ++ us) (s ∷ others) (extends-then names names' more ext ext') (omega arith)
      (subst (λ l. AreValues w more mid high scope (list_trees l) (ts ++ us) (list_symbols (s ∷ others))) (sym is) (values-and w names' more mid mid' high scope (tree_of e) (list_trees rest') ts us (view s) (list_symbols others) ext' le' le'' v h)) in
      subst (λ l. AreValues w more low high scope (list_trees es) (l ++ us) (list_symbols ((symbols ++ s ∷ []) ++ others))) (sym same)
      (subst (λ l. AreValues w more low high scope (list_trees es) l (list_symbols ((symbols ++ s ∷ []) ++ others))) (sym (append_assoc ss ts us))
      (subst (λ l. AreValues w more low high scope (list_trees es) (ss ++ (ts ++ us)) (list_symbols l)) (sym (append_assoc symbols (s ∷ []) others)) whole))

  pub front-all : (names : Names) (mid : ℕ) (ss : List Step) (symbols : List coded.Symbol) (rest : List Expr) → rest ≡ [] → Front names mid ss symbols rest → AreValues w names low mid scope (list_trees es) ss (list_symbols symbols)
  front-all names mid ss symbols rest is front =
      let whole = front names mid [] [] (extends-itself names) (omega arith) (subst (λ l. AreValues w names mid mid scope (list_trees l) [] no_symbols) (sym is) (values-none w names names mid mid mid scope)) in
      subst (λ l. AreValues w names low mid scope (list_trees es) l (list_symbols symbols)) (append-nil ss)
      (subst (λ l. AreValues w names low mid scope (list_trees es) (ss ++ []) (list_symbols l)) (append-nil symbols) whole)

module _ (w : Whole) (low : ℕ) (scope : SymbolScope) (es : List (List ℕ × Expr)) where
  abbrev pub FrontNamed : Names → ℕ → List Step → List Named → List (List ℕ × Expr) → Type 0
  FrontNamed names mid ss fields rest = (more : Names) (high : ℕ) (ts : List Step) (others : List Named) → Extends names more → mid ≤ high
      → AreFields w more mid high scope (list_named_trees rest) ts (list_named_symbols others) → AreFields w more low high scope (list_named_trees es) (ss ++ ts) (list_named_symbols (fields ++ others))

  pub named-none : (names : Names) → FrontNamed names low [] [] es
  named-none names more high ts others ext le h = h

  pub named-more : (names names' : Names) (mid mid' : ℕ) (ss ts ss' : List Step) (fields : List Named) (rest rest' : List (List ℕ × Expr)) (e : List ℕ × Expr) (f : Named)
      → f.0.now ≡ e.0 → rest ≡ e ∷ rest' → low ≤ mid → mid ≤ mid' → Extends names names' → FrontNamed names mid ss fields rest → IsValue w names' mid mid' scope (tree_of e.1) ts (view f.1) → ss' ≡ ss ++ ts → FrontNamed names' mid' ss' (fields ++ f ∷ []) rest'
  named-more names names' mid mid' ss ts ss' fields rest rest' e f name is le le' ext front v same more high us others ext' le'' h =
      let here = subst (λ x. AreFields w more mid high scope (list_named_trees (e ∷ rest')) (ts ++ us) (named_symbol_and x (view f.1) (list_named_symbols others))) (sym name) (fields-and w names' more mid mid' high scope e.0 (tree_of e.1) (list_named_trees rest') ts us (view f.1) (list_named_symbols others) ext' le' le'' v h) in
      let whole = front more high (ts ++ us) (f ∷ others) (extends-then names names' more ext ext') (omega arith)
      (subst (λ l. AreFields w more mid high scope (list_named_trees l) (ts ++ us) (list_named_symbols (f ∷ others))) (sym is) here) in
      subst (λ l. AreFields w more low high scope (list_named_trees es) (l ++ us) (list_named_symbols ((fields ++ f ∷ []) ++ others))) (sym same)
      (subst (λ l. AreFields w more low high scope (list_named_trees es) l (list_named_symbols ((fields ++ f ∷ []) ++ others))) (sym (append_assoc ss ts us))
      (subst (λ l. AreFields w more low high scope (list_named_trees es) (ss ++ (ts ++ us)) (list_named_symbols l)) (sym (append_assoc fields (f ∷ []) others)) whole))

  pub named-all : (names : Names) (mid : ℕ) (ss : List Step) (fields : List Named) (rest : List (List ℕ × Expr)) → rest ≡ [] → FrontNamed names mid ss fields rest → AreFields w names low mid scope (list_named_trees es) ss (list_named_symbols fields)
  named-all names mid ss fields rest is front =
      let whole = front names mid [] [] (extends-itself names) (omega arith) (subst (λ l. AreFields w names mid mid scope (list_named_trees l) [] no_named_symbols) (sym is) (fields-none w names names mid mid mid scope)) in
      subst (λ l. AreFields w names low mid scope (list_named_trees es) l (list_named_symbols fields)) (append-nil ss)
      (subst (λ l. AreFields w names low mid scope (list_named_trees es) (ss ++ []) (list_named_symbols l)) (append-nil fields) whole)
