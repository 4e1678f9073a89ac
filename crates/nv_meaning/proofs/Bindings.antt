-- The variables that patterns and parameters bring into scope.
use Rattle.std.proofs.Common.{◌≡◌, ◌∙◌, refl, ap, sym, ℕ, ◌+◌, ◌-◌, ◌<◌, ◌≤◌, Bool, true, false, List, [], ◌∷◌, ◌++◌, take, length, get_or, bytes_eq, if◌then◌else◌, append_assoc, arith, Bor, Vec, Global}
use Rattle.std.proofs.lemmas.List.{take_more}
use Rattle.nv_ast.specs.declared.tree.Pat.{Pat}
use Rattle.nv_ast.specs.declared.tree.Pat.TheVariants as variants
use Rattle.nv_ast.specs.declared.tree.Pat.TheViews as patterns
use Rattle.nv_ast.specs.declared.tree.TyText.{TyText}
use Rattle.nv_ast.specs.PatternView.{pattern_tree, list_patterns}
use Rattle.nv_ast.specs.TypeView.{list_named_types}
use Rattle.nv_ast.specs.Tree.{TuplePattern, PatternTrees, no_patterns, pattern_and, NamedTypes, no_named_types, named_type_and}
use Rattle.nv_ast.proofs.Reading.{tuple_pattern_is}
use Rattle.nv_meaning_values.specs.Values.{Values, no_values, value_and, Scope, variable_in, matched, all_matched}
use Rattle.nv_meaning.specs.Meaning.{entered}
use Rattle.nv_meaning_values.specs.declared.value.Value as code
use Rattle.nv_meaning_values.specs.inner.View.{Named, view, list_values, scope_of, Extends}
use Rattle.nv_meaning_values.proofs.Rows.{tuple_view}

pub scope-append : (a b : List Named) (outer : Scope) → scope_of (a ++ b) outer ≡ scope_of b (scope_of a outer)
scope-append [] b outer = refl
scope-append (x ∷ a) b outer = scope-append a b ((x.0.now, view x.1) ∷ outer)

-- the newest of the first j variables
pub variable-newest : (scope : List Named) (x : List ℕ) (j : ℕ) (b : Named) → 0 < j → j ≤ length scope → b ≡ get_or scope (j - 1) b →
    variable_in (scope_of (take j scope) []) x ≡ (if bytes_eq x b.0.now then view b.1 else variable_in (scope_of (take (j - 1) scope) []) x)
variable-newest scope x j b some inside is =
    let e : j ≡ j - 1 + 1 = omega arith in
    let m : take (j - 1 + 1) scope ≡ take (j - 1) scope ++ get_or scope (j - 1) b ∷ [] = take_more scope (j - 1) b (omega arith) in
    ap (λ k. variable_in (scope_of (take k scope) []) x) e ∙ ap (λ l. variable_in (scope_of l []) x) m ∙ ap (λ y. variable_in (scope_of (take (j - 1) scope ++ y ∷ []) []) x) (sym is) ∙ ap (λ s. variable_in s x) (scope-append (take (j - 1) scope) (b ∷ []) [])

pub if-true : {A : Type 0} (b : Bool) (x y : A) → b ≡ true → (if b then x else y) ≡ x
if-true b x y e = ap (λ t. if t then x else y) e

pub if-false : {A : Type 0} (b : Bool) (x y : A) → b ≡ false → (if b then x else y) ≡ y
if-false b x y e = ap (λ t. if t then x else y) e

-- one more binding after the others
pub pushed-name : (old new : List Named) (x : Bor (List ℕ)) (v : code.Value) → new ≡ old ++ (x, v) ∷ [] → scope_of new [] ≡ (x.now, view v) ∷ scope_of old []
pushed-name old new x v e = ap (λ l. scope_of l []) e ∙ scope-append old ((x, v) ∷ []) []

-- ---- one name
pub name-bound : (p : Pat) (x : Bor (List ℕ)) (x' : List ℕ) (v : code.Value) (old new : List Named) → p ≡ variants.Name x' → x.now ≡ x' → new ≡ old ++ (x, v) ∷ [] → scope_of new [] ≡ matched (pattern_tree p) (view v) (scope_of old [])
name-bound p x x' v old new is same n = ap (λ l. scope_of l []) n ∙ scope-append old ((x, v) ∷ []) [] ∙ ap (λ y. (y, view v) ∷ scope_of old []) same ∙ ap (λ q. matched (pattern_tree q) (view v) (scope_of old [])) (sym is)

-- ---- a tuple
pub tuple-bound : (p : Pat) (ps : Vec Pat Global) (qs : List Pat) (v : code.Value) (vs : Vec code.Value Global) (s : Scope) → p ≡ patterns.Tuple ps → qs ≡ ps.items → v ≡ code.Tuple vs → matched (pattern_tree p) (view v) s ≡ all_matched (list_patterns qs) (list_values vs.items) s
tuple-bound p ps qs v vs s is items same =
    ap (λ t. matched t (view v) s) (tuple_pattern_is p ps is)
    ∙ ap (λ u. matched (TuplePattern (list_patterns ps.items)) u s) (ap view same ∙ tuple_view vs)
    ∙ ap (λ l. all_matched (list_patterns l) (list_values vs.items) s) (sym items)

-- ---- patterns one after another
pub matched-none : (ps : PatternTrees) (s : Scope) → all_matched ps no_values s ≡ s
matched-none no_patterns s = refl
matched-none (pattern_and p ps) s = refl

pub matched-done : (vs : Values) (s : Scope) → all_matched no_patterns vs s ≡ s
matched-done no_values s = refl
matched-done (value_and v vs) s = refl

-- a turn: the pattern at its value
pub matched-step : (ps ps' : List Pat) (p : Pat) (vs vs' : List code.Value) (v : code.Value) (s s' : Scope) → ps ≡ p ∷ ps' → vs ≡ v ∷ vs' → s' ≡ matched (pattern_tree p) (view v) s → all_matched (list_patterns ps') (list_values vs') s' ≡ all_matched (list_patterns ps) (list_values vs) s
matched-step ps ps' p vs vs' v s s' e f g =
    ap (λ z. all_matched (list_patterns ps') (list_values vs') z) g
    ∙ ap (λ l. all_matched l (list_values (v ∷ vs')) s) (ap list_patterns (sym e))
    ∙ ap (λ l. all_matched (list_patterns ps) (list_values l) s) (sym f)

-- ---- parameters
pub entered-none : (ts : NamedTypes) (s : Scope) → entered ts no_values s ≡ s
entered-none no_named_types s = refl
entered-none (named_type_and x t ts) s = refl

pub entered-done : (vs : Values) (s : Scope) → entered no_named_types vs s ≡ s
entered-done no_values s = refl
entered-done (value_and v vs) s = refl

pub entered-step : (ps ps' : List (List ℕ × TyText)) (p : List ℕ × TyText) (vs vs' : List code.Value) (v : code.Value) (s s' : Scope) → ps ≡ p ∷ ps' → vs ≡ v ∷ vs' → s' ≡ (p.0, view v) ∷ s → entered (list_named_types ps') (list_values vs') s' ≡ entered (list_named_types ps) (list_values vs) s
entered-step ps ps' p vs vs' v s s' e f g =
    ap (λ z. entered (list_named_types ps') (list_values vs') z) g
    ∙ ap (λ l. entered l (list_values (v ∷ vs')) s) (ap list_named_types (sym e))
    ∙ ap (λ l. entered (list_named_types ps) (list_values l) s) (sym f)

-- ---- scopes that extend others
pub extends-more : (xs ys zs : List Named) → Extends xs ys → Extends ys zs → Extends xs zs
extends-more xs ys zs a b = (a.0 ++ b.0, b.1 ∙ ap (λ l. l ++ b.0) a.1 ∙ append_assoc xs a.0 b.0)
