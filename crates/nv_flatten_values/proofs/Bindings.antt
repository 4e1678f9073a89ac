-- The variables that patterns bring into scope.
use Rattle.std.proofs.Common.{◌≡◌, ◌∙◌, refl, ap, sym, ℕ, ◌+◌, ◌-◌, ◌<◌, ◌≤◌, List, [], ◌∷◌, ◌++◌, take, length, get_or, bytes_eq, if◌then◌else◌, append_assoc, arith, Bor, Vec, Global}
use Rattle.std.proofs.lemmas.List.{take_more}
use Rattle.nv_ast.specs.declared.tree.Pat.{Pat}
use Rattle.nv_ast.specs.declared.tree.Pat.TheVariants as variants
use Rattle.nv_ast.specs.declared.tree.Pat.TheViews as patterns
use Rattle.nv_ast.specs.PatternView.{pattern_tree, list_patterns}
use Rattle.nv_ast.specs.Tree.{TuplePattern}
use Rattle.nv_ast.proofs.Reading.{tuple_pattern_is}
use Rattle.nv_flatten_values.specs.inner.Symbols.{SymbolScope, symbol_in, bound, all_bound}
use Rattle.nv_flatten_values.specs.declared.symbol.Symbol as code
use Rattle.nv_flatten_values.specs.inner.View.{Named, view, list_symbols, scope_of}
use Rattle.nv_flatten_values.specs.inner.Simulation.{Extends}
use Rattle.nv_flatten_values.proofs.Rows.{tuple_view}

pub scope-append : (a b : List Named) (outer : SymbolScope) → scope_of (a ++ b) outer ≡ scope_of b (scope_of a outer)
scope-append [] b outer = refl
scope-append (x ∷ a) b outer = scope-append a b ((x.0.now, view x.1) ∷ outer)

-- the newest of the first j variables
pub variable-newest : (scope : List Named) (x : List ℕ) (j : ℕ) (b : Named) → 0 < j → j ≤ length scope → b ≡ get_or scope (j - 1) b →
    symbol_in (scope_of (take j scope) []) x ≡ (if bytes_eq x b.0.now then view b.1 else symbol_in (scope_of (take (j - 1) scope) []) x)
variable-newest scope x j b some inside is =
    let e : j ≡ j - 1 + 1 = omega arith in
    let m : take (j - 1 + 1) scope ≡ take (j - 1) scope ++ get_or scope (j - 1) b ∷ [] = take_more scope (j - 1) b (omega arith) in
    ap (λ k. symbol_in (scope_of (take k scope) []) x) e ∙ ap (λ l. symbol_in (scope_of l []) x) m ∙ ap (λ y. symbol_in (scope_of (take (j - 1) scope ++ y ∷ []) []) x) (sym is) ∙ ap (λ s. symbol_in s x) (scope-append (take (j - 1) scope) (b ∷ []) [])

-- one more binding after the others
pub pushed-name : (old new : List Named) (x : Bor (List ℕ)) (v : code.Symbol) → new ≡ old ++ (x, v) ∷ [] → scope_of new [] ≡ (x.now, view v) ∷ scope_of old []
pushed-name old new x v e = ap (λ l. scope_of l []) e ∙ scope-append old ((x, v) ∷ []) []

-- ---- one name
pub name-bound : (p : Pat) (x : Bor (List ℕ)) (x' : List ℕ) (v : code.Symbol) (old new : List Named) → p ≡ variants.Name x' → x.now ≡ x' → new ≡ old ++ (x, v) ∷ [] → scope_of new [] ≡ bound (pattern_tree p) (view v) (scope_of old [])
name-bound p x x' v old new is same n = ap (λ l. scope_of l []) n ∙ scope-append old ((x, v) ∷ []) [] ∙ ap (λ y. (y, view v) ∷ scope_of old []) same ∙ ap (λ q. bound (pattern_tree q) (view v) (scope_of old [])) (sym is)

-- ---- a tuple
pub tuple-bound : (p : Pat) (ps : Vec Pat Global) (qs : List Pat) (v : code.Symbol) (vs : Vec code.Symbol Global) (s : SymbolScope) → p ≡ patterns.Tuple ps → qs ≡ ps.items → v ≡ code.Tuple vs → bound (pattern_tree p) (view v) s ≡ all_bound (list_patterns qs) (list_symbols vs.items) s
tuple-bound p ps qs v vs s is items same =
    ap (λ t. bound t (view v) s) (tuple_pattern_is p ps is)
    ∙ ap (λ u. bound (TuplePattern (list_patterns ps.items)) u s) (ap view same ∙ tuple_view vs)
    ∙ ap (λ l. all_bound (list_patterns l) (list_symbols vs.items) s) (sym items)

-- ---- scopes that extend others
pub extends-more : (xs ys zs : List Named) → Extends xs ys → Extends ys zs → Extends xs zs
extends-more xs ys zs a b = (a.0 ++ b.0, b.1 ∙ ap (λ l. l ++ b.0) a.1 ∙ append_assoc xs a.0 b.0)
