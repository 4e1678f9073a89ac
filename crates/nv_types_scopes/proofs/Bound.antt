-- Variables that patterns bind.
use Rattle.std.proofs.Common.{◌≡◌, ◌∙◌, refl, ap, sym, subst, ℕ, List, [], ◌∷◌, ◌++◌, None, Some, slice_get, append_assoc, Result, Ok, Err}
use Rattle.std.specs.Result.{OnOk}
use Rattle.nv_ast.specs.declared.tree.Pat.{Pat}
use Rattle.nv_ast.specs.Tree.{PatternTree, TuplePattern}
use Rattle.nv_ast.specs.PatternView.{pattern_tree, list_patterns}
use Rattle.nv_ast.specs.Scope.{Vars, bind, bind_all}
use Rattle.nv_ast.specs.Types.{Ty, Tys}
use Rattle.nv_types_scopes.specs.declared.functions.Checker.{Checker}
use Rattle.nv_types_table.specs.inner.Store.{Store, IsStore, IsType, IsParts, tuple_of, part_of}
use Rattle.nv_types_scopes.specs.inner.Standing.{Sees}
use Rattle.nv_types_scopes.specs.inner.Patterns.{Adds}
use Rattle.nv_types_table.proofs.Growing.{Extends-refl, Extends-trans}
use Rattle.nv_types_table.proofs.Staying.{parts_stay}
use Rattle.nv_types_table.proofs.WordLists.{tuple_some}
use Rattle.nv_types_scopes.proofs.Walked.{part_none, part_some}

pub Adds-refl : (c : Checker) → Adds c c
Adds-refl c = record {
  declared = record { grows = Extends-refl c.table; same_layouts = refl; same_exceptions = refl; same_functions = refl; same_costs = refl };
  same_written = refl;
  newer = [];
  behind = refl;
}

pub Adds-trans : (a b c : Checker) → Adds a b → Adds b c → Adds a c
Adds-trans a b c f g = record {
  declared = record {
    grows = Extends-trans a.table b.table c.table f.declared.grows g.declared.grows;
    same_layouts = g.declared.same_layouts ∙ f.declared.same_layouts;
    same_exceptions = g.declared.same_exceptions ∙ f.declared.same_exceptions;
    same_functions = g.declared.same_functions ∙ f.declared.same_functions;
    same_costs = g.declared.same_costs ∙ f.declared.same_costs;
  };
  same_written = g.same_written ∙ f.same_written;
  newer = g.newer ++ f.newer;
  behind = g.behind ∙ ap (λ l. g.newer ++ l) f.behind ∙ sym (append_assoc g.newer f.newer a.scope);
}

pub name_adds : {T E : Type 0} (c : Checker) (scope : List (List ℕ × ℕ)) (y : List ℕ × ℕ) (r : Result T E) → OnOk r (scope ≡ y ∷ c.scope) → OnOk r (Adds c (record c { scope = scope }))
name_adds c scope y (Ok x) e = record {
  declared = record { grows = Extends-refl c.table; same_layouts = refl; same_exceptions = refl; same_functions = refl; same_costs = refl };
  same_written = refl;
  newer = y ∷ [];
  behind = e;
}
name_adds c scope y (Err x) e = tt

pub tuple_sees : {T E : Type 0} (s : Store) (new : Checker) → IsStore s → (i j : ℕ) (p : PatternTree) (ps : List Pat) (r : Result T E) → p ≡ TuplePattern (list_patterns ps) → Some j ≡ tuple_of (slice_get s.cells i)
    → (old : Checker) → ((us : Tys) (vars : Vars) → IsParts s j us → Sees old vars → OnOk r (Sees new (bind_all (list_patterns ps) us vars)))
    → (u : Ty) (vars : Vars) → IsType s i u → Sees old vars → OnOk r (Sees new (bind p u vars))
tuple_sees s new is i j p ps r shape at old all u vars h sees =
    let q = tuple_some s is i j u h (sym at) in
    let e : bind p u vars ≡ bind_all (list_patterns ps) q.0 vars = ap (λ (x : PatternTree). bind x u vars) shape ∙ ap (λ (x : Ty). bind (TuplePattern (list_patterns ps)) x vars) q.1 in
    subst (λ (l : Vars). OnOk r (Sees new l)) (sym e) (all q.0 vars q.2 sees)

-- patterns of which some are behind: the others bind at the rest what all bind at all
abbrev pub BindSo : Checker → Checker → List Pat → List Pat → ℕ → ℕ → Type 0
BindSo old new ps rest types list = (us : Tys) (vars : Vars) → IsParts old.table types us → Sees old vars
    → (vs : Tys) × (ws : Vars) × IsParts new.table list vs × Sees new ws × (bind_all (list_patterns ps) us vars ≡ bind_all (list_patterns rest) vs ws)

pub bind_none : (old new : Checker) (ps rest : List Pat) (p : Pat) (types list : ℕ) → BindSo old new ps (p ∷ rest) types list → part_of (slice_get new.table.cells list) ≡ None
    → (us : Tys) (vars : Vars) → IsParts old.table types us → Sees old vars → Sees new (bind_all (list_patterns ps) us vars)
bind_none old new ps rest p types list so none us vars h sees =
    let v = so us vars h sees in
    subst (Sees new) (sym (v.4 ∙ ap (λ (x : Tys). bind_all (list_patterns (p ∷ rest)) x v.1) (part_none new.table list v.0 v.2 none))) v.3

pub bind_some : (old new next : Checker) (ps rest : List Pat) (p : Pat) (types list j more : ℕ) → IsStore new.table → BindSo old new ps (p ∷ rest) types list → part_of (slice_get new.table.cells list) ≡ Some (j, more)
    → Adds new next → ((u : Ty) (vars : Vars) → IsType new.table j u → Sees new vars → Sees next (bind (pattern_tree p) u vars)) → BindSo old next ps rest types more
bind_some old new next ps rest p types list j more is so some adds here us vars h sees =
    let v = so us vars h sees in
    let q = part_some new.table is list j more v.0 v.2 some in
    (q.1, bind (pattern_tree p) q.0 v.1, parts_stay new.table next.table adds.declared.grows more q.1 q.4, here q.0 v.1 q.3 v.3, v.4 ∙ ap (λ (x : Tys). bind_all (list_patterns (p ∷ rest)) x v.1) q.2)

pub bind_end : (old new : Checker) (ps : List Pat) (types list : ℕ) → BindSo old new ps [] types list → (us : Tys) (vars : Vars) → IsParts old.table types us → Sees old vars → Sees new (bind_all (list_patterns ps) us vars)
bind_end old new ps types list so us vars h sees =
    let v = so us vars h sees in
    subst (Sees new) (sym v.4) v.3
