-- What is declared stays so as the table grows, and what is looked up there.
use Rattle.std.proofs.Common.{◌≡◌, ◌∙◌, refl, ap, sym, subst, ℕ, Bool, true, false, cond, ◌&&◌, ◌||◌, List, [], ◌∷◌, Option, None, Some, is_none, is_some, bytes_eq, Result, Ok, Err, Vec, Global}
use Rattle.std.specs.Result.{OnOk}
use Rattle.std.specs.Borrow.{Bor}
use Rattle.std.proofs.lemmas.Option.{none-some, same_Some}
use Rattle.nv_ast.specs.Outline.{OutlineTree}
use Rattle.nv_ast.specs.Tests.{is_among, names_of, look_up, value_at}
use Rattle.nv_ast.specs.Scope.{Signature, Known, Vars, callable}
use Rattle.nv_ast.specs.Sizes.{GroupNumbers}
use Rattle.nv_ast.specs.Faults.{Expected as ExpectedTree}
use Rattle.nv_types_scopes.specs.declared.functions.Function.{Function}
use Rattle.nv_types_scopes.specs.declared.functions.Checker.{Checker}
use Rattle.nv_types_table.specs.declared.cost.Cost.{Cost}
use Rattle.nv_types_table.specs.declared.shapes.Shape.{Shape}
use Rattle.nv_types_scopes.specs.declared.expected.Expected.{Expected}
use Rattle.nv_types_scopes.specs.declared.expected.Expected.TheVariants.{Anything, Value, Typed, Same, Packed, Stored}
use Rattle.nv_types_table.specs.inner.Cells.{still}
use Rattle.nv_types_table.specs.inner.Store.{Store, Extends, IsType, IsParts}
use Rattle.nv_types_scopes.specs.inner.Judging.{IsExpected, AreExpected}
use Rattle.nv_types_table.specs.inner.Layouts.{IsShape, IsDeclared}
use Rattle.nv_types_scopes.specs.inner.Standing.{Alike, IsFunction, Holds, Sees, Counts, KeepsDeclared, Keeps}
use Rattle.nv_types_scopes.proofs.Alikes.{alike_map}
use Rattle.nv_types_table.proofs.Growing.{Extends-refl, Extends-trans}
use Rattle.nv_types_table.proofs.Staying.{type_stays, parts_stay, fields_stay, forms_stay}

-- ---- a store that grows
pub shape_stays : (a b : Store) → Extends a b → (m : Shape) (o : OutlineTree) → IsShape a m o → IsShape b m o
shape_stays a b g m o h = record {
  of_bits = h.of_bits;
  of_fields = h.of_fields;
  of_height = h.of_height;
  a_record = h.a_record;
  of_forms = forms_stay a b g m.forms _ h.of_forms;
  of_types = fields_stay a b g m.types _ h.of_types;
}

pub declared_stays : (a b : Store) → Extends a b → (m : Shape) (o : OutlineTree) → IsDeclared a m o → IsDeclared b m o
declared_stays a b g m o h = record { shaped = shape_stays a b g m o h.shaped; short = h.short }

pub function_stays : (a b : Store) → Extends a b → (f : Function) (u : Signature) → IsFunction a f u → IsFunction b f u
function_stays a b g f u h = record { of_params = parts_stay a b g f.params _ h.of_params; of_result = type_stays a b g f.result _ h.of_result }

pub holds_stays : (c new : Checker) (k : Known) → KeepsDeclared c new → Holds c k → Holds new k
holds_stays c new k keeps h = record {
  of_layouts = subst (λ (l : List (List ℕ × Shape)). Alike (IsDeclared new.table) l k.layouts) (sym keeps.same_layouts) (alike_map (IsDeclared c.table) (IsDeclared new.table) (declared_stays c.table new.table keeps.grows) c.layouts k.layouts h.of_layouts);
  of_exceptions = subst (λ (l : List (List ℕ × ℕ)). Alike (IsParts new.table) l k.exceptions) (sym keeps.same_exceptions) (alike_map (IsParts c.table) (IsParts new.table) (parts_stay c.table new.table keeps.grows) c.exceptions k.exceptions h.of_exceptions);
  of_functions = subst (λ (l : List (List ℕ × Function)). Alike (IsFunction new.table) l (callable k)) (sym keeps.same_functions) (alike_map (IsFunction c.table) (IsFunction new.table) (function_stays c.table new.table keeps.grows) c.functions (callable k) h.of_functions);
  of_own = λ f. h.of_own f ∙ ap (λ (l : List (List ℕ × Function)). is_some (look_up f l) && is_none (look_up f c.costs)) (sym keeps.same_functions) ∙ ap (λ (l : List (List ℕ × Cost)). is_some (look_up f new.functions) && is_none (look_up f l)) (sym keeps.same_costs);
}

-- where the variables in sight are the same
pub sees_stay : (c new : Checker) (vars : Vars) → Keeps c new → Sees c vars → Sees new vars
sees_stay c new vars keeps h =
    subst (λ (l : List (List ℕ × ℕ)). Alike (IsType new.table) l vars) (sym keeps.same_scope)
    (alike_map (IsType c.table) (IsType new.table) (type_stays c.table new.table keeps.declared.grows) c.scope vars h)

pub counts_same : (c new : Checker) → new.costs ≡ c.costs → (sizes needs : GroupNumbers) → Counts c sizes needs → Counts new sizes needs
counts_same c new same sizes needs h = record {
  of_sizes = subst (λ (l : List (List ℕ × Cost)). Alike (λ (cost : Cost) n. cost.size ≡ still n) l sizes) (sym same) h.of_sizes;
  of_needs = subst (λ (l : List (List ℕ × Cost)). Alike (λ (cost : Cost) n. cost.need ≡ still n) l needs) (sym same) h.of_needs;
}

pub counts_stay : (c new : Checker) (sizes needs : GroupNumbers) → KeepsDeclared c new → Counts c sizes needs → Counts new sizes needs
counts_stay c new sizes needs keeps h = counts_same c new keeps.same_costs sizes needs h

pub wanted_stays : (a b : Store) → Extends a b → (expected : Expected) (w : ExpectedTree) → IsExpected a expected w → IsExpected b expected w
wanted_stays a b g Anything w h = h
wanted_stays a b g Value w h = h
wanted_stays a b g (Typed i) w h = (h.0, type_stays a b g i h.0 h.1, h.2)
wanted_stays a b g (Same i) w h = (h.0, type_stays a b g i h.0 h.1, h.2)
wanted_stays a b g (Packed i) w h = (h.0, forms_stay a b g i h.0 h.1, h.2)
wanted_stays a b g Stored w h = h

pub all_wanted_stay : (a b : Store) → Extends a b → (types : Option ℕ) (ws : List ExpectedTree) → AreExpected a types ws → AreExpected b types ws
all_wanted_stay a b g None ws h = h
all_wanted_stay a b g (Some i) ws h = (h.0, parts_stay a b g i h.0 h.1, h.2)

-- ---- what is kept
pub declared_refl : (c : Checker) → KeepsDeclared c c
declared_refl c = record { grows = Extends-refl c.table; same_layouts = refl; same_exceptions = refl; same_functions = refl; same_costs = refl }

pub declared_trans : (a b c : Checker) → KeepsDeclared a b → KeepsDeclared b c → KeepsDeclared a c
declared_trans a b c f g = record {
  grows = Extends-trans a.table b.table c.table f.grows g.grows;
  same_layouts = g.same_layouts ∙ f.same_layouts;
  same_exceptions = g.same_exceptions ∙ f.same_exceptions;
  same_functions = g.same_functions ∙ f.same_functions;
  same_costs = g.same_costs ∙ f.same_costs;
}

pub Keeps-refl : (c : Checker) → Keeps c c
Keeps-refl c = record { declared = declared_refl c; same_scope = refl }

pub Keeps-trans : (a b c : Checker) → Keeps a b → Keeps b c → Keeps a c
Keeps-trans a b c f g = record { declared = declared_trans a b c f.declared g.declared; same_scope = g.same_scope ∙ f.same_scope }

-- the table alone grows
pub Keeps-table : (c : Checker) (table : Store) → Extends c.table table → Keeps c (record c { table = table })
Keeps-table c table g = record {
  declared = record { grows = g; same_layouts = refl; same_exceptions = refl; same_functions = refl; same_costs = refl };
  same_scope = refl;
}

-- one more variable was written
pub Keeps-written : (c : Checker) (v : Vec (Bor (List ℕ)) Global) → Keeps c (record c { written = v })
Keeps-written c v = record {
  declared = record { grows = Extends-refl c.table; same_layouts = refl; same_exceptions = refl; same_functions = refl; same_costs = refl };
  same_scope = refl;
}

pub on_ok : {T E P : Type 0} (r : Result T E) → P → OnOk r P
on_ok (Ok x) p = p
on_ok (Err e) p = tt

pub table_keeps : {T E : Type 0} (c : Checker) (table : Store) (r : Result T E) → OnOk r (Extends c.table table) → OnOk r (Keeps c (record c { table = table }))
table_keeps c table (Ok x) g = Keeps-table c table g
table_keeps c table (Err e) g = tt

-- ---- what is looked up
pub found_alike : {A B : Type 0} (R : A → B → Type 0) (d : B) (x : List ℕ) (m : A) (as_ : List (List ℕ × A)) (bs : List (List ℕ × B)) → Alike R as_ bs → look_up x as_ ≡ Some m
    → (is_among x (names_of bs) ≡ true) × (look_up x bs ≡ Some (value_at d x bs)) × R m (value_at d x bs)
found_alike R d x m [] [] h e = absurd (none-some m e)
found_alike R d x m [] (b ∷ bs) h e = absurd h
found_alike R d x m (a ∷ as_) [] h e = absurd h
found_alike R d x m ((y, a) ∷ as_) ((z, b) ∷ bs) h e = by (λ f. found_alike R d x m as_ bs h.2 f) (bytes_eq x y) refl
  where
    by : (look_up x as_ ≡ Some m → (is_among x (names_of bs) ≡ true) × (look_up x bs ≡ Some (value_at d x bs)) × R m (value_at d x bs)) → (t : Bool) → bytes_eq x y ≡ t
        → (is_among x (names_of ((z, b) ∷ bs)) ≡ true) × (look_up x ((z, b) ∷ bs) ≡ Some (value_at d x ((z, b) ∷ bs))) × R m (value_at d x ((z, b) ∷ bs))
    by more true q =
        let p : bytes_eq x z ≡ true = ap (bytes_eq x) (sym h.0) ∙ q in
        let here : value_at d x ((z, b) ∷ bs) ≡ b = ap (λ t. cond t b (value_at d x bs)) p in
        let same : a ≡ m = same_Some a m (sym (ap (λ t. cond t (Some a) (look_up x as_)) q) ∙ e) in
        (ap (λ t. t || is_among x (names_of bs)) p, ap (λ t. cond t (Some b) (look_up x bs)) p ∙ ap Some (sym here), subst (R m) (sym here) (subst (λ n. R n b) same h.1))
    by more false q =
        let p : bytes_eq x z ≡ false = ap (bytes_eq x) (sym h.0) ∙ q in
        let there : value_at d x ((z, b) ∷ bs) ≡ value_at d x bs = ap (λ t. cond t b (value_at d x bs)) p in
        let rest = more (sym (ap (λ t. cond t (Some a) (look_up x as_)) q) ∙ e) in
        (ap (λ t. t || is_among x (names_of bs)) p ∙ rest.0, ap (λ t. cond t (Some b) (look_up x bs)) p ∙ rest.1 ∙ ap Some (sym there), subst (R m) (sym there) rest.2)

pub absent_alike : {A B : Type 0} (R : A → B → Type 0) (x : List ℕ) (as_ : List (List ℕ × A)) (bs : List (List ℕ × B)) → Alike R as_ bs → look_up x as_ ≡ None → is_among x (names_of bs) ≡ false
absent_alike R x [] [] h e = refl
absent_alike R x [] (b ∷ bs) h e = absurd h
absent_alike R x (a ∷ as_) [] h e = absurd h
absent_alike R x ((y, a) ∷ as_) ((z, b) ∷ bs) h e = by (λ f. absent_alike R x as_ bs h.2 f) (bytes_eq x y) refl
  where
    by : (look_up x as_ ≡ None → is_among x (names_of bs) ≡ false) → (t : Bool) → bytes_eq x y ≡ t → is_among x (names_of ((z, b) ∷ bs)) ≡ false
    by more true q = absurd (none-some a (sym e ∙ ap (λ t. cond t (Some a) (look_up x as_)) q))
    by more false q =
        let p : bytes_eq x z ≡ false = ap (bytes_eq x) (sym h.0) ∙ q in
        ap (λ t. t || is_among x (names_of bs)) p ∙ more (sym (ap (λ t. cond t (Some a) (look_up x as_)) q) ∙ e)
