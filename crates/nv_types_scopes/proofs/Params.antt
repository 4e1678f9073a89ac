-- Parameters: their names and types, and the variables that they make.
use Rattle.std.proofs.Common.{◌≡◌, ◌∙◌, refl, ap, sym, subst, ℕ, ◌+◌, ◌<◌, List, [], ◌∷◌, ◌++◌, take, length, get_or, Some, None, slice_get}
use Rattle.std.specs.Borrow.{Bor}
use Rattle.nv_ast.specs.declared.tree.TyText.{TyText}
use Rattle.nv_ast.specs.Tree.{NamedTypes, no_named_types, named_type_and}
use Rattle.nv_ast.specs.TypeView.{list_named_types}
use Rattle.nv_ast.specs.Tests.{names_of}
use Rattle.nv_ast.specs.Outline.{Layouts}
use Rattle.nv_ast.specs.Types.{Ty, Tys, no_tys, ty_and, NamedTys, no_named_tys, named_ty_and, named_types_of}
use Rattle.nv_ast.specs.Scope.{Vars, plain_tys, param_vars}
use Rattle.nv_ast.specs.Faults.{type_names}
use Rattle.nv_ast.proofs.Items.{take_item}
use Rattle.nv_types_scopes.specs.declared.functions.Checker.{Checker}
use Rattle.nv_types_table.specs.inner.Store.{Store, IsStore, IsType, IsParts, AreTypes, AreFields, field_names, part_of}
use Rattle.nv_types_table.specs.inner.Named.{named, bound_types}
use Rattle.nv_types_scopes.specs.inner.Standing.{Alike, Sees}
use Rattle.nv_types_table.proofs.Entries.{named-append}
use Rattle.nv_types_scopes.proofs.Alikes.{names_of-append}
use Rattle.nv_types_scopes.proofs.Walked.{part_none, part_some}

pub names_more : (xs : List (Bor (List ℕ) × ℕ)) (i : ℕ) (p : Bor (List ℕ) × ℕ) → i < length xs → p ≡ get_or xs i p → names_of (named (take (i + 1) xs)) ≡ names_of (named (take i xs)) ++ p.0.now ∷ []
names_more xs i p lt is = ap (λ l. names_of (named l)) (take_item xs i p lt is) ∙ ap names_of (named-append (take i xs) (p ∷ [])) ∙ names_of-append (named (take i xs)) ((p.0.now, p.1) ∷ [])

bound-append : (as_ bs : List (List ℕ × ℕ)) → bound_types (as_ ++ bs) ≡ bound_types as_ ++ bound_types bs
bound-append [] bs = refl
bound-append (a ∷ as_) bs = ap (λ l. a.1 ∷ l) (bound-append as_ bs)

pub types_more : (xs : List (Bor (List ℕ) × ℕ)) (i : ℕ) (p : Bor (List ℕ) × ℕ) → i < length xs → p ≡ get_or xs i p → bound_types (named (take (i + 1) xs)) ≡ bound_types (named (take i xs)) ++ p.1 ∷ []
types_more xs i p lt is = ap (λ l. bound_types (named l)) (take_item xs i p lt is) ∙ ap bound_types (named-append (take i xs) (p ∷ [])) ∙ bound-append (named (take i xs)) ((p.0.now, p.1) ∷ [])

pub fields_names : (s : Store) (is : List (List ℕ × ℕ)) (ts : NamedTys) → AreFields s is ts → names_of is ≡ field_names ts
fields_names s [] no_named_tys h = refl
fields_names s [] (named_ty_and x t ts) h = absurd h
fields_names s (i ∷ is) no_named_tys h = absurd h
fields_names s ((y, i) ∷ is) (named_ty_and x t ts) h = ap (λ z. z ∷ names_of is) h.0 ∙ ap (λ l. x ∷ l) (fields_names s is ts h.2)

pub fields_types : (s : Store) (is : List (List ℕ × ℕ)) (ts : NamedTys) → AreFields s is ts → AreTypes s (bound_types is) (plain_tys ts)
fields_types s [] no_named_tys h = tt
fields_types s [] (named_ty_and x t ts) h = absurd h
fields_types s (i ∷ is) no_named_tys h = absurd h
fields_types s (i ∷ is) (named_ty_and x t ts) h = (h.1, fields_types s is ts h.2)

pub names_in_text : (layouts : Layouts) (ts : NamedTypes) → field_names (named_types_of layouts ts) ≡ type_names ts
names_in_text layouts no_named_types = refl
names_in_text layouts (named_type_and x t ts) = ap (λ l. x ∷ l) (names_in_text layouts ts)

pub listed_names : (ps : List (List ℕ × TyText)) → type_names (list_named_types ps) ≡ names_of ps
listed_names [] = refl
listed_names ((x, t) ∷ ps) = ap (λ l. x ∷ l) (listed_names ps)

-- ---- binding
-- parameters that were bound at a list of types: the others bind the rest
pub record Binding (now : Checker) (ts : NamedTys) (rest : List (List ℕ)) (list : ℕ) : Type 0 where
  pub left : NamedTys
  pub types : IsParts now.table list (plain_tys left)
  pub names : field_names left ≡ rest
  pub vars : Vars
  pub sees : Sees now vars
  pub same : param_vars ts [] ≡ param_vars left vars

abbrev pub BindingSo : Checker → Checker → List (List ℕ) → List (List ℕ) → ℕ → ℕ → Type 0
BindingSo c now all rest types list = (ts : NamedTys) → IsParts c.table types (plain_tys ts) → field_names ts ≡ all → Sees c [] → Binding now ts rest list

pub binding_start : (c : Checker) (all : List (List ℕ)) (types : ℕ) → BindingSo c c all all types types
binding_start c all types = λ ts h names sees. record { left = ts; types = h; names = names; vars = []; sees = sees; same = refl }

bound_all : (now : Checker) (ts left : NamedTys) (vars : Vars) → left ≡ no_named_tys → Sees now vars → param_vars ts [] ≡ param_vars left vars → Sees now (param_vars ts [])
bound_all now ts left vars none sees same = subst (λ v. Sees now v) (sym (same ∙ ap (λ l. param_vars l vars) none)) sees

no_types_left : (left : NamedTys) → plain_tys left ≡ no_tys → left ≡ no_named_tys
no_types_left no_named_tys e = refl
no_types_left (named_ty_and x t ts) e = absurd (clash t (plain_tys ts) e)
  where
    clash : (u : Ty) (us : Tys) → ty_and u us ≡ no_tys → ⊥
    clash u us q = cc

no_names_left : (left : NamedTys) → field_names left ≡ [] → left ≡ no_named_tys
no_names_left no_named_tys e = refl
no_names_left (named_ty_and x t ts) e = absurd (clash x (field_names ts) e)
  where
    clash : (y : List ℕ) (ys : List (List ℕ)) → y ∷ ys ≡ [] → ⊥
    clash y ys q = cc

pub binding_none : (c now : Checker) (all rest : List (List ℕ)) (types list : ℕ) → BindingSo c now all rest types list → part_of (slice_get now.table.cells list) ≡ None
    → (ts : NamedTys) → IsParts c.table types (plain_tys ts) → field_names ts ≡ all → Sees c [] → Sees now (param_vars ts [])
binding_none c now all rest types list so none ts h names sees =
    let b = so ts h names sees in
    bound_all now ts b.left b.vars (no_types_left b.left (part_none now.table list (plain_tys b.left) b.types none)) b.sees b.same

pub binding_end : (c now : Checker) (all : List (List ℕ)) (types list : ℕ) → BindingSo c now all [] types list
    → (ts : NamedTys) → IsParts c.table types (plain_tys ts) → field_names ts ≡ all → Sees c [] → Sees now (param_vars ts [])
binding_end c now all types list so ts h names sees =
    let b = so ts h names sees in
    bound_all now ts b.left b.vars (no_names_left b.left b.names) b.sees b.same

head_name : (x y : List ℕ) (xs ys : List (List ℕ)) → x ∷ xs ≡ y ∷ ys → x ≡ y
head_name x y xs ys e = cc

tail_names : (x y : List ℕ) (xs ys : List (List ℕ)) → x ∷ xs ≡ y ∷ ys → xs ≡ ys
tail_names x y xs ys e = cc

same_first : (t u : Ty) (ts us : Tys) → ty_and t ts ≡ ty_and u us → t ≡ u
same_first t u ts us e = cc

same_rest : (t u : Ty) (ts us : Tys) → ty_and t ts ≡ ty_and u us → ts ≡ us
same_rest t u ts us e = cc

clash_types : (u : Ty) (us : Tys) → no_tys ≡ ty_and u us → ⊥
clash_types u us q = cc

pub binding_more : (c now : Checker) (scope : List (List ℕ × ℕ)) (all rest : List (List ℕ)) (x : List ℕ) (types list t more : ℕ) → IsStore now.table
    → BindingSo c now all (x ∷ rest) types list → part_of (slice_get now.table.cells list) ≡ Some (t, more) → scope ≡ (x, t) ∷ now.scope
    → BindingSo c (record now { scope = scope }) all rest types more
binding_more c now scope all rest x types list t more store so some e = λ ts h names sees.
    let b = so ts h names sees in
    let p = part_some now.table store list t more (plain_tys b.left) b.types some in
    by ts b.left p.0 p.1 p.2 b.names b.vars b.same b.sees p.3 p.4
  where
    by : (ts left : NamedTys) (u : Ty) (us : Tys) → plain_tys left ≡ ty_and u us → field_names left ≡ x ∷ rest → (vars : Vars) → param_vars ts [] ≡ param_vars left vars → Sees now vars → IsType now.table t u → IsParts now.table more us
        → Binding (record now { scope = scope }) ts rest more
    by ts no_named_tys u us shape n vars same s is parts = absurd (clash_types u us shape)
    by ts (named_ty_and y v left) u us shape n vars same s is parts = record {
      left = left;
      types = subst (λ z. IsParts now.table more z) (sym (same_rest v u (plain_tys left) us shape)) parts;
      names = tail_names y x (field_names left) rest n;
      vars = (y, v) ∷ vars;
      sees = subst (λ l. Alike (IsType now.table) l ((y, v) ∷ vars)) (sym e) (sym (head_name y x (field_names left) rest n), subst (λ z. IsType now.table t z) (sym (same_first v u (plain_tys left) us shape)) is, s);
      same = same;
    }

pub names_first : {A : Type 0} (p : List ℕ × A) (rest : List (List ℕ × A)) → names_of (p ∷ rest) ≡ p.0 ∷ names_of rest
names_first (x, a) rest = refl
