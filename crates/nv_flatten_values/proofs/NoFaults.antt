-- What an expression without faults says of itself and its types.
use Rattle.std.proofs.Common.{◌≡◌, ℕ, Bool, true, false, ◌&&◌, ◌||◌, if◌then◌else◌, List, [], ◌∷◌, ◌++◌, All, Option, Some, None, is_none, option_map, bytes_eq, refl, sym, ap, ◌∙◌, subst, true≢false}
use Rattle.std.specs.List.{list_any}
use Rattle.std.proofs.lemmas.List.Elements.{All-nil, All-cons, All-head, All-tail}
use Rattle.std.proofs.lemmas.Slice.Eq.{bytes_eq-Decides}
use Rattle.nv_ast.specs.Tree.{Tree, NumberTree, TruthTree, VarTree, ParenTree, TupleTree, FieldsTree, DotTree, InvertTree, NegateTree, BinaryTree, ShiftTree, CallTree, UnpackTree, PackTree, RaiseTree, IfTree, TryTree, FetchTree, BlockTree, Trees, no_trees, tree_and, NamedTrees, no_named_trees, named_tree_and, span_of}
use Rattle.nv_ast.specs.Tests.{is_among, names_of, look_up}
use Rattle.nv_ast.specs.Types.{Ty, WordTy, BoolTy, TupleTy, RecordTy, Tys, no_tys, ty_and, NamedTys, no_named_tys, named_ty_and, same_type, same_types, same_named_types, words_ty, unpacked_ty, packed_ty}
use Rattle.nv_ast.specs.Scope.{Context, inside, with_vars, bind_raised}
use Rattle.nv_ast.specs.Typing.{field_ty, and_ty, and_named_ty, operand_ty, result_ty, type_at, types_at, named_types_at, vars_behind}
use Rattle.nv_ast.specs.Faults.{Expected, anything, a_value, of_type, same_as, at_span, as_many, all_wanted, expected_arguments, wrong_number, low_kinds, other_type, middle_kinds, no_value, no_field, too_large_value, node_faults, raised_kinds, expected_packed, expected_unpacked, params_of, faults, list_faults, named_faults, statements_faults}
use Rattle.nv_flatten_values.specs.inner.Code.{is_given}
use Rattle.std.proofs.lemmas.Bool.{and_parts}
use Rattle.nv_ast.proofs.Faultless.{no_front, no_rest, no_kinds, not_where}
use Rattle.nv_layout.proofs.Sound.{where_not}

-- ---- lists of faults

pub given : {A : Type 0} (o : Option A) → is_none o ≡ false → (a : A) × (o ≡ Some a)
given None h = absurd (true≢false h)
given (Some a) h = (a, refl)

pub is-name : (x y : List ℕ) → bytes_eq x y ≡ true → x ≡ y
is-name x y h = (bytes_eq-Decides x y).0 h

-- ---- the same types
mutual
  pub same-is : (t u : Ty) → same_type t u ≡ true → t ≡ u
  same-is WordTy WordTy h = refl
  same-is WordTy BoolTy h = absurd (true≢false (sym h))
  same-is WordTy (TupleTy us) h = absurd (true≢false (sym h))
  same-is WordTy (RecordTy us) h = absurd (true≢false (sym h))
  same-is BoolTy WordTy h = absurd (true≢false (sym h))
  same-is BoolTy BoolTy h = refl
  same-is BoolTy (TupleTy us) h = absurd (true≢false (sym h))
  same-is BoolTy (RecordTy us) h = absurd (true≢false (sym h))
  same-is (TupleTy ts) WordTy h = absurd (true≢false (sym h))
  same-is (TupleTy ts) BoolTy h = absurd (true≢false (sym h))
  same-is (TupleTy ts) (TupleTy us) h = ap (λ l. TupleTy l) (same-are ts us h)
  same-is (TupleTy ts) (RecordTy us) h = absurd (true≢false (sym h))
  same-is (RecordTy ts) WordTy h = absurd (true≢false (sym h))
  same-is (RecordTy ts) BoolTy h = absurd (true≢false (sym h))
  same-is (RecordTy ts) (TupleTy us) h = absurd (true≢false (sym h))
  same-is (RecordTy ts) (RecordTy us) h = ap (λ l. RecordTy l) (same-named ts us h)

  pub same-are : (ts us : Tys) → same_types ts us ≡ true → ts ≡ us
  same-are no_tys no_tys h = refl
  same-are no_tys (ty_and u us) h = absurd (true≢false (sym h))
  same-are (ty_and t ts) no_tys h = absurd (true≢false (sym h))
  same-are (ty_and t ts) (ty_and u us) h =
      let both = and_parts (same_type t u) (same_types ts us) h in
      ap (λ a. ty_and a ts) (same-is t u both.0) ∙ ap (λ l. ty_and u l) (same-are ts us both.1)

  pub same-named : (ts us : NamedTys) → same_named_types ts us ≡ true → ts ≡ us
  same-named no_named_tys no_named_tys h = refl
  same-named no_named_tys (named_ty_and y u us) h = absurd (true≢false (sym h))
  same-named (named_ty_and x t ts) no_named_tys h = absurd (true≢false (sym h))
  same-named (named_ty_and x t ts) (named_ty_and y u us) h =
      let first = and_parts (bytes_eq x y) (same_type t u && same_named_types ts us) h in
      let both = and_parts (same_type t u) (same_named_types ts us) first.1 in
      ap (λ z. named_ty_and z t ts) (is-name x y first.0) ∙ ap (λ a. named_ty_and y a ts) (same-is t u both.0) ∙ ap (λ l. named_ty_and y u l) (same-named ts us both.1)

-- ---- the node of an expression
pub record IsClean (p : Context) (w : Expected) (e : Tree) : Type 0 where
  pub low : low_kinds p e ≡ []
  pub other : other_type w (type_at p.known p.vars e) ≡ []
  pub middle : middle_kinds p e ≡ []
  pub value : no_value w (type_at p.known p.vars e) ≡ []

node-clean : (p : Context) (w : Expected) (e : Tree) → node_faults p w e ≡ [] → IsClean p w e
node-clean p w e h =
    let t = type_at p.known p.vars e in
    let ends = no_value w t ++ too_large_value t in
    let all : low_kinds p e ++ (other_type w t ++ (middle_kinds p e ++ ends)) ≡ [] = no_kinds (span_of e) (low_kinds p e ++ (other_type w t ++ (middle_kinds p e ++ ends))) h in
    let behind : other_type w t ++ (middle_kinds p e ++ ends) ≡ [] = no_rest (low_kinds p e) (other_type w t ++ (middle_kinds p e ++ ends)) all in
    let last : middle_kinds p e ++ ends ≡ [] = no_rest (other_type w t) (middle_kinds p e ++ ends) behind in
    record {
      low = no_front (low_kinds p e) (other_type w t ++ (middle_kinds p e ++ ends)) all;
      other = no_front (other_type w t) (middle_kinds p e ++ ends) behind;
      middle = no_front (middle_kinds p e) ends last;
      value = no_front (no_value w t) (too_large_value t) (no_rest (middle_kinds p e) ends last);
    }

pub node-of : (p : Context) (w : Expected) (e : Tree) → faults p w e ≡ [] → node_faults p w e ≡ []
node-of p w (NumberTree s n) h = h
node-of p w (TruthTree s b) h = h
node-of p w (VarTree s x) h = h
node-of p w (ParenTree s e) h = no_rest (faults p a_value e) _ h
node-of p w (TupleTree s es) h = no_rest (list_faults (inside p) [] es) _ h
node-of p w (FieldsTree s es) h = no_rest (named_faults (inside p) es) _ h
node-of p w (DotTree s e x) h = no_rest (faults (inside p) a_value e) _ h
node-of p w (InvertTree s e) h = no_rest (faults (inside p) (of_type WordTy) e) _ h
node-of p w (NegateTree s e) h = no_rest (faults (inside p) (of_type BoolTy) e) _ h
node-of p w (BinaryTree s op a b) h = no_rest (faults (inside p) (of_type (operand_ty op)) b) _ (no_rest (faults (inside p) (of_type (operand_ty op)) a) _ h)
node-of p w (ShiftTree s op e n) h = no_rest (faults (inside p) (of_type WordTy) e) _ h
node-of p w (CallTree s f es) h = no_rest (list_faults (inside p) (expected_arguments (params_of p.known f) es) es) _ h
node-of p w (UnpackTree s l e) h = no_rest (faults (inside p) (expected_packed (look_up l p.known.layouts)) e) _ h
node-of p w (PackTree s l e) h = no_rest (faults (inside p) (expected_unpacked (look_up l p.known.layouts)) e) _ h
node-of p w (RaiseTree s x es) h = no_rest (list_faults (inside p) (expected_arguments (look_up x p.known.exceptions) es) es) _ h
node-of p w (IfTree s c a b) h = no_rest (faults p (same_as (type_at p.known p.vars a)) b) _ (no_rest (faults p anything a) _ (no_rest (faults (inside p) (of_type BoolTy) c) _ h))
node-of p w (TryTree s a x ps e) h =
    no_rest (faults (with_vars (bind_raised ps (look_up x p.known.exceptions) p.vars) p) (same_as (type_at p.known p.vars a)) e) _
    (no_rest (at_span s (raised_kinds p.known x ps)) _ (no_rest (faults (inside p) anything a) _ h))
node-of p w (FetchTree s m n a) h = no_rest (faults (inside p) (of_type WordTy) a) _ h
node-of p w (BlockTree s sts e) h = no_rest (faults (with_vars (vars_behind p.known p.vars sts) p) anything e) _ (no_rest (statements_faults (inside p) sts) _ h)

pub clean : (p : Context) (w : Expected) (e : Tree) → faults p w e ≡ [] → IsClean p w e
clean p w e h = node-clean p w e (node-of p w e h)

-- ---- types
is-value : (w : Expected) (o : Option Ty) → w.value ≡ true → no_value w o ≡ [] → (t : Ty) × (o ≡ Some t)
is-value w None v h = absurd (true≢false (sym v ∙ not_where w.value 22 h))
is-value w (Some t) v h = (t, refl)

-- a type of which a right one is wanted is right
pub is-right : (w : Expected) (o : Option Ty) (t : Ty) → other_type w o ≡ [] → o ≡ Some t → w.right t ≡ true
is-right w o t h e = where_not (w.right t) 14 (subst (λ u. other_type w u ≡ []) e h)

pub value-has-type : (p : Context) (wanted : Expected) (e : Tree) → wanted.value ≡ true → faults p wanted e ≡ [] → (t : Ty) × (type_at p.known p.vars e ≡ Some t)
value-has-type p wanted e v h = is-value wanted (type_at p.known p.vars e) v (clean p wanted e h).value

pub wanted-type : (p : Context) (t : Ty) (e : Tree) → faults p (of_type t) e ≡ [] → type_at p.known p.vars e ≡ Some t
wanted-type p t e h =
    let u = value-has-type p (of_type t) e refl h in
    u.1 ∙ ap (λ a. Some a) (same-is u.0 t (is-right (of_type t) (type_at p.known p.vars e) u.0 (clean p (of_type t) e h).other u.1))

pub values-have-types : (p : Context) (ws : List Expected) (es : Trees) → All (λ w. w.value ≡ true) ws → list_faults p ws es ≡ [] → (ts : Tys) × (types_at p.known p.vars es ≡ Some ts)
values-have-types p ws no_trees v h = (no_tys, refl)
values-have-types p [] (tree_and e es) v h =
    let first = value-has-type p a_value e refl (no_front (faults p a_value e) (list_faults p [] es) h) in
    let rest = values-have-types p [] es v (no_rest (faults p a_value e) (list_faults p [] es) h) in
    (ty_and first.0 rest.0, ap (λ o. and_ty o (types_at p.known p.vars es)) first.1 ∙ ap (λ o. and_ty (Some first.0) o) rest.1)
values-have-types p (w ∷ ws) (tree_and e es) v h =
    let first = value-has-type p w e (All-head (λ w. w.value ≡ true) w ws v) (no_front (faults p w e) (list_faults p ws es) h) in
    let rest = values-have-types p ws es (All-tail (λ w. w.value ≡ true) w ws v) (no_rest (faults p w e) (list_faults p ws es) h) in
    (ty_and first.0 rest.0, ap (λ o. and_ty o (types_at p.known p.vars es)) first.1 ∙ ap (λ o. and_ty (Some first.0) o) rest.1)

all-wanted-values : (ts : Tys) → All (λ w. w.value ≡ true) (all_wanted ts)
all-wanted-values no_tys = All-nil (λ (w : Expected). w.value ≡ true)
all-wanted-values (ty_and t ts) = All-cons (λ (w : Expected). w.value ≡ true) (of_type t) (all_wanted ts) refl (all-wanted-values ts)

pub arguments-are-values : (o : Option Tys) (es : Trees) → All (λ w. w.value ≡ true) (expected_arguments o es)
arguments-are-values None es = All-nil (λ (w : Expected). w.value ≡ true)
arguments-are-values (Some ts) es = by (as_many ts es)
  where
    by : (b : Bool) → All (λ w. w.value ≡ true) (if b then all_wanted ts else [])
    by true = all-wanted-values ts
    by false = All-nil (λ (w : Expected). w.value ≡ true)

pub fields-have-types : (p : Context) (es : NamedTrees) → named_faults p es ≡ [] → (ts : NamedTys) × (named_types_at p.known p.vars es ≡ Some ts)
fields-have-types p no_named_trees h = (no_named_tys, refl)
fields-have-types p (named_tree_and x e es) h =
    let first = value-has-type p a_value e refl (no_front (faults p a_value e) (named_faults p es) h) in
    let rest = fields-have-types p es (no_rest (faults p a_value e) (named_faults p es) h) in
    (named_ty_and x first.0 rest.0, ap (λ o. and_named_ty x o (named_types_at p.known p.vars es)) first.1 ∙ ap (λ o. and_named_ty x (Some first.0) o) rest.1)

all-typed : (p : Context) (ts : Tys) (es : Trees) → as_many ts es ≡ true → list_faults p (all_wanted ts) es ≡ [] → types_at p.known p.vars es ≡ Some ts
all-typed p no_tys no_trees n h = refl
all-typed p no_tys (tree_and e es) n h = absurd (true≢false (sym n))
all-typed p (ty_and t ts) no_trees n h = absurd (true≢false (sym n))
all-typed p (ty_and t ts) (tree_and e es) n h =
    ap (λ o. and_ty o (types_at p.known p.vars es)) (wanted-type p t e (no_front (faults p (of_type t) e) (list_faults p (all_wanted ts) es) h))
    ∙ ap (λ o. and_ty (Some t) o) (all-typed p ts es n (no_rest (faults p (of_type t) e) (list_faults p (all_wanted ts) es) h))

pub arguments-typed : (p : Context) (ts : Tys) (es : Trees) → list_faults p (expected_arguments (Some ts) es) es ≡ [] → wrong_number (Some ts) es ≡ [] → types_at p.known p.vars es ≡ Some ts
arguments-typed p ts es h n =
    let many : as_many ts es ≡ true = where_not (as_many ts es) 13 n in
    all-typed p ts es many (subst (λ b. list_faults p (if b then all_wanted ts else []) es ≡ []) many h)

-- ---- names that are known
pub among-known : {A : Type 0} (x : List ℕ) (known : List (List ℕ × A)) → is_among x (names_of known) ≡ true → (a : A) × (look_up x known ≡ Some a)
among-known x [] h = absurd (true≢false (sym h))
among-known {A} x ((y, a) ∷ rest) h = by (bytes_eq x y) h (λ g. among-known x rest g)
  where
    by : (b : Bool) → (b || list_any (bytes_eq x) (names_of rest)) ≡ true → (is_among x (names_of rest) ≡ true → (c : A) × (look_up x rest ≡ Some c)) → (c : A) × ((if b then Some a else look_up x rest) ≡ Some c)
    by true g r = (a, refl)
    by false g r = r g

-- ---- an expression of such a kind has a value, whatever is wanted
pub given-has-type : (p : Context) (wanted : Expected) (e : Tree) → faults p wanted e ≡ [] → is_given e ≡ true → (t : Ty) × (type_at p.known p.vars e ≡ Some t)
given-has-type p w (NumberTree s n) h g = (WordTy, refl)
given-has-type p w (TruthTree s b) h g = (BoolTy, refl)
given-has-type p w (VarTree s x) h g = given (look_up x p.vars) (not_where (is_none (look_up x p.vars)) 10 (clean p w (VarTree s x) h).low)
given-has-type p w (ParenTree s e) h g = absurd (true≢false (sym g))
given-has-type p w (TupleTree s es) h g =
    let ts = values-have-types (inside p) [] es (All-nil (λ (w : Expected). w.value ≡ true)) (no_front (list_faults (inside p) [] es) _ h) in
    (TupleTy ts.0, ap (λ o. option_map (λ l. TupleTy l) o) ts.1)
given-has-type p w (FieldsTree s es) h g =
    let ts = fields-have-types (inside p) es (no_front (named_faults (inside p) es) _ h) in
    (RecordTy ts.0, ap (λ o. option_map (λ l. RecordTy l) o) ts.1)
given-has-type p w (DotTree s e x) h g =
    let t = value-has-type (inside p) a_value e refl (no_front (faults (inside p) a_value e) _ h) in
    let there : no_field x (Some t.0) ≡ [] = subst (λ o. no_field x o ≡ []) t.1 (clean p w (DotTree s e x) h).middle in
    let u = given (field_ty x (Some t.0)) (not_where (is_none (field_ty x (Some t.0))) 15 there) in
    (u.0, ap (field_ty x) t.1 ∙ u.1)
given-has-type p w (InvertTree s e) h g = (WordTy, refl)
given-has-type p w (NegateTree s e) h g = (BoolTy, refl)
given-has-type p w (BinaryTree s op a b) h g = (result_ty op, refl)
given-has-type p w (ShiftTree s op e n) h g = (WordTy, refl)
given-has-type p w (CallTree s f es) h g = absurd (true≢false (sym g))
given-has-type p w (UnpackTree s l e) h g =
    let o = among-known l p.known.layouts (where_not (is_among l (names_of p.known.layouts)) 3 (clean p w (UnpackTree s l e) h).low) in
    (unpacked_ty o.0, ap (option_map unpacked_ty) o.1)
given-has-type p w (PackTree s l e) h g =
    let o = among-known l p.known.layouts (where_not (is_among l (names_of p.known.layouts)) 3 (clean p w (PackTree s l e) h).low) in
    (packed_ty o.0, ap (option_map packed_ty) o.1)
given-has-type p w (RaiseTree s x es) h g = absurd (true≢false (sym g))
given-has-type p w (IfTree s c a b) h g = absurd (true≢false (sym g))
given-has-type p w (TryTree s a x ps e) h g = absurd (true≢false (sym g))
given-has-type p w (FetchTree s m n a) h g = (words_ty n, refl)
given-has-type p w (BlockTree s sts e) h g = absurd (true≢false (sym g))
