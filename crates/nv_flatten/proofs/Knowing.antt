-- What is known after some declarations of a program without faults.
use Rattle.std.proofs.Common.{◌≡◌, ◌∙◌, refl, sym, ap, subst, ℕ, zero, suc, ◌+◌, ◌≤◌, Bool, true, false, ◌||◌, List, [], ◌∷◌, ◌++◌, map, length, All, Some, None, bytes_eq, append_assoc, append-nil, arith, if◌then◌else◌}
use Rattle.std.specs.Prelude.{nat_lt, slice_get, replicate}
use Rattle.std.proofs.lemmas.Bool.{ltb-false}
use Rattle.std.proofs.lemmas.Option.{same_Some}
use Rattle.nv_ast.specs.Tests.{where_true, is_among, names_of, look_up, value_at}
use Rattle.nv_ast.specs.Outline.{OutlineTree, PartsOutline, no_named_outlines, Layouts, outline, IsSound}
use Rattle.nv_ast.specs.Tree.{TypeTree, WordType, BoolType, PackedType, UnpackedType, TupleType, RecordType, TypeTrees, no_types, type_and, NamedTypes, no_named_types, named_type_and, NamedLayout, FunTree, DeclTree, LayoutDecl, ExceptionDecl, GroupDecl}
use Rattle.nv_ast.specs.Types.{TupleTy, RecordTy, Tys, ty_and, named_ty_and, type_of, types_of, named_types_of, packed_ty, unpacked_ty, total_words}
use Rattle.nv_ast.specs.Scope.{Signature, signature, signatures}
use Rattle.nv_ast.specs.Faults.{type_faults, types_faults, named_types_faults, too_large, no_layout, twice_in_type, type_names, signature_faults, signatures_faults}
pub use Rattle.nv_meaning_values.proofs.Grouped.{function-named}
use Rattle.nv_meaning.specs.Meaning.{Declared, with_decl, with_decls, function_in}
use Rattle.nv_meaning.specs.Running.{number_from}
use Rattle.nv_meaning_values.specs.inner.Tables.{place_from}
use Rattle.nv_ast.proofs.Faultless.{no_front, no_rest, no_kinds, not_where}
use Rattle.nv_layout.proofs.Sound.{where_not}

-- ---- no faults

pub at_most : (m n : ℕ) → where_true {A = ℕ} (nat_lt m n) 23 ≡ [] → n ≤ m
at_most m n e = ltb-false m n (not_where {A = ℕ} (nat_lt m n) 23 e)

-- ---- layouts that are known stay known
pub value-front : (none : OutlineTree) (x : List ℕ) (k more : Layouts) → is_among x (names_of k) ≡ true → value_at none x (k ++ more) ≡ value_at none x k
value-front none x [] more h = cc
value-front none x ((y, o) ∷ k) more h = by (bytes_eq x y) refl (λ g. value-front none x k more g)
  where
    by : (b : Bool) → bytes_eq x y ≡ b → (is_among x (names_of k) ≡ true → value_at none x (k ++ more) ≡ value_at none x k) → value_at none x ((y, o) ∷ k ++ more) ≡ value_at none x ((y, o) ∷ k)
    by true e next = ap (λ b. if b then o else value_at none x (k ++ more)) e ∙ sym (ap (λ b. if b then o else value_at none x k) e)
    by false e next = ap (λ b. if b then o else value_at none x (k ++ more)) e ∙ next (sym (ap (λ b. b || is_among x (names_of k)) e) ∙ h) ∙ sym (ap (λ b. if b then o else value_at none x k) e)

pub value-found : (none : OutlineTree) (x : List ℕ) (k more : Layouts) (o : OutlineTree) → look_up x k ≡ Some o → value_at none x (k ++ more) ≡ o
value-found none x [] more o h = cc
value-found none x ((y, p) ∷ k) more o h = by (bytes_eq x y) refl (λ g. value-found none x k more o g)
  where
    by : (b : Bool) → bytes_eq x y ≡ b → (look_up x k ≡ Some o → value_at none x (k ++ more) ≡ o) → value_at none x ((y, p) ∷ k ++ more) ≡ o
    by true e next = ap (λ b. if b then p else value_at none x (k ++ more)) e ∙ same_Some _ _ (sym (ap (λ b. if b then Some p else look_up x k) e) ∙ h)
    by false e next = ap (λ b. if b then p else value_at none x (k ++ more)) e ∙ next (sym (ap (λ b. if b then Some p else look_up x k) e) ∙ h)

pub sound-found : (x : List ℕ) (k : Layouts) (o : OutlineTree) → All (λ p. IsSound p.1) k → look_up x k ≡ Some o → IsSound o
sound-found x [] o s h = absurd (cc)
sound-found x ((y, p) ∷ k) o s h = by (bytes_eq x y) refl (λ g. sound-found x k o (λ i d l. s (suc i) d (omega arith)) g)
  where
    by : (b : Bool) → bytes_eq x y ≡ b → (look_up x k ≡ Some o → IsSound o) → IsSound o
    by true e next = subst IsSound (same_Some _ _ (sym (ap (λ b. if b then Some p else look_up x k) e) ∙ h)) (s 0 (y, p) (omega arith))
    by false e next = next (sym (ap (λ b. if b then Some p else look_up x k) e) ∙ h)

-- ---- types in the text without faults stay what they are
abbrev outline_in : Layouts → List ℕ → OutlineTree
outline_in k x = outline k (NamedLayout x)

named-stays : (k more : Layouts) (x : List ℕ) (others : List ℕ) → no_layout k x ++ others ≡ [] → outline_in (k ++ more) x ≡ outline_in k x
named-stays k more x others h = value-front (PartsOutline no_named_outlines) x k more (where_not (is_among x (names_of k)) 8 (no_front (no_layout k x) others h))

mutual
  pub type-stays : (k more : Layouts) (t : TypeTree) → type_faults k t ≡ [] → type_of (k ++ more) t ≡ type_of k t
  type-stays k more (WordType n) h = refl
  type-stays k more BoolType h = refl
  type-stays k more (PackedType x) h = ap packed_ty (named-stays k more x (too_large (type_of k (PackedType x))) h)
  type-stays k more (UnpackedType x) h = ap unpacked_ty (named-stays k more x (too_large (type_of k (UnpackedType x))) h)
  type-stays k more (TupleType ts) h = ap TupleTy (types-stay k more ts (no_front (types_faults k ts) (too_large (type_of k (TupleType ts))) h))
  type-stays k more (RecordType ts) h = ap RecordTy (named-types-stay k more ts (no_front (named_types_faults k ts) (twice_in_type (type_names ts) ++ too_large (type_of k (RecordType ts))) h))

  pub types-stay : (k more : Layouts) (ts : TypeTrees) → types_faults k ts ≡ [] → types_of (k ++ more) ts ≡ types_of k ts
  types-stay k more no_types h = refl
  types-stay k more (type_and t ts) h = ap (λ u. ty_and u (types_of (k ++ more) ts)) (type-stays k more t (no_front (type_faults k t) (types_faults k ts) h)) ∙ ap (ty_and (type_of k t)) (types-stay k more ts (no_rest (type_faults k t) (types_faults k ts) h))

  pub named-types-stay : (k more : Layouts) (ts : NamedTypes) → named_types_faults k ts ≡ [] → named_types_of (k ++ more) ts ≡ named_types_of k ts
  named-types-stay k more no_named_types h = refl
  named-types-stay k more (named_type_and x t ts) h = ap (λ u. named_ty_and x u (named_types_of (k ++ more) ts)) (type-stays k more t (no_front (type_faults k t) (named_types_faults k ts) h)) ∙ ap (named_ty_and x (type_of k t)) (named-types-stay k more ts (no_rest (type_faults k t) (named_types_faults k ts) h))

pub params-stay : (k more : Layouts) (g : FunTree) → signature_faults k g ≡ [] → named_types_of (k ++ more) g.params ≡ named_types_of k g.params
params-stay k more g h = named-types-stay k more g.params (no_front (named_types_faults k g.params) _ (no_kinds g.span _ h))

pub result-stays : (k more : Layouts) (g : FunTree) → signature_faults k g ≡ [] → type_of (k ++ more) g.result ≡ type_of k g.result
result-stays k more g h = type-stays k more g.result (no_front (type_faults k g.result) _ (no_rest (named_types_faults k g.params) _ (no_kinds g.span _ h)))

pub signature-stays : (k more : Layouts) (g : FunTree) → signature_faults k g ≡ [] → signature (k ++ more) g ≡ signature k g
signature-stays k more g h = ap (λ t. record { params = t; result = type_of (k ++ more) g.result }) (params-stay k more g h) ∙ ap (λ t. record { params = named_types_of k g.params; result = t }) (result-stays k more g h)

pub signatures-stay : (k more : Layouts) (fs : List FunTree) → signatures_faults k fs ≡ [] → signatures (k ++ more) fs ≡ signatures k fs
signatures-stay k more [] h = refl
signatures-stay k more (f ∷ fs) h =
    ap (λ g. (f.name, g) ∷ signatures (k ++ more) fs) (signature-stays k more f (no_front (signature_faults k f) (signatures_faults k fs) h))
    ∙ ap (λ l. (f.name, signature k f) ∷ l) (signatures-stay k more fs (no_rest (signature_faults k f) (signatures_faults k fs) h))

-- ---- functions by name
pub function-front : (fs more : List FunTree) (f : List ℕ) (g : FunTree) → function_in fs f ≡ Some g → function_in (fs ++ more) f ≡ Some g
function-front [] more f g h = cc
function-front (h' ∷ fs) more f g h = by (bytes_eq f h'.name) refl (λ e. function-front fs more f g e)
  where
    by : (b : Bool) → bytes_eq f h'.name ≡ b → (function_in fs f ≡ Some g → function_in (fs ++ more) f ≡ Some g) → function_in ((h' ∷ fs) ++ more) f ≡ Some g
    by true e next = ap (λ b. if b then Some h' else function_in (fs ++ more) f) e ∙ (sym (ap (λ b. if b then Some h' else function_in fs f) e) ∙ h)
    by false e next = ap (λ b. if b then Some h' else function_in (fs ++ more) f) e ∙ next (sym (ap (λ b. if b then Some h' else function_in fs f) e) ∙ h)

pub function-behind : (fs more : List FunTree) (f : List ℕ) → function_in fs f ≡ None → function_in (fs ++ more) f ≡ function_in more f
function-behind [] more f h = refl
function-behind (h' ∷ fs) more f h = by (bytes_eq f h'.name) refl (λ e. function-behind fs more f e)
  where
    by : (b : Bool) → bytes_eq f h'.name ≡ b → (function_in fs f ≡ None → function_in (fs ++ more) f ≡ function_in more f) → function_in ((h' ∷ fs) ++ more) f ≡ function_in more f
    by true e next = let k : Some h' ≡ None = sym (ap (λ b. if b then Some h' else function_in fs f) e) ∙ h in cc
    by false e next = ap (λ b. if b then Some h' else function_in (fs ++ more) f) e ∙ next (sym (ap (λ b. if b then Some h' else function_in fs f) e) ∙ h)

-- what is looked up among signatures is a function's
pub signature-found : (k : Layouts) (fs : List FunTree) (f : List ℕ) (s : Signature) → look_up f (signatures k fs) ≡ Some s → (g : FunTree) × (function_in fs f ≡ Some g) × (signature k g ≡ s)
signature-found k [] f s h = absurd (cc)
signature-found k (h' ∷ fs) f s h = by (bytes_eq f h'.name) refl (λ e. signature-found k fs f s e)
  where
    by : (b : Bool) → bytes_eq f h'.name ≡ b → (look_up f (signatures k fs) ≡ Some s → (g : FunTree) × (function_in fs f ≡ Some g) × (signature k g ≡ s)) → (g : FunTree) × (function_in (h' ∷ fs) f ≡ Some g) × (signature k g ≡ s)
    by true e next = (h', ap (λ b. if b then Some h' else function_in fs f) e, same_Some _ _ (sym (ap (λ b. if b then Some (signature k h') else look_up f (signatures k fs)) e) ∙ h))
    by false e next = let r = next (sym (ap (λ b. if b then Some (signature k h') else look_up f (signatures k fs)) e) ∙ h) in (r.0, ap (λ b. if b then Some h' else function_in fs f) e ∙ r.1, r.2)

pub signature-there : (k : Layouts) (fs : List FunTree) (f : List ℕ) (g : FunTree) → function_in fs f ≡ Some g → look_up f (signatures k fs) ≡ Some (signature k g)
signature-there k [] f g h = cc
signature-there k (h' ∷ fs) f g h = by (bytes_eq f h'.name) refl (λ e. signature-there k fs f g e)
  where
    by : (b : Bool) → bytes_eq f h'.name ≡ b → (function_in fs f ≡ Some g → look_up f (signatures k fs) ≡ Some (signature k g)) → look_up f (signatures k (h' ∷ fs)) ≡ Some (signature k g)
    by true e next = ap (λ b. if b then Some (signature k h') else look_up f (signatures k fs)) e ∙ ap (λ d. Some (signature k d)) (same_Some _ _ (sym (ap (λ b. if b then Some h' else function_in fs f) e) ∙ h))
    by false e next = ap (λ b. if b then Some (signature k h') else look_up f (signatures k fs)) e ∙ next (sym (ap (λ b. if b then Some h' else function_in fs f) e) ∙ h)

-- a function that is found is among the names
pub function-among : (k : Layouts) (fs : List FunTree) (f : List ℕ) (g : FunTree) → function_in fs f ≡ Some g → is_among f (names_of (signatures k fs)) ≡ true
function-among k [] f g h = cc
function-among k (h' ∷ fs) f g h = by (bytes_eq f h'.name) refl (λ e. function-among k fs f g e)
  where
    by : (b : Bool) → bytes_eq f h'.name ≡ b → (function_in fs f ≡ Some g → is_among f (names_of (signatures k fs)) ≡ true) → is_among f (names_of (signatures k (h' ∷ fs))) ≡ true
    by true e next = ap (λ b. b || is_among f (names_of (signatures k fs))) e
    by false e next = ap (λ b. b || is_among f (names_of (signatures k fs))) e ∙ next (sym (ap (λ b. if b then Some h' else function_in fs f) e) ∙ h)

pub among-function : (k : Layouts) (fs : List FunTree) (f : List ℕ) → is_among f (names_of (signatures k fs)) ≡ true → (g : FunTree) × (function_in fs f ≡ Some g)
among-function k [] f h = absurd (cc)
among-function k (h' ∷ fs) f h = by (bytes_eq f h'.name) refl (λ e. among-function k fs f e)
  where
    by : (b : Bool) → bytes_eq f h'.name ≡ b → (is_among f (names_of (signatures k fs)) ≡ true → (g : FunTree) × (function_in fs f ≡ Some g)) → (g : FunTree) × (function_in (h' ∷ fs) f ≡ Some g)
    by true e next = (h', ap (λ b. if b then Some h' else function_in fs f) e)
    by false e next = let r = next (sym (ap (λ b. b || is_among f (names_of (signatures k fs))) e) ∙ h) in (r.0, ap (λ b. if b then Some h' else function_in fs f) e ∙ r.1)

pub signatures-append : (k : Layouts) (fs more : List FunTree) → signatures k (fs ++ more) ≡ signatures k fs ++ signatures k more
signatures-append k [] more = refl
signatures-append k (f ∷ fs) more = ap (λ l. (f.name, signature k f) ∷ l) (signatures-append k fs more)

-- ---- the group of a function
abbrev pub AllAre : (ℕ → Type 0) → List ℕ → Type 0
AllAre P [] = Unit {0}
AllAre P (g ∷ gs) = P g × AllAre P gs

pub are-also : (P Q : ℕ → Type 0) (gs : List ℕ) → ((g : ℕ) → P g → Q g) → AllAre P gs → AllAre Q gs
are-also P Q [] h a = tt {0}
are-also P Q (g ∷ gs) h a = (h g a.0, are-also P Q gs h a.1)

pub are-both : (P : ℕ → Type 0) (gs hs : List ℕ) → AllAre P gs → AllAre P hs → AllAre P (gs ++ hs)
are-both P [] hs a b = b
are-both P (g ∷ gs) hs a b = (a.0, are-both P gs hs a.1 b)

pub are-replicate : (P : ℕ → Type 0) (n k : ℕ) → P n → AllAre P (replicate k n)
are-replicate P n zero p = tt {0}
are-replicate P n (suc k) p = (p, are-replicate P n k p)

pub slice-behind : {A : Type 0} (xs ys : List A) (i j : ℕ) → j ≡ length xs + i → slice_get (xs ++ ys) j ≡ slice_get ys i
slice-behind [] ys i j e = let k : j ≡ i = omega arith in ap (slice_get ys) k
slice-behind (x ∷ xs) ys i zero e = absurd (omega arith)
slice-behind (x ∷ xs) ys i (suc j) e = slice-behind xs ys i j (omega arith)

-- where a function stands, and a number beside it of which this holds
pub record IsGrouped (j : ℕ) (P : ℕ → Type 0) (f : List ℕ) (names : List (List ℕ)) (numbers : List ℕ) : Type 0 where
  pub place : ℕ
  pub group : ℕ
  pub stands : place_from j f names ≡ Some (j + place)
  pub numbered : slice_get numbers place ≡ Some group
  pub holds : P group

pub grouped : (j : ℕ) (P : ℕ → Type 0) (fs more : List FunTree) (gs rest : List ℕ) (f : List ℕ) (g : FunTree) → length gs ≡ length fs → AllAre P gs → function_in fs f ≡ Some g → IsGrouped j P f (map (λ h. h.name) (fs ++ more)) (gs ++ rest)
grouped j P [] more gs rest f g e a h = absurd (cc)
grouped j P (h' ∷ fs) more [] rest f g e a h = absurd (omega arith)
grouped j P (h' ∷ fs) more (m ∷ gs) rest f g e a h = by (bytes_eq f h'.name) refl (λ k. grouped (suc j) P fs more gs rest f g (omega arith) a.1 k)
  where
    by : (b : Bool) → bytes_eq f h'.name ≡ b → (function_in fs f ≡ Some g → IsGrouped (suc j) P f (map (λ h. h.name) (fs ++ more)) (gs ++ rest)) → IsGrouped j P f (map (λ h. h.name) ((h' ∷ fs) ++ more)) ((m ∷ gs) ++ rest)
    by true q next = record {
      place = 0;
      group = m;
      stands = (let z : j ≡ j + 0 = omega arith in ap (λ b. if b then Some j else place_from (suc j) f (map (λ h. h.name) (fs ++ more))) q ∙ ap (λ i. Some i) z);
      numbered = refl;
      holds = a.0;
    }
    by false q next =
        let r = next (sym (ap (λ b. if b then Some h' else function_in fs f) q) ∙ h) in
        let z : suc j + r.place ≡ j + suc r.place = omega arith in
        record {
          place = suc r.place;
          group = r.group;
          stands = ap (λ b. if b then Some j else place_from (suc j) f (map (λ h. h.name) (fs ++ more))) q ∙ r.stands ∙ ap (λ i. Some i) z;
          numbered = r.numbered;
          holds = r.holds;
        }

-- behind functions of other names
pub group-behind : (j : ℕ) (fs more : List FunTree) (f : List ℕ) → function_in fs f ≡ None → place_from j f (map (λ h. h.name) (fs ++ more)) ≡ place_from (length fs + j) f (map (λ h. h.name) more)
group-behind j [] more f h = let z : j ≡ 0 + j = omega arith in ap (λ i. place_from i f (map (λ h. h.name) more)) z
group-behind j (h' ∷ fs) more f h = by (bytes_eq f h'.name) refl (λ k. group-behind (suc j) fs more f k)
  where
    by : (b : Bool) → bytes_eq f h'.name ≡ b → (function_in fs f ≡ None → place_from (suc j) f (map (λ h. h.name) (fs ++ more)) ≡ place_from (length fs + suc j) f (map (λ h. h.name) more)) → place_from j f (map (λ h. h.name) ((h' ∷ fs) ++ more)) ≡ place_from (length (h' ∷ fs) + j) f (map (λ h. h.name) more)
    by true q next = let k : Some h' ≡ None = sym (ap (λ b. if b then Some h' else function_in fs f) q) ∙ h in cc
    by false q next =
        let z : length fs + suc j ≡ length (h' ∷ fs) + j = omega arith in
        ap (λ b. if b then Some j else place_from (suc j) f (map (λ h. h.name) (fs ++ more))) q
        ∙ next (sym (ap (λ b. if b then Some h' else function_in fs f) q) ∙ h)
        ∙ ap (λ i. place_from i f (map (λ h. h.name) more)) z

-- ---- exceptions by name
pub record IsNumbered (j : ℕ) (x : List ℕ) (ts : Tys) (names : List (List ℕ)) (types : List Tys) : Type 0 where
  pub place : ℕ
  pub numbered : number_from j names x ≡ j + place
  pub there : slice_get types place ≡ Some ts

pub numbered : (j : ℕ) (es : List (List ℕ × Tys)) (more : List (List ℕ)) (rest : List Tys) (x : List ℕ) (ts : Tys) → look_up x es ≡ Some ts → IsNumbered j x ts (names_of es ++ more) (map (λ e. e.1) es ++ rest)
numbered j [] more rest x ts h = absurd (cc)
numbered j ((y, us) ∷ es) more rest x ts h = by (bytes_eq x y) refl (λ k. numbered (j + 1) es more rest x ts k)
  where
    by : (b : Bool) → bytes_eq x y ≡ b → (look_up x es ≡ Some ts → IsNumbered (j + 1) x ts (names_of es ++ more) (map (λ e. e.1) es ++ rest)) → IsNumbered j x ts (names_of ((y, us) ∷ es) ++ more) (map (λ e. e.1) ((y, us) ∷ es) ++ rest)
    by true q next = record {
      place = 0;
      numbered = (let z : j ≡ j + 0 = omega arith in ap (λ b. if b then j else number_from (j + 1) (names_of es ++ more) x) q ∙ z);
      there = sym (ap (λ b. if b then Some us else look_up x es) q) ∙ h;
    }
    by false q next =
        let r = next (sym (ap (λ b. if b then Some us else look_up x es) q) ∙ h) in
        let z : j + 1 + r.place ≡ j + suc r.place = omega arith in
        record {
          place = suc r.place;
          numbered = ap (λ b. if b then j else number_from (j + 1) (names_of es ++ more) x) q ∙ r.numbered ∙ z;
          there = r.there;
        }

pub names-append : {A : Type 0} (xs ys : List (List ℕ × A)) → names_of (xs ++ ys) ≡ names_of xs ++ names_of ys
names-append [] ys = refl
names-append ((x, a) ∷ xs) ys = ap (λ l. x ∷ l) (names-append xs ys)

-- at most eight words each
abbrev pub AllNarrow : List (List ℕ × Tys) → Type 0
AllNarrow [] = Unit {0}
AllNarrow (e ∷ es) = (total_words e.1 ≤ 8) × AllNarrow es

pub narrow-append : (es : List (List ℕ × Tys)) (x : List ℕ) (ts : Tys) → AllNarrow es → total_words ts ≤ 8 → AllNarrow (es ++ (x, ts) ∷ [])
narrow-append [] x ts a h = (h, tt {0})
narrow-append (e ∷ es) x ts a h = (a.0, narrow-append es x ts a.1 h)

pub narrow-found : (es : List (List ℕ × Tys)) (i : ℕ) (ts : Tys) → AllNarrow es → slice_get (map (λ e. e.1) es ++ []) i ≡ Some ts → total_words ts ≤ 8
narrow-found [] i ts a h = absurd (cc)
narrow-found (e ∷ es) zero ts a h = subst (λ us. total_words us ≤ 8) (same_Some _ _ h) a.0
narrow-found (e ∷ es) (suc i) ts a h = narrow-found es i ts a.1 h

-- ---- what declarations add stands behind what was there
pub with-layouts : (d : Declared) (ds : List DeclTree) → (more : Layouts) × ((with_decls d ds).layouts ≡ d.layouts ++ more)
with-layouts d [] = ([], sym (append-nil d.layouts))
with-layouts d (LayoutDecl x l s ∷ ds) = let r = with-layouts (with_decl d (LayoutDecl x l s)) ds in ((x, outline d.layouts l) ∷ r.0, r.1 ∙ append_assoc d.layouts ((x, outline d.layouts l) ∷ []) r.0)
with-layouts d (ExceptionDecl x ts s ∷ ds) = with-layouts (with_decl d (ExceptionDecl x ts s)) ds
with-layouts d (GroupDecl fs ∷ ds) = with-layouts (with_decl d (GroupDecl fs)) ds

pub with-exceptions : (d : Declared) (ds : List DeclTree) → (more : List (List ℕ)) × ((with_decls d ds).exceptions ≡ d.exceptions ++ more)
with-exceptions d [] = ([], sym (append-nil d.exceptions))
with-exceptions d (LayoutDecl x l s ∷ ds) = with-exceptions (with_decl d (LayoutDecl x l s)) ds
with-exceptions d (ExceptionDecl x ts s ∷ ds) = let r = with-exceptions (with_decl d (ExceptionDecl x ts s)) ds in (x ∷ r.0, r.1 ∙ append_assoc d.exceptions (x ∷ []) r.0)
with-exceptions d (GroupDecl fs ∷ ds) = with-exceptions (with_decl d (GroupDecl fs)) ds

pub with-functions : (d : Declared) (ds : List DeclTree) → (more : List FunTree) × ((with_decls d ds).functions ≡ d.functions ++ more)
with-functions d [] = ([], sym (append-nil d.functions))
with-functions d (LayoutDecl x l s ∷ ds) = with-functions (with_decl d (LayoutDecl x l s)) ds
with-functions d (ExceptionDecl x ts s ∷ ds) = with-functions (with_decl d (ExceptionDecl x ts s)) ds
with-functions d (GroupDecl fs ∷ ds) = let r = with-functions (with_decl d (GroupDecl fs)) ds in (fs ++ r.0, r.1 ∙ append_assoc d.functions fs r.0)
