-- The walk over a type in the text, as far as a loop has come, and arm by arm.
use Rattle.std.proofs.Common.{◌≡◌, ◌∙◌, refl, ap, sym, subst, ℕ, zero, suc, ◌+◌, ◌/◌, ◌<◌, ◌≤◌, min, max, Bool, true, false, not, cond, ◌||◌, List, [], ◌∷◌, ◌++◌, take, drop, length, get_or, arith, le-ltb, leb-true, ◌&&◌, append_assoc, append-nil, None, Some, Vec, Global, Result, Ok, Err}
use Rattle.std.specs.Prelude.{◌==◌, nat_le, nat_lt}
use Rattle.std.specs.Result.{IfOk, OnOk}
use Rattle.std.specs.Borrow.{Bor}
use Rattle.nv_ast.specs.declared.token.Span.{Span}
use Rattle.nv_ast.specs.declared.tree.TyText
use Rattle.nv_ast.specs.declared.tree.TyText.{TyText}
use Rattle.nv_ast.specs.Tree.{TypeTree, WordType, BoolType, PackedType, UnpackedType, TupleType, RecordType, TypeTrees, NamedTypes}
use Rattle.nv_ast.specs.Height.{type_height, highest_type, highest_named_type}
use Rattle.nv_ast.specs.TypeView.{type_tree, list_types, list_named_types}
use Rattle.nv_ast.proofs.Rows.{types_items, named_types_items}
use Rattle.nv_ast.specs.Outline.{OutlineTree, PartsOutline, no_named_outlines, Layouts, size}
use Rattle.nv_ast.specs.Tests.{where_true, within, has_twice, value_at, look_up}
use Rattle.nv_ast.specs.Types.{Ty, WordTy, TupleTy, RecordTy, Tys, NamedTys, total_words, ty_height, highest_ty, word_parts, words_ty, packed_words, packed_ty, record_forms, unpacked, unpacked_all, type_of, types_of, named_types_of}
use Rattle.nv_ast.specs.Faults.{at_span, type_faults, types_faults, named_types_faults, type_names, wrong_words, no_layout, too_large, twice_in_type}
use Rattle.nv_ast.specs.Scope.{Known}
use Rattle.nv_ast.proofs.Items.{take_item, split_item}
use Rattle.nv_ast.proofs.TypeWords.{parts_words}
use Rattle.nv_ast.proofs.Faultless.{no_kinds}
use Rattle.nv_types_table.specs.declared.error.TypeError.{TypeError}
use Rattle.nv_types_table.specs.declared.error.TypeError.TheVariants.{Fault}
use Rattle.nv_types_scopes.specs.declared.functions.Checker.{Checker}
use Rattle.nv_types_table.specs.declared.shapes.Shape.{Shape}
use Rattle.nv_types_table.specs.inner.Cells.{still}
use Rattle.nv_types_table.specs.inner.Faulty.{IsFirstOf, Judges}
use Rattle.nv_types_table.specs.inner.Named.{named}
use Rattle.nv_types_table.specs.inner.Store.{Store, Extends, IsType, IsParts, IsFields, AreTypes, AreFields, field_names}
use Rattle.nv_types_table.specs.inner.Layouts.{IsDeclared}
use Rattle.nv_types_scopes.specs.inner.Standing.{Holds, Keeps}
use Rattle.nv_types_scopes.specs.inner.Texts.{TypesText, TypesTexts, TypesNamed}
use Rattle.nv_types_table.proofs.Entries.{named-append}
use Rattle.nv_types_table.proofs.Staying.{types_stay, named_stay}
use Rattle.nv_types_table.proofs.Firsts.{first_kind, then_kinds}
use Rattle.nv_types_scopes.proofs.Holding.{Keeps-refl, Keeps-trans, found_alike, absent_alike, on_ok}
use Rattle.nv_types_scopes.proofs.LayoutWalk.{at_none, first_within}
use Rattle.nv_types_scopes.proofs.Params.{names_in_text}

-- ---- vectors in the text
pub tuple_text : (v : Vec TyText Global) → type_tree (TyText.Tuple v) ≡ TupleType (list_types v.items)
tuple_text v = ap TupleType (types_items v)

pub record_text : (v : Vec (List ℕ × TyText) Global) → type_tree (TyText.Fields v) ≡ RecordType (list_named_types v.items)
record_text v = ap RecordType (named_types_items v)

-- ---- types in order
types_faults-append : (k : Layouts) (xs ys : List TyText) → types_faults k (list_types (xs ++ ys)) ≡ types_faults k (list_types xs) ++ types_faults k (list_types ys)
types_faults-append k [] ys = refl
types_faults-append k (x ∷ xs) ys = ap (λ l. type_faults k (type_tree x) ++ l) (types_faults-append k xs ys) ∙ sym (append_assoc (type_faults k (type_tree x)) (types_faults k (list_types xs)) (types_faults k (list_types ys)))

pub types_faults_more : (s : Span) (k : Layouts) (xs : List TyText) (i : ℕ) (p : TyText) → i < length xs → p ≡ get_or xs i p → types_faults k (list_types (take i xs)) ≡ [] → at_span s (type_faults k (type_tree p)) ≡ [] → types_faults k (list_types (take (i + 1) xs)) ≡ []
types_faults_more s k xs i p h e none here =
    ap (λ l. types_faults k (list_types l)) (take_item xs i p h e) ∙ types_faults-append k (take i xs) (p ∷ []) ∙ ap (λ l. l ++ (type_faults k (type_tree p) ++ [])) none ∙ append-nil (type_faults k (type_tree p)) ∙ no_kinds s (type_faults k (type_tree p)) here

pub types_first : (s : Span) (k : Layouts) (xs : List TyText) (i : ℕ) (p : TyText) (x : TypeError) → i < length xs → p ≡ get_or xs i p → types_faults k (list_types (take i xs)) ≡ [] → IsFirstOf (at_span s (type_faults k (type_tree p))) x → IsFirstOf (at_span s (types_faults k (list_types xs))) x
types_first s k xs i p x h e none here =
    first_within s (types_faults k (list_types xs)) (types_faults k (list_types (take i xs))) (type_faults k (type_tree p)) (types_faults k (list_types (drop (i + 1) xs))) x
    (ap (λ l. types_faults k (list_types l)) (split_item xs i p h e) ∙ types_faults-append k (take i xs) (p ∷ drop (i + 1) xs)) none here

types-append : (s : Store) (k : Layouts) (xs : List TyText) (p : TyText) (is : List ℕ) (j : ℕ) → AreTypes s is (types_of k (list_types xs)) → IsType s j (type_of k (type_tree p)) → AreTypes s (is ++ j ∷ []) (types_of k (list_types (xs ++ p ∷ [])))
types-append s k [] p [] j h m = (m, tt)
types-append s k [] p (y ∷ is) j h m = absurd h
types-append s k (x ∷ xs) p [] j h m = absurd h
types-append s k (x ∷ xs) p (y ∷ is) j h m = (h.0, types-append s k xs p is j h.1 m)

pub types_more : (a b : Store) (k : Layouts) (xs : List TyText) (i : ℕ) (p : TyText) (is new : List ℕ) (j : ℕ) → i < length xs → p ≡ get_or xs i p → Extends a b
    → AreTypes a is (types_of k (list_types (take i xs))) → new ≡ is ++ j ∷ [] → IsType b j (type_of k (type_tree p)) → AreTypes b new (types_of k (list_types (take (i + 1) xs)))
types_more a b k xs i p is new j h e g before after here =
    let all = types-append b k (take i xs) p is j (types_stay a b g is (types_of k (list_types (take i xs))) before) here in
    subst (λ (l : List TyText). AreTypes b new (types_of k (list_types l))) (sym (take_item xs i p h e))
    (subst (λ (l : List ℕ). AreTypes b l (types_of k (list_types (take i xs ++ p ∷ [])))) (sym after) all)

highest_type-append : (xs ys : List TyText) → highest_type (list_types (xs ++ ys)) ≡ max (highest_type (list_types xs)) (highest_type (list_types ys))
highest_type-append [] ys = omega arith
highest_type-append (x ∷ xs) ys = omega (arith, highest_type-append xs ys)

pub highest_type_within : (xs : List TyText) (i : ℕ) (p : TyText) → i < length xs → p ≡ get_or xs i p → type_height (type_tree p) ≤ highest_type (list_types xs)
highest_type_within xs i p h e = omega (arith, ap (λ l. highest_type (list_types l)) (split_item xs i p h e), highest_type-append (take i xs) (p ∷ drop (i + 1) xs))

-- ---- named types in order
abbrev pub TypeNamed : Type 0
TypeNamed = List ℕ × TyText

named_faults-append : (k : Layouts) (xs ys : List TypeNamed) → named_types_faults k (list_named_types (xs ++ ys)) ≡ named_types_faults k (list_named_types xs) ++ named_types_faults k (list_named_types ys)
named_faults-append k [] ys = refl
named_faults-append k (x ∷ xs) ys = ap (λ l. type_faults k (type_tree x.1) ++ l) (named_faults-append k xs ys) ∙ sym (append_assoc (type_faults k (type_tree x.1)) (named_types_faults k (list_named_types xs)) (named_types_faults k (list_named_types ys)))

pub named_faults_more : (s : Span) (k : Layouts) (xs : List TypeNamed) (i : ℕ) (p : TypeNamed) → i < length xs → p ≡ get_or xs i p → named_types_faults k (list_named_types (take i xs)) ≡ [] → at_span s (type_faults k (type_tree p.1)) ≡ [] → named_types_faults k (list_named_types (take (i + 1) xs)) ≡ []
named_faults_more s k xs i p h e none here =
    ap (λ l. named_types_faults k (list_named_types l)) (take_item xs i p h e) ∙ named_faults-append k (take i xs) (p ∷ []) ∙ ap (λ l. l ++ (type_faults k (type_tree p.1) ++ [])) none ∙ append-nil (type_faults k (type_tree p.1)) ∙ no_kinds s (type_faults k (type_tree p.1)) here

pub named_first : (s : Span) (k : Layouts) (xs : List TypeNamed) (i : ℕ) (p : TypeNamed) (x : TypeError) → i < length xs → p ≡ get_or xs i p → named_types_faults k (list_named_types (take i xs)) ≡ [] → IsFirstOf (at_span s (type_faults k (type_tree p.1))) x → IsFirstOf (at_span s (named_types_faults k (list_named_types xs))) x
named_first s k xs i p x h e none here =
    first_within s (named_types_faults k (list_named_types xs)) (named_types_faults k (list_named_types (take i xs))) (type_faults k (type_tree p.1)) (named_types_faults k (list_named_types (drop (i + 1) xs))) x
    (ap (λ l. named_types_faults k (list_named_types l)) (split_item xs i p h e) ∙ named_faults-append k (take i xs) (p ∷ drop (i + 1) xs)) none here

fields-append : (s : Store) (k : Layouts) (xs : List TypeNamed) (p : TypeNamed) (is : List (List ℕ × ℕ)) (e : List ℕ × ℕ) → AreFields s is (named_types_of k (list_named_types xs)) → e.0 ≡ p.0 → IsType s e.1 (type_of k (type_tree p.1))
    → AreFields s (is ++ e ∷ []) (named_types_of k (list_named_types (xs ++ p ∷ [])))
fields-append s k [] p [] e h n m = (n, m, tt)
fields-append s k [] p (y ∷ is) e h n m = absurd h
fields-append s k (x ∷ xs) p [] e h n m = absurd h
fields-append s k (x ∷ xs) p (y ∷ is) e h n m = (h.0, h.1, fields-append s k xs p is e h.2 n m)

pub fields_more : (a b : Store) (k : Layouts) (xs : List TypeNamed) (i : ℕ) (p : TypeNamed) (is new : List (Bor (List ℕ) × ℕ)) (y : Bor (List ℕ)) (j : ℕ) → i < length xs → p ≡ get_or xs i p → Extends a b
    → AreFields a (named is) (named_types_of k (list_named_types (take i xs))) → new ≡ is ++ (y, j) ∷ [] → y.now ≡ p.0 → IsType b j (type_of k (type_tree p.1)) → AreFields b (named new) (named_types_of k (list_named_types (take (i + 1) xs)))
fields_more a b k xs i p is new y j h e g before after name here =
    let old = named_stay a b g (named is) (named_types_of k (list_named_types (take i xs))) before in
    let all = fields-append b k (take i xs) p (named is) (y.now, j) old name here in
    let list : named new ≡ named is ++ (y.now, j) ∷ [] = ap named after ∙ named-append is ((y, j) ∷ []) in
    subst (λ (l : List TypeNamed). AreFields b (named new) (named_types_of k (list_named_types l))) (sym (take_item xs i p h e))
    (subst (λ (l : List (List ℕ × ℕ)). AreFields b l (named_types_of k (list_named_types (take i xs ++ p ∷ [])))) (sym list) all)

highest_named-append : (xs ys : List TypeNamed) → highest_named_type (list_named_types (xs ++ ys)) ≡ max (highest_named_type (list_named_types xs)) (highest_named_type (list_named_types ys))
highest_named-append [] ys = omega arith
highest_named-append (x ∷ xs) ys = omega (arith, highest_named-append xs ys)

pub highest_named_within : (xs : List TypeNamed) (i : ℕ) (p : TypeNamed) → i < length xs → p ≡ get_or xs i p → type_height (type_tree p.1) ≤ highest_named_type (list_named_types xs)
highest_named_within xs i p h e = omega (arith, ap (λ l. highest_named_type (list_named_types l)) (split_item xs i p h e), highest_named-append (take i xs) (p ∷ drop (i + 1) xs))

-- ---- the type of at most 1,024 words isn't too large
parts_height : (n : ℕ) → highest_ty (word_parts n) ≤ 1
parts_height zero = omega arith
parts_height (suc n) = omega (arith, parts_height n)

tuple_small : (n : ℕ) → n ≤ 1024 → too_large (TupleTy (word_parts n)) ≡ []
tuple_small n h = ap (λ b. where_true {A = ℕ} (b || nat_lt 100 (ty_height (TupleTy (word_parts n)))) 24) (le-ltb 1024 (total_words (word_parts n)) (omega (arith, parts_words n, h))) ∙ ap (λ b. where_true {A = ℕ} b 24) (le-ltb 100 (1 + highest_ty (word_parts n)) (omega (arith, parts_height n)))

pub words_small : (n : ℕ) → n ≤ 1024 → too_large (words_ty n) ≡ []
words_small n h = by (n == 1)
  where
    by : (b : Bool) → too_large (cond b WordTy (TupleTy (word_parts n))) ≡ []
    by true = refl
    by false = tuple_small n h

-- ---- a text that is the same
pub text_at : (c new : Checker) (s : Span) (t u : TypeTree) (r : Result ℕ TypeError) → t ≡ u → TypesText c new s u r → TypesText c new s t r
text_at c new s t u r e h = subst (λ (x : TypeTree). TypesText c new s x r) (sym e) h

-- ---- the same number
pub same_number : (s : Store) (t : ℕ) (u : Ty) (r : Result ℕ TypeError) → IfOk r (λ i. i ≡ t) → IsType s t u → IfOk r (λ i. IsType s i u)
same_number s t u (Ok i) e h = subst (λ j. IsType s j u) (sym e) h
same_number s t u (Err x) e h = tt

-- ---- wherever it is refused
pub text_refused : (c new : Checker) (s : Span) (t : TypeTree) (x : TypeError) → ((k : Known) → Holds c k → IsFirstOf (at_span s (type_faults k.layouts t)) x) → TypesText c new s t (Err x)
text_refused c new s t x h = record { judged = h; typed = λ k q. tt; keeps = tt }

pub texts_refused : (c new : Checker) (s : Span) (ts : TypeTrees) (x : TypeError) → ((k : Known) → Holds c k → IsFirstOf (at_span s (types_faults k.layouts ts)) x) → TypesTexts c new s ts (Err x)
texts_refused c new s ts x h = record { judged = h; typed = λ k q. tt; keeps = tt }

pub named_refused : (c new : Checker) (s : Span) (ts : NamedTypes) (x : TypeError) → ((k : Known) → Holds c k → IsFirstOf (at_span s (named_types_faults k.layouts ts)) x) → TypesNamed c new s ts (Err x)
named_refused c new s ts x h = record { judged = h; typed = λ k q. tt; keeps = tt }

-- ---- words
pub word_wrong : (c new : Checker) (s : Span) (n : ℕ) (b : Bool) (x : TypeError) → b ≡ not (within 1 1024 n) → IsFirstOf (at_span s (where_true b 8)) x → TypesText c new s (WordType n) (Err x)
word_wrong c new s n b x e h = text_refused c new s (WordType n) x (λ k q. first_kind s (wrong_words n) (too_large (words_ty n)) x (subst (λ t. IsFirstOf (at_span s (where_true t 8)) x) e h))

pub word_right : (c new : Checker) (s : Span) (n : ℕ) (b : Bool) (i : ℕ) → b ≡ not (within 1 1024 n) → at_span s (where_true b 8) ≡ [] → Keeps c new → IsType new.table i (words_ty n) → TypesText c new s (WordType n) (Ok i)
word_right c new s n b i e h keeps made =
    let right : at_span s (wrong_words n) ≡ [] = subst (λ t. at_span s (where_true t 8) ≡ []) e h in
    let small : n ≤ 1024 = small_of n (no_kinds s (wrong_words n) right) in
    record {
      judged = λ k q. then_kinds {T = ℕ} s (wrong_words n) (too_large (words_ty n)) (Ok i) right (at_none s (too_large (words_ty n)) (words_small n small));
      typed = λ k q. made;
      keeps = keeps;
    }
  where
    none_so : (t : Bool) → where_true {A = ℕ} (not t) 8 ≡ [] → t ≡ true
    none_so true e = refl
    none_so false e = cc

    right_of : (a b : Bool) → (a && b) ≡ true → b ≡ true
    right_of true b e = e
    right_of false b e = cc

    le_of : (m : ℕ) → within 1 1024 m ≡ true → m ≤ 1024
    le_of m e = leb-true m 1024 (right_of (nat_le 1 m) (nat_le m 1024) e)

    small_of : (m : ℕ) → wrong_words m ≡ [] → m ≤ 1024
    small_of m e = le_of m (none_so (within 1 1024 m) e)

-- ---- bools
pub bool_text : (c : Checker) (s : Span) → TypesText c c s BoolType (Ok 1)
bool_text c s = record { judged = λ k q. refl; typed = λ k q. refl; keeps = Keeps-refl c }

-- ---- packed values of a layout
pub packed_found : (c new : Checker) (s : Span) (x : List ℕ) (shape : Shape) (n i : ℕ) → Some shape ≡ look_up x c.layouts → n ≡ (min shape.bits 1024 + 31) / 32 → Keeps c new → IsType new.table i (words_ty n) → TypesText c new s (PackedType x) (Ok i)
packed_found c new s x shape n i e number keeps made = record {
  judged = λ k h.
      let f = found_alike (IsDeclared c.table) (PartsOutline no_named_outlines) x shape c.layouts k.layouts h.of_layouts (sym e) in
      let o = value_at (PartsOutline no_named_outlines) x k.layouts in
      then_kinds {T = ℕ} s (no_layout k.layouts x) (too_large (packed_ty o)) (Ok i) (ap (λ b. at_span s (where_true (not b) 8)) f.0) (at_none s (too_large (packed_ty o)) (words_small (packed_words o) (few o f.2.short)));
  typed = λ k h.
      let f = found_alike (IsDeclared c.table) (PartsOutline no_named_outlines) x shape c.layouts k.layouts h.of_layouts (sym e) in
      let o = value_at (PartsOutline no_named_outlines) x k.layouts in
      subst (λ m. IsType new.table i (words_ty m)) (number ∙ ap (λ m. (m + 31) / 32) (exact shape.bits (size o) f.2.shaped.of_bits f.2.short)) made;
  keeps = keeps;
}
  where
    few : (o : OutlineTree) → size o ≤ 1024 → packed_words o ≤ 1024
    few o h = omega (arith, h)

    exact : (m n : ℕ) → m ≡ still n → n ≤ 1024 → min m 1024 ≡ n
    exact m n e h = omega (arith, e, h)

pub packed_absent : (c : Checker) (s : Span) (x : List ℕ) → None ≡ look_up x c.layouts → TypesText c c s (PackedType x) (Err (Fault 8 s))
packed_absent c s x e = text_refused c c s (PackedType x) (Fault 8 s) (λ k h. first_kind s (no_layout k.layouts x) (too_large (type_of k.layouts (PackedType x))) (Fault 8 s) ([], ap (λ b. at_span s (where_true (not b) 8)) (absent_alike (IsDeclared c.table) x c.layouts k.layouts h.of_layouts (sym e))))

-- ---- unpacked values of a layout
pub unpacked_found : (c new : Checker) (s : Span) (x : List ℕ) (shape : Shape) (t : ℕ) (r : Result ℕ TypeError) → Some shape ≡ look_up x c.layouts → Keeps c new
    → ((ts : NamedTys) → IsFields c.table shape.types ts → IsType new.table t (RecordTy ts))
    → ((u : Ty) → IsType new.table t u → Judges (at_span s (too_large u)) r) → IfOk r (λ i. i ≡ t) → TypesText c new s (UnpackedType x) r
unpacked_found c new s x shape t r e keeps made judged same = record {
  judged = λ k h.
      let f = found_alike (IsDeclared c.table) (PartsOutline no_named_outlines) x shape c.layouts k.layouts h.of_layouts (sym e) in
      then_kinds s (no_layout k.layouts x) (too_large (type_of k.layouts (UnpackedType x))) r (ap (λ b. at_span s (where_true (not b) 8)) f.0) (judged (type_of k.layouts (UnpackedType x)) (is_type k h));
  typed = λ k h. same_number new.table t (type_of k.layouts (UnpackedType x)) r same (is_type k h);
  keeps = on_ok r keeps;
}
  where
    is_type : (k : Known) → Holds c k → IsType new.table t (type_of k.layouts (UnpackedType x))
    is_type k h =
        let f = found_alike (IsDeclared c.table) (PartsOutline no_named_outlines) x shape c.layouts k.layouts h.of_layouts (sym e) in
        let o = value_at (PartsOutline no_named_outlines) x k.layouts in
        subst (λ g. IsType new.table t (unpacked g)) (sym f.2.shaped.a_record) (made (unpacked_all (record_forms o)) f.2.shaped.of_types)

pub unpacked_absent : (c : Checker) (s : Span) (x : List ℕ) → None ≡ look_up x c.layouts → TypesText c c s (UnpackedType x) (Err (Fault 8 s))
unpacked_absent c s x e = text_refused c c s (UnpackedType x) (Fault 8 s) (λ k h. first_kind s (no_layout k.layouts x) (too_large (type_of k.layouts (UnpackedType x))) (Fault 8 s) ([], ap (λ b. at_span s (where_true (not b) 8)) (absent_alike (IsDeclared c.table) x c.layouts k.layouts h.of_layouts (sym e))))

-- ---- tuples
pub tuple_refused : (c mid new : Checker) (s : Span) (ts : TypeTrees) (x : TypeError) → TypesTexts c mid s ts (Err x) → TypesText c new s (TupleType ts) (Err x)
tuple_refused c mid new s ts x q = text_refused c new s (TupleType ts) x (λ k h. first_kind s (types_faults k.layouts ts) (too_large (type_of k.layouts (TupleType ts))) x (q.judged k h))

pub tuple_done : (c mid new : Checker) (s : Span) (ts : TypeTrees) (parts t : ℕ) (r : Result ℕ TypeError) → TypesTexts c mid s ts (Ok parts) → Keeps mid new
    → ((us : Tys) → IsParts mid.table parts us → IsType new.table t (TupleTy us))
    → ((u : Ty) → IsType new.table t u → Judges (at_span s (too_large u)) r) → IfOk r (λ i. i ≡ t) → TypesText c new s (TupleType ts) r
tuple_done c mid new s ts parts t r q keeps made judged same = record {
  judged = λ k h. then_kinds s (types_faults k.layouts ts) (too_large (type_of k.layouts (TupleType ts))) r (q.judged k h) (judged (TupleTy (types_of k.layouts ts)) (made (types_of k.layouts ts) (q.typed k h)));
  typed = λ k h. same_number new.table t (TupleTy (types_of k.layouts ts)) r same (made (types_of k.layouts ts) (q.typed k h));
  keeps = on_ok r (Keeps-trans c mid new q.keeps keeps);
}

-- ---- records
pub fields_refused : (c mid new : Checker) (s : Span) (ts : NamedTypes) (x : TypeError) → TypesNamed c mid s ts (Err x) → TypesText c new s (RecordType ts) (Err x)
fields_refused c mid new s ts x q = text_refused c new s (RecordType ts) x (λ k h. first_kind s (named_types_faults k.layouts ts) (twice_in_type (type_names ts) ++ too_large (type_of k.layouts (RecordType ts))) x (q.judged k h))

keeps_both : {T E : Type 0} (a b c : Checker) (r : Result T E) → Keeps a b → OnOk r (Keeps b c) → OnOk r (Keeps a c)
keeps_both a b c (Ok x) f g = Keeps-trans a b c f g
keeps_both a b c (Err e) f g = tt

pub fields_done : (c mid new : Checker) (s : Span) (ts : NamedTypes) (v : Vec (Bor (List ℕ) × ℕ) Global) (r : Result ℕ TypeError) → TypesNamed c mid s ts (Ok v)
    → ((us : NamedTys) → AreFields mid.table (named v.items) us → Judges (at_span s (twice_in_type (field_names us) ++ too_large (RecordTy us))) r)
    → ((us : NamedTys) → AreFields mid.table (named v.items) us → IfOk r (λ i. IsType new.table i (RecordTy us)))
    → OnOk r (Keeps mid new) → TypesText c new s (RecordType ts) r
fields_done c mid new s ts v r q judged typed keeps = record {
  judged = λ k h.
      let us = named_types_of k.layouts ts in
      then_kinds s (named_types_faults k.layouts ts) (twice_in_type (type_names ts) ++ too_large (type_of k.layouts (RecordType ts))) r (q.judged k h)
      (subst (λ names. Judges (at_span s (twice_in_type names ++ too_large (RecordTy us))) r) (names_in_text k.layouts ts) (judged us (q.typed k h)));
  typed = λ k h. typed (named_types_of k.layouts ts) (q.typed k h);
  keeps = keeps_both c mid new r q.keeps keeps;
}

-- ---- a record of fields
pub twice_first : (s : Span) (b : Bool) (names : List (List ℕ)) (rest : List ℕ) (x : TypeError) → b ≡ has_twice names → IsFirstOf (at_span s (where_true b 8)) x → IsFirstOf (at_span s (twice_in_type names ++ rest)) x
twice_first s b names rest x e h = first_kind s (twice_in_type names) rest x (subst (λ t. IsFirstOf (at_span s (where_true t 8)) x) e h)

pub twice_then : {T : Type 0} (s : Span) (b : Bool) (names : List (List ℕ)) (rest : List ℕ) (r : Result T TypeError) → b ≡ has_twice names → at_span s (where_true b 8) ≡ [] → Judges (at_span s rest) r → Judges (at_span s (twice_in_type names ++ rest)) r
twice_then s b names rest r e none h = then_kinds s (twice_in_type names) rest r (subst (λ t. at_span s (where_true t 8) ≡ []) e none) h
