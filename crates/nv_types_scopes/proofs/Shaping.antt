-- Shapes and fields by numbers, as they are made of their parts.
use Rattle.std.proofs.Common.{◌≡◌, ◌∙◌, refl, ap, sym, subst, ℕ, ◌+◌, ◌<◌, ◌≤◌, min, max, Bool, true, false, ◌||◌, List, [], ◌∷◌, ◌++◌, take, drop, length, get_or, arith, ltb, lt-ltb, le-ltb, ltb-true, ltb-false}
use Rattle.std.specs.Prelude.{◌==◌, nat_lt}
use Rattle.std.specs.Borrow.{Bor}
use Rattle.std.proofs.Math.ListN.{drop_of_length-le}
use Rattle.nv_ast.specs.Outline.{OutlineTree, BitsOutline, GapOutline, PartsOutline, OverlayOutline, JoinedOutline, OutlineTrees, no_outlines, outline_and, NamedOutlines, no_named_outlines, named_outline_and, size, outline_height, highest_named_outline, part_fields, named_list, record_of, records_of}
use Rattle.nv_ast.specs.Tests.{names_of}
use Rattle.nv_ast.specs.Types.{RecordTy, Form, RecordForm, Forms, no_forms, form_and, ◌+++◌, forms_of, joined_forms, record_forms, unpacked, unpacked_all, NamedTys, named_ty_and}
use Rattle.nv_ast.proofs.Items.{take_item}
use Rattle.nv_types_scopes.proofs.Alikes.{names_of-append}
use Rattle.nv_types_table.specs.declared.shapes.Shape.{Shape}
use Rattle.nv_types_table.specs.declared.shapes.Member.{Member}
use Rattle.nv_types_table.specs.inner.Cells.{most, still}
use Rattle.nv_types_table.specs.inner.Named.{named}
use Rattle.nv_types_table.specs.inner.Store.{Store, Extends, IsType, IsFields, IsForm, IsForms, AreFields, AreForms, form_names, fields_then}
use Rattle.nv_types_table.specs.inner.Layouts.{IsShape, IsDeclared, IsMember, IsJoined, AreShapes, AreMembers}
use Rattle.nv_types_table.proofs.Staying.{type_stays, fields_stay, form_stays, forms_stay}
use Rattle.nv_types_scopes.proofs.Holding.{shape_stays}
use Rattle.nv_types_table.proofs.Sums.{Entry, joined_front}

-- ---- a store that grows
pub member_stays : (a b : Store) → Extends a b → (m : Member) (o : OutlineTree) → IsMember a m o → IsMember b m o
member_stays a b g m o h = record {
  of_bits = h.of_bits;
  of_fields = h.of_fields;
  of_height = h.of_height;
  of_form = form_stays a b g m.form _ h.of_form;
  of_type = type_stays a b g m.unpacked _ h.of_type;
  short = h.short;
}

pub members_stay : (a b : Store) → Extends a b → (ms : List (List ℕ × Member)) (os : NamedOutlines) → AreMembers a ms os → AreMembers b ms os
members_stay a b g [] no_named_outlines h = h
members_stay a b g [] (named_outline_and x o os) h = h
members_stay a b g (m ∷ ms) no_named_outlines h = h
members_stay a b g (m ∷ ms) (named_outline_and x o os) h = (h.0, member_stays a b g m.1 o h.1, members_stay a b g ms os h.2)

pub shapes_stay : (a b : Store) → Extends a b → (ms : List Shape) (os : OutlineTrees) → AreShapes a ms os → AreShapes b ms os
shapes_stay a b g [] no_outlines h = h
shapes_stay a b g [] (outline_and o os) h = h
shapes_stay a b g (m ∷ ms) no_outlines h = h
shapes_stay a b g (m ∷ ms) (outline_and o os) h = (shape_stays a b g m o h.0, shapes_stay a b g ms os h.1)

-- ---- lists of the forms and the types of fields
abbrev pub form_entries : List Entry → List (Bor (List ℕ) × ℕ)
form_entries [] = []
form_entries (m ∷ ms) = (m.0, m.1.form) ∷ form_entries ms

abbrev pub type_entries : List Entry → List (Bor (List ℕ) × ℕ)
type_entries [] = []
type_entries (m ∷ ms) = (m.0, m.1.unpacked) ∷ type_entries ms

form_entries-append : (xs ys : List Entry) → form_entries (xs ++ ys) ≡ form_entries xs ++ form_entries ys
form_entries-append [] ys = refl
form_entries-append (x ∷ xs) ys = ap (λ l. (x.0, x.1.form) ∷ l) (form_entries-append xs ys)

type_entries-append : (xs ys : List Entry) → type_entries (xs ++ ys) ≡ type_entries xs ++ type_entries ys
type_entries-append [] ys = refl
type_entries-append (x ∷ xs) ys = ap (λ l. (x.0, x.1.unpacked) ∷ l) (type_entries-append xs ys)

pub form_entries_more : (xs : List Entry) (i : ℕ) (x : Entry) (old new : List (Bor (List ℕ) × ℕ)) → i < length xs → x ≡ get_or xs i x → old ≡ form_entries (take i xs) → new ≡ old ++ (x.0, x.1.form) ∷ [] → new ≡ form_entries (take (i + 1) xs)
form_entries_more xs i x old new h e before after =
    after ∙ ap (λ l. l ++ (x.0, x.1.form) ∷ []) before ∙ sym (ap form_entries (take_item xs i x h e) ∙ form_entries-append (take i xs) (x ∷ []))

pub type_entries_more : (xs : List Entry) (i : ℕ) (x : Entry) (old new : List (Bor (List ℕ) × ℕ)) → i < length xs → x ≡ get_or xs i x → old ≡ type_entries (take i xs) → new ≡ old ++ (x.0, x.1.unpacked) ∷ [] → new ≡ type_entries (take (i + 1) xs)
type_entries_more xs i x old new h e before after =
    after ∙ ap (λ l. l ++ (x.0, x.1.unpacked) ∷ []) before ∙ sym (ap type_entries (take_item xs i x h e) ∙ type_entries-append (take i xs) (x ∷ []))

pub entries_forms : (s : Store) (ms : List Entry) (os : NamedOutlines) → AreMembers s (named ms) os → AreForms s (named (form_entries ms)) (forms_of os)
entries_forms s [] no_named_outlines h = h
entries_forms s [] (named_outline_and x o os) h = h
entries_forms s (m ∷ ms) no_named_outlines h = h
entries_forms s (m ∷ ms) (named_outline_and x o os) h = (h.0, h.1.of_form, entries_forms s ms os h.2)

pub entries_types : (s : Store) (ms : List Entry) (os : NamedOutlines) → AreMembers s (named ms) os → AreFields s (named (type_entries ms)) (unpacked_all (forms_of os))
entries_types s [] no_named_outlines h = h
entries_types s [] (named_outline_and x o os) h = h
entries_types s (m ∷ ms) no_named_outlines h = h
entries_types s (m ∷ ms) (named_outline_and x o os) h = (h.0, h.1.of_type, entries_types s ms os h.2)

-- ---- the names of the fields of a layout
pub names_then : (fs gs : Forms) → form_names (fs +++ gs) ≡ form_names fs ++ form_names gs
names_then no_forms gs = refl
names_then (form_and x f fs) gs = ap (λ l. x ∷ l) (names_then fs gs)

pub names_forms : (os : NamedOutlines) → form_names (forms_of os) ≡ names_of (named_list os)
names_forms no_named_outlines = refl
names_forms (named_outline_and x o os) = ap (λ l. x ∷ l) (names_forms os)

mutual
  pub names_record : (o : OutlineTree) → form_names (record_forms o) ≡ names_of (record_of o)
  names_record (BitsOutline n) = refl
  names_record (GapOutline n) = refl
  names_record (PartsOutline fs) = names_forms fs
  names_record (OverlayOutline fs) = names_forms fs
  names_record (JoinedOutline os) = names_joined os

  pub names_joined : (os : OutlineTrees) → form_names (joined_forms os) ≡ names_of (records_of os)
  names_joined no_outlines = refl
  names_joined (outline_and o os) = names_then (record_forms o) (joined_forms os) ∙ ap (λ l. l ++ form_names (joined_forms os)) (names_record o) ∙ ap (λ l. names_of (record_of o) ++ l) (names_joined os) ∙ sym (names_of-append (record_of o) (records_of os))

names_length : {A : Type 0} (xs : List (List ℕ × A)) → length (names_of xs) ≡ length xs
names_length [] = refl
names_length ((x, a) ∷ xs) = omega (arith, names_length xs)

-- the code's test of a shape that doesn't fit
pub unfit_test : (s : Store) (shape : Shape) (o : OutlineTree) (empty : Bool) → IsShape s shape o → empty ≡ (length (form_names (record_forms o)) == 0) → (empty || (nat_lt 1024 shape.bits || nat_lt 100 shape.height)) ≡ ((length (record_of o) == 0) || (nat_lt 1024 (size o) || nat_lt 100 (outline_height o)))
unfit_test s shape o empty h e =
    ap (λ b. b || (nat_lt 1024 shape.bits || nat_lt 100 shape.height)) (e ∙ ap (λ n. n == 0) (ap length (names_record o) ∙ names_length (record_of o)))
    ∙ ap (λ b. (length (record_of o) == 0) || (b || nat_lt 100 shape.height)) (over 1024 shape.bits (size o) (omega arith) h.of_bits)
    ∙ ap (λ b. (length (record_of o) == 0) || (nat_lt 1024 (size o) || b)) (over 100 shape.height (outline_height o) (omega arith) h.of_height)
  where
    over : (l m n : ℕ) → l < most → m ≡ still n → nat_lt l m ≡ nat_lt l n
    over l m n h e = by (ltb l n) refl
      where
        by : (t : Bool) → ltb l n ≡ t → nat_lt l m ≡ nat_lt l n
        by true q = lt-ltb l m (omega (arith, ltb-true l n q, e, h)) ∙ sym q
        by false q = le-ltb l m (omega (arith, ltb-false l n q, e, h)) ∙ sym q

pub fits_so : (s : Store) (shape : Shape) (o : OutlineTree) (empty : Bool) → IsShape s shape o → (empty || (nat_lt 1024 shape.bits || nat_lt 100 shape.height)) ≡ false → IsDeclared s shape o
fits_so s shape o empty h e = record { shaped = h; short = by (short empty (nat_lt 1024 shape.bits) (nat_lt 100 shape.height) e) }
  where
    short : (a b c : Bool) → (a || (b || c)) ≡ false → b ≡ false
    short false false c k = refl
    short false true c k = k
    short true b c k = cc

    by : nat_lt 1024 shape.bits ≡ false → size o ≤ 1024
    by k = omega (arith, ltb-false 1024 shape.bits k, h.of_bits)

-- ---- the shape of a record
pub parts_shape : (b c : Store) (shape : Shape) (os : NamedOutlines) → Extends b c
    → shape.bits ≡ still (size (PartsOutline os)) → shape.fields ≡ still (length (part_fields 0 os)) → (high : ℕ) → high ≡ still (highest_named_outline os) → shape.height ≡ min (high + 1) most
    → IsForms b shape.forms (forms_of os) → IsFields c shape.types (unpacked_all (forms_of os)) → IsShape c shape (PartsOutline os)
parts_shape b c shape os g bits fields high at height of_forms of_types = record {
  of_bits = bits;
  of_fields = fields;
  of_height = omega (arith, at, height);
  a_record = refl;
  of_forms = forms_stay b c g shape.forms (forms_of os) of_forms;
  of_types = of_types;
}

-- ---- layouts one after another
unpacked_then : (fs gs : Forms) → unpacked_all (fs +++ gs) ≡ fields_then (unpacked_all fs) (unpacked_all gs)
unpacked_then no_forms gs = refl
unpacked_then (form_and x f fs) gs = ap (named_ty_and x (unpacked f)) (unpacked_then fs gs)

pub shape_front : (a b : Store) (m rest whole : Shape) (o : OutlineTree) (os : OutlineTrees) → IsShape a m o → IsJoined a rest os
    → whole.bits ≡ min (m.bits + rest.bits) most → whole.fields ≡ min (m.fields + rest.fields) most → whole.height ≡ max m.height rest.height
    → ((fs gs : Forms) → IsForms a m.forms fs → IsForms a rest.forms gs → IsForms b whole.forms (fs +++ gs))
    → ((ts us : NamedTys) → IsFields a m.types ts → IsFields a rest.types us → IsFields b whole.types (fields_then ts us))
    → IsJoined b whole (outline_and o os)
shape_front a b m rest whole o os h j bits fields height forms types = record {
  of_bits = omega (arith, bits, h.of_bits, j.of_bits);
  of_fields = omega (arith, fields, h.of_fields, j.of_fields, joined_front o os);
  of_height = omega (arith, height, h.of_height, j.of_height);
  of_forms = forms (record_forms o) (joined_forms os) h.of_forms j.of_forms;
  of_types = subst (IsFields b whole.types) (sym (unpacked_then (record_forms o) (joined_forms os))) (types (unpacked_all (record_forms o)) (unpacked_all (joined_forms os)) h.of_types j.of_types);
}

pub shapes_start : (s a : Store) (xs : List Shape) (n : ℕ) (whole : Shape) → length xs ≤ n → whole ≡ record { bits = 0; fields = 0; height = 0; forms = 3; types = 3 } → (os : OutlineTrees) → AreShapes a (drop n xs) os → IsJoined s whole os
shapes_start s a xs n whole le e os h = subst (λ (w : Shape). IsJoined s w os) (sym e) (by os (subst (λ (l : List Shape). AreShapes a l os) (drop_of_length-le xs le) h))
  where
    by : (us : OutlineTrees) → AreShapes a [] us → IsJoined s (record { bits = 0; fields = 0; height = 0; forms = 3; types = 3 }) us
    by no_outlines k = record { of_bits = refl; of_fields = refl; of_height = refl; of_forms = ([], refl, tt); of_types = ([], refl, tt) }
    by (outline_and o us) k = absurd k

pub shapes_step : (a s b : Store) (xs front : List Shape) (x rest whole : Shape) → front ≡ x ∷ xs → Extends a s → ((os : OutlineTrees) → AreShapes a xs os → IsJoined s rest os)
    → ((o : OutlineTree) (os : OutlineTrees) → IsShape s x o → IsJoined s rest os → IsJoined b whole (outline_and o os)) → (os : OutlineTrees) → AreShapes a front os → IsJoined b whole os
shapes_step a s b xs front x rest whole e g old new os h = by os (subst (λ (l : List Shape). AreShapes a l os) e h)
  where
    by : (us : OutlineTrees) → AreShapes a (x ∷ xs) us → IsJoined b whole us
    by no_outlines k = absurd k
    by (outline_and o us) k = new o us (shape_stays a s g x o k.0) (old us k.1)

pub joined_whole : (s : Store) (rest whole : Shape) (os : OutlineTrees) → IsJoined s rest os → whole.bits ≡ rest.bits → whole.fields ≡ rest.fields → whole.height ≡ min (rest.height + 1) most → whole.forms ≡ rest.forms → whole.types ≡ rest.types → IsShape s whole (JoinedOutline os)
joined_whole s rest whole os h bits fields height forms types = record {
  of_bits = bits ∙ h.of_bits;
  of_fields = fields ∙ h.of_fields;
  of_height = omega (arith, height, h.of_height);
  a_record = refl;
  of_forms = subst (λ i. IsForms s i (joined_forms os)) (sym forms) h.of_forms;
  of_types = subst (λ i. IsFields s i (unpacked_all (joined_forms os))) (sym types) h.of_types;
}

-- ---- the field of an inner layout
pub inner_made : (a b c : Store) (shape : Shape) (m : Member) (o : OutlineTree) → Extends a b → Extends b c → IsDeclared a shape o
    → m.bits ≡ shape.bits → m.fields ≡ shape.fields → m.height ≡ shape.height
    → ((fs : Forms) → IsForms a shape.forms fs → IsForm b m.form (RecordForm fs))
    → ((ts : NamedTys) → IsFields b shape.types ts → IsType c m.unpacked (RecordTy ts)) → IsMember c m o
inner_made a b c shape m o g k h bits fields height form type = record {
  of_bits = bits ∙ h.shaped.of_bits;
  of_fields = fields ∙ h.shaped.of_fields;
  of_height = height ∙ h.shaped.of_height;
  of_form = subst (IsForm c m.form) (sym h.shaped.a_record) (form_stays b c k m.form (RecordForm (record_forms o)) (form (record_forms o) h.shaped.of_forms));
  of_type = subst (λ (f : Form). IsType c m.unpacked (unpacked f)) (sym h.shaped.a_record) (type (unpacked_all (record_forms o)) (fields_stay a b g shape.types (unpacked_all (record_forms o)) h.shaped.of_types));
  short = h.short;
}
