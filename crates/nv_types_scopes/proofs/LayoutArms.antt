-- What the walk over a layout gives, arm by arm.
use Rattle.std.proofs.Common.{◌≡◌, ◌∙◌, ap, sym, subst, ℕ, ◌≤◌, Bool, true, false, not, ◌&&◌, leb, leb-true, List, [], ◌++◌, arith, None, Some, Vec, Global, Result, Ok, Err}
use Rattle.std.specs.Result.{IfOk}
use Rattle.std.specs.Borrow.{Bor}
use Rattle.std.proofs.lemmas.Bool.{not-false}
use Rattle.nv_ast.specs.declared.token.Span.{Span}
use Rattle.nv_ast.specs.Tree.{LayoutTree, NamedLayout, GapLayout, PartsLayout, JoinedLayout, LayoutTrees, FieldTree, BitsField, InnerField, OverlayField, FieldTrees}
use Rattle.nv_ast.specs.Outline.{OutlineTree, BitsOutline, GapOutline, PartsOutline, OverlayOutline, JoinedOutline, OutlineTrees, NamedOutlines, no_named_outlines, outline, outlines, field_outlines, sizes_of}
use Rattle.nv_ast.specs.Tests.{where_true, within, all_same, has_twice, look_up}
use Rattle.nv_ast.specs.Types.{Forms, forms_of, joined_forms}
use Rattle.nv_ast.specs.Faults.{at_span}
use Rattle.nv_ast.specs.Scope.{Known}
use Rattle.nv_ast.specs.LayoutFaults.{layout_faults, layouts_faults, field_faults, fields_faults, field_names, field_sizes, same_field, different_sizes, unfit}
use Rattle.nv_ast.proofs.LayoutRows.{text_sizes}
use Rattle.nv_types_table.specs.declared.error.TypeError.{TypeError}
use Rattle.nv_types_table.specs.declared.error.TypeError.TheVariants.{NoMemory, Fault}
use Rattle.nv_types_scopes.specs.declared.functions.Checker.{Checker}
use Rattle.nv_types_table.specs.declared.shapes.Shape.{Shape}
use Rattle.nv_types_table.specs.declared.shapes.Member.{Member}
use Rattle.nv_types_table.specs.inner.Faulty.{IsFirstOf, Judges}
use Rattle.nv_types_table.specs.inner.Named.{named}
use Rattle.nv_types_table.specs.inner.Store.{Store, IsForms, form_names}
use Rattle.nv_types_table.specs.inner.Layouts.{IsShape, IsDeclared, IsMember, AreShapes, AreMembers}
use Rattle.nv_types_scopes.specs.inner.Standing.{Holds, Keeps}
use Rattle.nv_types_scopes.specs.inner.Texts.{ShapesLayout, ShapesWhole, ShapesField, ShapesFields}
use Rattle.nv_types_table.proofs.Firsts.{first_kind, then_kinds}
use Rattle.nv_types_scopes.proofs.Holding.{Keeps-refl, Keeps-trans, found_alike, absent_alike, on_ok}
use Rattle.nv_types_scopes.proofs.Shaping.{names_joined}
use Rattle.nv_types_scopes.proofs.LayoutWalk.{text_names, at_none, where_none}

pub none_first : (faults : List (ℕ × Span)) → IsFirstOf faults NoMemory
none_first faults = tt

-- ---- a text that is the same
pub layout_at : (c new : Checker) (s : Span) (l m : LayoutTree) (r : Result Shape TypeError) → l ≡ m → ShapesLayout c new s m r → ShapesLayout c new s l r
layout_at c new s l m r e h = subst (λ (x : LayoutTree). ShapesLayout c new s x r) (sym e) h

pub field_at : (c new : Checker) (s : Span) (f g : FieldTree) (r : Result Member TypeError) → f ≡ g → ShapesField c new s g r → ShapesField c new s f r
field_at c new s f g r e h = subst (λ (x : FieldTree). ShapesField c new s x r) (sym e) h

-- ---- wherever it is refused
pub layout_refused : (c new : Checker) (s : Span) (l : LayoutTree) (x : TypeError) → ((k : Known) → Holds c k → IsFirstOf (at_span s (layout_faults k.layouts l)) x) → ShapesLayout c new s l (Err x)
layout_refused c new s l x h = record { judged = h; shaped = λ k q. tt; keeps = tt }

pub field_refused : (c new : Checker) (s : Span) (f : FieldTree) (x : TypeError) → ((k : Known) → Holds c k → IsFirstOf (at_span s (field_faults k.layouts f)) x) → ShapesField c new s f (Err x)
field_refused c new s f x h = record { judged = h; shaped = λ k q. tt; keeps = tt }

pub fields_refused : (c new : Checker) (s : Span) (fs : FieldTrees) (x : TypeError) → ((k : Known) → Holds c k → IsFirstOf (at_span s (fields_faults k.layouts fs)) x) → ShapesFields c new s fs (Err x)
fields_refused c new s fs x h = record { judged = h; shaped = λ k q. tt; keeps = tt }

-- ---- a declared or inner layout
pub whole_refused : (c mid new : Checker) (s : Span) (l : LayoutTree) (x : TypeError) → ShapesLayout c mid s l (Err x) → ShapesWhole c new s l (Err x)
whole_refused c mid new s l x q = record { judged = λ k h. first_kind s (layout_faults k.layouts l) (unfit (outline k.layouts l)) x (q.judged k h); shaped = λ k h. tt; keeps = tt }

pub whole_done : (c new : Checker) (s : Span) (l : LayoutTree) (shape : Shape) (r : Result Shape TypeError) → ShapesLayout c new s l (Ok shape)
    → ((o : OutlineTree) → IsShape new.table shape o → Judges (at_span s (unfit o)) r) → ((o : OutlineTree) → IsShape new.table shape o → IfOk r (λ m. IsDeclared new.table m o)) → ShapesWhole c new s l r
whole_done c new s l shape r q judged fits = record {
  judged = λ k h. then_kinds s (layout_faults k.layouts l) (unfit (outline k.layouts l)) r (q.judged k h) (judged (outline k.layouts l) (q.shaped k h));
  shaped = λ k h. fits (outline k.layouts l) (q.shaped k h);
  keeps = on_ok r q.keeps;
}

-- ---- a name
pub named_found : (c : Checker) (s : Span) (x : List ℕ) (shape : Shape) → Some shape ≡ look_up x c.layouts → ShapesLayout c c s (NamedLayout x) (Ok shape)
named_found c s x shape e = record {
  judged = λ k h. ap (λ b. at_span s (where_true (not b) 3)) (found_alike (IsDeclared c.table) (PartsOutline no_named_outlines) x shape c.layouts k.layouts h.of_layouts (sym e)).0;
  shaped = λ k h. (found_alike (IsDeclared c.table) (PartsOutline no_named_outlines) x shape c.layouts k.layouts h.of_layouts (sym e)).2.shaped;
  keeps = Keeps-refl c;
}

pub named_absent : (c : Checker) (s : Span) (x : List ℕ) → None ≡ look_up x c.layouts → ShapesLayout c c s (NamedLayout x) (Err (Fault 3 s))
named_absent c s x e = layout_refused c c s (NamedLayout x) (Fault 3 s) (λ k h. ([], ap (λ b. at_span s (where_true (not b) 3)) (absent_alike (IsDeclared c.table) x c.layouts k.layouts h.of_layouts (sym e))))

-- ---- a gap
pub gap_wrong : (c : Checker) (s : Span) (n : ℕ) (b : Bool) (x : TypeError) → b ≡ not (within 1 1024 n) → IsFirstOf (at_span s (where_true b 4)) x → ShapesLayout c c s (GapLayout n) (Err x)
gap_wrong c s n b x e h = layout_refused c c s (GapLayout n) x (λ k q. subst (λ t. IsFirstOf (at_span s (where_true t 4)) x) e h)

pub gap_right : (c : Checker) (s : Span) (n : ℕ) (b : Bool) (shape : Shape) → b ≡ not (within 1 1024 n) → at_span s (where_true b 4) ≡ [] → ((a : Store) → IsShape a shape (GapOutline n)) → ShapesLayout c c s (GapLayout n) (Ok shape)
gap_right c s n b shape e h made = record {
  judged = λ k q. subst (λ t. at_span s (where_true t 4) ≡ []) e h;
  shaped = λ k q. made c.table;
  keeps = Keeps-refl c;
}

-- ---- a record
pub parts_refused : (c mid new : Checker) (s : Span) (fs : FieldTrees) (x : TypeError) → ShapesFields c mid s fs (Err x) → ShapesLayout c new s (PartsLayout fs) (Err x)
parts_refused c mid new s fs x q = layout_refused c new s (PartsLayout fs) x (λ k h. first_kind s (fields_faults k.layouts fs) (same_field (field_names fs)) x (q.judged k h))

pub parts_judged : {T : Type 0} (c mid new : Checker) (s : Span) (fs : FieldTrees) (ms : Vec (Bor (List ℕ) × Member) Global) (shape : Shape) (r : Result T TypeError) → ShapesFields c mid s fs (Ok ms)
    → ((os : NamedOutlines) → AreMembers mid.table (named ms.items) os → IsShape new.table shape (PartsOutline os))
    → ((gs : Forms) → IsForms new.table shape.forms gs → Judges (at_span s (where_true (has_twice (form_names gs)) 5)) r)
    → (k : Known) → Holds c k → Judges (at_span s (layout_faults k.layouts (PartsLayout fs))) r
parts_judged c mid new s fs ms shape r q made repeats k h =
    then_kinds s (fields_faults k.layouts fs) (same_field (field_names fs)) r (q.judged k h)
    (subst (λ names. Judges (at_span s (where_true (has_twice names) 5)) r) (text_names k.layouts fs) (repeats (forms_of (field_outlines k.layouts fs)) (made (field_outlines k.layouts fs) (q.shaped k h)).of_forms))

pub parts_done : (c mid new : Checker) (s : Span) (fs : FieldTrees) (ms : Vec (Bor (List ℕ) × Member) Global) (shape : Shape) → ShapesFields c mid s fs (Ok ms) → Keeps mid new
    → ((os : NamedOutlines) → AreMembers mid.table (named ms.items) os → IsShape new.table shape (PartsOutline os))
    → ((gs : Forms) → IsForms new.table shape.forms gs → at_span s (where_true (has_twice (form_names gs)) 5) ≡ [])
    → ShapesLayout c new s (PartsLayout fs) (Ok shape)
parts_done c mid new s fs ms shape q keeps made repeats = record {
  judged = λ k h. parts_judged {T = ℕ} c mid new s fs ms shape (Ok 0) q made repeats k h;
  shaped = λ k h. made (field_outlines k.layouts fs) (q.shaped k h);
  keeps = Keeps-trans c mid new q.keeps keeps;
}

-- ---- joined layouts
pub joined_judged : {T : Type 0} (c mid : Checker) (s : Span) (ls : LayoutTrees) (ms : List Shape) (r : Result T TypeError)
    → ((k : Known) → Holds c k → layouts_faults k.layouts ls ≡ []) → ((k : Known) → Holds c k → AreShapes mid.table ms (outlines k.layouts ls))
    → ((os : OutlineTrees) → AreShapes mid.table ms os → Judges (at_span s (where_true (has_twice (form_names (joined_forms os))) 5)) r)
    → (k : Known) → Holds c k → Judges (at_span s (layout_faults k.layouts (JoinedLayout ls))) r
joined_judged c mid s ls ms r none shaped repeats k h =
    let os = outlines k.layouts ls in
    then_kinds s (layouts_faults k.layouts ls) _ r (at_none s (layouts_faults k.layouts ls) (none k h))
    (subst (λ names. Judges (at_span s (where_true (has_twice names) 5)) r) (names_joined os) (repeats os (shaped k h)))

pub joined_done : (c mid new : Checker) (s : Span) (ls : LayoutTrees) (ms : List Shape) (shape : Shape) → Keeps c mid → Keeps mid new
    → ((k : Known) → Holds c k → layouts_faults k.layouts ls ≡ []) → ((k : Known) → Holds c k → AreShapes mid.table ms (outlines k.layouts ls))
    → ((os : OutlineTrees) → AreShapes mid.table ms os → at_span s (where_true (has_twice (form_names (joined_forms os))) 5) ≡ [])
    → ((os : OutlineTrees) → AreShapes mid.table ms os → IsShape new.table shape (JoinedOutline os))
    → ShapesLayout c new s (JoinedLayout ls) (Ok shape)
joined_done c mid new s ls ms shape before keeps none shaped repeats made = record {
  judged = λ k h. joined_judged {T = ℕ} c mid s ls ms (Ok 0) none shaped repeats k h;
  shaped = λ k h. made (outlines k.layouts ls) (shaped k h);
  keeps = Keeps-trans c mid new before keeps;
}

-- ---- a bit field
pub bits_wrong : (c : Checker) (s : Span) (n : ℕ) (b : Bool) (x : TypeError) → b ≡ not (within 1 32 n) → IsFirstOf (at_span s (where_true b 4)) x → ShapesField c c s (BitsField n) (Err x)
bits_wrong c s n b x e h = field_refused c c s (BitsField n) x (λ k q. subst (λ t. IsFirstOf (at_span s (where_true t 4)) x) e h)

few_bits : (s : Span) (n : ℕ) (b : Bool) → b ≡ not (within 1 32 n) → at_span s (where_true b 4) ≡ [] → n ≤ 1024
few_bits s n b e h = omega (arith, leb-true n 32 (right_of (leb 1 n) (leb n 32) (not-false (within 1 32 n) (sym e ∙ where_none s b 4 h))))
  where
    right_of : (x y : Bool) → (x && y) ≡ true → y ≡ true
    right_of true y k = k
    right_of false y k = cc

pub bits_right : (c : Checker) (s : Span) (n : ℕ) (b : Bool) (m : Member) → b ≡ not (within 1 32 n) → at_span s (where_true b 4) ≡ [] → ((a : Store) → n ≤ 1024 → IsMember a m (BitsOutline n)) → ShapesField c c s (BitsField n) (Ok m)
bits_right c s n b m e h made = record {
  judged = λ k q. subst (λ t. at_span s (where_true t 4) ≡ []) e h;
  shaped = λ k q. made c.table (few_bits s n b e h);
  keeps = Keeps-refl c;
}

-- ---- an inner layout
pub inner_refused : (c mid new : Checker) (s : Span) (l : LayoutTree) (x : TypeError) → ShapesWhole c mid s l (Err x) → ShapesField c new s (InnerField l) (Err x)
inner_refused c mid new s l x q = field_refused c new s (InnerField l) x q.judged

pub inner_done : (c mid new : Checker) (s : Span) (l : LayoutTree) (shape : Shape) (m : Member) → ShapesWhole c mid s l (Ok shape) → Keeps mid new → ((o : OutlineTree) → IsDeclared mid.table shape o → IsMember new.table m o) → ShapesField c new s (InnerField l) (Ok m)
inner_done c mid new s l shape m q keeps made = record {
  judged = q.judged;
  shaped = λ k h. made (outline k.layouts l) (q.shaped k h);
  keeps = Keeps-trans c mid new q.keeps keeps;
}

-- ---- an overlay
pub overlay_refused : (c mid new : Checker) (s : Span) (fs : FieldTrees) (x : TypeError) → ShapesFields c mid s fs (Err x) → ShapesField c new s (OverlayField fs) (Err x)
overlay_refused c mid new s fs x q = field_refused c new s (OverlayField fs) x (λ k h. first_kind s (fields_faults k.layouts fs) (same_field (field_names fs) ++ different_sizes (field_sizes k.layouts fs)) x (q.judged k h))

-- that its alternatives have a fault
pub overlay_judged : {T : Type 0} (c mid : Checker) (s : Span) (fs : FieldTrees) (ms : Vec (Bor (List ℕ) × Member) Global) (r : Result T TypeError) → ShapesFields c mid s fs (Ok ms)
    → ((os : NamedOutlines) → AreMembers mid.table (named ms.items) os → Judges (at_span s (where_true (has_twice (form_names (forms_of os))) 5 ++ where_true (not (all_same (sizes_of os))) 6)) r)
    → (k : Known) → Holds c k → Judges (at_span s (field_faults k.layouts (OverlayField fs))) r
overlay_judged c mid s fs ms r q judged k holds =
    let os = field_outlines k.layouts fs in
    let size : all_same (sizes_of os) ≡ all_same (field_sizes k.layouts fs) = ap all_same (text_sizes k.layouts fs) in
    then_kinds s (fields_faults k.layouts fs) (same_field (field_names fs) ++ different_sizes (field_sizes k.layouts fs)) r (q.judged k holds)
    (subst (λ b. Judges (at_span s (same_field (field_names fs) ++ where_true (not b) 6)) r) size
    (subst (λ names. Judges (at_span s (where_true (has_twice names) 5 ++ where_true (not (all_same (sizes_of os))) 6)) r) (text_names k.layouts fs) (judged os (q.shaped k holds))))

pub overlay_done : (c mid new : Checker) (s : Span) (fs : FieldTrees) (ms : Vec (Bor (List ℕ) × Member) Global) (m : Member) → ShapesFields c mid s fs (Ok ms) → Keeps mid new
    → ((os : NamedOutlines) → AreMembers mid.table (named ms.items) os → IsMember new.table m (OverlayOutline os))
    → ((os : NamedOutlines) → AreMembers mid.table (named ms.items) os → at_span s (where_true (has_twice (form_names (forms_of os))) 5 ++ where_true (not (all_same (sizes_of os))) 6) ≡ [])
    → ShapesField c new s (OverlayField fs) (Ok m)
overlay_done c mid new s fs ms m q keeps made judged = record {
  judged = λ k holds. overlay_judged {T = ℕ} c mid s fs ms (Ok 0) q judged k holds;
  shaped = λ k holds. made (field_outlines k.layouts fs) (q.shaped k holds);
  keeps = Keeps-trans c mid new q.keeps keeps;
}
