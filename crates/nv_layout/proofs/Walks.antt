-- The walk over a layout text, as far as a loop has come.
use Rattle.std.proofs.Common.{◌≡◌, ◌∙◌, refl, ap, sym, subst, ℕ, ◌+◌, ◌<◌, Bool, true, false, ◌&&◌, ◌||◌, List, [], ◌∷◌, ◌++◌, take, drop, length, get_or, append-nil, bytes_eq, Result, Ok, Err, Vec, Global}
use Rattle.std.specs.Prelude.{◌==◌}
use Rattle.std.specs.List.{list_all}
use Rattle.std.specs.Cmp.Lexicographic.{nat_list_eq_equiv}
use Rattle.std.proofs.lemmas.Bool.{or_parts}
use Rattle.nv_ast.specs.declared.tree.LayoutText.{LayoutText}
use Rattle.nv_ast.specs.Tree.{PartsLayout, JoinedLayout, OverlayField, FieldTrees, no_fields, field_and}
use Rattle.nv_ast.specs.LayoutView.{layout_tree, field_tree, list_fields, list_layouts}
use Rattle.nv_ast.specs.Outline.{OutlineTree, PartsOutline, OverlayOutline, JoinedOutline, outline_and, NamedOutlines, named_outline_and, Layouts, outline, outlines, field_outline, field_outlines, size, record_of, records_of, named_list, sizes_of}
use Rattle.nv_ast.specs.Tests.{is_among, value_at, names_of}
use Rattle.nv_ast.specs.LayoutFaults.{layout_faults, layouts_faults, field_faults, fields_faults, field_names, field_sizes, same_field, different_sizes}
use Rattle.nv_ast.proofs.Items.{take_item, split_item}
use Rattle.nv_ast.proofs.LayoutRows.{FieldNamed, fields_faults-append, layouts_faults-append, text_sizes}
use Rattle.nv_layout.specs.declared.outline.Outline
use Rattle.nv_layout.specs.declared.outline.Outline.{Outline}
use Rattle.nv_layout.specs.declared.error.LayoutError.{LayoutError}
use Rattle.nv_layout.specs.declared.error.LayoutError.TheVariants.{NoMemory, Fault}
use Rattle.nv_layout.specs.OutlineView.{outline_tree, list_outlines, list_named_outlines, layouts_of}
use Rattle.nv_layout.specs.Shaping.{IsFirstOf}
use Rattle.nv_layout.specs.inner.Shapes.{Shapes}
use Rattle.nv_layout.proofs.Rows.{parts_tree, joined_tree}
use Rattle.nv_layout.proofs.Lists.{Named, named_from, named_from-layouts, layouts-append, all_from, all_from-trees, trees_of, trees-append}

-- ---- vectors in the text
-- ---- first faults
pub first_append : (a b : List ℕ) (e : LayoutError) → IsFirstOf a e → IsFirstOf (a ++ b) e
first_append a b NoMemory h = tt {0}
first_append a b (Fault k) h = (h.0 ++ b, ap (λ l. l ++ b) h.1)

pub first_behind : (a b : List ℕ) (e : LayoutError) → a ≡ [] → IsFirstOf b e → IsFirstOf (a ++ b) e
first_behind a b e none h = subst (λ l. IsFirstOf (l ++ b) e) (sym none) h

pub shapes_behind : (a b b' : List ℕ) (t t' : OutlineTree) (r : Result Outline LayoutError) → a ≡ [] → b ≡ b' → t ≡ t' → Shapes b t r → Shapes (a ++ b') t' r
shapes_behind a b b' t t' (Ok o) none e f h = (ap (λ l. l ++ b') none ∙ sym e ∙ h.0, h.1 ∙ f)
shapes_behind a b b' t t' (Err x) none e f h = first_behind a b' x none (subst (λ l. IsFirstOf l x) e h)

-- ---- fields in order
pub fields_faults_more : (k : Layouts) (xs : List FieldNamed) (i : ℕ) (p : FieldNamed) → i < length xs → p ≡ get_or xs i p → fields_faults k (list_fields (take i xs)) ≡ [] → field_faults k (field_tree p.1) ≡ [] → fields_faults k (list_fields (take (i + 1) xs)) ≡ []
fields_faults_more k xs i p h e none here =
    ap (λ l. fields_faults k (list_fields l)) (take_item xs i p h e) ∙ fields_faults-append k (take i xs) (p ∷ []) ∙ ap (λ l. l ++ (field_faults k (field_tree p.1) ++ [])) none ∙ append-nil (field_faults k (field_tree p.1)) ∙ here

pub fields_first : (k : Layouts) (xs : List FieldNamed) (i : ℕ) (p : FieldNamed) (x : LayoutError) → i < length xs → p ≡ get_or xs i p → fields_faults k (list_fields (take i xs)) ≡ [] → IsFirstOf (field_faults k (field_tree p.1)) x → IsFirstOf (fields_faults k (list_fields xs)) x
fields_first k xs i p x h e none here =
    subst (λ l. IsFirstOf l x) (sym (ap (λ l. fields_faults k (list_fields l)) (split_item xs i p h e) ∙ fields_faults-append k (take i xs) (p ∷ drop (i + 1) xs)))
    (first_behind (fields_faults k (list_fields (take i xs))) _ x none (first_append (field_faults k (field_tree p.1)) (fields_faults k (list_fields (drop (i + 1) xs))) x here))

-- the outlines of fields, as a list
abbrev pub shaped_fields : Layouts → List FieldNamed → List (List ℕ × OutlineTree)
shaped_fields k [] = []
shaped_fields k (f ∷ fs) = (f.0, field_outline k (field_tree f.1)) ∷ shaped_fields k fs

shaped_fields-append : (k : Layouts) (xs ys : List FieldNamed) → shaped_fields k (xs ++ ys) ≡ shaped_fields k xs ++ shaped_fields k ys
shaped_fields-append k [] ys = refl
shaped_fields-append k (x ∷ xs) ys = ap (λ l. (x.0, field_outline k (field_tree x.1)) ∷ l) (shaped_fields-append k xs ys)

named_from-shaped : (k : Layouts) (xs : List FieldNamed) → named_from (shaped_fields k xs) ≡ field_outlines k (list_fields xs)
unfolding named_from
named_from-shaped k [] = refl
named_from-shaped k (x ∷ xs) = ap (named_outline_and x.0 (field_outline k (field_tree x.1))) (named_from-shaped k xs)

pub fields_shaped : (k : Layouts) (os : List Named) (xs : List FieldNamed) → layouts_of os ≡ shaped_fields k xs → list_named_outlines os ≡ field_outlines k (list_fields xs)
fields_shaped k os xs e = sym (named_from-layouts os) ∙ ap named_from e ∙ named_from-shaped k xs

pub shaped_fields_more : (k : Layouts) (xs : List FieldNamed) (i : ℕ) (p : FieldNamed) (os : List Named) (y : List ℕ) (o : Outline) → i < length xs → p ≡ get_or xs i p → layouts_of os ≡ shaped_fields k (take i xs) → y ≡ p.0 → outline_tree o ≡ field_outline k (field_tree p.1) → layouts_of (os ++ (y, o) ∷ []) ≡ shaped_fields k (take (i + 1) xs)
shaped_fields_more k xs i p os y o h e before name shape =
    layouts-append os ((y, o) ∷ [])
    ∙ ap (λ l. l ++ (y, outline_tree o) ∷ []) before
    ∙ ap (λ z. shaped_fields k (take i xs) ++ (z, outline_tree o) ∷ []) name
    ∙ ap (λ z. shaped_fields k (take i xs) ++ (p.0, z) ∷ []) shape
    ∙ sym (ap (shaped_fields k) (take_item xs i p h e) ∙ shaped_fields-append k (take i xs) (p ∷ []))

-- ---- layouts in order
pub layouts_faults_more : (k : Layouts) (xs : List LayoutText) (i : ℕ) (p : LayoutText) → i < length xs → p ≡ get_or xs i p → layouts_faults k (list_layouts (take i xs)) ≡ [] → layout_faults k (layout_tree p) ≡ [] → layouts_faults k (list_layouts (take (i + 1) xs)) ≡ []
layouts_faults_more k xs i p h e none here =
    ap (λ l. layouts_faults k (list_layouts l)) (take_item xs i p h e) ∙ layouts_faults-append k (take i xs) (p ∷ []) ∙ ap (λ l. l ++ (layout_faults k (layout_tree p) ++ [])) none ∙ append-nil (layout_faults k (layout_tree p)) ∙ here

pub layouts_first : (k : Layouts) (xs : List LayoutText) (i : ℕ) (p : LayoutText) (x : LayoutError) → i < length xs → p ≡ get_or xs i p → layouts_faults k (list_layouts (take i xs)) ≡ [] → IsFirstOf (layout_faults k (layout_tree p)) x → IsFirstOf (layouts_faults k (list_layouts xs)) x
layouts_first k xs i p x h e none here =
    subst (λ l. IsFirstOf l x) (sym (ap (λ l. layouts_faults k (list_layouts l)) (split_item xs i p h e) ∙ layouts_faults-append k (take i xs) (p ∷ drop (i + 1) xs)))
    (first_behind (layouts_faults k (list_layouts (take i xs))) _ x none (first_append (layout_faults k (layout_tree p)) (layouts_faults k (list_layouts (drop (i + 1) xs))) x here))

-- the outlines of layouts, as a list
abbrev pub shaped_layouts : Layouts → List LayoutText → List OutlineTree
shaped_layouts k [] = []
shaped_layouts k (l ∷ ls) = outline k (layout_tree l) ∷ shaped_layouts k ls

shaped_layouts-append : (k : Layouts) (xs ys : List LayoutText) → shaped_layouts k (xs ++ ys) ≡ shaped_layouts k xs ++ shaped_layouts k ys
shaped_layouts-append k [] ys = refl
shaped_layouts-append k (x ∷ xs) ys = ap (λ l. outline k (layout_tree x) ∷ l) (shaped_layouts-append k xs ys)

all_from-shaped : (k : Layouts) (xs : List LayoutText) → all_from (shaped_layouts k xs) ≡ outlines k (list_layouts xs)
unfolding all_from
all_from-shaped k [] = refl
all_from-shaped k (x ∷ xs) = ap (outline_and (outline k (layout_tree x))) (all_from-shaped k xs)

pub layouts_shaped : (k : Layouts) (os : List Outline) (xs : List LayoutText) → trees_of os ≡ shaped_layouts k xs → list_outlines os ≡ outlines k (list_layouts xs)
layouts_shaped k os xs e = sym (all_from-trees os) ∙ ap all_from e ∙ all_from-shaped k xs

pub shaped_layouts_more : (k : Layouts) (xs : List LayoutText) (i : ℕ) (p : LayoutText) (os : List Outline) (o : Outline) → i < length xs → p ≡ get_or xs i p → trees_of os ≡ shaped_layouts k (take i xs) → outline_tree o ≡ outline k (layout_tree p) → trees_of (os ++ o ∷ []) ≡ shaped_layouts k (take (i + 1) xs)
shaped_layouts_more k xs i p os o h e before shape =
    trees-append os (o ∷ [])
    ∙ ap (λ l. l ++ outline_tree o ∷ []) before
    ∙ ap (λ z. shaped_layouts k (take i xs) ++ z ∷ []) shape
    ∙ sym (ap (shaped_layouts k) (take_item xs i p h e) ∙ shaped_layouts-append k (take i xs) (p ∷ []))

-- ---- names and sizes of shaped fields are those of the text
pub shaped_names : (k : Layouts) (fs : FieldTrees) → names_of (named_list (field_outlines k fs)) ≡ field_names fs
shaped_names k no_fields = refl
shaped_names k (field_and x f fs) = ap (λ l. x ∷ l) (shaped_names k fs)

-- ---- known layouts
absent_more : (x : List ℕ) (xs : List Named) (p : Named) → is_among x (names_of (layouts_of xs)) ≡ false → bytes_eq p.0 x ≡ false → is_among x (names_of (layouts_of (xs ++ p ∷ []))) ≡ false
absent_more x [] p h e = ap (λ b. b || false) (nat_list_eq_equiv.symm x p.0 ∙ e)
absent_more x (y ∷ xs) p h e = ap (λ b. bytes_eq x y.0 || b) (absent_more x xs p (or_parts (bytes_eq x y.0) (is_among x (names_of (layouts_of xs))) h).1 e) ∙ ap (λ b. b || false) (or_parts (bytes_eq x y.0) (is_among x (names_of (layouts_of xs))) h).0

pub still_absent : (x : List ℕ) (xs : List Named) (i : ℕ) (p : Named) → i < length xs → p ≡ get_or xs i p → is_among x (names_of (layouts_of (take i xs))) ≡ false → bytes_eq p.0 x ≡ false → is_among x (names_of (layouts_of (take (i + 1) xs))) ≡ false
still_absent x xs i p h e before here = ap (λ l. is_among x (names_of (layouts_of l))) (take_item xs i p h e) ∙ absent_more x (take i xs) p before here

-- one of two
abbrev one_of : Bool → OutlineTree → OutlineTree → OutlineTree
one_of true a b = a
one_of false a b = b

present : (d : OutlineTree) (x : List ℕ) (xs ys : List Named) (p : Named) → is_among x (names_of (layouts_of xs)) ≡ false → bytes_eq x p.0 ≡ true → (is_among x (names_of (layouts_of (xs ++ p ∷ ys))) ≡ true) × (value_at d x (layouts_of (xs ++ p ∷ ys)) ≡ outline_tree p.1)
present d x [] ys p h e = (rw e refl, rw e refl)
present d x (y ∷ xs) ys p h e = elim (bytes_eq x y.0) as (λ b. (b || is_among x (names_of (layouts_of xs))) ≡ false → ((b || is_among x (names_of (layouts_of (xs ++ p ∷ ys)))) ≡ true) × (one_of b (outline_tree y.1) (value_at d x (layouts_of (xs ++ p ∷ ys))) ≡ outline_tree p.1)) [ true ↦ λ k. absurd (let none : ⊥ = cc in none) | false ↦ λ k. present d x xs ys p k e ] h

pub known_here : (d : OutlineTree) (x : List ℕ) (xs : List Named) (i : ℕ) (p : Named) → i < length xs → p ≡ get_or xs i p → is_among x (names_of (layouts_of (take i xs))) ≡ false → bytes_eq p.0 x ≡ true → (is_among x (names_of (layouts_of xs)) ≡ true) × (value_at d x (layouts_of xs) ≡ outline_tree p.1)
known_here d x xs i p h e before here =
    let all = present d x (take i xs) (drop (i + 1) xs) p before (nat_list_eq_equiv.symm x p.0 ∙ here) in
    let cut = split_item xs i p h e in
    (ap (λ l. is_among x (names_of (layouts_of l))) cut ∙ all.0, ap (λ l. value_at d x (layouts_of l)) cut ∙ all.1)

-- ---- alternatives of one size
sizes-append : (xs ys : List Named) (n : ℕ) → list_all (λ m. m == n) (sizes_of (list_named_outlines (xs ++ ys))) ≡ (list_all (λ m. m == n) (sizes_of (list_named_outlines xs)) && list_all (λ m. m == n) (sizes_of (list_named_outlines ys)))
sizes-append [] ys n = refl
sizes-append (x ∷ xs) ys n = ap (λ b. (size (outline_tree x.1) == n) && b) (sizes-append xs ys n) ∙ and_assoc (size (outline_tree x.1) == n) (list_all (λ m. m == n) (sizes_of (list_named_outlines xs))) (list_all (λ m. m == n) (sizes_of (list_named_outlines ys)))
  where
    and_assoc : (a b c : Bool) → (a && (b && c)) ≡ ((a && b) && c)
    and_assoc true b c = refl
    and_assoc false b c = refl

pub same_size_more : (xs : List Named) (i : ℕ) (p : Named) (n : ℕ) → i < length xs → p ≡ get_or xs i p → list_all (λ m. m == n) (sizes_of (list_named_outlines (take i xs))) ≡ true → (size (outline_tree p.1) == n) ≡ true → list_all (λ m. m == n) (sizes_of (list_named_outlines (take (i + 1) xs))) ≡ true
same_size_more xs i p n h e before here =
    ap (λ l. list_all (λ m. m == n) (sizes_of (list_named_outlines l))) (take_item xs i p h e) ∙ sizes-append (take i xs) (p ∷ []) n ∙ ap (λ b. b && ((size (outline_tree p.1) == n) && true)) before ∙ ap (λ b. b && true) here

pub other_size : (xs : List Named) (i : ℕ) (p : Named) (n : ℕ) → i < length xs → p ≡ get_or xs i p → list_all (λ m. m == n) (sizes_of (list_named_outlines (take i xs))) ≡ true → (size (outline_tree p.1) == n) ≡ false → list_all (λ m. m == n) (sizes_of (list_named_outlines xs)) ≡ false
other_size xs i p n h e before here =
    ap (λ l. list_all (λ m. m == n) (sizes_of (list_named_outlines l))) (split_item xs i p h e) ∙ sizes-append (take i xs) (p ∷ drop (i + 1) xs) n ∙ ap (λ b. b && ((size (outline_tree p.1) == n) && list_all (λ m. m == n) (sizes_of (list_named_outlines (drop (i + 1) xs))))) before ∙ ap (λ b. b && list_all (λ m. m == n) (sizes_of (list_named_outlines (drop (i + 1) xs)))) here

-- ---- nodes after their parts
pub parts_shaped : (k : Layouts) (fs : List FieldNamed) (v : Vec Named Global) (r : Result Outline LayoutError) → fields_faults k (list_fields fs) ≡ [] → list_named_outlines v.items ≡ field_outlines k (list_fields fs) → Shapes (same_field (names_of (record_of (outline_tree (Outline.Parts v))))) (outline_tree (Outline.Parts v)) r → Shapes (layout_faults k (PartsLayout (list_fields fs))) (outline k (PartsLayout (list_fields fs))) r
parts_shaped k fs v r none shape h =
    let tree : outline_tree (Outline.Parts v) ≡ PartsOutline (field_outlines k (list_fields fs)) = parts_tree v ∙ ap PartsOutline shape in
    shapes_behind (fields_faults k (list_fields fs)) _ (same_field (field_names (list_fields fs))) _ (outline k (PartsLayout (list_fields fs))) r none (ap (λ o. same_field (names_of (record_of o))) tree ∙ ap same_field (shaped_names k (list_fields fs))) tree h

pub joined_shaped : (k : Layouts) (ls : List LayoutText) (v : Vec Outline Global) (r : Result Outline LayoutError) → layouts_faults k (list_layouts ls) ≡ [] → list_outlines v.items ≡ outlines k (list_layouts ls) → Shapes (same_field (names_of (record_of (outline_tree (Outline.Joined v))))) (outline_tree (Outline.Joined v)) r → Shapes (layout_faults k (JoinedLayout (list_layouts ls))) (outline k (JoinedLayout (list_layouts ls))) r
joined_shaped k ls v r none shape h =
    let tree : outline_tree (Outline.Joined v) ≡ JoinedOutline (outlines k (list_layouts ls)) = joined_tree v ∙ ap JoinedOutline shape in
    shapes_behind (layouts_faults k (list_layouts ls)) _ (same_field (names_of (records_of (outlines k (list_layouts ls))))) _ (outline k (JoinedLayout (list_layouts ls))) r none (ap (λ o. same_field (names_of (record_of o))) tree) tree h

pub overlay_shaped : (k : Layouts) (fs : List FieldNamed) (os : List Named) (r : Result Outline LayoutError) → fields_faults k (list_fields fs) ≡ [] → list_named_outlines os ≡ field_outlines k (list_fields fs) → Shapes (same_field (names_of (named_list (list_named_outlines os))) ++ different_sizes (sizes_of (list_named_outlines os))) (OverlayOutline (list_named_outlines os)) r → Shapes (field_faults k (OverlayField (list_fields fs))) (field_outline k (OverlayField (list_fields fs))) r
overlay_shaped k fs os r none shape h =
    let ts : NamedOutlines = field_outlines k (list_fields fs) in
    shapes_behind (fields_faults k (list_fields fs)) _ (same_field (field_names (list_fields fs)) ++ different_sizes (field_sizes k (list_fields fs))) _ (field_outline k (OverlayField (list_fields fs))) r none
    (ap (λ t. same_field (names_of (named_list t)) ++ different_sizes (sizes_of t)) shape ∙ ap (λ l. same_field l ++ different_sizes (sizes_of ts)) (shaped_names k (list_fields fs)) ∙ ap (λ l. same_field (field_names (list_fields fs)) ++ different_sizes l) (text_sizes k (list_fields fs)))
    (ap OverlayOutline shape) h
