-- Layouts in the text, one after another.
use Rattle.std.proofs.Common.{◌≡◌, ◌∙◌, refl, ap, sym, ℕ, ◌+◌, ◌<◌, ◌≤◌, max, List, [], ◌∷◌, ◌++◌, take, drop, length, get_or, arith, append_assoc, Vec, Global}
use Rattle.nv_ast.specs.declared.tree.LayoutText
use Rattle.nv_ast.specs.declared.tree.LayoutText.{LayoutText}
use Rattle.nv_ast.specs.declared.tree.FieldText
use Rattle.nv_ast.specs.declared.tree.FieldText.{FieldText}
use Rattle.nv_ast.specs.Tree.{PartsLayout, JoinedLayout, OverlayField, FieldTrees, no_fields, field_and}
use Rattle.nv_ast.specs.Height.{layout_height, highest_layout, field_height, highest_field}
use Rattle.nv_ast.specs.LayoutView.{layout_tree, field_tree, list_fields, list_layouts}
use Rattle.nv_ast.specs.Outline.{Layouts, field_outline, field_outlines, size, sizes_of}
use Rattle.nv_ast.specs.LayoutFaults.{layout_faults, layouts_faults, field_faults, fields_faults, field_sizes}
use Rattle.nv_ast.proofs.Rows.{fields_items, layouts_items}
use Rattle.nv_ast.proofs.Items.{split_item}

pub parts_text : (v : Vec (List ℕ × FieldText) Global) → layout_tree (LayoutText.Parts v) ≡ PartsLayout (list_fields v.items)
parts_text v = ap PartsLayout (fields_items v)

pub joined_text : (v : Vec LayoutText Global) → layout_tree (LayoutText.Joined v) ≡ JoinedLayout (list_layouts v.items)
joined_text v = ap JoinedLayout (layouts_items v)

pub overlay_text : (v : Vec (List ℕ × FieldText) Global) → field_tree (FieldText.Overlay v) ≡ OverlayField (list_fields v.items)
overlay_text v = ap OverlayField (fields_items v)

abbrev pub FieldNamed : Type 0
FieldNamed = List ℕ × FieldText

pub fields_faults-append : (k : Layouts) (xs ys : List FieldNamed) → fields_faults k (list_fields (xs ++ ys)) ≡ fields_faults k (list_fields xs) ++ fields_faults k (list_fields ys)
fields_faults-append k [] ys = refl
fields_faults-append k (x ∷ xs) ys = ap (λ l. field_faults k (field_tree x.1) ++ l) (fields_faults-append k xs ys) ∙ sym (append_assoc (field_faults k (field_tree x.1)) (fields_faults k (list_fields xs)) (fields_faults k (list_fields ys)))

highest_field-append : (xs ys : List FieldNamed) → highest_field (list_fields (xs ++ ys)) ≡ max (highest_field (list_fields xs)) (highest_field (list_fields ys))
highest_field-append [] ys = omega arith
highest_field-append (x ∷ xs) ys = omega (arith, highest_field-append xs ys)

pub highest_field_within : (xs : List FieldNamed) (i : ℕ) (p : FieldNamed) → i < length xs → p ≡ get_or xs i p → field_height (field_tree p.1) ≤ highest_field (list_fields xs)
highest_field_within xs i p h e = omega (arith, ap (λ l. highest_field (list_fields l)) (split_item xs i p h e), highest_field-append (take i xs) (p ∷ drop (i + 1) xs))

highest_layout-append : (xs ys : List LayoutText) → highest_layout (list_layouts (xs ++ ys)) ≡ max (highest_layout (list_layouts xs)) (highest_layout (list_layouts ys))
highest_layout-append [] ys = omega arith
highest_layout-append (x ∷ xs) ys = omega (arith, highest_layout-append xs ys)

pub highest_layout_within : (xs : List LayoutText) (i : ℕ) (p : LayoutText) → i < length xs → p ≡ get_or xs i p → layout_height (layout_tree p) ≤ highest_layout (list_layouts xs)
highest_layout_within xs i p h e = omega (arith, ap (λ l. highest_layout (list_layouts l)) (split_item xs i p h e), highest_layout-append (take i xs) (p ∷ drop (i + 1) xs))

pub layouts_faults-append : (k : Layouts) (xs ys : List LayoutText) → layouts_faults k (list_layouts (xs ++ ys)) ≡ layouts_faults k (list_layouts xs) ++ layouts_faults k (list_layouts ys)
layouts_faults-append k [] ys = refl
layouts_faults-append k (x ∷ xs) ys = ap (λ l. layout_faults k (layout_tree x) ++ l) (layouts_faults-append k xs ys) ∙ sym (append_assoc (layout_faults k (layout_tree x)) (layouts_faults k (list_layouts xs)) (layouts_faults k (list_layouts ys)))

pub text_sizes : (k : Layouts) (fs : FieldTrees) → sizes_of (field_outlines k fs) ≡ field_sizes k fs
text_sizes k no_fields = refl
text_sizes k (field_and x f fs) = ap (λ l. size (field_outline k f) ∷ l) (text_sizes k fs)
