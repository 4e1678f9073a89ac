-- The faults of a layout text, as their kinds, in the order in which the text is walked: the parts from left to right, then the node itself, the least kind first.
use Rattle.std.specs.Prelude.{ℕ, ◌==◌, nat_lt, not, ◌||◌, List, [], ◌∷◌, ◌++◌, length}
use Rattle.nv_ast.specs.Tree.{LayoutTree, NamedLayout, GapLayout, PartsLayout, JoinedLayout, LayoutTrees, no_layouts, layout_and, FieldTree, BitsField, InnerField, OverlayField, FieldTrees, no_fields, field_and}
use Rattle.nv_ast.specs.Tests.{where_true, within, is_among, has_twice, all_same, names_of}
use Rattle.nv_ast.specs.Outline.{OutlineTree, Layouts, outline, outlines, field_outline, size, outline_height, record_of, records_of}

-- 3: the layout's name isn't known
abbrev pub unknown_layout : Layouts → List ℕ → List ℕ
unknown_layout known x = where_true (not (is_among x (names_of known))) 3

-- 4: a field of other than 1 to 32 bits
abbrev pub wrong_bits : ℕ → List ℕ
wrong_bits n = where_true (not (within 1 32 n)) 4

-- 4: a gap of other than 1 to 1,024 bits
abbrev pub wrong_gap : ℕ → List ℕ
wrong_gap n = where_true (not (within 1 1024 n)) 4

-- 5: two fields or alternatives of one name in one record
abbrev pub same_field : List (List ℕ) → List ℕ
same_field names = where_true (has_twice names) 5

-- 6: alternatives of different sizes
abbrev pub different_sizes : List ℕ → List ℕ
different_sizes sizes = where_true (not (all_same sizes)) 6

-- 7: a declared or inner layout without a field, over 1,024 bits or, names written out, higher than 100
abbrev pub unfit : OutlineTree → List ℕ
unfit o = where_true ((length (record_of o) == 0) || (nat_lt 1024 (size o) || nat_lt 100 (outline_height o))) 7

-- the names of some fields
abbrev pub field_names : FieldTrees → List (List ℕ)
field_names no_fields = []
field_names (field_and x f fs) = x ∷ field_names fs

-- their sizes
abbrev pub field_sizes : Layouts → FieldTrees → List ℕ
field_sizes known no_fields = []
field_sizes known (field_and x f fs) = size (field_outline known f) ∷ field_sizes known fs

-- ---- the walk; joined layouts form one record, and none of them is a declared or inner layout by itself
abbrev mutual
  pub layout_faults : Layouts → LayoutTree → List ℕ
  layout_faults known (NamedLayout x) = unknown_layout known x
  layout_faults known (GapLayout n) = wrong_gap n
  layout_faults known (PartsLayout fs) = fields_faults known fs ++ same_field (field_names fs)
  layout_faults known (JoinedLayout ls) = layouts_faults known ls ++ same_field (names_of (records_of (outlines known ls)))

  pub layouts_faults : Layouts → LayoutTrees → List ℕ
  layouts_faults known no_layouts = []
  layouts_faults known (layout_and l ls) = layout_faults known l ++ layouts_faults known ls

  pub field_faults : Layouts → FieldTree → List ℕ
  field_faults known (BitsField n) = wrong_bits n
  field_faults known (InnerField l) = layout_faults known l ++ unfit (outline known l)
  field_faults known (OverlayField fs) = fields_faults known fs ++ (same_field (field_names fs) ++ different_sizes (field_sizes known fs))

  pub fields_faults : Layouts → FieldTrees → List ℕ
  fields_faults known no_fields = []
  fields_faults known (field_and x f fs) = field_faults known f ++ fields_faults known fs

-- of a declared layout
abbrev pub declared_faults : Layouts → LayoutTree → List ℕ
declared_faults known l = layout_faults known l ++ unfit (outline known l)
