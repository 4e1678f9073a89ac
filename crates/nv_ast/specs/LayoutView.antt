-- The tree that a layout of the program stands for.
use Rattle.std.specs.Prelude.{ℕ, List, [], ◌∷◌}
use Rattle.nv_ast.specs.declared.tree.LayoutText.{LayoutText}
use Rattle.nv_ast.specs.declared.tree.LayoutText.TheVariants.{Named, Gap, Parts', Joined'}
use Rattle.nv_ast.specs.declared.tree.FieldText.{FieldText}
use Rattle.nv_ast.specs.declared.tree.FieldText.TheVariants.{Bits, Inner, Overlay'}
use Rattle.nv_ast.specs.declared.tree.FieldText.TheBlock.{Row_of-LayoutText, end_of-LayoutText, more_of-LayoutText, Row_of-FieldText-Overlay-0-2, end_of-FieldText-Overlay-0-2, more_of-FieldText-Overlay-0-2}
use Rattle.nv_ast.specs.Tree.{LayoutTree, NamedLayout, GapLayout, PartsLayout, JoinedLayout, LayoutTrees, no_layouts, layout_and, FieldTree, BitsField, InnerField, OverlayField, FieldTrees, no_fields, field_and}

abbrev mutual
  pub layout_tree : LayoutText → LayoutTree
  layout_tree (Named l) = NamedLayout l
  layout_tree (Gap n) = GapLayout n
  layout_tree (Parts' v row) = PartsLayout (row_fields row)
  layout_tree (Joined' v row) = JoinedLayout (row_layouts row)

  pub field_tree : FieldText → FieldTree
  field_tree (Bits n) = BitsField n
  field_tree (Inner l) = InnerField (layout_tree l)
  field_tree (Overlay' v row) = OverlayField (row_fields row)

  pub row_fields : {m : _} → Row_of-FieldText-Overlay-0-2 m → FieldTrees
  row_fields end_of-FieldText-Overlay-0-2 = no_fields
  row_fields (more_of-FieldText-Overlay-0-2 x f row) = field_and x (field_tree f) (row_fields row)

  pub row_layouts : {m : _} → Row_of-LayoutText m → LayoutTrees
  row_layouts end_of-LayoutText = no_layouts
  row_layouts (more_of-LayoutText l row) = layout_and (layout_tree l) (row_layouts row)

-- of a list of fields with their names
abbrev pub list_fields : List (List ℕ × FieldText) → FieldTrees
list_fields [] = no_fields
list_fields (f ∷ fs) = field_and f.0 (field_tree f.1) (list_fields fs)

-- of a list of layouts
abbrev pub list_layouts : List LayoutText → LayoutTrees
list_layouts [] = no_layouts
list_layouts (l ∷ ls) = layout_and (layout_tree l) (list_layouts ls)
