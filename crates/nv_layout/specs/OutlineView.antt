-- The outline that a layout of the program stands for.
use Rattle.std.specs.Prelude.{ℕ, List, [], ◌∷◌}
use Rattle.nv_layout.specs.declared.outline.Outline.{Outline}
use Rattle.nv_layout.specs.declared.outline.Outline.TheVariants.{Bits, Gap, Parts', Overlay', Joined'}
use Rattle.nv_layout.specs.declared.outline.Outline.TheBlock.{Row_of-Outline, end_of-Outline, more_of-Outline, Row_of-Outline-Parts-0-2, end_of-Outline-Parts-0-2, more_of-Outline-Parts-0-2}
use Rattle.nv_ast.specs.Outline.{OutlineTree, BitsOutline, GapOutline, PartsOutline, OverlayOutline, JoinedOutline, OutlineTrees, no_outlines, outline_and, NamedOutlines, no_named_outlines, named_outline_and, Layouts}

abbrev mutual
  pub outline_tree : Outline → OutlineTree
  outline_tree (Bits n) = BitsOutline n
  outline_tree (Gap n) = GapOutline n
  outline_tree (Parts' v row) = PartsOutline (row_named_outlines row)
  outline_tree (Overlay' v row) = OverlayOutline (row_named_outlines row)
  outline_tree (Joined' v row) = JoinedOutline (row_outlines row)

  pub row_named_outlines : {m : _} → Row_of-Outline-Parts-0-2 m → NamedOutlines
  row_named_outlines end_of-Outline-Parts-0-2 = no_named_outlines
  row_named_outlines (more_of-Outline-Parts-0-2 x o row) = named_outline_and x (outline_tree o) (row_named_outlines row)

  pub row_outlines : {m : _} → Row_of-Outline m → OutlineTrees
  row_outlines end_of-Outline = no_outlines
  row_outlines (more_of-Outline o row) = outline_and (outline_tree o) (row_outlines row)

-- of a list of outlines with their names
abbrev pub list_named_outlines : List (List ℕ × Outline) → NamedOutlines
list_named_outlines [] = no_named_outlines
list_named_outlines (o ∷ os) = named_outline_and o.0 (outline_tree o.1) (list_named_outlines os)

-- of a list of outlines
abbrev pub list_outlines : List Outline → OutlineTrees
list_outlines [] = no_outlines
list_outlines (o ∷ os) = outline_and (outline_tree o) (list_outlines os)

-- the layouts that are known, by their outlines
abbrev pub layouts_of : List (List ℕ × Outline) → Layouts
layouts_of [] = []
layouts_of (o ∷ os) = (o.0, outline_tree o.1) ∷ layouts_of os
