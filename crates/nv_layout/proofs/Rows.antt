-- What a vector inside an outline holds is the list of its items.
use Rattle.std.proofs.Common.{◌≡◌, ◌∙◌, refl, ap, List, ℕ, Vec, Global}
use Rattle.nv_layout.specs.declared.outline.Outline
use Rattle.nv_layout.specs.declared.outline.Outline.{Outline}
use Rattle.nv_layout.specs.declared.outline.Outline.TheBlock.{Row_of-Outline, end_of-Outline, more_of-Outline, items-the_row-Outline, hidden-the_row-Outline-1, items_hidden-the_row-Outline-1, Row_of-Outline-Parts-0-2, end_of-Outline-Parts-0-2, more_of-Outline-Parts-0-2, items-the_row-Outline-Parts-0-2, hidden-the_row-Outline-Parts-0-2-0, items_hidden-the_row-Outline-Parts-0-2-0}
use Rattle.nv_ast.specs.Outline.{PartsOutline, OverlayOutline, JoinedOutline, outline_and, named_outline_and}
use Rattle.nv_layout.specs.OutlineView.{outline_tree, row_outlines, row_named_outlines, list_outlines, list_named_outlines}

outlines-row : {n : _} (row : Row_of-Outline n) → row_outlines row ≡ list_outlines (items-the_row-Outline n row)
outlines-row end_of-Outline = refl
outlines-row (more_of-Outline o row) = ap (outline_and (outline_tree o)) (outlines-row row)

outlines-items : (v : Vec Outline Global) → row_outlines (hidden-the_row-Outline-1 v) ≡ list_outlines v.items
outlines-items v = outlines-row (hidden-the_row-Outline-1 v) ∙ ap list_outlines (items_hidden-the_row-Outline-1 v)

named-row : {n : _} (row : Row_of-Outline-Parts-0-2 n) → row_named_outlines row ≡ list_named_outlines (items-the_row-Outline-Parts-0-2 n row)
named-row end_of-Outline-Parts-0-2 = refl
named-row (more_of-Outline-Parts-0-2 x o row) = ap (named_outline_and x (outline_tree o)) (named-row row)

named-items : (v : Vec (List ℕ × Outline) Global) → row_named_outlines (hidden-the_row-Outline-Parts-0-2-0 v) ≡ list_named_outlines v.items
named-items v = named-row (hidden-the_row-Outline-Parts-0-2-0 v) ∙ ap list_named_outlines (items_hidden-the_row-Outline-Parts-0-2-0 v)

pub parts_tree : (v : Vec (List ℕ × Outline) Global) → outline_tree (Outline.Parts v) ≡ PartsOutline (list_named_outlines v.items)
parts_tree v = ap PartsOutline (named-items v)

pub overlay_tree : (v : Vec (List ℕ × Outline) Global) → outline_tree (Outline.Overlay v) ≡ OverlayOutline (list_named_outlines v.items)
overlay_tree v = ap OverlayOutline (named-items v)

pub joined_tree : (v : Vec Outline Global) → outline_tree (Outline.Joined v) ≡ JoinedOutline (list_outlines v.items)
joined_tree v = ap JoinedOutline (outlines-items v)
