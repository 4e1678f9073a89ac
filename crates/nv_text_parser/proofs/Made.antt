-- What is made of a vector's parts.
use Rattle.std.proofs.Common.{◌≡◌, ap, Vec, Global, ℕ, List}
use Rattle.nv_ast.specs.declared.tree.LayoutText.{LayoutText}
use Rattle.nv_ast.specs.declared.tree.FieldText.{FieldText}
use Rattle.nv_ast.specs.declared.tree.TyText.{TyText}
use Rattle.nv_ast.specs.declared.tree.Pat.{Pat}
use Rattle.nv_ast.specs.declared.tree.FieldText.TheBlock.{hidden-the_row-LayoutText-1, hidden-the_row-FieldText-Overlay-0-2-0}
use Rattle.nv_ast.specs.declared.tree.TyText.TheBlock.{hidden-the_row-TyText-0, hidden-the_row-TyText-Fields-0-2-1}
use Rattle.nv_ast.specs.declared.tree.Pat.TheBlock.{hidden-the_row-Pat-0}
use Rattle.nv_ast.specs.Tree.{JoinedLayout, PartsLayout, OverlayField, TupleType, RecordType, TuplePattern}
use Rattle.nv_ast.specs.LayoutView.{row_layouts, row_fields, list_layouts, list_fields}
use Rattle.nv_ast.specs.TypeView.{row_types, row_named_types, list_types, list_named_types}
use Rattle.nv_ast.specs.PatternView.{row_patterns, list_patterns}
use Rattle.nv_ast.proofs.Rows.{layouts_items, fields_items, types_items, named_types_items, patterns_items}

pub joined_made : (v : Vec LayoutText Global) → JoinedLayout (row_layouts (hidden-the_row-LayoutText-1 v)) ≡ JoinedLayout (list_layouts v.items)
joined_made v = ap JoinedLayout (layouts_items v)

pub parts_made : (v : Vec (List ℕ × FieldText) Global) → PartsLayout (row_fields (hidden-the_row-FieldText-Overlay-0-2-0 v)) ≡ PartsLayout (list_fields v.items)
parts_made v = ap PartsLayout (fields_items v)

pub overlay_made : (v : Vec (List ℕ × FieldText) Global) → OverlayField (row_fields (hidden-the_row-FieldText-Overlay-0-2-0 v)) ≡ OverlayField (list_fields v.items)
overlay_made v = ap OverlayField (fields_items v)

pub tuple_type_made : (v : Vec TyText Global) → TupleType (row_types (hidden-the_row-TyText-0 v)) ≡ TupleType (list_types v.items)
tuple_type_made v = ap TupleType (types_items v)

pub record_type_made : (v : Vec (List ℕ × TyText) Global) → RecordType (row_named_types (hidden-the_row-TyText-Fields-0-2-1 v)) ≡ RecordType (list_named_types v.items)
record_type_made v = ap RecordType (named_types_items v)

pub tuple_pattern_made : (v : Vec Pat Global) → TuplePattern (row_patterns (hidden-the_row-Pat-0 v)) ≡ TuplePattern (list_patterns v.items)
tuple_pattern_made v = ap TuplePattern (patterns_items v)
