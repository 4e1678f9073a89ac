use Rattle.std.proofs.Common.{◌≡◌, ◌+◌, ◌*◌, [], take}
use Rattle.nv_ast.specs.LayoutFaults.{fields_faults, layouts_faults}
use Rattle.nv_ast.specs.LayoutView.{layout_tree, field_tree, list_fields, list_layouts}
use Rattle.nv_ast.specs.Height.{layout_height, highest_layout, field_height, highest_field}
use Rattle.nv_layout.specs.OutlineView.{layouts_of}
use Rattle.nv_layout.proofs.Lists.{trees_of}
use Rattle.nv_layout.proofs.Walks.{shaped_fields, shaped_layouts}
use Rattle.nv_layout.proofs.walk.+walk.Given as goal

abbrev pub invariant-layouts_outlines-loop-l : goal.invariant-layouts_outlines-loop-l
invariant-layouts_outlines-loop-l l = record {
  none : layouts_faults (layouts_of l.known) (list_layouts (take l.l-index l.ls)) ≡ [];
  shaped : trees_of l.done.items ≡ shaped_layouts (layouts_of l.known) (take l.l-index l.ls);
}

abbrev pub invariant-fields_outlines-loop-f : goal.invariant-fields_outlines-loop-f
invariant-fields_outlines-loop-f l = record {
  none : fields_faults (layouts_of l.known) (list_fields (take l.f-index l.fs)) ≡ [];
  shaped : layouts_of l.done.items ≡ shaped_fields (layouts_of l.known) (take l.f-index l.fs);
}

abbrev pub decreases-layout_outline : goal.decreases-layout_outline
decreases-layout_outline l = 3 * layout_height (layout_tree l.l.now)

abbrev pub decreases-layouts_outlines : goal.decreases-layouts_outlines
decreases-layouts_outlines l = 3 * highest_layout (list_layouts l.ls.now) + 1

abbrev pub decreases-field_text_outline : goal.decreases-field_text_outline
decreases-field_text_outline l = 3 * field_height (field_tree l.f.now) + 1

abbrev pub decreases-fields_outlines : goal.decreases-fields_outlines
decreases-fields_outlines l = 3 * highest_field (list_fields l.fs.now) + 2
