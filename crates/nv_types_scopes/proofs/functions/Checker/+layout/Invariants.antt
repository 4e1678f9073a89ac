use Rattle.std.proofs.Common.{◌≡◌, ◌+◌, ◌*◌, [], take}
use Rattle.nv_ast.specs.Height.{layout_height, highest_layout, field_height, highest_field}
use Rattle.nv_ast.specs.LayoutFaults.{fields_faults, layouts_faults}
use Rattle.nv_ast.specs.LayoutView.{layout_tree, field_tree, list_fields, list_layouts}
use Rattle.nv_ast.specs.Outline.{outlines, field_outlines}
use Rattle.nv_ast.specs.Scope.{Known}
use Rattle.nv_types_table.specs.inner.Named.{named}
use Rattle.nv_types_table.specs.inner.Layouts.{AreShapes, AreMembers}
use Rattle.nv_types_scopes.specs.inner.Standing.{Holds, Keeps}
use Rattle.nv_types_scopes.proofs.functions.Checker.+layout.Given as goal

abbrev pub invariant-joined_layout-loop-l : goal.invariant-joined_layout-loop-l
invariant-joined_layout-loop-l l = record {
  keeps : Keeps l.initial.self l.self;
  none : (k : Known) → Holds l.initial.self k → layouts_faults k.layouts (list_layouts (take l.l-index l.ls)) ≡ [];
  shaped : (k : Known) → Holds l.initial.self k → AreShapes l.self.table l.shapes.items (outlines k.layouts (list_layouts (take l.l-index l.ls)));
}

abbrev pub invariant-members-loop-f : goal.invariant-members-loop-f
invariant-members-loop-f l = record {
  keeps : Keeps l.initial.self l.self;
  none : (k : Known) → Holds l.initial.self k → fields_faults k.layouts (list_fields (take l.f-index l.fs)) ≡ [];
  shaped : (k : Known) → Holds l.initial.self k → AreMembers l.self.table (named l.members.items) (field_outlines k.layouts (list_fields (take l.f-index l.fs)));
}

abbrev pub decreases-whole_layout : goal.decreases-whole_layout
decreases-whole_layout l = 5 * layout_height (layout_tree l.l.now) + 1

abbrev pub decreases-layout : goal.decreases-layout
decreases-layout l = 5 * layout_height (layout_tree l.l.now)

abbrev pub decreases-parts_layout : goal.decreases-parts_layout
decreases-parts_layout l = 5 * highest_field (list_fields l.fs.now) + 4

abbrev pub decreases-joined_layout : goal.decreases-joined_layout
decreases-joined_layout l = 5 * highest_layout (list_layouts l.ls.now) + 1

abbrev pub decreases-members : goal.decreases-members
decreases-members l = 5 * highest_field (list_fields l.fs.now) + 3

abbrev pub decreases-member : goal.decreases-member
decreases-member l = 5 * field_height (field_tree l.f.now) + 2
