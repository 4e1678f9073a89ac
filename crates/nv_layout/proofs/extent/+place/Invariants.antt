use Rattle.std.proofs.Common.{◌≡◌, ◌+◌, ◌*◌, ◌++◌, take}
use Rattle.nv_ast.specs.Outline.{total_named_size, longest, total_size, part_fields, alternative_fields, joined_fields, outline_height, highest_named_outline, highest_outline}
use Rattle.nv_layout.specs.OutlineView.{outline_tree, list_named_outlines, list_outlines}
use Rattle.nv_layout.specs.FieldList.{field_pairs}
use Rattle.nv_layout.proofs.extent.+place.Given as goal

abbrev pub invariant-place_parts-loop-f : goal.invariant-place_parts-loop-f
invariant-place_parts-loop-f l = record {
  behind : l.at ≡ l.first + total_named_size (list_named_outlines (take l.f-index l.fs));
  added : field_pairs l.found.items ≡ field_pairs l.fn.found.items ++ part_fields l.first (list_named_outlines (take l.f-index l.fs));
}

abbrev pub invariant-place_alternatives-loop-f : goal.invariant-place_alternatives-loop-f
invariant-place_alternatives-loop-f l = record {
  behind : l.behind ≡ l.first + longest (list_named_outlines (take l.f-index l.fs));
  added : field_pairs l.found.items ≡ field_pairs l.fn.found.items ++ alternative_fields l.first (list_named_outlines (take l.f-index l.fs));
}

abbrev pub invariant-place_joined-loop-o : goal.invariant-place_joined-loop-o
invariant-place_joined-loop-o l = record {
  behind : l.at ≡ l.first + total_size (list_outlines (take l.o-index l.os));
  added : field_pairs l.found.items ≡ field_pairs l.fn.found.items ++ joined_fields l.first (list_outlines (take l.o-index l.os));
}

abbrev pub decreases-place : goal.decreases-place
decreases-place l = 2 * outline_height (outline_tree l.o.now)

abbrev pub decreases-place_parts : goal.decreases-place_parts
decreases-place_parts l = 2 * highest_named_outline (list_named_outlines l.fs.now) + 1

abbrev pub decreases-place_alternatives : goal.decreases-place_alternatives
decreases-place_alternatives l = 2 * highest_named_outline (list_named_outlines l.fs.now) + 1

abbrev pub decreases-place_joined : goal.decreases-place_joined
decreases-place_joined l = 2 * highest_outline (list_outlines l.os.now) + 1
