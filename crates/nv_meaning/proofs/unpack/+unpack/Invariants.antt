use Rattle.std.proofs.Common.{◌≡◌, ◌+◌, ◌*◌, min, take, drop}
use Rattle.std.below.core.specs.declared.int.u64.TheConstants.{MAX}
use Rattle.nv_ast.specs.Bits.{packed}
use Rattle.nv_ast.specs.LayoutView.{layout_tree, field_tree, list_fields, list_layouts}
use Rattle.nv_ast.specs.Outline.{outline, outlines, field_outline, field_outlines, total_size, total_named_size, longest, outline_height, highest_outline, highest_named_outline}
use Rattle.nv_meaning_values.specs.Values.{◌++_fields◌}
use Rattle.nv_meaning_values.specs.Packing.{parts_at, alternatives_at, joined_at}
use Rattle.nv_meaning_values.specs.inner.TableView.{declared_in}
use Rattle.nv_meaning_values.specs.inner.View.{list_named_values}
use Rattle.nv_meaning_values.proofs.Unpacking.{alias_rank}
use Rattle.nv_meaning.proofs.unpack.+unpack.Given as goal

abbrev pub invariant-add_joined-loop-l : goal.invariant-add_joined-loop-l
invariant-add_joined-loop-l l = record {
  behind : l.at ≡ min (l.first + total_size (outlines (take l.limit (declared_in l.t).layouts) (list_layouts (take l.l-index l.ls)))) MAX;
  fields : list_named_values l.fields.items ≡ list_named_values l.fn.fields.items ++_fields joined_at (outlines (take l.limit (declared_in l.t).layouts) (list_layouts (take l.l-index l.ls))) (drop l.first (packed l.words));
}

abbrev pub invariant-add_parts-loop-f : goal.invariant-add_parts-loop-f
invariant-add_parts-loop-f l = record {
  behind : l.at ≡ min (l.first + total_named_size (field_outlines (take l.limit (declared_in l.t).layouts) (list_fields (take l.f-index l.fs)))) MAX;
  fields : list_named_values l.fields.items ≡ list_named_values l.fn.fields.items ++_fields parts_at (field_outlines (take l.limit (declared_in l.t).layouts) (list_fields (take l.f-index l.fs))) (drop l.first (packed l.words));
}

abbrev pub invariant-add_alternatives-loop-f : goal.invariant-add_alternatives-loop-f
invariant-add_alternatives-loop-f l = record {
  behind : l.last ≡ min (l.at + longest (field_outlines (take l.limit (declared_in l.t).layouts) (list_fields (take l.f-index l.fs)))) MAX;
  fields : list_named_values l.fields.items ≡ list_named_values l.fn.fields.items ++_fields alternatives_at (field_outlines (take l.limit (declared_in l.t).layouts) (list_fields (take l.f-index l.fs))) (drop l.at (packed l.words));
}

abbrev pub decreases-add_fields : goal.decreases-add_fields
decreases-add_fields l = 4 * outline_height (outline (take l.limit (declared_in l.t.now).layouts) (layout_tree l.l.now)) + alias_rank (layout_tree l.l.now)

abbrev pub decreases-add_joined : goal.decreases-add_joined
decreases-add_joined l = 4 * highest_outline (outlines (take l.limit (declared_in l.t.now).layouts) (list_layouts l.ls.now)) + 3

abbrev pub decreases-add_parts : goal.decreases-add_parts
decreases-add_parts l = 4 * highest_named_outline (field_outlines (take l.limit (declared_in l.t.now).layouts) (list_fields l.fs.now)) + 3

abbrev pub decreases-add_alternatives : goal.decreases-add_alternatives
decreases-add_alternatives l = 4 * highest_named_outline (field_outlines (take l.limit (declared_in l.t.now).layouts) (list_fields l.fs.now)) + 3

abbrev pub decreases-field_value : goal.decreases-field_value
decreases-field_value l = 4 * outline_height (field_outline (take l.limit (declared_in l.t.now).layouts) (field_tree l.f.now)) + 2
