use Rattle.std.proofs.Common.{◌≡◌, ◌+◌, ◌*◌, take, drop, length}
use Rattle.nv_ast.specs.Bits.{packed, replaced}
use Rattle.nv_ast.specs.LayoutView.{layout_tree, field_tree, list_fields, list_layouts}
use Rattle.nv_ast.specs.Outline.{outline, outlines, field_outline, field_outlines, outline_height, highest_outline, highest_named_outline}
use Rattle.nv_meaning_values.specs.Packing.{parts_bits, joined_bits, chosen_bits}
use Rattle.nv_meaning_values.specs.inner.TableView.{declared_in}
use Rattle.nv_meaning_values.specs.inner.View.{view, list_named_values}
use Rattle.nv_meaning_values.proofs.Unpacking.{alias_rank}
use Rattle.nv_meaning.proofs.pack.+write.Given as goal

abbrev pub invariant-write_joined-loop-l : goal.invariant-write_joined-loop-l
invariant-write_joined-loop-l l = record {
  behind : l.at ≡ l.first + length (joined_bits (outlines (take l.limit (declared_in l.t).layouts) (list_layouts (take l.l-index l.ls))) (view l.v));
  words : packed l.words ≡ replaced l.first (joined_bits (outlines (take l.limit (declared_in l.t).layouts) (list_layouts (take l.l-index l.ls))) (view l.v)) (packed l.fn.words);
}

abbrev pub invariant-write_parts-loop-f : goal.invariant-write_parts-loop-f
invariant-write_parts-loop-f l = record {
  behind : l.at ≡ l.first + length (parts_bits (field_outlines (take l.limit (declared_in l.t).layouts) (list_fields (take l.f-index l.fs))) (list_named_values l.fields));
  words : packed l.words ≡ replaced l.first (parts_bits (field_outlines (take l.limit (declared_in l.t).layouts) (list_fields (take l.f-index l.fs))) (list_named_values l.fields)) (packed l.fn.words);
}

abbrev pub invariant-write_chosen-loop-f : goal.invariant-write_chosen-loop-f
invariant-write_chosen-loop-f l = record {
  bits : chosen_bits (field_outlines (take l.limit (declared_in l.t).layouts) (list_fields (drop l.f-index l.fs))) (list_named_values l.fields) ≡ chosen_bits (field_outlines (take l.limit (declared_in l.t).layouts) (list_fields l.fs)) (list_named_values l.fields);
  words : l.words ≡ l.fn.words;
}

abbrev pub decreases-write_layout : goal.decreases-write_layout
decreases-write_layout l = 5 * outline_height (outline (take l.limit (declared_in l.t.now).layouts) (layout_tree l.l.now)) + alias_rank (layout_tree l.l.now)

abbrev pub decreases-write_joined : goal.decreases-write_joined
decreases-write_joined l = 5 * highest_outline (outlines (take l.limit (declared_in l.t.now).layouts) (list_layouts l.ls.now)) + 3

abbrev pub decreases-write_parts : goal.decreases-write_parts
decreases-write_parts l = 5 * highest_named_outline (field_outlines (take l.limit (declared_in l.t.now).layouts) (list_fields l.fs.now)) + 4

abbrev pub decreases-write_part : goal.decreases-write_part
decreases-write_part l = 5 * outline_height (field_outline (take l.limit (declared_in l.t.now).layouts) (field_tree l.f.now.1)) + 3

abbrev pub decreases-write_chosen : goal.decreases-write_chosen
decreases-write_chosen l = 5 * highest_named_outline (field_outlines (take l.limit (declared_in l.t.now).layouts) (list_fields l.fs.now)) + 3

abbrev pub decreases-write_field : goal.decreases-write_field
decreases-write_field l = 5 * outline_height (field_outline (take l.limit (declared_in l.t.now).layouts) (field_tree l.f.now)) + 2
