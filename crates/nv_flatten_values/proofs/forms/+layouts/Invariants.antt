use Rattle.std.proofs.Common.{◌≡◌, ◌+◌, ◌*◌, ◌≤◌, ◌++◌, take, drop}
use Rattle.nv_ast.specs.LayoutView.{layout_tree, field_tree, list_fields, list_layouts}
use Rattle.nv_ast.specs.Outline.{outline, outlines, field_outline, field_outlines, outline_height, highest_outline, highest_named_outline}
use Rattle.nv_ast.specs.Types.{total_named_words, unpacked_all, forms_of, joined_forms}
use Rattle.nv_meaning_values.specs.inner.TableView.{declared_in}
use Rattle.nv_meaning_values.proofs.Unpacking.{alias_rank}
use Rattle.nv_flatten_values.specs.inner.Fields.{◌++_symbols◌}
use Rattle.nv_flatten_values.specs.inner.Symbols.{named_fresh, numbers_from}
use Rattle.nv_flatten_values.specs.inner.View.{list_named_symbols}
use Rattle.nv_flatten_values.proofs.forms.+layouts.Given as goal

abbrev pub invariant-add_joined-loop-l : goal.invariant-add_joined-loop-l
invariant-add_joined-loop-l l = record {
  fields : list_named_symbols l.fields.items ++_symbols named_fresh l.next (unpacked_all (joined_forms (outlines (take l.limit (declared_in l.t).layouts) (list_layouts (drop l.l-index l.ls))))) ≡ list_named_symbols l.fn.fields.items ++_symbols named_fresh l.fn.next (unpacked_all (joined_forms (outlines (take l.limit (declared_in l.t).layouts) (list_layouts l.ls))));
  next : l.next + total_named_words (unpacked_all (joined_forms (outlines (take l.limit (declared_in l.t).layouts) (list_layouts (drop l.l-index l.ls))))) ≡ l.fn.next + total_named_words (unpacked_all (joined_forms (outlines (take l.limit (declared_in l.t).layouts) (list_layouts l.ls))));
  made : l.made.items ++ numbers_from l.next (total_named_words (unpacked_all (joined_forms (outlines (take l.limit (declared_in l.t).layouts) (list_layouts (drop l.l-index l.ls)))))) ≡ l.fn.made.items ++ numbers_from l.fn.next (total_named_words (unpacked_all (joined_forms (outlines (take l.limit (declared_in l.t).layouts) (list_layouts l.ls)))));
  later : l.fn.next ≤ l.next;
}

abbrev pub invariant-add_parts-loop-f : goal.invariant-add_parts-loop-f
invariant-add_parts-loop-f l = record {
  fields : list_named_symbols l.fields.items ++_symbols named_fresh l.next (unpacked_all (forms_of (field_outlines (take l.limit (declared_in l.t).layouts) (list_fields (drop l.f-index l.fs))))) ≡ list_named_symbols l.fn.fields.items ++_symbols named_fresh l.fn.next (unpacked_all (forms_of (field_outlines (take l.limit (declared_in l.t).layouts) (list_fields l.fs))));
  next : l.next + total_named_words (unpacked_all (forms_of (field_outlines (take l.limit (declared_in l.t).layouts) (list_fields (drop l.f-index l.fs))))) ≡ l.fn.next + total_named_words (unpacked_all (forms_of (field_outlines (take l.limit (declared_in l.t).layouts) (list_fields l.fs))));
  made : l.made.items ++ numbers_from l.next (total_named_words (unpacked_all (forms_of (field_outlines (take l.limit (declared_in l.t).layouts) (list_fields (drop l.f-index l.fs)))))) ≡ l.fn.made.items ++ numbers_from l.fn.next (total_named_words (unpacked_all (forms_of (field_outlines (take l.limit (declared_in l.t).layouts) (list_fields l.fs)))));
  later : l.fn.next ≤ l.next;
}

abbrev pub decreases-add_layout : goal.decreases-add_layout
decreases-add_layout l = 4 * outline_height (outline (take l.limit (declared_in l.t.now).layouts) (layout_tree l.l.now)) + alias_rank (layout_tree l.l.now)

abbrev pub decreases-add_joined : goal.decreases-add_joined
decreases-add_joined l = 4 * highest_outline (outlines (take l.limit (declared_in l.t.now).layouts) (list_layouts l.ls.now)) + 3

abbrev pub decreases-add_parts : goal.decreases-add_parts
decreases-add_parts l = 4 * highest_named_outline (field_outlines (take l.limit (declared_in l.t.now).layouts) (list_fields l.fs.now)) + 3

abbrev pub decreases-of_field : goal.decreases-of_field
decreases-of_field l = 4 * outline_height (field_outline (take l.limit (declared_in l.t.now).layouts) (field_tree l.f.now)) + 2
