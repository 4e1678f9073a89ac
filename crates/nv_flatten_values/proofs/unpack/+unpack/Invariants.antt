use Rattle.std.proofs.Common.{◌≡◌, ◌+◌, ◌*◌, ◌≤◌, min, take, drop, length}
use Rattle.std.below.core.specs.declared.int.u64.TheConstants.{MAX}
use Rattle.nv_ast.specs.Bits.{packed}
use Rattle.nv_ast.specs.LayoutView.{layout_tree, field_tree, list_fields, list_layouts}
use Rattle.nv_ast.specs.Outline.{outline, outlines, field_outline, field_outlines, total_size, total_named_size, longest, part_fields, alternative_fields, joined_fields, outline_height, highest_outline, highest_named_outline}
use Rattle.nv_ast.specs.Types.{forms_of, joined_forms}
use Rattle.nv_meaning.specs.Packing.{parts_at, alternatives_at, joined_at}
use Rattle.nv_meaning_values.specs.inner.TableView.{declared_in}
use Rattle.nv_meaning_values.proofs.Unpacking.{alias_rank}
use Rattle.nv_flatten_values.specs.inner.Reads.{Reads}
use Rattle.nv_flatten_values.specs.inner.View.{list_named_symbols}
use Rattle.nv_flatten_values.specs.inner.Adds.{AddsFields}
use Rattle.nv_flatten_values.specs.inner.FewReads.{ReadsFew}
use Rattle.nv_flatten_values.proofs.Reading.{PartsFit, AlternativesFit, JoinedFit}
use Rattle.nv_flatten_values.proofs.unpack.+unpack.Given as goal

abbrev pub invariant-add_joined-loop-l : goal.invariant-add_joined-loop-l
invariant-add_joined-loop-l l = record {
  behind : l.at ≡ min (l.first + total_size (outlines (take l.limit (declared_in l.t).layouts) (list_layouts (take l.l-index l.ls)))) MAX;
  later : l.fn.next ≤ l.next;
  reads : Reads (JoinedFit (take l.limit (declared_in l.t).layouts) l.ls l.first l.words) l.fn.next l.next l.words l.fn.steps.items l.steps.items (list_named_symbols l.fn.fields.items) (list_named_symbols l.fields.items) (joined_forms (outlines (take l.limit (declared_in l.t).layouts) (list_layouts (take l.l-index l.ls)))) (λ xs. joined_at (outlines (take l.limit (declared_in l.t).layouts) (list_layouts (take l.l-index l.ls))) (drop l.first (packed xs)));
  well : AddsFields l.fn.next l.next l.words l.fn.steps.items l.steps.items (list_named_symbols l.fn.fields.items) (list_named_symbols l.fields.items);
  bounds : ReadsFew l.words l.fn.steps.items l.steps.items (list_named_symbols l.fn.fields.items) (list_named_symbols l.fields.items) (length (joined_fields 0 (outlines (take l.limit (declared_in l.t).layouts) (list_layouts (take l.l-index l.ls)))));
}

abbrev pub invariant-add_parts-loop-f : goal.invariant-add_parts-loop-f
invariant-add_parts-loop-f l = record {
  behind : l.at ≡ min (l.first + total_named_size (field_outlines (take l.limit (declared_in l.t).layouts) (list_fields (take l.f-index l.fs)))) MAX;
  later : l.fn.next ≤ l.next;
  reads : Reads (PartsFit (take l.limit (declared_in l.t).layouts) l.fs l.first l.words) l.fn.next l.next l.words l.fn.steps.items l.steps.items (list_named_symbols l.fn.fields.items) (list_named_symbols l.fields.items) (forms_of (field_outlines (take l.limit (declared_in l.t).layouts) (list_fields (take l.f-index l.fs)))) (λ xs. parts_at (field_outlines (take l.limit (declared_in l.t).layouts) (list_fields (take l.f-index l.fs))) (drop l.first (packed xs)));
  well : AddsFields l.fn.next l.next l.words l.fn.steps.items l.steps.items (list_named_symbols l.fn.fields.items) (list_named_symbols l.fields.items);
  bounds : ReadsFew l.words l.fn.steps.items l.steps.items (list_named_symbols l.fn.fields.items) (list_named_symbols l.fields.items) (length (part_fields 0 (field_outlines (take l.limit (declared_in l.t).layouts) (list_fields (take l.f-index l.fs)))));
}

abbrev pub invariant-add_alternatives-loop-f : goal.invariant-add_alternatives-loop-f
invariant-add_alternatives-loop-f l = record {
  behind : l.last ≡ min (l.at + longest (field_outlines (take l.limit (declared_in l.t).layouts) (list_fields (take l.f-index l.fs)))) MAX;
  later : l.fn.next ≤ l.next;
  reads : Reads (AlternativesFit (take l.limit (declared_in l.t).layouts) l.fs l.at l.words) l.fn.next l.next l.words l.fn.steps.items l.steps.items (list_named_symbols l.fn.fields.items) (list_named_symbols l.fields.items) (forms_of (field_outlines (take l.limit (declared_in l.t).layouts) (list_fields (take l.f-index l.fs)))) (λ xs. alternatives_at (field_outlines (take l.limit (declared_in l.t).layouts) (list_fields (take l.f-index l.fs))) (drop l.at (packed xs)));
  well : AddsFields l.fn.next l.next l.words l.fn.steps.items l.steps.items (list_named_symbols l.fn.fields.items) (list_named_symbols l.fields.items);
  bounds : ReadsFew l.words l.fn.steps.items l.steps.items (list_named_symbols l.fn.fields.items) (list_named_symbols l.fields.items) (length (alternative_fields 0 (field_outlines (take l.limit (declared_in l.t).layouts) (list_fields (take l.f-index l.fs)))));
}

abbrev pub decreases-add_fields : goal.decreases-add_fields
decreases-add_fields l = 4 * outline_height (outline (take l.limit (declared_in l.t.now).layouts) (layout_tree l.l.now)) + alias_rank (layout_tree l.l.now)

abbrev pub decreases-add_joined : goal.decreases-add_joined
decreases-add_joined l = 4 * highest_outline (outlines (take l.limit (declared_in l.t.now).layouts) (list_layouts l.ls.now)) + 3

abbrev pub decreases-add_parts : goal.decreases-add_parts
decreases-add_parts l = 4 * highest_named_outline (field_outlines (take l.limit (declared_in l.t.now).layouts) (list_fields l.fs.now)) + 3

abbrev pub decreases-add_alternatives : goal.decreases-add_alternatives
decreases-add_alternatives l = 4 * highest_named_outline (field_outlines (take l.limit (declared_in l.t.now).layouts) (list_fields l.fs.now)) + 3

abbrev pub decreases-add_field : goal.decreases-add_field
decreases-add_field l = 4 * outline_height (field_outline (take l.limit (declared_in l.t.now).layouts) (field_tree l.f.now.1)) + 2
