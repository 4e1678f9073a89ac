use Rattle.std.proofs.Common.{◌≡◌, ◌+◌, ◌*◌, ◌≤◌, take, drop, length}
use Rattle.nv_base.specs.Words.{Env}
use Rattle.nv_ast.specs.LayoutView.{layout_tree, field_tree, list_fields, list_layouts}
use Rattle.nv_ast.specs.Outline.{outline, outlines, field_outline, field_outlines, outline_height, highest_outline, highest_named_outline, AllSound, AllNamedSound}
use Rattle.nv_meaning.specs.Values.{fields_of}
use Rattle.nv_meaning.specs.Packing.{parts_bits, joined_bits, chosen_bits}
use Rattle.nv_meaning_values.specs.inner.TableView.{declared_in}
use Rattle.nv_meaning_values.proofs.Unpacking.{alias_rank}
use Rattle.nv_flatten_values.specs.inner.Reads.{Writes}
use Rattle.nv_flatten_values.specs.inner.Symbols.{value_in, fields_of as symbols_of}
use Rattle.nv_flatten_values.specs.inner.View.{view}
use Rattle.nv_flatten_values.specs.inner.Adds.{AddsWords}
use Rattle.nv_flatten_values.specs.inner.Written.{packed_parts, packed_chosen, packed_joined, WritesFew}
use Rattle.nv_flatten_values.proofs.pack.+write.Given as goal

abbrev pub invariant-write_joined-loop-l : goal.invariant-write_joined-loop-l
invariant-write_joined-loop-l l = record {
  behind : (env : Env) → l.at ≡ l.first + length (joined_bits (outlines (take l.limit (declared_in l.t).layouts) (list_layouts (take l.l-index l.ls))) (value_in env (view l.s)));
  later : l.fn.next ≤ l.next;
  writes : Writes (AllSound (outlines (take l.limit (declared_in l.t).layouts) (list_layouts l.ls))) l.fn.next l.next (view l.s) l.fn.steps.items l.steps.items l.fn.words l.words l.first (λ v. joined_bits (outlines (take l.limit (declared_in l.t).layouts) (list_layouts (take l.l-index l.ls))) v);
  well : AddsWords l.fn.next l.next (view l.s) l.fn.steps.items l.steps.items l.fn.words l.words;
  bounds : WritesFew (packed_joined (outlines (take l.limit (declared_in l.t).layouts) (list_layouts (take l.l-index l.ls))) (view l.s)) (view l.s) l.fn.steps.items l.steps.items l.fn.words l.words l.first l.at;
}

abbrev pub invariant-write_parts-loop-f : goal.invariant-write_parts-loop-f
invariant-write_parts-loop-f l = record {
  behind : (env : Env) → l.at ≡ l.first + length (parts_bits (field_outlines (take l.limit (declared_in l.t).layouts) (list_fields (take l.f-index l.fs))) (fields_of (value_in env (view l.s))));
  later : l.fn.next ≤ l.next;
  writes : Writes (AllNamedSound (field_outlines (take l.limit (declared_in l.t).layouts) (list_fields l.fs))) l.fn.next l.next (view l.s) l.fn.steps.items l.steps.items l.fn.words l.words l.first (λ v. parts_bits (field_outlines (take l.limit (declared_in l.t).layouts) (list_fields (take l.f-index l.fs))) (fields_of v));
  well : AddsWords l.fn.next l.next (view l.s) l.fn.steps.items l.steps.items l.fn.words l.words;
  bounds : WritesFew (packed_parts (field_outlines (take l.limit (declared_in l.t).layouts) (list_fields (take l.f-index l.fs))) (symbols_of (view l.s))) (view l.s) l.fn.steps.items l.steps.items l.fn.words l.words l.first l.at;
}

abbrev pub invariant-write_chosen-loop-f : goal.invariant-write_chosen-loop-f
invariant-write_chosen-loop-f l = record {
  bits : (env : Env) → chosen_bits (field_outlines (take l.limit (declared_in l.t).layouts) (list_fields (drop l.f-index l.fs))) (fields_of (value_in env (view l.s))) ≡ chosen_bits (field_outlines (take l.limit (declared_in l.t).layouts) (list_fields l.fs)) (fields_of (value_in env (view l.s)));
  words : l.words ≡ l.fn.words;
  steps : l.steps.items ≡ l.fn.steps.items;
  next : l.next ≡ l.fn.next;
  fields : packed_chosen (field_outlines (take l.limit (declared_in l.t).layouts) (list_fields (drop l.f-index l.fs))) (symbols_of (view l.s)) ≡ packed_chosen (field_outlines (take l.limit (declared_in l.t).layouts) (list_fields l.fs)) (symbols_of (view l.s));
}

abbrev pub decreases-write_layout : goal.decreases-write_layout
decreases-write_layout l = 5 * outline_height (outline (take l.limit (declared_in l.t.now).layouts) (layout_tree l.l.now)) + alias_rank (layout_tree l.l.now)

abbrev pub decreases-write_joined : goal.decreases-write_joined
decreases-write_joined l = 5 * highest_outline (outlines (take l.limit (declared_in l.t.now).layouts) (list_layouts l.ls.now)) + 3

abbrev pub decreases-write_parts : goal.decreases-write_parts
decreases-write_parts l = 5 * highest_named_outline (field_outlines (take l.limit (declared_in l.t.now).layouts) (list_fields l.fs.now)) + 4

abbrev pub decreases-write_part : goal.decreases-write_part
decreases-write_part l = 5 * outline_height (field_outline (take l.limit (declared_in l.t.now).layouts) (field_tree l.f.now.1)) + 3

abbrev pub decreases-write_chosen : goal.decreases-write_chosen
decreases-write_chosen l = 5 * highest_named_outline (field_outlines (take l.limit (declared_in l.t.now).layouts) (list_fields l.fs.now)) + 3

abbrev pub decreases-write_field : goal.decreases-write_field
decreases-write_field l = 5 * outline_height (field_outline (take l.limit (declared_in l.t.now).layouts) (field_tree l.f.now)) + 2
