use Rattle.std.proofs.Common.{◌≡◌, ◌+◌, ◌≤◌, ◌++◌, drop}
use Rattle.nv_ast.specs.Types.{types_of, named_types_of, total_words, total_named_words}
use Rattle.nv_ast.specs.TypeView.{list_types, list_named_types}
use Rattle.nv_meaning_values.specs.inner.TableView.{declared_in}
use Rattle.nv_flatten_values.specs.inner.Fields.{◌++_symbols◌}
use Rattle.nv_flatten_values.specs.inner.Symbols.{all_fresh, named_fresh, numbers_from}
use Rattle.nv_flatten_values.specs.inner.View.{list_symbols, list_named_symbols}
use Rattle.nv_flatten_values.proofs.Listing.{all_then}
use Rattle.nv_flatten_values.proofs.forms.+types.Given as goal

abbrev pub invariant-of_types-loop-ty : goal.invariant-of_types-loop-ty
invariant-of_types-loop-ty l = record {
  symbols : all_then (list_symbols l.symbols.items) (all_fresh l.next (types_of (declared_in l.t).layouts (list_types (drop l.ty-index l.tys)))) ≡ all_fresh l.fn.next (types_of (declared_in l.t).layouts (list_types l.tys));
  next : l.next + total_words (types_of (declared_in l.t).layouts (list_types (drop l.ty-index l.tys))) ≡ l.fn.next + total_words (types_of (declared_in l.t).layouts (list_types l.tys));
  made : l.made.items ++ numbers_from l.next (total_words (types_of (declared_in l.t).layouts (list_types (drop l.ty-index l.tys)))) ≡ l.fn.made.items ++ numbers_from l.fn.next (total_words (types_of (declared_in l.t).layouts (list_types l.tys)));
  later : l.fn.next ≤ l.next;
}

abbrev pub invariant-of_fields-loop-ty : goal.invariant-of_fields-loop-ty
invariant-of_fields-loop-ty l = record {
  symbols : list_named_symbols l.fields.items ++_symbols named_fresh l.next (named_types_of (declared_in l.t).layouts (list_named_types (drop l.ty-index l.tys))) ≡ named_fresh l.fn.next (named_types_of (declared_in l.t).layouts (list_named_types l.tys));
  next : l.next + total_named_words (named_types_of (declared_in l.t).layouts (list_named_types (drop l.ty-index l.tys))) ≡ l.fn.next + total_named_words (named_types_of (declared_in l.t).layouts (list_named_types l.tys));
  made : l.made.items ++ numbers_from l.next (total_named_words (named_types_of (declared_in l.t).layouts (list_named_types (drop l.ty-index l.tys)))) ≡ l.fn.made.items ++ numbers_from l.fn.next (total_named_words (named_types_of (declared_in l.t).layouts (list_named_types l.tys)));
  later : l.fn.next ≤ l.next;
}
