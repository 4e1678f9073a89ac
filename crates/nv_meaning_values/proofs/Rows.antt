-- What a vector inside a value holds is the list of its items.
use Rattle.std.proofs.Common.{◌≡◌, ◌∙◌, refl, ap, List, ℕ, Vec, Global, Bor}
use Rattle.nv_meaning_values.specs.declared.value.Value
use Rattle.nv_meaning_values.specs.declared.value.Value.{Value}
use Rattle.nv_meaning_values.specs.declared.value.Value.TheBlock.{Row_of-Value, end_of-Value, more_of-Value, items-the_row-Value, hidden-the_row-Value-0, items_hidden-the_row-Value-0, Row_of-Value-Record-0-2, end_of-Value-Record-0-2, more_of-Value-Record-0-2, items-the_row-Value-Record-0-2, hidden-the_row-Value-Record-0-2-1, items_hidden-the_row-Value-Record-0-2-1}
use Rattle.nv_meaning_values.specs.Values.{Tuple, Record, value_and, named_value_and}
use Rattle.nv_meaning_values.specs.inner.View.{view, row_values, row_named_values, list_values, list_named_values}

values-row : {n : _} (row : Row_of-Value n) → row_values row ≡ list_values (items-the_row-Value n row)
values-row end_of-Value = refl
values-row (more_of-Value v row) = ap (value_and (view v)) (values-row row)

values-items : (v : Vec Value Global) → row_values (hidden-the_row-Value-0 v) ≡ list_values v.items
values-items v = values-row (hidden-the_row-Value-0 v) ∙ ap list_values (items_hidden-the_row-Value-0 v)

fields-row : {n : _} (row : Row_of-Value-Record-0-2 n) → row_named_values row ≡ list_named_values (items-the_row-Value-Record-0-2 n row)
fields-row end_of-Value-Record-0-2 = refl
fields-row (more_of-Value-Record-0-2 x v row) = ap (named_value_and x.now (view v)) (fields-row row)

fields-items : (v : Vec (Bor (List ℕ) × Value) Global) → row_named_values (hidden-the_row-Value-Record-0-2-1 v) ≡ list_named_values v.items
fields-items v = fields-row (hidden-the_row-Value-Record-0-2-1 v) ∙ ap list_named_values (items_hidden-the_row-Value-Record-0-2-1 v)

pub tuple_view : (v : Vec Value Global) → view (Value.Tuple v) ≡ Tuple (list_values v.items)
tuple_view v = ap Tuple (values-items v)

pub record_view : (v : Vec (Bor (List ℕ) × Value) Global) → view (Value.Record v) ≡ Record (list_named_values v.items)
record_view v = ap Record (fields-items v)
