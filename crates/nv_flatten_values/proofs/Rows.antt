-- What a vector inside a symbolic value holds is the list of its items.
use Rattle.std.proofs.Common.{◌≡◌, ◌∙◌, refl, ap, List, ℕ, Vec, Global, Bor}
use Rattle.nv_flatten_values.specs.declared.symbol.Symbol
use Rattle.nv_flatten_values.specs.declared.symbol.Symbol.{Symbol}
use Rattle.nv_flatten_values.specs.declared.symbol.Symbol.TheBlock.{Row_of-Symbol, end_of-Symbol, more_of-Symbol, items-the_row-Symbol, hidden-the_row-Symbol-0, items_hidden-the_row-Symbol-0, Row_of-Symbol-Record-0-2, end_of-Symbol-Record-0-2, more_of-Symbol-Record-0-2, items-the_row-Symbol-Record-0-2, hidden-the_row-Symbol-Record-0-2-1, items_hidden-the_row-Symbol-Record-0-2-1}
use Rattle.nv_flatten_values.specs.inner.Symbols.{Tuple, Record, symbol_and, named_symbol_and}
use Rattle.nv_flatten_values.specs.inner.View.{view, row_symbols, row_named_symbols, list_symbols, list_named_symbols}

pub symbols-row : {n : _} (row : Row_of-Symbol n) → row_symbols row ≡ list_symbols (items-the_row-Symbol n row)
symbols-row end_of-Symbol = refl
symbols-row (more_of-Symbol v row) = ap (symbol_and (view v)) (symbols-row row)

symbols-items : (v : Vec Symbol Global) → row_symbols (hidden-the_row-Symbol-0 v) ≡ list_symbols v.items
symbols-items v = symbols-row (hidden-the_row-Symbol-0 v) ∙ ap list_symbols (items_hidden-the_row-Symbol-0 v)

pub fields-row : {n : _} (row : Row_of-Symbol-Record-0-2 n) → row_named_symbols row ≡ list_named_symbols (items-the_row-Symbol-Record-0-2 n row)
fields-row end_of-Symbol-Record-0-2 = refl
fields-row (more_of-Symbol-Record-0-2 x v row) = ap (named_symbol_and x.now (view v)) (fields-row row)

fields-items : (v : Vec (Bor (List ℕ) × Symbol) Global) → row_named_symbols (hidden-the_row-Symbol-Record-0-2-1 v) ≡ list_named_symbols v.items
fields-items v = fields-row (hidden-the_row-Symbol-Record-0-2-1 v) ∙ ap list_named_symbols (items_hidden-the_row-Symbol-Record-0-2-1 v)

pub tuple_view : (v : Vec Symbol Global) → view (Symbol.Tuple v) ≡ Tuple (list_symbols v.items)
tuple_view v = ap Tuple (symbols-items v)

pub record_view : (v : Vec (Bor (List ℕ) × Symbol) Global) → view (Symbol.Record v) ≡ Record (list_named_symbols v.items)
record_view v = ap Record (fields-items v)
