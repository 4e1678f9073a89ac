-- What the symbolic values of the code stand for.
use Rattle.std.specs.Prelude.{ℕ, List, [], ◌∷◌}
use Rattle.std.specs.Borrow.{Bor}
use Rattle.nv_flatten_values.specs.inner.Symbols.{Symbols, no_symbols, symbol_and, NamedSymbols, no_named_symbols, named_symbol_and, SymbolScope}
use Rattle.nv_flatten_values.specs.inner.Symbols as symbols
use Rattle.nv_flatten_values.specs.declared.symbol.Symbol.{Symbol}
use Rattle.nv_flatten_values.specs.declared.symbol.Symbol.TheVariants.{Word, Truth, Tuple', Record'}
use Rattle.nv_flatten_values.specs.declared.symbol.Symbol.TheBlock.{Row_of-Symbol, end_of-Symbol, more_of-Symbol, Row_of-Symbol-Record-0-2, end_of-Symbol-Record-0-2, more_of-Symbol-Record-0-2}

abbrev mutual
  pub view : Symbol → symbols.Symbol
  view (Word a) = symbols.Word a
  view (Truth a) = symbols.Truth a
  view (Tuple' v row) = symbols.Tuple (row_symbols row)
  view (Record' v row) = symbols.Record (row_named_symbols row)

  pub row_symbols : {m : _} → Row_of-Symbol m → Symbols
  row_symbols end_of-Symbol = no_symbols
  row_symbols (more_of-Symbol s row) = symbol_and (view s) (row_symbols row)

  pub row_named_symbols : {m : _} → Row_of-Symbol-Record-0-2 m → NamedSymbols
  row_named_symbols end_of-Symbol-Record-0-2 = no_named_symbols
  row_named_symbols (more_of-Symbol-Record-0-2 x s row) = named_symbol_and x.now (view s) (row_named_symbols row)

-- of a list of symbolic values
abbrev pub list_symbols : List Symbol → Symbols
list_symbols [] = no_symbols
list_symbols (s ∷ ss) = symbol_and (view s) (list_symbols ss)

-- a symbolic value with its name
abbrev pub Named : Type 0
Named = Bor (List ℕ) × Symbol

abbrev pub list_named_symbols : List Named → NamedSymbols
list_named_symbols [] = no_named_symbols
list_named_symbols (f ∷ fs) = named_symbol_and f.0.now (view f.1) (list_named_symbols fs)

-- the scope that variables make, the newest last, over an outer one
abbrev pub scope_of : List Named → SymbolScope → SymbolScope
scope_of [] outer = outer
scope_of (x ∷ xs) outer = scope_of xs ((x.0.now, view x.1) ∷ outer)
