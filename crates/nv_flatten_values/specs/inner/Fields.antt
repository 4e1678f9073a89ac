-- Fields one after another.
use Rattle.nv_flatten_values.specs.inner.Symbols.{NamedSymbols, no_named_symbols, named_symbol_and}

-- the fields of one record and then those of another
infixr 5 ◌++_symbols◌
abbrev pub ◌++_symbols◌ : NamedSymbols → NamedSymbols → NamedSymbols
no_named_symbols ++_symbols ts = ts
named_symbol_and x s ss ++_symbols ts = named_symbol_and x s (ss ++_symbols ts)
