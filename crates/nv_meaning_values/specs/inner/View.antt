-- What the interpreter's values stand for.
use Rattle.std.specs.Prelude.{◌≡◌, ℕ, List, [], ◌∷◌, ◌++◌}
use Rattle.std.specs.Borrow.{Bor}
use Rattle.nv_meaning_values.specs.Values.{Values, no_values, value_and, NamedValues, no_named_values, named_value_and, Scope}
use Rattle.nv_meaning_values.specs.Values as meaning
use Rattle.nv_meaning_values.specs.declared.value.Value.{Value}
use Rattle.nv_meaning_values.specs.declared.value.Value.TheVariants.{Word, Truth, Tuple', Record'}
use Rattle.nv_meaning_values.specs.declared.value.Value.TheBlock.{Row_of-Value, end_of-Value, more_of-Value, Row_of-Value-Record-0-2, end_of-Value-Record-0-2, more_of-Value-Record-0-2}

abbrev mutual
  pub view : Value → meaning.Value
  view (Word w) = meaning.Word w
  view (Truth b) = meaning.Truth b
  view (Tuple' v row) = meaning.Tuple (row_values row)
  view (Record' v row) = meaning.Record (row_named_values row)

  pub row_values : {m : _} → Row_of-Value m → Values
  row_values end_of-Value = no_values
  row_values (more_of-Value v row) = value_and (view v) (row_values row)

  pub row_named_values : {m : _} → Row_of-Value-Record-0-2 m → NamedValues
  row_named_values end_of-Value-Record-0-2 = no_named_values
  row_named_values (more_of-Value-Record-0-2 x v row) = named_value_and x.now (view v) (row_named_values row)

-- of a list of values
abbrev pub list_values : List Value → Values
list_values [] = no_values
list_values (v ∷ vs) = value_and (view v) (list_values vs)

-- a value with its name
abbrev pub Named : Type 0
Named = Bor (List ℕ) × Value

-- of a list of values with their names
abbrev pub list_named_values : List Named → NamedValues
list_named_values [] = no_named_values
list_named_values (f ∷ fs) = named_value_and f.0.now (view f.1) (list_named_values fs)

-- the scope that variables make, the newest last, over an outer one
abbrev pub scope_of : List Named → Scope → Scope
scope_of [] outer = outer
scope_of (x ∷ xs) outer = scope_of xs ((x.0.now, view x.1) ∷ outer)

-- the second list is the first, with more after it
abbrev pub Extends : List Named → List Named → Type 0
Extends xs ys = (more : List Named) × (ys ≡ xs ++ more)
