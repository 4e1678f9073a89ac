-- What is blank: the value of a type whose words are 0, the same with other words, and bits of 0 after a place.
use Rattle.std.specs.Prelude.{◌≡◌, ℕ, ◌-◌, ◌==◌, false, not, List, drop, length, replicate, slice_index}
use Rattle.nv_ast.specs.Types.{Ty, WordTy, BoolTy, TupleTy, RecordTy, Tys, no_tys, ty_and, NamedTys, no_named_tys, named_ty_and}
use Rattle.nv_meaning_values.specs.Values.{Value, Word, Truth, Tuple, Record, Values, no_values, value_and, NamedValues, no_named_values, named_value_and, words_of}

abbrev mutual
  pub blank : Ty → Value
  blank WordTy = Word 0
  blank BoolTy = Truth false
  blank (TupleTy ts) = Tuple (blanks ts)
  blank (RecordTy ts) = Record (named_blanks ts)

  pub blanks : Tys → Values
  blanks no_tys = no_values
  blanks (ty_and t ts) = value_and (blank t) (blanks ts)

  pub named_blanks : NamedTys → NamedValues
  named_blanks no_named_tys = no_named_values
  named_blanks (named_ty_and x t ts) = named_value_and x (blank t) (named_blanks ts)

-- ---- the same form, with the words of a list in order
abbrev mutual
  pub filled : Value → List ℕ → Value
  filled (Word w) ws = Word (slice_index ws 0)
  filled (Truth b) ws = Truth (not (slice_index ws 0 == 0))
  filled (Tuple vs) ws = Tuple (all_filled vs ws)
  filled (Record fs) ws = Record (fields_filled fs ws)

  pub all_filled : Values → List ℕ → Values
  all_filled no_values ws = no_values
  all_filled (value_and v vs) ws = value_and (filled v ws) (all_filled vs (drop (length (words_of v)) ws))

  pub fields_filled : NamedValues → List ℕ → NamedValues
  fields_filled no_named_values ws = no_named_values
  fields_filled (named_value_and x v vs) ws = named_value_and x (filled v ws) (fields_filled vs (drop (length (words_of v)) ws))

-- from a place on all bits are 0
abbrev pub IsBlankFrom : ℕ → List ℕ → Type 0
IsBlankFrom place bs = drop place bs ≡ replicate (length bs - place) 0
