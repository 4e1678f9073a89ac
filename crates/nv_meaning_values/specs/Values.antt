-- The values of the language, their words, and how patterns take them apart.
use Rattle.std.specs.Prelude.{ℕ, ◌==◌, Bool, true, false, not, if◌then◌else◌, List, [], ◌∷◌, ◌++◌, bytes_eq, slice_index, drop}
use Rattle.nv_ast.specs.Tree.{PatternTree, NamePattern, AnyPattern, TuplePattern, PatternTrees, pattern_and}
use Rattle.nv_ast.specs.Types.{Ty, WordTy, BoolTy, TupleTy, RecordTy, Tys, no_tys, ty_and, NamedTys, no_named_tys, named_ty_and, words}

mutual
  -- a word, a truth, a tuple, or a record of named values
  pub data Value : Type 0 where
    Word : (w : ℕ) → Value
    Truth : (b : Bool) → Value
    Tuple : (parts : Values) → Value
    Record : (fields : NamedValues) → Value

  pub data Values : Type 0 where
    no_values : Values
    value_and : (v : Value) (vs : Values) → Values

  pub data NamedValues : Type 0 where
    no_named_values : NamedValues
    named_value_and : (name : List ℕ) (v : Value) (vs : NamedValues) → NamedValues

-- ---- the words of a value, in order; true is 1 and false 0
abbrev mutual
  pub words_of : Value → List ℕ
  words_of (Word w) = w ∷ []
  words_of (Truth b) = (if b then 1 else 0) ∷ []
  words_of (Tuple vs) = all_words vs
  words_of (Record fs) = all_named_words fs

  pub all_words : Values → List ℕ
  all_words no_values = []
  all_words (value_and v vs) = words_of v ++ all_words vs

  pub all_named_words : NamedValues → List ℕ
  all_named_words no_named_values = []
  all_named_words (named_value_and x v vs) = words_of v ++ all_named_words vs

-- ---- some words as a value: one is itself, others are their tuple
abbrev pub word_values : List ℕ → Values
word_values [] = no_values
word_values (w ∷ ws) = value_and (Word w) (word_values ws)

abbrev pub words_value : List ℕ → Value
words_value (w ∷ []) = Word w
words_value ws = Tuple (word_values ws)

-- ---- the value of a type whose words begin a list
abbrev mutual
  pub value_from : Ty → List ℕ → Value
  value_from WordTy ws = Word (slice_index ws 0)
  value_from BoolTy ws = Truth (not (slice_index ws 0 == 0))
  value_from (TupleTy ts) ws = Tuple (values_from ts ws)
  value_from (RecordTy ts) ws = Record (named_values_from ts ws)

  pub values_from : Tys → List ℕ → Values
  values_from no_tys ws = no_values
  values_from (ty_and t ts) ws = value_and (value_from t ws) (values_from ts (drop (words t) ws))

  pub named_values_from : NamedTys → List ℕ → NamedValues
  named_values_from no_named_tys ws = no_named_values
  named_values_from (named_ty_and x t ts) ws = named_value_and x (value_from t ws) (named_values_from ts (drop (words t) ws))

-- ---- parts of values. What a typed program never asks for has a harmless answer: 0, false or no part.
abbrev pub word_of : Value → ℕ
word_of (Word w) = w
word_of _ = 0

abbrev pub truth_of : Value → Bool
truth_of (Truth b) = b
truth_of _ = false

abbrev pub fields_of : Value → NamedValues
fields_of (Record fs) = fs
fields_of _ = no_named_values

-- the value of a field
abbrev pub field_named : List ℕ → NamedValues → Value
field_named x no_named_values = Word 0
field_named x (named_value_and y v vs) = if bytes_eq x y then v else field_named x vs

-- whether there is such a field
abbrev pub has_field : List ℕ → NamedValues → Bool
has_field x no_named_values = false
has_field x (named_value_and y v vs) = if bytes_eq x y then true else has_field x vs

-- the fields of one record and then those of another
infixr 5 ◌++_fields◌
abbrev pub ◌++_fields◌ : NamedValues → NamedValues → NamedValues
no_named_values ++_fields ws = ws
named_value_and x v vs ++_fields ws = named_value_and x v (vs ++_fields ws)

-- ---- the variables in scope with their values, the newest first
abbrev pub Scope : Type 0
Scope = List (List ℕ × Value)

-- the value of a variable
abbrev pub variable_in : Scope → List ℕ → Value
variable_in [] x = Word 0
variable_in ((y, v) ∷ scope) x = if bytes_eq x y then v else variable_in scope x

-- the scope with the variables of a pattern in front, the pattern's parts from left to right
abbrev mutual
  pub matched : PatternTree → Value → Scope → Scope
  matched (NamePattern x) v scope = (x, v) ∷ scope
  matched AnyPattern v scope = scope
  matched (TuplePattern ps) (Tuple vs) scope = all_matched ps vs scope
  matched (TuplePattern ps) _ scope = scope

  pub all_matched : PatternTrees → Values → Scope → Scope
  all_matched (pattern_and p ps) (value_and v vs) scope = all_matched ps vs (matched p v scope)
  all_matched _ _ scope = scope
