-- What is wanted of an expression, by numbers; and how one expression is judged.
use Rattle.std.specs.Prelude.{◌≡◌, ℕ, true, List, [], ◌++◌, Option, None, Some, option_to_list}
use Rattle.nv_ast.specs.declared.token.Span.{Span}
use Rattle.nv_ast.specs.Types.{Ty, Tys, RecordForm, Forms, can_pack}
use Rattle.nv_ast.specs.Faults.{Fault as FaultAt, at_span, Expected as ExpectedTree, anything, a_value, of_type, same_as, expected_stored, other_type, no_value, too_large_value, all_wanted}
use Rattle.nv_types_scopes.specs.declared.expected.Expected.{Expected}
use Rattle.nv_types_scopes.specs.declared.expected.Expected.TheVariants.{Anything, Value, Typed, Same, Packed, Stored}
use Rattle.nv_types_table.specs.inner.Store.{Store, IsType, IsParts, IsForms}

-- a value that can be packed by the record of some forms
abbrev pub packed_by : Forms → ExpectedTree
packed_by fs = record { value = true; right = can_pack (RecordForm fs) }

abbrev pub IsExpected : Store → Expected → ExpectedTree → Type 0
IsExpected s Anything w = w ≡ anything
IsExpected s Value w = w ≡ a_value
IsExpected s (Typed i) w = (t : Ty) × IsType s i t × (w ≡ of_type t)
IsExpected s (Same i) w = (t : Ty) × IsType s i t × (w ≡ same_as (Some t))
IsExpected s (Packed i) w = (fs : Forms) × IsForms s i fs × (w ≡ packed_by fs)
IsExpected s Stored w = w ≡ expected_stored

-- what is wanted of arguments: values, or in turn the types of a list
abbrev pub AreExpected : Store → Option ℕ → List ExpectedTree → Type 0
AreExpected s None ws = ws ≡ []
AreExpected s (Some i) ws = (ts : Tys) × IsParts s i ts × (ws ≡ all_wanted ts)

-- the faults of one expression, where these kinds are the first of its own
abbrev pub judged_faults : Span → ExpectedTree → Option Ty → Option ℕ → Option ℕ → List FaultAt
judged_faults s w t low middle = at_span s (option_to_list low ++ (other_type w t ++ (option_to_list middle ++ (no_value w t ++ too_large_value t))))
