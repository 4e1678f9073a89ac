-- What a message is, by the members that it has.
use Rattle.std.specs.Prelude.{ℕ, List, [], Bool, ◌||◌, if◌then◌else◌, Option, Some, None, is_some, unwrap_or, option_and_then, codes}
use Rattle.serde_json.specs.Data.{Data}
use Rattle.serde_json.specs.Find.{get, as_str, as_number, as_u64, as_i64}
use Rattle.serde_json.specs.View.{view}
use Rattle.nova_lsp.specs.declared.kind.Kind.{Kind}
use Rattle.nova_lsp.specs.declared.kind.Kind.TheVariants as kinds

-- what may be the id of a request: a text or a whole number
abbrev pub is_id : Data → Bool
is_id d = is_some (as_str d) || (is_some (option_and_then as_u64 (as_number d)) || is_some (option_and_then as_i64 (as_number d)))

-- whether a member is a text
abbrev pub has_text : List ℕ → Data → Bool
has_text name d = is_some (option_and_then as_str (get name d))

-- whether there is a result or an error, as a response has it
abbrev pub has_result : Data → Bool
has_result d = is_some (get (codes "result") d) || is_some (get (codes "error") d)

-- the method of a message, or the empty text
abbrev pub method_of : Data → List ℕ
method_of d = unwrap_or (option_and_then as_str (get (codes "method") d)) []

-- A request has a method and an id, a notice a method alone, and a response an id and a result or an error.
pub data Sort : Type 0 where
  request : Data → Sort
  notice : Sort
  response : Sort
  invalid : Sort

-- what a message with this id is, where these are what else there is
abbrev pub sort_from : Option Data → Bool → Bool → Sort
sort_from None has_method has_result = if has_method then notice else invalid
sort_from (Some id) has_method has_result = if is_id id then (if has_method then request id else (if has_result then response else invalid)) else invalid

abbrev pub sort_of : Data → Sort
sort_of d = sort_from (get (codes "id") d) (has_text (codes "method") d) (has_result d)

-- what the code found
abbrev pub sort_in : Kind → Sort
sort_in (kinds.Request id) = request (view id.now)
sort_in kinds.Notice = notice
sort_in kinds.Response = response
sort_in kinds.Invalid = invalid
