-- What is sent for a message.
use Rattle.std.specs.Prelude.{◌≡◌, ℕ, ℤ, List, not, Option, Some, None, MatchOption, is_some, option_and_then, codes, ⊤}
use Rattle.serde_json.specs.Data.{Data}
use Rattle.serde_json.specs.Find.{get, as_number, as_i64}
use Rattle.serde_json.specs.Read.{read}
use Rattle.nova_lsp.specs.declared.envelope.Reply.{Reply}
use Rattle.nova_lsp.specs.declared.envelope.Reply.TheVariants.{Nothing, Content, NoMemory}

-- the number of an error
abbrev pub error_code : Data → Option ℤ
error_code d = option_and_then (λ error. option_and_then (λ code. option_and_then as_i64 (as_number code)) (get (codes "code") error)) (get (codes "error") d)

-- the content is JSON with this id, and with a result or an error, but not both
pub record IsAnswer (id : Data) (content : List ℕ) : Type 0 where
  pub value : Data
  pub reads : read content ≡ Some value
  pub has_id : get (codes "id") value ≡ Some id
  pub one : is_some (get (codes "result") value) ≡ not (is_some (get (codes "error") value))

-- the content is JSON with this id, no result, and an error with this number
pub record IsRefusal (id : Data) (code : ℤ) (content : List ℕ) : Type 0 where
  pub value : Data
  pub reads : read content ≡ Some value
  pub has_id : get (codes "id") value ≡ Some id
  pub no_result : get (codes "result") value ≡ None
  pub has_code : error_code value ≡ Some code

-- the content is JSON without an id
abbrev pub IsNotice : List ℕ → Type 0
IsNotice content = (d : Data) × (read content ≡ Some d) × (get (codes "id") d ≡ None)

-- What is sent where an answer with this id is wanted, or none. Want of memory is told in any case.
abbrev pub IsReply : Option Data → Reply → Type 0
IsReply id Nothing = id ≡ None
IsReply id (Content content) = MatchOption id (IsNotice content.items) (λ i. IsAnswer i content.items)
IsReply id NoMemory = ⊤

-- What is sent for a refusal with this number. Want of memory is told in any case.
abbrev pub IsRefused : Data → ℤ → Reply → Type 0
IsRefused id code Nothing = ⊥
IsRefused id code (Content content) = IsRefusal id code content.items
IsRefused id code NoMemory = ⊤
