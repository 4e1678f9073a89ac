-- A refusal is an answer, and so is what is written where there is no memory for one.
use Rattle.std.proofs.Common.{◌≡◌, ℕ, ℤ, negsuc, List, true, not, Option, Some, None, option_and_then, is_some, codes, refl, sym, ap, ◌∙◌}
use Rattle.std.proofs.lemmas.Option.{none-some}
use Rattle.serde_json.specs.Data.{negative, Data, null, number, string, object, no_members, member}
use Rattle.serde_json.specs.Find.{get, as_number, as_i64}
use Rattle.serde_json.proofs.OnLiterals.{serde_json_on_literals}
use Rattle.nova_lsp.specs.Codes.{internal_error}
use Rattle.nova_lsp.specs.Replies.{IsAnswer, IsRefusal}

-- what has a number is there
has_error : (error : Option Data) (code : ℤ) → option_and_then (λ e. option_and_then (λ c. option_and_then as_i64 (as_number c)) (get (codes "code") e)) error ≡ Some code → is_some error ≡ true
has_error None code h = absurd (none-some code h)
has_error (Some e) code h = refl

pub is_answer : (id : Data) (code : ℤ) (content : List ℕ) → IsRefusal id code content → IsAnswer id content
is_answer id code content r =
    record {
      value = r.value;
      reads = r.reads;
      has_id = r.has_id;
      one = ap is_some r.no_result ∙ sym (ap not (has_error (get (codes "error") r.value) code r.has_code));
    }

-- the value of that text
out_of_memory : Data
out_of_memory =
    let error = object (member (codes "code") (number (negative (negsuc 32602))) (member (codes "message") (string (codes "out of memory")) no_members)) in
    object (member (codes "error") error (member (codes "id") null (member (codes "jsonrpc") (string (codes "2.0")) no_members)))

pub no_memory : IsRefusal null internal_error (codes "{\"jsonrpc\":\"2.0\",\"id\":null,\"error\":{\"code\":-32603,\"message\":\"out of memory\"}}")
unfolding serde_json_on_literals out_of_memory
no_memory = record { value = out_of_memory; reads = refl; has_id = refl; no_result = refl; has_code = refl }
