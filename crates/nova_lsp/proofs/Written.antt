-- What was written for a reply.
use Rattle.std.proofs.Common.{◌≡◌, ℕ, List, [], ◌++◌, Vec, append-nil, sym, refl, subst, codes}
use Rattle.std.specs.Global.{Global}
use Rattle.serde_json.specs.Data.{null}
use Rattle.nova_lsp.specs.Codes.{internal_error}
use Rattle.nova_lsp.specs.Frames.{frame, AppendsReply}
use Rattle.nova_lsp.specs.Replies.{IsRefusal}
use Rattle.nova_lsp.specs.declared.envelope.Reply.{Reply}
use Rattle.nova_lsp.specs.declared.envelope.Reply.TheVariants.{Nothing, Content, NoMemory}
use Rattle.nova_lsp.proofs.Refusals.{no_memory}

pub nothing : (reply : Reply) (old : List ℕ) → reply ≡ Nothing → AppendsReply reply old old
nothing reply old is = subst (λ r. AppendsReply r old old) (sym is) ([], refl, sym (append-nil old))

pub content : (reply : Reply) (bytes : Vec ℕ Global) (old new : List ℕ) → reply ≡ Content bytes → new ≡ old ++ frame bytes.items → AppendsReply reply old new
content reply bytes old new is h = subst (λ r. AppendsReply r old new) (sym is) (frame bytes.items, refl, h)

pub out_of_memory : (reply : Reply) (bytes old new : List ℕ) → reply ≡ NoMemory
    → bytes ≡ codes "{\"jsonrpc\":\"2.0\",\"id\":null,\"error\":{\"code\":-32603,\"message\":\"out of memory\"}}" → new ≡ old ++ frame bytes → AppendsReply reply old new
out_of_memory reply bytes old new is e h =
    subst (λ r. AppendsReply r old new) (sym is) (frame bytes, (bytes, subst (IsRefusal null internal_error) (sym e) no_memory, refl), h)
