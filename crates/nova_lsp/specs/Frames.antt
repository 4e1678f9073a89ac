-- How contents stand in what is sent: each with its length before it.
use Rattle.std.specs.Prelude.{◌≡◌, ℕ, List, [], ◌∷◌, ◌++◌, length, codes, decimal}
use Rattle.serde_json.specs.Data.{null}
use Rattle.nova_lsp.specs.Codes.{internal_error}
use Rattle.nova_lsp.specs.Replies.{IsRefusal}
use Rattle.nova_lsp.specs.declared.envelope.Reply.{Reply}
use Rattle.nova_lsp.specs.declared.envelope.Reply.TheVariants.{Nothing, Content, NoMemory}

-- a content with its length before it, and an empty line between
abbrev pub frame : List ℕ → List ℕ
frame content = codes "Content-Length: " ++ (decimal (length content) ++ (13 ∷ 10 ∷ 13 ∷ 10 ∷ content))

-- what is written for a reply; without memory for it, a refusal that says so
abbrev pub IsWritten : Reply → List ℕ → Type 0
IsWritten Nothing bytes = bytes ≡ []
IsWritten (Content content) bytes = bytes ≡ frame content.items
IsWritten NoMemory bytes = (content : List ℕ) × IsRefusal null internal_error content × (bytes ≡ frame content)

-- what was written grew by a reply
abbrev pub AppendsReply : Reply → List ℕ → List ℕ → Type 0
AppendsReply reply old new = (bytes : List ℕ) × IsWritten reply bytes × (new ≡ old ++ bytes)
