-- What is known of a line and of a head while they are read.
use Rattle.std.specs.Prelude.{◌≡◌, ℕ, ◌<◌, Option, List, ◌++◌, length, ⊤, MatchBool}
use Rattle.std.specs.Io.KnownBytes.{IsAtEnd}
use Rattle.nova_lsp.specs.Heads.{IsHead}
use Rattle.nova_lsp.specs.declared.head.Line.{Line}
use Rattle.nova_lsp.specs.declared.input.Short.{Short}
use Rattle.nova_lsp.specs.declared.input.Short.TheVariants as shorts

-- a line of at most 64 bytes is kept whole
abbrev pub IsKept : Line → List ℕ → Type 0
IsKept kept line = MatchBool kept.is_long (64 < length line) (kept.front.items ≡ line)

-- no whole head stands at the front of the bytes, and no more bytes came; or reading failed
abbrev pub IsHeadless : List ℕ → Option (List ℕ) → Short → Type 0
IsHeadless bytes left shorts.End = ((head rest : List ℕ) (told : Option ℕ) → IsHead head told → bytes ≡ head ++ rest → ⊥) × IsAtEnd left
IsHeadless bytes left shorts.Failed = ⊤
