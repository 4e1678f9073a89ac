-- What is read from the input: a message at a time, each a head and then as many bytes as it tells.
use Rattle.std.specs.Prelude.{◌≡◌, ℕ, ◌^◌, ◌<◌, ◌≤◌, Option, Some, None, List, ◌++◌, length, ⊤, Vec}
use Rattle.std.specs.Io.KnownBytes.{IsAtEnd}
use Rattle.std.specs.Global.{Global}
use Rattle.nova_lsp.specs.Heads.{IsHead}
use Rattle.nova_lsp.specs.declared.frame.Incoming.{Incoming}
use Rattle.nova_lsp.specs.declared.frame.Incoming.TheVariants as incoming
use Rattle.nova_lsp.specs.declared.input.Short.{Short}
use Rattle.nova_lsp.specs.declared.input.Short.TheVariants as shorts

-- the longest content that is read
abbrev pub longest : ℕ
longest = 2 ^ 24

-- a whole message
pub record IsMessage (bytes content : List ℕ) : Type 0 where
  pub head : List ℕ
  pub told : IsHead head (Some (length content))
  pub spelled : bytes ≡ head ++ content

-- the bytes have no whole head at their front, or fewer bytes behind it than it tells
abbrev pub IsCut : List ℕ → Type 0
IsCut bytes = (head rest : List ℕ) (told : Option ℕ) → IsHead head told → bytes ≡ head ++ rest → (n : ℕ) × (told ≡ Some n) × (length rest < n)

-- what the bytes are that were taken from the input
abbrev pub IsRead : List ℕ → Incoming → Type 0
IsRead bytes (incoming.Content content) = IsMessage bytes content.items × (length content.items ≤ longest)
IsRead bytes incoming.NoLength = IsHead bytes None
IsRead bytes incoming.TooLong = (content : List ℕ) × IsMessage bytes content × (longest < length content)
IsRead bytes incoming.NoMemory = (content : List ℕ) × IsMessage bytes content × (length content ≤ longest)
IsRead bytes incoming.End = IsCut bytes
IsRead bytes incoming.Failed = ⊤

-- no more bytes come, or reading failed
abbrev pub IsOver : Option (List ℕ) → Short → Type 0
IsOver left shorts.End = IsAtEnd left
IsOver left shorts.Failed = ⊤

-- the bytes of a content that came, where they are kept
abbrev pub IsKeptOf : ℕ → Option (Vec ℕ Global) → List ℕ → Type 0
IsKeptOf n None bytes = ⊤
IsKeptOf n (Some kept) bytes = (kept.items ≡ bytes) × (n ≤ longest)

-- what the bytes of a content are for whom so many are told
abbrev pub IsContent : ℕ → List ℕ → Incoming → Type 0
IsContent n bytes (incoming.Content content) = (content.items ≡ bytes) × (length bytes ≡ n) × (n ≤ longest)
IsContent n bytes incoming.NoLength = ⊥
IsContent n bytes incoming.TooLong = (length bytes ≡ n) × (longest < n)
IsContent n bytes incoming.NoMemory = (length bytes ≡ n) × (n ≤ longest)
IsContent n bytes incoming.End = length bytes < n
IsContent n bytes incoming.Failed = ⊤
