-- What stands between two tokens: the ends of lines, and comments.
use Rattle.std.specs.Prelude.{ℕ, ◌-◌, ◌*◌, List, [], ◌∷◌, ◌++◌, length, take, drop, map, replicate, Bool, ◌||◌, ◌==◌, nat_lt, if◌then◌else◌}
use Rattle.std.specs.Char.{is_ascii_whitespace}
use Rattle.std.specs.List.{prefix_len, suffix_len, slice_split}
use Rattle.nova_fmt.specs.declared.kind.Kind.{Kind}
use Rattle.nova_fmt.specs.Kinds.{is_start, joined}

-- without the blanks at the end
abbrev pub without_end : List ℕ → List ℕ
without_end bytes = take (length bytes - suffix_len is_ascii_whitespace bytes) bytes

-- without the blanks at both ends
abbrev pub trimmed : List ℕ → List ℕ
trimmed bytes = without_end (drop (prefix_len is_ascii_whitespace bytes) bytes)

-- the lines of a gap without the blanks at their ends, so that each is empty or a comment
abbrev pub lines : List ℕ → List (List ℕ)
lines gap = map trimmed (slice_split (λ b. b == 10) gap)

-- two spaces for each level
abbrev pub indent : ℕ → List ℕ
indent level = replicate (2 * level) 32

-- a comment behind a token has a space before it, one that begins the text has none
abbrev pub behind : Kind → List ℕ → List ℕ
behind last [] = []
behind last (b ∷ bs) = (if is_start last then [] else 32 ∷ []) ++ b ∷ bs

-- a comment on a line of its own stands at a level
abbrev pub below : ℕ → List ℕ → List ℕ
below level [] = []
below level (b ∷ bs) = indent level ++ b ∷ bs

-- each line end stays, and a comment on its line
abbrev pub more_lines : ℕ → List (List ℕ) → List ℕ
more_lines level [] = []
more_lines level (line ∷ lines) = 10 ∷ (below level line ++ more_lines level lines)

-- line ends and comments behind a token, up to the blanks before the next one
abbrev pub comments : Kind → ℕ → List (List ℕ) → List ℕ
comments last level [] = []
comments last level (line ∷ lines) = behind last line ++ more_lines level lines

-- the token after the gap begins a line
abbrev pub begins_line : Kind → List (List ℕ) → Bool
begins_line last lines = is_start last || nat_lt 1 (length lines)

-- the blanks before a token
abbrev pub blanks : Kind → Kind → Bool → ℕ → List ℕ
blanks last next is_first level = if is_first then indent level else (if joined last next then [] else 32 ∷ [])
