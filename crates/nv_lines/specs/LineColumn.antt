-- Where a byte of a text stands, for a person: its line and its column, both counted from 1.
use Rattle.std.specs.Prelude.{◌+◌, ◌==◌, ℕ, List, take, reverse, count_by, take_while, not, length}

-- one more than the line feeds before the byte at a place
abbrev pub line_at : List ℕ → ℕ → ℕ
line_at text line_column = count_by (λ byte. byte == 10) (take line_column text) + 1

-- one more than the bytes between the last line feed before a place and this place
abbrev pub column_at : List ℕ → ℕ → ℕ
column_at text line_column = length (take_while (λ byte. not (byte == 10)) (reverse (take line_column text))) + 1
