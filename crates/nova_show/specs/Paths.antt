-- The names of files among the words of a command, and in the system.
use Rattle.std.specs.Prelude.{ℕ, Bool, List, codes, bytes_eq, if◌then◌else◌}

-- whether a name is `-`, which is the standard input or the standard output
abbrev pub is_standard : List ℕ → Bool
is_standard name = bytes_eq name (codes "-")

-- the name that an input has in the system
abbrev pub system_path : List ℕ → List ℕ
system_path name = if is_standard name then codes "/dev/stdin" else name
