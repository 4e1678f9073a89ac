-- Bytes that begin with the header of an object.
use Rattle.std.specs.Prelude.{◌≡◌, ℕ, ◌<◌, ◌≤◌, ◌^◌, ◌⊎◌, List, ◌++◌, length, drop}
use Rattle.std.specs.Int.{to_le_bytes, w32}
use Rattle.uc_object.specs.Object.{header_of, first_version, second_version}

-- the bytes are the header of a version, of so many parameters and instructions, and the rest
pub record HasHeader (bytes : List ℕ) (version params count : ℕ) (rest : List ℕ) : Type 0 where
  pub layout : bytes ≡ header_of version params count ++ rest
  pub known : (version ≡ first_version) ⊎ (version ≡ second_version)
  pub arguments : params ≤ 8
  pub some : 1 ≤ count
  pub few : count < 2 ^ 31

-- after a header of version 2 there are these numbers of exceptions and of starts
pub record HasCounts (bytes : List ℕ) (exceptions starts : ℕ) : Type 0 where
  pub long : 20 ≤ length bytes
  pub layout : drop 12 bytes ≡ to_le_bytes w32 exceptions ++ (to_le_bytes w32 starts ++ drop 20 bytes)
  pub few_exceptions : exceptions < 65536
  pub few_starts : starts < 1048577
