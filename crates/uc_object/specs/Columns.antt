-- Which bytes may stand at each place of an object, by the bytes before it.
use Rattle.std.specs.Prelude.{◌≡◌, ◌==◌, ℕ, zero, suc, ◌+◌, ◌<◌, ◌≤◌, ◌⊎◌, List, [], ◌∷◌, nat_lt, nat_le, min, replicate, slice_index, if◌then◌else◌}
use Rattle.nv_base.specs.Name.{IsLetter, IsDigit}
use Rattle.uc_object.specs.declared.byte_set.Column.{Column}
use Rattle.uc_object.specs.declared.byte_set.Column.TheVariants.{Between, Source, Target, First, Further}

-- the byte may stand there: one of a range, of an operand, of the place of a result, or of a name
abbrev pub Allows : Column → ℕ → Type 0
Allows (Between low high) byte = (low ≤ byte) × (byte ≤ high)
Allows Source byte = (byte < 40) ⊎ (48 ≤ byte) × (byte < 56)
Allows Target byte = (byte < 32) ⊎ (64 ≤ byte) × (byte < 72) ⊎ (80 ≤ byte) × (byte < 88) ⊎ (byte ≡ 96)
Allows First byte = IsLetter byte
Allows Further byte = IsLetter byte ⊎ IsDigit byte

-- only this byte
abbrev pub only : ℕ → Column
only byte = Between byte byte

-- any byte
abbrev pub any : Column
any = Between 0 255

-- the places of a row, by its kind, and by its second byte, which matters where a shift has a count
abbrev pub row_columns : ℕ → ℕ → List Column
row_columns kind operation = Between 0 6 ∷ (
    if kind == 0 then Between 0 4 ∷ Target ∷ Source ∷ Source ∷ only 0 ∷ only 0 ∷ only 0 ∷ []
    else if kind == 1 then Between 0 4 ∷ Target ∷ Source ∷ (if nat_lt operation 2 then only 0 else any) ∷ only 0 ∷ only 0 ∷ only 0 ∷ []
    else if kind == 2 then any ∷ Target ∷ only 0 ∷ any ∷ any ∷ only 0 ∷ only 0 ∷ []
    else if kind == 3 then Between 0 4 ∷ only 0 ∷ only 0 ∷ any ∷ any ∷ any ∷ any ∷ []
    else if nat_le kind 5 then Between 0 2 ∷ any ∷ any ∷ Between 0 31 ∷ any ∷ only 0 ∷ only 0 ∷ []
    else any ∷ any ∷ any ∷ only 0 ∷ only 0 ∷ only 0 ∷ only 0 ∷ [])

-- the places of a header, of either version, by the first three bytes of its count: the whole count is 1 to 2^31 - 1
abbrev pub header_columns : ℕ → ℕ → ℕ → List Column
header_columns a b c = only 78 ∷ only 86 ∷ only 79 ∷ Between 49 50 ∷ Between 0 8 ∷ only 0 ∷ only 0 ∷ only 0 ∷ any ∷ any ∷ any
    ∷ Between (if a + b + c == 0 then 1 else 0) 127 ∷ []

-- the places of a name of N bytes
abbrev pub name_columns : ℕ → List Column
name_columns zero = []
name_columns (suc more) = First ∷ replicate more Further

-- the places of an exception, by the length of its name, of which more than 64 is itself a fault
abbrev pub exception_columns : ℕ → List Column
exception_columns size = any ∷ any ∷ any ∷ any ∷ Between 1 64 ∷ name_columns (min size 64)

-- the bytes begin with one that may stand there for each of the places
abbrev pub Fit : List Column → List ℕ → Type 0
Fit [] bytes = Unit {0}
Fit (column ∷ columns) [] = ⊥
Fit (column ∷ columns) (byte ∷ bytes) = Allows column byte × Fit columns bytes

-- the first place whose byte isn't there, or may not stand there
abbrev pub IsFault : List Column → List ℕ → ℕ → Type 0
IsFault [] bytes at = ⊥
IsFault (column ∷ columns) [] at = at ≡ 0
IsFault (column ∷ columns) (byte ∷ bytes) zero = ¬ Allows column byte
IsFault (column ∷ columns) (byte ∷ bytes) (suc at) = Allows column byte × IsFault columns bytes at

-- the first place of a row that has a fault, in bytes that begin with the row
abbrev pub IsRowFault : List ℕ → ℕ → Type 0
IsRowFault bytes at = IsFault (row_columns (slice_index bytes 0) (slice_index bytes 1)) bytes at

-- the first place of the header that has a fault
abbrev pub IsHeaderFault : List ℕ → ℕ → Type 0
IsHeaderFault bytes at = IsFault (header_columns (slice_index bytes 8) (slice_index bytes 9) (slice_index bytes 10)) bytes at

-- the first place of an exception that has a fault, in bytes that begin with the exception
abbrev pub IsExceptionFault : List ℕ → ℕ → Type 0
IsExceptionFault bytes at = IsFault (exception_columns (slice_index bytes 4)) bytes at
