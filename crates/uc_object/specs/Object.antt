-- Objects: which bytes stand for a code, alone or with the names of its exceptions and the starts of its labels.
use Rattle.std.specs.Prelude.{◌≡◌, ℕ, zero, suc, ◌+◌, ◌<◌, ◌≤◌, ◌^◌, List, [], ◌∷◌, ◌++◌, Option, None, codes, length, take, slice_get}
use Rattle.std.specs.Int.{to_le_bytes, w32}
use Rattle.nv_base.specs.Name.{IsName}
use Rattle.uc_isa.specs.Code.{CodeView, IsCode}
use Rattle.uc_object.specs.Rows.{IsRow}
use Rattle.uc_object.specs.Tagged.{TaggedView, IsTagged}
use Rattle.uc_object.specs.declared.object.Object.{Object}
use Rattle.uc_object.specs.declared.object.Object.TheVariants.{One, Two}

-- the bytes of things, one after another
abbrev pub AreEach : {T : Type 0} → (T → List ℕ → Type 0) → List T → List ℕ → Type 0
AreEach Is [] bytes = bytes ≡ []
AreEach Is (x ∷ xs) bytes = (part : List ℕ) × (rest : List ℕ) × (bytes ≡ part ++ rest) × Is x part × AreEach Is xs rest

-- the four bytes of a number below a bound
abbrev pub IsNumber : ℕ → ℕ → List ℕ → Type 0
IsNumber bound n bytes = (n < bound) × (bytes ≡ to_le_bytes w32 n)

-- the bytes of an exception: the line of its declaration, the length of its name, and the name
abbrev pub IsException : ℕ × List ℕ → List ℕ → Type 0
IsException exception bytes = (exception.0 < 2 ^ 32) × IsName exception.1 × (bytes ≡ to_le_bytes w32 exception.0 ++ length exception.1 ∷ exception.1)

-- the first twelve bytes: a mark that ends with the digit of the version, the number of parameters, three zeros, and the
-- number of instructions
abbrev pub header_of : ℕ → ℕ → ℕ → List ℕ
header_of version params count = codes "NVO" ++ version ∷ params ∷ 0 ∷ 0 ∷ 0 ∷ to_le_bytes w32 count

-- the digits 1 and 2
abbrev pub first_version : ℕ
first_version = 49

abbrev pub second_version : ℕ
second_version = 50

-- the bytes are the object of a code, of version 1: the header, and eight bytes for each instruction
pub record IsCodeObject (bytes : List ℕ) (c : CodeView) : Type 0 where
  pub code : IsCode c
  pub rows : List ℕ
  pub layout : bytes ≡ header_of first_version c.params (length c.list) ++ rows
  pub each : AreEach IsRow c.list rows

-- the bytes are the object of a code with names and starts, of version 2: the header, the numbers of the exceptions and of
-- the starts, and the bytes of the instructions, of the exceptions from number 1 on, and of the starts, each a place of the code
pub record IsTaggedObject (bytes : List ℕ) (t : TaggedView) : Type 0 where
  pub code : IsCode t.code
  pub tagged : IsTagged t
  pub rows : List ℕ
  pub exceptions : List ℕ
  pub starts : List ℕ
  pub layout : bytes ≡ header_of second_version t.code.params (length t.code.list)
      ++ (to_le_bytes w32 (length t.exceptions) ++ (to_le_bytes w32 (length t.starts) ++ (rows ++ (exceptions ++ starts))))
  pub each_row : AreEach IsRow t.code.list rows
  pub each_exception : AreEach IsException t.exceptions exceptions
  pub each_start : AreEach (IsNumber (length t.code.list)) t.starts starts

-- the bytes are this object
abbrev pub IsObject : List ℕ → Object → Type 0
IsObject bytes (One c) = IsCodeObject bytes c
IsObject bytes (Two t) = IsTaggedObject bytes t

-- the code of an object
abbrev pub code_of : Object → CodeView
code_of (One c) = c
code_of (Two t) = t.code

-- the line and the name of the exception of a number, counted from 1, where the object has it
abbrev pub exception_of : Object → ℕ → Option (ℕ × List ℕ)
exception_of (One c) number = None
exception_of (Two t) zero = None
exception_of (Two t) (suc before) = slice_get t.exceptions before

-- the bytes are some object
abbrev pub IsSomeObject : List ℕ → Type 0
IsSomeObject bytes = (o : Object) × IsObject bytes o

-- an object begins with these bytes
abbrev pub BeginsObject : List ℕ → Type 0
BeginsObject front = (rest : List ℕ) × IsSomeObject (front ++ rest)

-- bytes that aren't an object: where they stop to begin one of either version, or their length where they begin one to
-- their end
pub record IsBadPlace (bytes : List ℕ) (at : ℕ) : Type 0 where
  pub inside : at ≤ length bytes
  pub before : BeginsObject (take at bytes)
  pub here : at < length bytes → ¬ BeginsObject (take (at + 1) bytes)
  pub short : at ≡ length bytes → ¬ IsSomeObject bytes
