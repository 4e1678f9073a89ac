-- The bytes of short objects.
use Rattle.std.specs.Prelude.{ℕ, List, [], ◌∷◌, ◌++◌, codes}
use Rattle.uc_isa.specs.Worked.{sum_code}
use Rattle.uc_isa.specs.declared.instruction.Instr.TheVariants.{Halt}
use Rattle.uc_object.specs.Object.{IsObject}
use Rattle.uc_object.specs.Tagged.{TaggedView}
use Rattle.uc_object.specs.declared.object.Object.TheVariants.{One, Two}

-- two parameters and three instructions: un B0 COPY A1, alu A0 ADD A0 B0, halt 0 1
abbrev pub sum_object : List ℕ
sum_object =
    codes "NVO1" ++ 2 ∷ 0 ∷ 0 ∷ 0 ∷ 3 ∷ 0 ∷ 0 ∷ 0
    ∷ 1 ∷ 0 ∷ 0x10 ∷ 0x01 ∷ 0 ∷ 0 ∷ 0 ∷ 0
    ∷ 0 ∷ 0 ∷ 0x00 ∷ 0x00 ∷ 0x10 ∷ 0 ∷ 0 ∷ 0
    ∷ 6 ∷ 1 ∷ 0 ∷ 0 ∷ 0 ∷ 0 ∷ 0 ∷ 0
    ∷ []

-- halt 1 0, the exception Low of line 3, and a label at place 0
abbrev pub raising : TaggedView
raising = record {
  code = record { params = 0; list = Halt 1 0 ∷ [] };
  exceptions = (3, codes "Low") ∷ [];
  starts = 0 ∷ [];
}

abbrev pub raising_object : List ℕ
raising_object =
    codes "NVO2" ++ 0 ∷ 0 ∷ 0 ∷ 0 ∷ 1 ∷ 0 ∷ 0 ∷ 0
    ∷ 1 ∷ 0 ∷ 0 ∷ 0 ∷ 1 ∷ 0 ∷ 0 ∷ 0
    ∷ 6 ∷ 0 ∷ 1 ∷ 0 ∷ 0 ∷ 0 ∷ 0 ∷ 0
    ∷ 3 ∷ 0 ∷ 0 ∷ 0 ∷ 3 ∷ 0x4c ∷ 0x6f ∷ 0x77
    ∷ 0 ∷ 0 ∷ 0 ∷ 0
    ∷ []

abbrev pub ShortObjects : Type 0
ShortObjects = IsObject sum_object (One sum_code) × IsObject raising_object (Two raising)
