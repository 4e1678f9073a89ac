-- The lines of an assembly text after the first: what they are, how they are written, and where labels stand among them.
use Rattle.std.specs.Prelude.{◌≡◌, ℕ, ◌+◌, ◌≤◌, ◌⊎◌, List, [], ◌∷◌, ◌++◌, codes, decimal, length, All}
use Rattle.nv_lines.specs.Line.{parted}
use Rattle.uc_isa.specs.declared.instruction.Cond.{Cond}
use Rattle.uc_isa.specs.declared.instruction.Instr.{Instr}
use Rattle.uc_asm.specs.Words.{words, InRange, condition_name}

-- what a line after the first is: a label, an instruction whose target is a place, or a branch to a label
pub data Item : Type 0 where
  label : List ℕ → Item
  plain : Instr → Item
  jump : Cond → List ℕ → Item

abbrev pub IsLetter : ℕ → Type 0
IsLetter c = (65 ≤ c) × (c ≤ 90) ⊎ (97 ≤ c) × (c ≤ 122)

abbrev pub IsNameByte : ℕ → Type 0
IsNameByte c = IsLetter c ⊎ (48 ≤ c) × (c ≤ 57) ⊎ (c ≡ 95)

abbrev pub BeginsWithLetter : List ℕ → Type 0
BeginsWithLetter [] = ⊥
BeginsWithLetter (c ∷ cs) = IsLetter c

-- a label's name: a letter, then letters, digits and `_`, at most 64 in all
pub record IsName (name : List ℕ) : Type 0 where
  pub first : BeginsWithLetter name
  pub bytes : All IsNameByte name
  pub short : length name ≤ 64

-- the line of an instruction
abbrev pub instruction_line : Instr → List ℕ
instruction_line i = parted (words i)

abbrev pub item_line : Item → List ℕ
item_line (label name) = name ++ codes ":"
item_line (plain i) = instruction_line i
item_line (jump cond name) = parted (codes "br" ∷ condition_name cond ∷ name ∷ [])

abbrev pub params_line : ℕ → List ℕ
params_line params = parted (codes "params" ∷ decimal params ∷ [])

-- names have their form, and numbers fit their fields
abbrev pub IsItem : Item → Type 0
IsItem (label name) = IsName name
IsItem (plain i) = InRange i
IsItem (jump cond name) = IsName name

-- how many instructions there are
abbrev pub count : List Item → ℕ
count [] = 0
count (label name ∷ items) = count items
count (plain i ∷ items) = 1 + count items
count (jump cond name ∷ items) = 1 + count items

abbrev pub IsInstruction : Item → Type 0
IsInstruction (label name) = ⊥
IsInstruction (plain i) = Unit {0}
IsInstruction (jump cond name) = Unit {0}

-- an item with those before it and those after it
pub record Stands (items front : List Item) (item : Item) (back : List Item) : Type 0 where
  pub whole : items ≡ front ++ item ∷ back

-- a label is among the items; its place is the number of instructions before it
abbrev pub IsAt : List Item → List ℕ → ℕ → Type 0
IsAt items name place = (front back : List Item) × Stands items front (label name) back × (place ≡ count front)

abbrev pub IsDeclared : List Item → List ℕ → Type 0
IsDeclared items name = (place : ℕ) × IsAt items name place

-- a label that is declared before, or a target that isn't declared
abbrev pub Misnames : List Item → List Item → Item → Type 0
Misnames items front (label name) = IsDeclared front name
Misnames items front (plain i) = ⊥
Misnames items front (jump cond name) = ¬ IsDeclared items name
