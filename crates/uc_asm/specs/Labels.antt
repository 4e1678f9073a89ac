-- Labels: where they are declared, and what a text means by them.
use Rattle.std.specs.Prelude.{◌≡◌, ℕ, ◌+◌, ◌<◌, List, [], ◌∷◌, length}
use Rattle.uc_isa.specs.Code.{CodeView}
use Rattle.uc_isa.specs.Lawful.{IsLawful, IsFirstBroken}
use Rattle.uc_isa.specs.declared.instruction.Instr.{Instr}
use Rattle.uc_isa.specs.declared.instruction.Instr.TheVariants.{Br}
use Rattle.uc_asm.specs.Items.{Item, label, plain, jump, count, Stands, IsAt, Misnames, IsInstruction}
use Rattle.uc_asm.specs.Text.{Reads}

-- no name is declared twice, and each target is declared
abbrev pub AreNamed : List Item → Type 0
AreNamed items = (front back : List Item) (item : Item) → Stands items front item back → ¬ Misnames items front item

-- the first item with a name that is declared before, or isn't declared
pub record FirstMisnamed (items front : List Item) : Type 0 where
  pub item : Item
  pub back : List Item
  pub stands : Stands items front item back
  pub misnamed : Misnames items front item
  pub first : (earlier rest : List Item) (other : Item) → Stands items earlier other rest → length earlier < length front → ¬ Misnames items earlier other

-- the instructions of items, each label in its place
abbrev pub AreResolved : List Item → List Item → List Instr → Type 0
AreResolved all [] list = list ≡ []
AreResolved all (label name ∷ items) list = AreResolved all items list
AreResolved all (plain i ∷ items) list = (rest : List Instr) × (list ≡ i ∷ rest) × AreResolved all items rest
AreResolved all (jump cond name ∷ items) list = (place : ℕ) × (rest : List Instr) × IsAt all name place × (list ≡ Br cond place ∷ rest) × AreResolved all items rest

-- what the bytes say, lawful or not
pub record Says (bytes : List ℕ) (params : ℕ) (items : List Item) (list : List Instr) : Type 0 where
  pub reads : Reads bytes params items
  pub named : AreNamed items
  pub resolved : AreResolved items items list

-- the bytes are a text of this lawful code
pub record IsCodeOf (bytes : List ℕ) (c : CodeView) : Type 0 where
  pub items : List Item
  pub says : Says bytes c.params items c.list
  pub lawful : IsLawful c.list

-- line n is the first whose name is declared before or isn't declared; line 1 isn't one of the items
pub record IsLabelError (bytes : List ℕ) (n : ℕ) : Type 0 where
  pub params : ℕ
  pub items : List Item
  pub front : List Item
  pub reads : Reads bytes params items
  pub first : FirstMisnamed items front
  pub line : n ≡ length front + 2

-- line n is that of the first instruction that breaks a rule, and this is the least that it breaks
pub record IsUnlawfulError (bytes : List ℕ) (n rule : ℕ) : Type 0 where
  pub params : ℕ
  pub items : List Item
  pub list : List Instr
  pub front : List Item
  pub item : Item
  pub back : List Item
  pub says : Says bytes params items list
  pub stands : Stands items front item back
  pub instruction : IsInstruction item
  pub broken : IsFirstBroken list (count front) rule
  pub line : n ≡ length front + 2
