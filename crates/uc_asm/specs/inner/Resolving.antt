-- What the assembler makes of the items, by the first declaration of each name.
use Rattle.std.specs.Prelude.{◌≡◌, ℕ, ◌+◌, List, length}
use Rattle.uc_asm.specs.Items.{Item, count, Stands, IsInstruction}
use Rattle.uc_asm.specs.Labels.{FirstMisnamed}
use Rattle.uc_asm.specs.declared.error.AsmError.{AsmError}
use Rattle.uc_asm.specs.declared.error.AsmError.TheVariants.{NoMemory, Syntax, Label, Unlawful}

-- memory exhaustion, or the line of the first item with a name's fault
abbrev pub IsNameError : List Item → AsmError → Type 0
IsNameError items NoMemory = Unit {0}
IsNameError items (Syntax n) = ⊥
IsNameError items (Label n) = (front : List Item) × FirstMisnamed items front × (n ≡ length front + 2)
IsNameError items (Unlawful n rule) = ⊥

-- the line of the instruction at a place
pub record IsLineOf (items : List Item) (place n : ℕ) : Type 0 where
  pub front : List Item
  pub item : Item
  pub back : List Item
  pub stands : Stands items front item back
  pub instruction : IsInstruction item
  pub before : count front ≡ place
  pub line : n ≡ length front + 2
