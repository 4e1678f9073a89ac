-- What an item gives, by the first declaration of each name.
use Rattle.std.specs.Prelude.{◌≡◌, ℕ, List}
use Rattle.uc_isa.specs.declared.instruction.Instr.TheVariants.{Br}
use Rattle.uc_asm.specs.Items.{Item, label, plain, jump, IsAt, IsDeclared, Misnames}
use Rattle.uc_asm.specs.declared.given.Resolved.{Resolved}
use Rattle.uc_asm.specs.declared.given.Resolved.TheVariants.{Instruction, Nothing, Misnamed}

-- what an item behind `front` gives: an instruction with its target in place, nothing for a label, or a name's fault
abbrev pub Gives : List Item → List Item → Item → Resolved → Type 0
Gives items front item Misnamed = Misnames items front item
Gives items front (label name) Nothing = ¬ IsDeclared front name
Gives items front (label name) (Instruction i) = ⊥
Gives items front (plain j) Nothing = ⊥
Gives items front (plain j) (Instruction i) = i ≡ j
Gives items front (jump cond name) Nothing = ⊥
Gives items front (jump cond name) (Instruction i) = (place : ℕ) × IsAt items name place × (i ≡ Br cond place)
