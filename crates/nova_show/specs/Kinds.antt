-- What instructions are for, and what those of each kind cost.
use Rattle.std.specs.Prelude.{◌≡◌, ℕ, ◌+◌, ◌*◌, ◌≤◌, Bool, true, false, List, count_by, if◌then◌else◌, nat_eq}
use Rattle.uc_isa.specs.Moves.{weight}
use Rattle.uc_isa.specs.declared.instruction.Dst.TheVariants.{Nowhere}
use Rattle.uc_isa.specs.declared.instruction.UnOp.TheVariants.{Copy}
use Rattle.uc_isa.specs.declared.instruction.Instr.{Instr}
use Rattle.uc_isa.specs.declared.instruction.Instr.TheVariants.{Immed, Un}
use Rattle.nova_show.specs.declared.kind.Kind.{Kind}
use Rattle.nova_show.specs.declared.kind.Kind.TheVariants.{Within, Between, Literal, Spill, Other}
use Rattle.nova_show.specs.declared.counts.Counts.{Counts}

-- the instruction copies a value somewhere
abbrev pub is_copy : Instr → Bool
is_copy (Un Nowhere op x) = false
is_copy (Un d Copy x) = true
is_copy i = false

-- what an instruction of this weight is for, by whether it is a copy
abbrev pub kind_by : Bool → ℕ → Kind
kind_by copies w = if nat_eq w 16 then Spill else if nat_eq w 1 then Between else if copies then Within else Other

-- a number of the code is a literal; else what weighs 16 is an access to a slot, what weighs 1 a copy between banks, and a copy
-- that weighs nothing is one within a bank, or by way of A15
abbrev pub kind : Instr → Kind
kind (Immed d v s) = Literal
kind i = kind_by (is_copy i) (weight i)

-- both are one kind
abbrev pub same_kind : Kind → Kind → Bool
same_kind Within Within = true
same_kind Between Between = true
same_kind Literal Literal = true
same_kind Spill Spill = true
same_kind Other Other = true
same_kind k l = false

-- how many instructions are of a kind
abbrev pub number_of : Kind → List Instr → ℕ
number_of k list = count_by (λ i. same_kind k (kind i)) list

-- a copy between banks costs 1, an access to a slot 16, and nothing else anything
abbrev pub kind_weight : Kind → ℕ
kind_weight Between = 1
kind_weight Spill = 16
kind_weight _ = 0

-- what so many instructions of each kind cost together
abbrev pub cost_of : Counts → ℕ
cost_of c = c.between + 16 * c.spills

-- no kind has more instructions than there are
pub record AreParts (c : Counts) : Type 0 where
  pub within : c.within ≤ c.all
  pub between : c.between ≤ c.all
  pub literals : c.literals ≤ c.all
  pub spills : c.spills ≤ c.all

-- each count is the number of instructions of its kind
pub record AreNumbers (c : Counts) (list : List Instr) : Type 0 where
  pub within : c.within ≡ number_of Within list
  pub between : c.between ≡ number_of Between list
  pub literals : c.literals ≡ number_of Literal list
  pub spills : c.spills ≡ number_of Spill list

-- with one instruction of a kind more
pub record AddsOne (k : Kind) (old new : Counts) : Type 0 where
  pub within : new.within ≡ old.within + (if same_kind Within k then 1 else 0)
  pub between : new.between ≡ old.between + (if same_kind Between k then 1 else 0)
  pub literals : new.literals ≡ old.literals + (if same_kind Literal k then 1 else 0)
  pub spills : new.spills ≡ old.spills + (if same_kind Spill k then 1 else 0)
