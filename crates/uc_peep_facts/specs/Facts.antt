-- Facts at places of code: instructions that would change nothing there.
use Rattle.std.specs.Prelude.{◌≡◌, ◌<◌, ◌⊎◌, ℕ, suc, Bool, true, false, not, List, [], Option, Some, None, length, take, slice_get, slice_index}
use Rattle.nv_base.specs.Memories.{HasSizes, Memories}
use Rattle.uc_isa.specs.Engine.{IsEngine}
use Rattle.uc_isa.specs.Registers.{IsRegister, source_register, target_register}
use Rattle.uc_isa.specs.Step.{Next, effect}
use Rattle.uc_isa.specs.declared.engine.Engine.{Engine}
use Rattle.uc_isa.specs.declared.instruction.Dst.{Dst}
use Rattle.uc_isa.specs.declared.instruction.Dst.TheVariants.{Nowhere}
use Rattle.uc_isa.specs.declared.instruction.Src.{Src}
use Rattle.uc_isa.specs.declared.instruction.Instr.{Instr}
use Rattle.uc_isa.specs.declared.instruction.Instr.TheVariants.{Alu, Un, Immed}
use Rattle.uc_isa.specs.Program.{IsFormed}
use Rattle.uc_isa.specs.Resources.{IsNext, IsResource, Resource, is_flag, is_zero, reads, value, writes}
use Rattle.uc_isa.specs.Resources.Resource.{Zero as ZeroFlag, Carry as CarryFlag}
use Rattle.uc_isa.specs.Starts.{IsLabelStart}
use Rattle.uc_isa.specs.StraightCode.{IsEntered, IsStraight}
use Rattle.uc_isa.specs.Visits.{access}
use Rattle.uc_peep.specs.Kept.{is_gone}
use Rattle.uc_peep.specs.Needless.{is_wanted}
use Rattle.uc_peep.specs.Sets.{AgreeOn, has}
use Rattle.uc_peep.specs.Window.{filler}
use Rattle.uc_peep_facts.specs.declared.fact.Fact.{Fact}
use Rattle.uc_peep_facts.specs.declared.fact.Facts.{Facts}
use Rattle.uc_peep_facts.specs.declared.fact.Part.{Part}
use Rattle.uc_peep_facts.specs.declared.fact.Part.TheVariants.{Target, Zero, Flags}

-- ---- instructions

-- a straight instruction with another target
abbrev pub with_target : Dst → Instr → Instr
with_target e (Alu d op x y) = Alu e op x y
with_target e (Un d op x) = Un e op x
with_target e (Immed d v k) = Immed e v k
with_target e i = i

-- the target is the operand's register
pub record IsNamed (d : Dst) (x : Src) : Type 0 where
  pub same : target_register d ≡ Some (source_register x)
  pub there : IsRegister (source_register x)

-- the instruction sets the flags, and puts its result there
abbrev pub SetsFlags : Instr → Dst → Type 0
SetsFlags (Alu d op x y) e = d ≡ e
SetsFlags (Un d op x) e = d ≡ e
SetsFlags i e = ⊥

-- the instruction puts its result there
abbrev pub HasTarget : Instr → Dst → Type 0
HasTarget (Alu d op x y) e = d ≡ e
HasTarget (Un d op x) e = d ≡ e
HasTarget (Immed d v k) e = d ≡ e
HasTarget i e = ⊥

-- ---- facts

abbrev pub is_part : Part → Resource → Bool
is_part Target s = not (is_flag s)
is_part Zero s = is_zero s
is_part Flags s = is_flag s

-- run again, the straight instruction would leave this part of what it writes as it is
pub record Stands (e : Engine) (f : Fact) : Type 0 where
  pub straight : IsStraight f.instr
  pub formed : IsFormed f.instr
  pub same : (p : Memories) → HasSizes p → (s : Resource) → IsResource s → writes f.instr s ≡ true → is_part f.part s ≡ true → value s (effect f.instr e p).engine ≡ value s e

-- the fact is one of those
abbrev pub IsOneOf : Fact → List Fact → Type 0
IsOneOf f fs = (k : ℕ) × (slice_get fs k ≡ Some f)

-- each of the first is one of the second
abbrev pub AreOf : List Fact → List Fact → Type 0
AreOf fs gs = (f : Fact) → IsOneOf f fs → IsOneOf f gs

-- each of the new ones is this one, or was there before
abbrev pub AreWith : Fact → List Fact → List Fact → Type 0
AreWith f old new = (g : Fact) → IsOneOf g new → (g ≡ f) ⊎ IsOneOf g old

-- all of these stand
abbrev pub AllStand : Engine → List Fact → Type 0
AllStand e fs = (f : Fact) → IsOneOf f fs → Stands e f

-- the facts that are noted
abbrev pub known : Facts → List Fact
known fs = take fs.count fs.places

abbrev pub known_of : Option Facts → List Fact
known_of (Some fs) = known fs
known_of None = []

-- those of a place
abbrev pub known_at : List Facts → ℕ → List Fact
known_at table x = known_of (slice_get table x)

-- the fact says what the operand's register holds
pub record IsResult (f : Fact) (x : Src) : Type 0 where
  pub target : Dst
  pub has : HasTarget f.instr target
  pub named : IsNamed target x
  pub part : f.part ≡ Target

-- the set has nothing that the fact's instruction reads, nor this part of what it writes
pub record IsApart (f : Fact) (set : ℕ) : Type 0 where
  pub reads : (s : Resource) → IsResource s → reads f.instr s ≡ true → has set s ≡ false
  pub part : (s : Resource) → IsResource s → writes f.instr s ≡ true → is_part f.part s ≡ true → has set s ≡ false

-- ---- ways

-- where the first facts stand, the second stand after the instruction
abbrev pub Gives : Instr → List Fact → List Fact → Type 0
Gives i before after = (e : Engine) (p : Memories) → IsEngine e → HasSizes p → AllStand e before → AllStand (effect i e p).engine after

-- each way keeps the facts: those of a place give, by its instruction, those of each next place; where the engine begins there is none
pub record AreKept (code : List Instr) (table : List Facts) : Type 0 where
  pub first : known_at table 0 ≡ []
  pub each : (x y : ℕ) (i : Instr) → slice_get code x ≡ Some i → IsNext i x y → Gives i (known_at table x) (known_at table y)

-- ---- what may go

-- the target holds the result already, or isn't live
abbrev pub TargetStands : Dst → Instr → List Fact → ℕ → Type 0
TargetStands d i facts live = (is_wanted d live ≡ false) ⊎ IsOneOf (record { instr = i; part = Target }) facts

-- the flags that are live are those that the instruction sets
abbrev pub FlagsStand : Instr → List Fact → ℕ → Type 0
FlagsStand i facts live =
    ((has live ZeroFlag ≡ false) × (has live CarryFlag ≡ false))
    ⊎ IsOneOf (record { instr = with_target Nowhere i; part = Flags }) facts
    ⊎ ((has live CarryFlag ≡ false) × IsOneOf (record { instr = with_target Nowhere i; part = Zero }) facts)

-- where the facts stand, the straight instruction changes nothing that is in the set
pub record IsIdle (facts : List Fact) (set : ℕ) (i : Instr) : Type 0 where
  pub straight : IsStraight i
  pub same : (e : Engine) (p : Memories) → IsEngine e → HasSizes p → AllStand e facts → AgreeOn set (effect i e p).engine e

-- two steps that are the same, lead to the same place, and leave the same in all that is live there
pub record AreLike (sets : List ℕ) (n n' : Next) : Type 0 where
  pub stepped : n.stepped ≡ n'.stepped
  pub packet : n.packet ≡ n'.packet
  pub place : n.engine.place ≡ n'.engine.place
  pub agree : AgreeOn (slice_index sets n.engine.place) n.engine n'.engine

-- where the facts stand, the second instruction does at the place what the first does, with the same access
abbrev pub DoesSame : List Fact → List ℕ → ℕ → Instr → Instr → Type 0
DoesSame facts sets x i j = (e : Engine) (p : Memories) → IsEngine e → HasSizes p → e.place ≡ x → AllStand e facts → AreLike sets (effect i e p) (effect j e p) × (access (Some i) e ≡ access (Some j) e)

-- by the facts the instruction at a place is idle for what is live after it, and the next place is there and neither a branch's target nor a start
pub record MayGo (code : List Instr) (starts : List ℕ) (sets : List ℕ) (table : List Facts) (x : ℕ) : Type 0 where
  pub instruction : Instr
  pub there : slice_get code x ≡ Some instruction
  pub idle : IsIdle (known_at table x) (slice_index sets (suc x)) instruction
  pub inside : suc x < length code
  pub not_entered : ¬ IsEntered code (suc x)
  pub not_start : ¬ IsLabelStart starts (suc x)

-- the draft is the code with fillers at the places that are gone
pub record IsFilled (code draft : List Instr) (gone : List Bool) : Type 0 where
  pub size : length draft ≡ length code
  pub size_gone : length gone ≡ length code
  pub kept : (x : ℕ) → is_gone gone x ≡ false → slice_get draft x ≡ slice_get code x
  pub fillers : (x : ℕ) → is_gone gone x ≡ true → slice_get draft x ≡ Some (filler x)
