-- Operands that hold the same words, and instructions in the place of others.
use Rattle.std.specs.Prelude.{◌≡◌, ◌≢◌, ◌+◌, ◌*◌, ◌≤◌, ◌⊎◌, ℕ, suc, ⊤, true, false, Bool, List, Option, Some, None, length, slice_get, slice_index_or, if◌then◌else◌}
use Rattle.nv_base.specs.Memories.{HasSizes, Memories}
use Rattle.nv_base.specs.Words.{shifted_left}
use Rattle.uc_isa.specs.Alike.{Begins, RunsAlike}
use Rattle.uc_isa.specs.Code.{CodeView}
use Rattle.uc_isa.specs.Engine.{IsEngine}
use Rattle.uc_isa.specs.Lawful.{AreApart}
use Rattle.uc_isa.specs.Moves.{moves, weight}
use Rattle.uc_isa.specs.Program.{IsFormed, IsProgram}
use Rattle.uc_isa.specs.Step.{address, effect, operand}
use Rattle.uc_isa.specs.Visits.{access}
use Rattle.uc_isa.specs.declared.engine.Engine.{Engine}
use Rattle.uc_isa.specs.declared.instruction.Dst.{Dst}
use Rattle.uc_isa.specs.declared.instruction.Dst.TheVariants.{Nowhere}
use Rattle.uc_isa.specs.declared.instruction.Gpr.{Gpr}
use Rattle.uc_isa.specs.declared.instruction.Src.{Src}
use Rattle.uc_isa.specs.declared.instruction.Src.TheVariants as src
use Rattle.uc_isa.specs.declared.instruction.UnOp.TheVariants.{Copy}
use Rattle.uc_isa.specs.declared.instruction.Instr.{Instr}
use Rattle.uc_isa.specs.declared.instruction.Instr.TheVariants.{Un, Immed}
use Rattle.uc_peep.specs.Needless.{is_wanted}
use Rattle.uc_peep_facts.specs.Elsewhere.{AreReread, HasNoIdleTarget, Rereads}
use Rattle.uc_peep_facts.specs.Facts.{AllStand, IsNamed, SetsFlags, with_target}
use Rattle.uc_peep_facts.specs.declared.fact.Fact.{Fact}
use Rattle.uc_peep_facts.specs.declared.fact.Part.TheVariants.{Target}
use Rattle.uc_peep_facts.specs.declared.reread.Use.{Use}
use Rattle.uc_peep_facts.specs.declared.reread.Use.TheVariants.{Before, After, CopiedTo, Any, Address}

-- ---- words

-- where the facts stand, the second operand has the word of the first
abbrev pub HoldsSame : List Fact → Src → Src → Type 0
HoldsSame facts x y = (e : Engine) (p : Memories) → IsEngine e → HasSizes p → AllStand e facts → operand y e ≡ operand x e

abbrev pub HoldsSameAt : List Fact → Gpr → Gpr → Type 0
HoldsSameAt facts x y = (e : Engine) (p : Memories) → IsEngine e → HasSizes p → AllStand e facts → address y e ≡ address x e

-- the operand holds the literal
abbrev pub HoldsWord : List Fact → Src → ℕ → ℕ → Type 0
HoldsWord facts x v k = (e : Engine) (p : Memories) → IsEngine e → HasSizes p → AllStand e facts → operand x e ≡ shifted_left k v

-- where the facts stand, the second operand, which isn't B15, has the word of the first
pub record IsOther (facts : List Fact) (x y : Src) : Type 0 where
  pub same : HoldsSame facts x y
  pub other : y ≢ src.B 15

-- the operand, which isn't B15, holds the literal
pub record IsWordAt (facts : List Fact) (y : Src) (v k : ℕ) : Type 0 where
  pub holds : HoldsWord facts y v k
  pub other : y ≢ src.B 15

-- the fact is a copy to the first operand's register from the second, which isn't B15
pub record IsSource (f : Fact) (x y : Src) : Type 0 where
  pub target : Dst
  pub copy : f.instr ≡ Un target Copy y
  pub part : f.part ≡ Target
  pub named : IsNamed target x
  pub other : y ≢ src.B 15

-- the fact is this literal in the operand's register
pub record IsWordOf (f : Fact) (x : Src) (v k : ℕ) : Type 0 where
  pub target : Dst
  pub literal : f.instr ≡ Immed target v k
  pub part : f.part ≡ Target
  pub named : IsNamed target x

-- the same, in another register than B15
pub record IsHolder (f : Fact) (y : Src) (v k : ℕ) : Type 0 where
  pub word : IsWordOf f y v k
  pub other : y ≢ src.B 15

-- ---- what is asked of an operand

abbrev pub IsGeneral : Src → Type 0
IsGeneral (src.A k) = ⊤
IsGeneral (src.B k) = ⊤
IsGeneral x = ⊥

abbrev pub Fits : Use → Src → Type 0
Fits (Before z) y = AreApart y z
Fits (After z) y = AreApart z y
Fits (CopiedTo d x) y = ⊤
Fits Any y = ⊤
Fits Address y = IsGeneral y

-- ---- an instruction in the place of another

-- where the facts stand, the second instruction does what the first does, and reads it elsewhere
pub record IsReread (facts : List Fact) (i j : Instr) : Type 0 where
  pub formed : IsFormed j
  pub rereads : Rereads i j
  pub same : (e : Engine) (p : Memories) → IsEngine e → HasSizes p → AllStand e facts → (effect i e p ≡ effect j e p) × (access (Some i) e ≡ access (Some j) e)

-- the second instruction is the first without a target that isn't in the set
pub record IsUntargeted (live : ℕ) (i j : Instr) : Type 0 where
  pub formed : IsFormed j
  pub light : weight j ≤ weight i
  pub rereads : Rereads i j
  pub same : (j ≡ i) ⊎ ((d : Dst) × SetsFlags i d × (is_wanted d live ≡ false) × (j ≡ with_target Nowhere i))
  pub wanted : (d : Dst) → SetsFlags j d → (d ≡ Nowhere) ⊎ (is_wanted d live ≡ true)

-- ---- all places

-- the second code has at each place an instruction that may stand there
pub record ArePut (P : ℕ → Instr → Instr → Type 0) (code draft : List Instr) : Type 0 where
  pub size : length draft ≡ length code
  pub each : (x : ℕ) (i : Instr) → slice_get code x ≡ Some i → (j : Instr) × (slice_get draft x ≡ Some j) × P x i j

-- the second code reads elsewhere and does what the first does, step by step
pub record IsInPlace (code draft : List Instr) : Type 0 where
  pub size : length draft ≡ length code
  pub lawful : IsProgram draft
  pub reread : AreReread code draft
  pub alike : (e : Engine) (p : Memories) → Begins e p → RunsAlike code draft p e e

-- such code that is no dearer, and has no idle target, if it was found
abbrev pub IsFound : CodeView → List ℕ → Option CodeView → Type 0
IsFound c starts None = ⊤
IsFound c starts (Some q) = (q.params ≡ c.params) × IsInPlace c.list q.list × HasNoIdleTarget q.list × ((ws : List ℕ) → moves q.list starts ws ≤ moves c.list starts ws)

-- ---- what is saved

-- so much is left of what was saved, after an instruction that stands in the place of another; where a label starts nothing was saved before
pub record IsPaidAt (code draft : List Instr) (started : List Bool) (x credit rest : ℕ) : Type 0 where
  pub few : rest ≤ 16 * suc x
  pub paid : (i j : Instr) → slice_get code x ≡ Some i → slice_get draft x ≡ Some j → rest + weight j ≡ (if slice_index_or started x false then 0 else credit) + weight i
