-- Branches over a jump by marks, and drafts in which they are turned.
use Rattle.std.specs.Prelude.{◌≡◌, ◌<◌, ℕ, suc, ◌+◌, Bool, true, false, List, Option, Some, None, length, slice_get, slice_index_or}
use Rattle.uc_isa.specs.declared.instruction.Cond.{Cond}
use Rattle.uc_isa.specs.declared.instruction.Cond.TheVariants.{Always}
use Rattle.uc_isa.specs.declared.instruction.Instr.{Instr}
use Rattle.uc_isa.specs.declared.instruction.Dst.TheVariants.{Nowhere}
use Rattle.uc_isa.specs.declared.instruction.Instr.TheVariants.{Br, Immed}
use Rattle.uc_peep.specs.Becomes.{IsKept}
use Rattle.uc_peep.specs.Kept.{is_gone}
use Rattle.uc_peep.specs.Window.{filler}
use Rattle.uc_peep.specs.declared.peephole.Listing.{Listing}
use Rattle.uc_peep_facts.specs.Turned.{HasNoTurnable, IsTurned, asks, opposite}

-- such a branch stands at the place
abbrev pub IsBranch : List Instr → ℕ → Cond → ℕ → Type 0
IsBranch code x c y = slice_get code x ≡ Some (Br c y)

-- at a place stands a branch over the jump behind it, which may be turned by the marks of where branches go and where labels start
pub record IsOver (code : List Instr) (entered started : List Bool) (x : ℕ) (c : Cond) (y : ℕ) : Type 0 where
  pub tests : asks c ≡ true
  pub branch : IsBranch code x c (x + 2)
  pub jump : IsBranch code (x + 1) Always y
  pub not_entered : slice_index_or entered (x + 1) false ≡ false
  pub not_start : slice_index_or started (x + 1) false ≡ false
  pub next_not_start : slice_index_or started (x + 2) false ≡ false

-- the two at a place are turned: the draft has the branch on the opposite condition to where the jump goes, and a filler
pub record IsPutAt (code : List Instr) (entered started : List Bool) (draft : List Instr) (x : ℕ) : Type 0 where
  pub condition : Cond
  pub target : ℕ
  pub over : IsOver code entered started x condition target
  pub branch : IsBranch draft x (opposite condition) target
  pub fills : slice_get draft (suc x) ≡ Some (filler (suc x))

-- some of the pairs before a place are turned, the second of each is gone, and all else is as it was. Where none is turned there is none
pub record AreTurnedTo (code : List Instr) (entered started : List Bool) (draft : List Instr) (gone : List Bool) (some : Bool) (end' : ℕ) : Type 0 where
  pub size : length draft ≡ length code
  pub size_gone : length gone ≡ length code
  pub first : is_gone gone 0 ≡ false
  pub pair : (x : ℕ) → is_gone gone (suc x) ≡ true → (x < end') × IsPutAt code entered started draft x
  pub same : (x : ℕ) → is_gone gone x ≡ false → is_gone gone (suc x) ≡ false → slice_get draft x ≡ slice_get code x
  pub found : some ≡ true → (x : ℕ) × (is_gone gone x ≡ true)
  pub none : some ≡ false → (x : ℕ) (c : Cond) (y : ℕ) → x < end' → ¬ IsOver code entered started x c y

-- the second code is the first with immediates that go nowhere where places are gone
pub record IsLevel (draft level : List Instr) (gone : List Bool) : Type 0 where
  pub size : length level ≡ length draft
  pub kept : (x : ℕ) → is_gone gone x ≡ false → slice_get level x ≡ slice_get draft x
  pub idle : (x : ℕ) → x < length draft → is_gone gone x ≡ true → slice_get level x ≡ Some (Immed Nowhere 0 0)

-- the same up to a place
pub record IsLevelTo (draft level : List Instr) (gone : List Bool) (end' : ℕ) : Type 0 where
  pub size : length level ≡ length draft
  pub kept : (x : ℕ) → is_gone gone x ≡ false → slice_get level x ≡ slice_get draft x
  pub idle : (x : ℕ) → x < end' → x < length draft → is_gone gone x ≡ true → slice_get level x ≡ Some (Immed Nowhere 0 0)

-- one round: nothing is to be turned, or there is shorter code
abbrev pub IsTurn : List Instr → List ℕ → Option Listing → Type 0
IsTurn code starts None = HasNoTurnable code starts
IsTurn code starts (Some next) = IsKept code starts next.code.items next.starts.items × (length next.code.items < length code) × IsTurned code next.code.items
