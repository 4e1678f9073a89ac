-- Windows: stretches of straight code, and shorter code in their place.
use Rattle.std.specs.Prelude.{◌≡◌, ℕ, zero, suc, ◌+◌, ◌-◌, ◌<◌, ◌≤◌, ◌⊎◌, true, List, [], ◌∷◌, ◌++◌, All, length, take, drop}
use Rattle.std.specs.List.{list_any}
use Rattle.nv_base.specs.Memories.{HasSizes, Memories}
use Rattle.uc_isa.specs.Engine.{IsEngine}
use Rattle.uc_isa.specs.declared.engine.Engine.{Engine}
use Rattle.uc_isa.specs.declared.instruction.Cond.TheVariants.{Always}
use Rattle.uc_isa.specs.declared.instruction.Instr.{Instr}
use Rattle.uc_isa.specs.declared.instruction.Instr.TheVariants.{Br}
use Rattle.uc_peep.specs.Sets.{AgreeOn}
use Rattle.uc_isa.specs.Program.{IsFormed}
use Rattle.uc_isa.specs.Resources.{Resource, reads, writes}
use Rattle.uc_isa.specs.Starts.{IsLabelStart}
use Rattle.uc_isa.specs.StraightCode.{IsEntered, IsStraight, along, weights}

-- one to four lawful straight instructions
pub record IsText (ws : List Instr) : Type 0 where
  pub some : 1 ≤ length ws
  pub few : length ws ≤ 4
  pub straight : All IsStraight ws
  pub lawful : All IsFormed ws

-- shorter code with which the same is in all of a set after it, whatever the engine's state before: it reads and writes nothing more,
-- and weighs no more
pub record IsShorter (ws : List Instr) (live_after : ℕ) (as' : List Instr) : Type 0 where
  pub fewer : length as' < length ws
  pub straight : All IsStraight as'
  pub lawful : All IsFormed as'
  pub same : (e : Engine) (p : Memories) → IsEngine e → HasSizes p → AgreeOn live_after (along ws e p) (along as' e p)
  pub reads : (s : Resource) → list_any (λ i. reads i s) as' ≡ true → list_any (λ i. reads i s) ws ≡ true
  pub writes : (s : Resource) → list_any (λ i. writes i s) as' ≡ true → list_any (λ i. writes i s) ws ≡ true
  pub weight : weights as' ≤ weights ws

-- a start, or where the engine begins
abbrev pub IsPinned : List ℕ → ℕ → Type 0
IsPinned starts y = (y ≡ 0) ⊎ IsLabelStart starts y

-- a window lies in straight code: no place of it but its first is a branch's target or a start; where its first place is a start, the place
-- after it is neither, and where the engine begins there, that is no start
pub record IsWindow (code : List Instr) (starts : List ℕ) (p k : ℕ) : Type 0 where
  pub some : 1 ≤ k
  pub few : k ≤ 4
  pub inside : p + k ≤ length code
  pub straight : All IsStraight (take k (drop p code))
  pub interior : (y : ℕ) → p < y → y < p + k → (¬ IsEntered code y) × (¬ IsLabelStart starts y)
  pub clear_end : (IsLabelStart starts p → ¬ IsEntered code (p + k)) × (IsPinned starts p → ¬ IsLabelStart starts (p + k))

-- what stands where an instruction was: the engine goes on to the next place
abbrev pub filler : ℕ → Instr
filler x = Br Always (suc x)

-- fillers from a place on
abbrev pub fillers : ℕ → ℕ → List Instr
fillers x zero = []
fillers x (suc n) = filler x ∷ fillers (suc x) n

-- shorter code, filled up to k places from p on
abbrev pub padded : ℕ → ℕ → List Instr → List Instr
padded p k as' = as' ++ fillers (p + length as') (k - length as')

-- the code with that in the place of the k instructions from p on
abbrev pub replaced : List Instr → ℕ → ℕ → List Instr → List Instr
replaced code p k as' = take p code ++ (padded p k as' ++ drop (p + k) code)
