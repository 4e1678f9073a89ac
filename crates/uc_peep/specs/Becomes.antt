-- What becomes of code whose windows are replaced.
use Rattle.std.specs.Prelude.{◌≡◌, ℕ, ◌+◌, ◌<◌, ◌≤◌, List, Option, Some, None, length, take, drop}
use Rattle.uc_isa.specs.Moves.{moves}
use Rattle.uc_isa.specs.declared.instruction.Instr.{Instr}
use Rattle.uc_peep.specs.Liveness.{IsLiveAt}
use Rattle.uc_peep.specs.declared.peephole.Listing.{Listing}
use Rattle.uc_peep.specs.Rewrites.{Answers, Rewrites}
use Rattle.uc_peep.specs.Window.{IsWindow}
use Rattle.uc_isa.specs.Alike.{Follows}
use Rattle.uc_isa.specs.Program.{IsProgram}
use Rattle.uc_isa.specs.Starts.{AreInside, HasShape}

-- the second code with its starts does what the first with its does, and its moves cost no more
pub record IsKept (code : List Instr) (starts : List ℕ) (code' : List Instr) (starts' : List ℕ) : Type 0 where
  pub lawful : IsProgram code'
  pub count : length starts' ≡ length starts
  pub inside : AreInside code' starts'
  pub follows : Follows code code' starts starts'
  pub moves : (ws : List ℕ) → moves code' starts' ws ≤ moves code starts ws
  pub shape : HasShape code starts → HasShape code' starts'
  pub most : length code' ≤ length code

-- at each window the rule may have no answer, asked with exactly what is live after the window
abbrev pub IsSettled : Answers → List Instr → List ℕ → Type 0
IsSettled answers code starts = (p k : ℕ) → IsWindow code starts p k → (set : ℕ) × IsLiveAt code (p + k) set × answers (take k (drop p code)) set None

-- code with its starts, to which it was brought by a rule
pub record IsPeeped (answers : Answers) (code : List Instr) (starts : List ℕ) (code' : List Instr) (starts' : List ℕ) : Type 0 where
  pub kept : IsKept code starts code' starts'
  pub settled : IsSettled answers code' starts'
  pub rewritten : Rewrites answers code code'

-- one round: nothing is to be replaced, or there is shorter code
abbrev pub IsRound : Answers → List Instr → List ℕ → Option Listing → Type 0
IsRound answers code starts None = IsSettled answers code starts
IsRound answers code starts (Some next) = IsKept code starts next.code.items next.starts.items × (length next.code.items < length code) × Rewrites answers code next.code.items
