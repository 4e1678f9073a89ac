-- Parts of code, and runs that go straight through them.
use Rattle.std.specs.Prelude.{◌≡◌, ℕ, ◌+◌, ◌<◌, ◌≤◌, List, ◌++◌, length}
use Rattle.nv_base.specs.declared.outcome.Write.{Write as WriteEvent}
use Rattle.nv_base.specs.declared.outcome.Outcome.TheVariants as outcome
use Rattle.nv_base.specs.Memories.{Memories}
use Rattle.nv_base.specs.Meanings.{FullOutcome}
use Rattle.uc_isa.specs.Step.{Next}
use Rattle.uc_isa.specs.Engine.{run}
use Rattle.uc_isa.specs.declared.instruction.Instr.{Instr}
use Rattle.uc_isa.specs.declared.engine.Engine.{Engine}
use Rattle.uc_isa.specs.declared.engine.Stepped.TheVariants.{Went}

-- these instructions stand in the code from a place on
pub record Stands (code : List Instr) (at : ℕ) (is : List Instr) : Type 0 where
  pub front : List Instr
  pub rest : List Instr
  pub split : code ≡ front ++ (is ++ rest)
  pub place : length front ≡ at

-- a step that only went on
abbrev pub went : Engine → Memories → Next
went e p = record { stepped = Went; engine = e; packet = p }

-- a run that is going with these memories and writes
abbrev pub going : Memories → List WriteEvent → FullOutcome
going p ws = record { outcome = outcome.Going; packet = p; writes = ws }

-- with fewer than k steps the run is going with nothing written since, and with k or more it gives this
pub record RunsTo (code : List Instr) (k : ℕ) (e : Engine) (p : Memories) (ws : List WriteEvent) (f : FullOutcome) : Type 0 where
  pub before : (j : ℕ) → j < k → run code j e p ws ≡ going p ws
  pub since : (j : ℕ) → k ≤ j → run code j e p ws ≡ f

-- n steps lead from the first engine to the second, and nothing is written
pub record StepsTo (code : List Instr) (p : Memories) (n : ℕ) (e e' : Engine) : Type 0 where
  pub runs : (k : ℕ) (ws : List WriteEvent) (f : FullOutcome) → RunsTo code k e' p ws f → RunsTo code (n + k) e p ws f
