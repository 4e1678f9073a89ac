-- Runs of the engine.
use Rattle.std.specs.Prelude.{◌≡◌, ℕ, zero, suc, ◌-◌, List, [], ◌∷◌, ◌++◌, All, length, replicate, false}
use Rattle.nv_base.specs.declared.outcome.Write.{Write as WriteEvent}
use Rattle.nv_base.specs.declared.outcome.Outcome.{Outcome}
use Rattle.nv_base.specs.declared.outcome.Outcome.TheVariants as outcome
use Rattle.nv_base.specs.Memories.{Memories}
use Rattle.nv_base.specs.Meanings.{FullOutcome, Meaning}
use Rattle.nv_base.specs.Words.{IsWord}
use Rattle.uc_isa.specs.Code.{CodeView}
use Rattle.uc_isa.specs.Step.{Next, step}
use Rattle.uc_isa.specs.declared.instruction.Instr.{Instr}
use Rattle.uc_isa.specs.declared.engine.Engine.{Engine}
use Rattle.uc_isa.specs.declared.engine.Stepped.{Stepped}
use Rattle.uc_isa.specs.declared.engine.Stepped.TheVariants.{Went, Wrote, Halted, Fault}

-- the engine before its first step: the arguments in A0 and on, the spill base in B15, else 0 and false
abbrev pub start : List ℕ → ℕ → Engine
start args base = record {
  a = args ++ replicate (16 - length args) 0;
  b = replicate 15 0 ++ base ∷ [];
  l = replicate 8 0;
  s = replicate 8 0;
  ld = replicate 8 0;
  sd = replicate 8 0;
  z = false;
  c = false;
  place = 0;
}

-- a bank of so many registers, each with a word
abbrev pub IsBank : ℕ → List ℕ → Type 0
IsBank n bank = (length bank ≡ n) × All IsWord bank

-- a state in which the engine can be
pub record IsEngine (e : Engine) : Type 0 where
  pub bank_a : IsBank 16 e.a
  pub bank_b : IsBank 16 e.b
  pub bank_l : IsBank 8 e.l
  pub bank_s : IsBank 8 e.s
  pub bank_ld : IsBank 8 e.ld
  pub bank_sd : IsBank 8 e.sd

-- a halt with number 0 is an end, one with another number that exception
abbrev pub halted : ℕ → List ℕ → Outcome
halted zero ws = outcome.Ended ws
halted (suc k) ws = outcome.Raised (suc k) ws

-- the run after a step: it goes on, or is over
abbrev pub continue_run : (Engine → Memories → List WriteEvent → FullOutcome) → Stepped → Engine → Memories → List WriteEvent → FullOutcome
continue_run go Went e p ws = go e p ws
continue_run go (Wrote w) e p ws = go e p (ws ++ w ∷ [])
continue_run go (Halted k words) e p ws = record { outcome = halted k words; packet = p; writes = ws }
continue_run go (Fault m at) e p ws = record { outcome = outcome.Fault m at; packet = p; writes = ws }

-- what at most m steps give, after these writes
abbrev pub run : List Instr → ℕ → Engine → Memories → List WriteEvent → FullOutcome
run code zero e p ws = record { outcome = outcome.Going; packet = p; writes = ws }
run code (suc m) e p ws = let n = step code e p in continue_run (run code m) n.stepped n.engine n.packet ws

-- what code gives from its start within m steps
abbrev pub engine : CodeView → List ℕ → ℕ → Memories → Meaning
engine c args base p m = run c.list m (start args base) p []

-- the engine and the memories after m steps; a halt and a fault change neither
abbrev pub after : List Instr → ℕ → Engine → Memories → Next
after code zero e p = record { stepped = Went; engine = e; packet = p }
after code (suc m) e p = let n = step code e p in after code m n.engine n.packet

-- what the step after the first m was
abbrev pub stepped_at : List Instr → ℕ → Engine → Memories → Stepped
stepped_at code m e p = let n = after code m e p in (step code n.engine n.packet).stepped
