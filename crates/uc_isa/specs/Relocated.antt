-- Instructions at other places, whose branches go where their targets are then.
use Rattle.std.specs.Prelude.{◌≡◌, ℕ, Some}
use Rattle.nv_base.specs.Memories.{Memories}
use Rattle.uc_isa.specs.Step.{effect}
use Rattle.uc_isa.specs.declared.instruction.Instr.{Instr}
use Rattle.uc_isa.specs.declared.instruction.Instr.TheVariants.{Br}
use Rattle.uc_isa.specs.declared.engine.Engine.{Engine}
use Rattle.uc_isa.specs.Visits.{access}

-- the engine at another place
abbrev pub at_place : ℕ → Engine → Engine
at_place x e = record e { place = x }

-- the engine with its place moved
abbrev pub moved : (ℕ → ℕ) → Engine → Engine
moved f e = at_place (f e.place) e

-- an instruction whose branch goes where its target is then
abbrev pub relocated : (ℕ → ℕ) → Instr → Instr
relocated f (Br cond target) = Br cond (f target)
relocated f i = i

-- the instruction does the same at the moved place
pub record DoesMoved (f : ℕ → ℕ) (i : Instr) (e : Engine) (p : Memories) : Type 0 where
  pub stepped : (effect i e p).stepped ≡ (effect (relocated f i) (moved f e) p).stepped
  pub packet : (effect i e p).packet ≡ (effect (relocated f i) (moved f e) p).packet
  pub engine : (effect (relocated f i) (moved f e) p).engine ≡ moved f (effect i e p).engine
  pub access : access (Some i) e ≡ access (Some (relocated f i)) (moved f e)
