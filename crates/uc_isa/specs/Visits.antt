-- What is seen of a run besides its outcome: its accesses to memories, and how often it stood at a place.
use Rattle.std.specs.Prelude.{ℕ, zero, suc, ◌+◌, List, Option, Some, None, nat_eq, slice_get, take, drop, if◌then◌else◌}
use Rattle.nv_base.specs.declared.term.Mem.{Mem}
use Rattle.nv_base.specs.Memories.{Memories}
use Rattle.uc_isa.specs.Step.{step, address, write_registers}
use Rattle.uc_isa.specs.Engine.{after}
use Rattle.uc_isa.specs.declared.instruction.Instr.{Instr}
use Rattle.uc_isa.specs.declared.instruction.Instr.TheVariants.{Read, Write}
use Rattle.uc_isa.specs.declared.engine.Engine.{Engine}
use Rattle.uc_isa.specs.declared.engine.Stepped.{Stepped}
use Rattle.uc_isa.specs.declared.engine.Stepped.TheVariants.{Went, Wrote, Halted, Fault}

-- n words of a memory that an instruction is to reach, from an address on, with those that it is to write, if it writes
pub record MemoryAccess : Type 0 where
  pub mem : Mem
  pub at : ℕ
  pub count : ℕ
  pub written : Option (List ℕ)

-- the access of an instruction, if it has one
abbrev pub access : Option Instr → Engine → Option MemoryAccess
access (Some (Read m r n x off)) e = Some (record { mem = m; at = address x e + off; count = n; written = None })
access (Some (Write m r n x off)) e = Some (record { mem = m; at = address x e + off; count = n; written = Some (take n (drop r (write_registers m e))) })
access _ e = None

-- the access of the step after the first m
abbrev pub access_at : List Instr → ℕ → Engine → Memories → Option MemoryAccess
access_at code m e p = let n = after code m e p in access (slice_get code n.engine.place) n.engine

-- 1 where the engine stands there, else 0
abbrev pub here : ℕ → ℕ → ℕ
here s place = if nat_eq place s then 1 else 0

abbrev pub continue_count : (Engine → Memories → ℕ) → Stepped → Engine → Memories → ℕ
continue_count go Went e p = go e p
continue_count go (Wrote w) e p = go e p
continue_count go (Halted k ws) e p = 0
continue_count go (Fault m at) e p = 0

-- how often the engine stood at a place: before its first step, and after each of the first m steps that didn't end the run
abbrev pub stood : List Instr → ℕ → ℕ → Engine → Memories → ℕ
stood code s zero e p = here s e.place
stood code s (suc m) e p = here s e.place + (let n = step code e p in continue_count (stood code s m) n.stepped n.engine n.packet)
