-- The addresses that a run of the engine reads and writes when it runs alone. An address of SDRAM is that of a quadword.
use Rattle.std.specs.Prelude.{◌≡◌, ℕ, ◌+◌, ◌<◌, ◌≤◌, List, Option, Some, None, length, slice_get}
use Rattle.nv_base.specs.declared.term.Mem.{Mem}
use Rattle.nv_base.specs.Memories.{Memories, first_word}
use Rattle.nv_base.specs.Meanings.{FullOutcome}
use Rattle.uc_isa.specs.Code.{CodeView}
use Rattle.uc_isa.specs.Engine.{start, engine, after, stepped_at}
use Rattle.uc_isa.specs.Step.{Next, address}
use Rattle.uc_isa.specs.declared.instruction.Instr.{Instr}
use Rattle.uc_isa.specs.declared.instruction.Instr.TheVariants.{Read}
use Rattle.uc_isa.specs.declared.engine.Engine.{Engine}
use Rattle.uc_isa.specs.declared.engine.Stepped.{Stepped}
use Rattle.uc_isa.specs.declared.engine.Stepped.TheVariants.{Went, Wrote}
use Rattle.uc_contexts.specs.declared.addresses.Stretch.{Stretch}

-- an access of n words from an address on touches this address
abbrev pub Touches : Mem → ℕ → ℕ → ℕ → Type 0
Touches m at n a = (first_word m at ≤ first_word m a) × (first_word m a < first_word m at + n)

-- there is an access, and it touches this address of this memory
abbrev pub IsTouched : Option Stretch → Mem → ℕ → Type 0
IsTouched (Some s) m a = (s.mem ≡ m) × Touches s.mem s.at s.words a
IsTouched None m a = ⊥

-- what an instruction is to read
abbrev pub to_read : Option Instr → Engine → Option Stretch
to_read (Some (Read m r n x off)) e = Some (record { mem = m; at = address x e + off; words = n })
to_read i e = None

-- what a step read that was to read this: all of it where it went on. A bad read reads nothing
abbrev pub was_read : Option Stretch → Stepped → Option Stretch
was_read (Some s) Went = Some s
was_read s e = None

-- what a step wrote. A bad write writes nothing
abbrev pub was_written : Stepped → Option Stretch
was_written (Wrote w) = Some (record { mem = w.mem; at = w.at; words = length w.words })
was_written s = None

-- a run of the engine alone: its arguments, its spill base, and how many steps it takes at most
pub record Isolated : Type 0 where
  pub args : List ℕ
  pub base : ℕ
  pub steps : ℕ

-- the engine and the memories of a run after k steps, and what the step after them is
abbrev pub moment : CodeView → Memories → Isolated → ℕ → Next
moment c p run k = after c.list k (start run.args run.base) p

abbrev pub step_of : CodeView → Memories → Isolated → ℕ → Stepped
step_of c p run k = stepped_at c.list k (start run.args run.base) p

-- what the run gives
abbrev pub lone_outcome : CodeView → Memories → Isolated → FullOutcome
lone_outcome c p run = engine c run.args run.base p run.steps

-- one of the run's steps reads the address
abbrev pub Reads : CodeView → Memories → Isolated → Mem → ℕ → Type 0
Reads c p run m a = (k : ℕ) × (k < run.steps) × (let n = moment c p run k in IsTouched (was_read (to_read (slice_get c.list n.engine.place) n.engine) (step_of c p run k)) m a)

-- one of the run's steps writes the address
abbrev pub Writes : CodeView → Memories → Isolated → Mem → ℕ → Type 0
Writes c p run m a = (k : ℕ) × (k < run.steps) × IsTouched (was_written (step_of c p run k)) m a
