-- Code that is thinner by instructions that change nothing.
use Rattle.std.specs.Prelude.{ℕ, List, Option, Some, None, ⊤}
use Rattle.uc_isa.specs.declared.instruction.Instr.{Instr}
use Rattle.uc_peep.specs.Becomes.{IsKept}
use Rattle.uc_peep.specs.Rewrites.{IsWithout}
use Rattle.uc_peep.specs.declared.peephole.Listing.{Listing}

-- it does what the code did, without some of its straight instructions
abbrev pub IsThinner : List Instr → List ℕ → Option Listing → Type 0
IsThinner code starts None = ⊤
IsThinner code starts (Some q) = IsKept code starts q.code.items q.starts.items × IsWithout code q.code.items
