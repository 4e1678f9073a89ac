use Rattle.std.proofs.Common.{List, ℕ, take}
use Rattle.nv_base.specs.Memories.{Memories}
use Rattle.nv_memtext.specs.MemoryText.{Gives}
use Rattle.uc_contexts.specs.Alone.{runs_from}
use Rattle.uc_contexts.specs.Marked.{AreFootprints}
use Rattle.uc_contexts.specs.Turns.{entries}
use Rattle.novac_machine.proofs.footprints.feet_of.Given as goal

abbrev pub invariant-loop-number : goal.invariant-loop-number
invariant-loop-number l = (p : Memories) (words : List ℕ) → Gives l.code.params l.text p words → AreFootprints l.code p (runs_from (entries l.entries) 0 (take l.number l.args)) l.footprints.items
