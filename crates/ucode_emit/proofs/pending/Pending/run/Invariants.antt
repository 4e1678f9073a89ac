use Rattle.ucode_emit.specs.inner.Pending.{pending_count}
use Rattle.ucode_emit.proofs.Loops.{Running}
use Rattle.ucode_emit.proofs.pending.Pending.run.Given as goal

abbrev pub invariant-loop-s : goal.invariant-loop-s
invariant-loop-s l = Running l.fn.self l.fn.start l.t l.self

abbrev pub decreases-loop-s : goal.decreases-loop-s
decreases-loop-s l = pending_count l.self.sources.items
