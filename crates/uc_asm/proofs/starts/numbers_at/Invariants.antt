use Rattle.std.proofs.Common.{take}
use Rattle.uc_asm.specs.inner.Numbered.{AreNumbered}
use Rattle.uc_asm.proofs.starts.numbers_at.Given as goal

abbrev pub invariant-loop-k : goal.invariant-loop-k
invariant-loop-k l = AreNumbered l.places (take l.k l.starts) l.numbers.items
