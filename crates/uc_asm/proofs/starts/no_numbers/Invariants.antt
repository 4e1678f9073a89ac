use Rattle.std.proofs.Common.{[]}
use Rattle.uc_asm.specs.inner.Numbered.{AreNumbered}
use Rattle.uc_asm.proofs.starts.no_numbers.Given as goal

abbrev pub invariant-loop : goal.invariant-loop
invariant-loop l = AreNumbered l.counter [] l.numbers.items
