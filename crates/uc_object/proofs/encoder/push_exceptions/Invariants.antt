use Rattle.std.proofs.Common.{take}
use Rattle.uc_object.specs.Object.{IsException}
use Rattle.uc_object.specs.inner.Parts.{Adds}
use Rattle.uc_object.proofs.encoder.push_exceptions.Given as goal

abbrev pub invariant-loop-line : goal.invariant-loop-line
invariant-loop-line l = Adds IsException (take l.line-index l.list) l.initial.out.items l.out.items
