use Rattle.std.proofs.Common.{take}
use Rattle.uc_object.specs.Rows.{IsRow}
use Rattle.uc_object.specs.inner.Parts.{Adds}
use Rattle.uc_object.proofs.encoder.push_rows.Given as goal

abbrev pub invariant-loop-i : goal.invariant-loop-i
invariant-loop-i l = Adds IsRow (take l.i-index l.list) l.initial.out.items l.out.items
