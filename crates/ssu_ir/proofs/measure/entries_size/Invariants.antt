use Rattle.std.proofs.Common.{◌≡◌, take}
use Rattle.ssu_ir.specs.inner.Sizes.{entries_size}
use Rattle.ssu_ir.proofs.measure.entries_size.Given as goal

abbrev pub invariant-loop-l : goal.invariant-loop-l
invariant-loop-l l = l.total ≡ entries_size (take l.l-index l.s.labels.items)
