use Rattle.std.proofs.Common.{◌≡◌, take}
use Rattle.nv_types_table.specs.inner.Cells.{still}
use Rattle.nv_types_table.specs.inner.Needs.{held_for}
use Rattle.nv_types_table.proofs.needs.pending.Given as goal

abbrev pub invariant-loop-h : goal.invariant-loop-h
invariant-loop-h l = l.words ≡ still (held_for (take l.h-index l.held) l.place)
