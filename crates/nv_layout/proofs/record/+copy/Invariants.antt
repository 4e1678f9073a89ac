use Rattle.std.proofs.Common.{◌≡◌, take}
use Rattle.nv_layout.specs.OutlineView.{layouts_of}
use Rattle.nv_layout.proofs.Lists.{trees_of}
use Rattle.nv_layout.proofs.record.+copy.Given as goal

abbrev pub invariant-copy_named-loop-f : goal.invariant-copy_named-loop-f
invariant-copy_named-loop-f l = layouts_of l.copies.items ≡ layouts_of (take l.f-index l.fs)

abbrev pub invariant-copy_all-loop-o : goal.invariant-copy_all-loop-o
invariant-copy_all-loop-o l = trees_of l.copies.items ≡ trees_of (take l.o-index l.os)
