use Rattle.std.proofs.Common.{◌≡◌, map, take}
use Rattle.flow_ir.specs.Bulk.{bulk}
use Rattle.flow_ir.specs.View.{label_view}
use Rattle.flow_merge.specs.inner.Sizes.{bulk_of}
use Rattle.flow_merge.proofs.sizes.sizes_of.Given as goal

abbrev pub invariant-loop-l : goal.invariant-loop-l
invariant-loop-l l = bulk_of l.now ≡ bulk (map label_view (take l.l-index l.labels))
