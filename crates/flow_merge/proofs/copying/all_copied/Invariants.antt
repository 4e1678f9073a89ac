use Rattle.std.proofs.Common.{map, take}
use Rattle.flow_ir.specs.View.{label_view}
use Rattle.flow_merge.specs.inner.Copied.{AreCopied}
use Rattle.flow_merge.specs.inner.Numbered.{numbering}
use Rattle.flow_merge.proofs.copying.all_copied.Given as goal

abbrev pub invariant-loop-i : goal.invariant-loop-i
invariant-loop-i l = AreCopied (map label_view l.labels) (numbering l.plan) 0 0 (map label_view (take l.i l.labels)) (map label_view l.v.items)
