use Rattle.std.proofs.Common.{map, take}
use Rattle.flow_ir.specs.View.{label_view}
use Rattle.flow_words.specs.Bits.{IsNeeded}
use Rattle.flow_words.specs.inner.Reduced.{AreReduced}
use Rattle.flow_words.proofs.program.all_sliced.Given as goal

abbrev pub invariant-loop-l : goal.invariant-loop-l
invariant-loop-l l = AreReduced IsNeeded (map label_view (take l.l-index l.labels)) (map label_view l.v.items)
