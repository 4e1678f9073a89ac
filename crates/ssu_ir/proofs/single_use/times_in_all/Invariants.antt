use Rattle.std.proofs.Common.{◌≡◌, min, map, take}
use Rattle.ssu_ir.specs.Single.{all_defined}
use Rattle.ssu_ir.specs.inner.Checks.{times_in}
use Rattle.ssu_ir.specs.inner.Under.{label_of}
use Rattle.ssu_ir.proofs.single_use.times_in_all.Given as goal

abbrev pub invariant-loop-l : goal.invariant-loop-l
invariant-loop-l l = l.n ≡ min 255 (times_in l.x (all_defined (map (label_of l.s.nodes.slots) (take l.l-index l.s.labels.items))))
