use Rattle.std.proofs.Common.{◌-◌, length}
use Rattle.std.below.core.specs.declared.int.usize.TheConstants.{MAX}
use Rattle.nv_flatten_values.specs.inner.WholeView.{whole_in}
use Rattle.nv_flatten.proofs.Bounding.{BoundedSoFar}
use Rattle.nv_flatten.proofs.program.called_from.Given as goal

abbrev pub invariant-loop-name : goal.invariant-loop-name
invariant-loop-name l = BoundedSoFar (whole_in l.t) l.first l.names l.funs.items

abbrev pub decreases-loop-name : goal.decreases-loop-name
decreases-loop-name l = MAX - length l.funs.items
