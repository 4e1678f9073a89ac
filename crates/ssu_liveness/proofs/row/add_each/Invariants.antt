use Rattle.std.proofs.Common.{◌≡◌, drop}
use Rattle.ssu_liveness.specs.inner.Live.{add_all}
use Rattle.ssu_liveness.proofs.row.add_each.Given as goal

abbrev pub invariant-loop-x : goal.invariant-loop-x
invariant-loop-x l = add_all (drop l.x-index l.xs) l.row.items ≡ add_all l.xs l.fn.row.items
