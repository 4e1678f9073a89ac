use Rattle.std.proofs.Common.{◌≡◌, nat_eq, map, drop}
use Rattle.std.specs.HashMap.{get}
use Rattle.ssu_liveness.specs.inner.Live.{add_all, value_by}
use Rattle.ssu_liveness.proofs.rows.add_values.Given as goal

abbrev pub invariant-loop-x : goal.invariant-loop-x
invariant-loop-x l = add_all (map (value_by (get nat_eq l.copies)) (drop l.x-index l.xs)) l.row.items ≡ add_all (map (value_by (get nat_eq l.copies)) l.xs) l.fn.row.items
