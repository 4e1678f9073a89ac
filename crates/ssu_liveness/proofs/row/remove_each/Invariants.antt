use Rattle.std.proofs.Common.{◌≡◌, ◌++◌, drop}
use Rattle.nv_base.specs.Sets.{without}
use Rattle.ssu_liveness.proofs.row.remove_each.Given as goal

abbrev pub invariant-loop-x : goal.invariant-loop-x
invariant-loop-x l = l.kept.items ++ without (drop l.x-index l.row) l.gone ≡ without l.row l.gone
