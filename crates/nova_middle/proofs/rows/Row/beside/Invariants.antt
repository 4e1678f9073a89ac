use Rattle.std.proofs.Common.{◌≡◌, ◌+◌, ◌≤◌, drop}
use Rattle.nv_base.specs.Sets.{different, without, all_vars}
use Rattle.nova_middle.proofs.rows.Row.beside.Given as goal

abbrev pub invariant-loop-x : goal.invariant-loop-x
invariant-loop-x l = (l.n + different (without (drop l.x-index l.self.xs.items) (all_vars l.atoms)) ≡ different (without l.self.xs.items (all_vars l.atoms))) × (l.n ≤ l.x-index)
