use Rattle.std.proofs.Common.{◌≡◌, ℕ, ◌||◌, take}
use Rattle.nv_base.specs.Sets.{is_in, all_vars}
use Rattle.nova_middle.proofs.rows.Row.add_all.Given as goal

abbrev pub invariant-loop-a : goal.invariant-loop-a
invariant-loop-a l = (y : ℕ) → is_in y l.self.xs.items ≡ (is_in y (all_vars (take l.a-index l.atoms)) || is_in y l.initial.self.xs.items)
