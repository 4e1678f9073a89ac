use Rattle.std.proofs.Common.{◌≡◌, ℕ, ◌||◌, take}
use Rattle.nv_base.specs.Sets.{is_in}
use Rattle.nova_middle.proofs.rows.Row.add_each.Given as goal

abbrev pub invariant-loop-x : goal.invariant-loop-x
invariant-loop-x l = (y : ℕ) → is_in y l.self.xs.items ≡ (is_in y (take l.x-index l.xs) || is_in y l.initial.self.xs.items)
