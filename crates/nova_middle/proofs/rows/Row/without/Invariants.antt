use Rattle.std.proofs.Common.{◌≡◌, ℕ, ◌&&◌, not, take}
use Rattle.nv_base.specs.Sets.{is_in}
use Rattle.nova_middle.proofs.rows.Row.without.Given as goal

abbrev pub invariant-loop-x : goal.invariant-loop-x
invariant-loop-x l = (y : ℕ) → is_in y l.left.xs.items ≡ (is_in y (take l.x-index l.self.xs.items) && not (is_in y l.gone))
