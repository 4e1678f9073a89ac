use Rattle.std.proofs.Common.{◌≡◌, ℕ, true, false, take}
use Rattle.nv_base.specs.Sets.{is_in}
use Rattle.flow_ir.specs.View.{tree_view}
use Rattle.flow_ir.specs.Wide.{uses}
use Rattle.flow_merge.proofs.pruning.is_clear.Given as goal

abbrev pub invariant-loop-x : goal.invariant-loop-x
invariant-loop-x l = (y : ℕ) → is_in y (take l.x-index l.gone) ≡ true → is_in y (uses (tree_view l.t)) ≡ false
