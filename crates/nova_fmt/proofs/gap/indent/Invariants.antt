use Rattle.std.proofs.Common.{◌≡◌, ◌++◌}
use Rattle.std.specs.Prelude.{replicate}
use Rattle.nova_fmt.specs.Gaps.{indent}
use Rattle.nova_fmt.proofs.gap.indent.Given as goal

abbrev pub invariant-loop-left : goal.invariant-loop-left
invariant-loop-left l = l.out.items ++ replicate l.left 32 ≡ l.fn.out.items ++ indent l.level

abbrev pub decreases-loop-left : goal.decreases-loop-left
decreases-loop-left l = l.left
