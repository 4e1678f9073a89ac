use Rattle.std.proofs.Common.{◌≡◌, ◌++◌, length}
use Rattle.nova_fmt.specs.Gaps.{lines, more_lines}
use Rattle.nova_fmt.proofs.gap.more_lines.Given as goal

abbrev pub invariant-loop-first : goal.invariant-loop-first
invariant-loop-first l = l.out.items ++ more_lines l.level (lines l.rest) ≡ l.fn.out.items ++ more_lines l.level (lines l.bytes)

abbrev pub decreases-loop-first : goal.decreases-loop-first
decreases-loop-first l = length l.rest
