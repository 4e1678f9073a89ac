use Rattle.std.proofs.Common.{◌≡◌, ◌+◌, take}
use Rattle.uc_asm.specs.Items.{count}
use Rattle.uc_asm.specs.inner.Seen.{all_seen}
use Rattle.uc_asm.proofs.resolve.line_of.Given as goal

-- the instructions so far and those that are left before the place
abbrev pub invariant-loop-index : goal.invariant-loop-index
invariant-loop-index l = count (all_seen (take l.index l.items)) + l.left ≡ l.place
