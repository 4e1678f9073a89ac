use Rattle.std.proofs.Common.{◌≡◌, drop}
use Rattle.uc_asm.specs.Items.{count}
use Rattle.uc_asm.specs.inner.Seen.{all_seen}
use Rattle.uc_asm.proofs.item.has_instruction.Given as goal

-- the items so far are labels
abbrev pub invariant-loop-item : goal.invariant-loop-item
invariant-loop-item l = count (all_seen l.items) ≡ count (all_seen (drop l.item-index l.items))
