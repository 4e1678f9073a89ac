use Rattle.uc_asm.specs.inner.Reading.{HasItems}
use Rattle.uc_asm.specs.inner.Seen.{all_seen}
use Rattle.std.proofs.Common.{length}
use Rattle.uc_asm.proofs.assembler.read_text.Given as goal

abbrev pub invariant-loop-line : goal.invariant-loop-line
invariant-loop-line l = HasItems l.text l.params (all_seen l.items.items) l.lines

abbrev pub decreases-loop-line : goal.decreases-loop-line
decreases-loop-line l = length l.lines
