use Rattle.std.proofs.Common.{◌≤◌, ◌+◌, ℕ, List, length}
use Rattle.nv_memtext.specs.inner.Reading.{HasLines, HasLengths}
use Rattle.nv_memtext.proofs.read.read_stretches.Given as goal

abbrev pub invariant-loop-line : goal.invariant-loop-line
invariant-loop-line l =
    (l.number + length l.lines ≤ 2 + length l.initial.lines) × HasLengths l.packet l.sizes.sram l.sizes.sdram
    × ((params : ℕ) (bytes args : List ℕ) → HasLines params l.sizes.sram l.sizes.sdram bytes l.initial.lines l.initial.packet args 2 → HasLines params l.sizes.sram l.sizes.sdram bytes l.lines l.packet args l.number)

abbrev pub decreases-loop-line : goal.decreases-loop-line
decreases-loop-line l = length l.lines
