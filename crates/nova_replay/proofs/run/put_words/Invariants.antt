use Rattle.std.proofs.Common.{◌≡◌, ◌+◌, ◌*◌, ◌%◌, ◌≤◌, length}
use Rattle.nv_base.specs.Memories.{stored}
use Rattle.nv_base.specs.declared.term.Mem.TheVariants.{Sdram}
use Rattle.nova_replay.proofs.run.put_words.Given as goal

-- the rest is still to be stored, and there is room for it
abbrev pub invariant-loop-rest : goal.invariant-loop-rest
invariant-loop-rest l = record {
  left : stored Sdram l.place l.rest l.memory ≡ stored Sdram l.at l.words l.initial.memory;
  fits : 2 * l.place + length l.rest ≤ length l.memory.sdram;
  even : length l.rest % 2 ≡ 0;
}

abbrev pub decreases-loop-rest : goal.decreases-loop-rest
decreases-loop-rest l = length l.rest
