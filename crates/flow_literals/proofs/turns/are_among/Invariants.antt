use Rattle.std.proofs.Common.{take}
use Rattle.nv_base.specs.Sets.{Within}
use Rattle.flow_literals.proofs.turns.are_among.Given as goal

abbrev pub invariant-loop-v : goal.invariant-loop-v
invariant-loop-v l = Within (take l.v-index l.literals) l.row
