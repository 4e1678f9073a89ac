use Rattle.std.proofs.Common.{◌≡◌}
use Rattle.flow_words.specs.Bits as spec
use Rattle.flow_words.specs.Tables.{look}
use Rattle.flow_words.proofs.bits.above.Given as goal

abbrev pub invariant-loop-i : goal.invariant-loop-i
invariant-loop-i l = l.top ≡ spec.above (look l.table) l.a l.b l.i
