use Rattle.std.proofs.Common.{◌≡◌, ℕ, ◌<◌, true}
use Rattle.flow_words.specs.Bits as spec
use Rattle.flow_words.specs.Tables.{look}
use Rattle.flow_words.proofs.bits.has_bits.Given as goal

abbrev pub invariant-loop-i : goal.invariant-loop-i
invariant-loop-i l = (k : ℕ) → k < l.i → spec.is_same (spec.bit_of l.bits k) (spec.atom_bit (look l.table) l.a k) ≡ true
