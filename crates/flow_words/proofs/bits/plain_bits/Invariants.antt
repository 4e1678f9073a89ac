use Rattle.std.proofs.Common.{◌≡◌, ℕ, ◌<◌, get_or, length}
use Rattle.flow_words.specs.Bits as spec
use Rattle.flow_words.specs.Tables.{look}
use Rattle.flow_words.specs.declared.bits.Bit.TheVariants.{Unknown}
use Rattle.flow_words.proofs.bits.plain_bits.Given as goal

abbrev pub invariant-loop-i : goal.invariant-loop-i
invariant-loop-i l = (length l.bits ≡ 32) × ((k : ℕ) → k < l.i → get_or l.bits k Unknown ≡ spec.plain_bit (look l.table) l.p k)
