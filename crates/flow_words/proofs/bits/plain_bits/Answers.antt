use Rattle.std.proofs.Common.{arith}
use Rattle.flow_words.specs.Bits as spec
use Rattle.flow_words.specs.Tables.{look}
use Rattle.flow_words.proofs.Filling.{all_bits}
use Rattle.flow_words.proofs.bits.plain_bits.Goals as goal

pub returns : goal.returns
returns c = let done = c.loop-i-test.false in all_bits (spec.plain_bit (look c.args.table.now) c.args.p) c.loop-i.bits c.loop-i.invariant.0 (λ k lt. c.loop-i.invariant.1 k (omega (arith, lt, done)))
