use Rattle.std.proofs.Common.{ap, sym, ◌∙◌}
use Rattle.flow_words.specs.Bits.{bits_of}
use Rattle.flow_words.specs.Tables.{look}
use Rattle.flow_words.proofs.Filling.{from_operand}
use Rattle.flow_words.proofs.bits.settled.Goals as goal

pub returns-then-has_bits-clause-same : goal.returns-then-has_bits-clause-same
returns-then-has_bits-clause-same c =
    from_operand (look c.args.table.now) c.args.q c.in-Una.a c.bits_of-bits.result c.has_bits.result (c.bits_of-bits.ensures ∙ ap (bits_of (look c.args.table.now)) (sym c.in-Una.is)) c.has_bits.ensures.0 c.if-has_bits.true

pub returns-then-has_bits-2-clause-same : goal.returns-then-has_bits-2-clause-same
returns-then-has_bits-2-clause-same c =
    from_operand (look c.args.table.now) c.args.q c.in-Bin.a c.bits_of-bits-in-Bin.result c.has_bits-in-Bin.result (c.bits_of-bits-in-Bin.ensures ∙ ap (bits_of (look c.args.table.now)) (sym c.in-Bin.is)) c.has_bits-in-Bin.ensures.0 c.if-has_bits-2.true

pub returns-then-has_bits-3-clause-same : goal.returns-then-has_bits-3-clause-same
returns-then-has_bits-3-clause-same c =
    from_operand (look c.args.table.now) c.args.q c.in-Bin.b c.bits_of-bits-in-Bin.result c.has_bits-else-has_bits-2.result (c.bits_of-bits-in-Bin.ensures ∙ ap (bits_of (look c.args.table.now)) (sym c.in-Bin.is)) c.has_bits-else-has_bits-2.ensures.0 c.if-has_bits-3.true
