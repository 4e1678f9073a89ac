use Rattle.std.proofs.Common.{arith, sym, refl}
use Rattle.std.proofs.lemmas.Int.Digits.{digits_value_more, digits_more}
use Rattle.std.proofs.lemmas.Bool.{eqb-true, eqb-false, false≢true}
use Rattle.nv_lines.proofs.NumberLemmas.{no_decimal_empty, no_decimal_padded, no_decimal_byte, no_decimal_front, decimal_at_end}
use Rattle.nv_lines.proofs.number.read_decimal.Goals as goal

pub returns-then-is_empty-clause-none : goal.returns-then-is_empty-clause-none
returns-then-is_empty-clause-none c = no_decimal_empty _ c.args.most (omega arith) (eqb-true _ _ (sym c.if-is_empty.ensures))

pub returns-then-is_padded-clause-none : goal.returns-then-is_padded-clause-none
returns-then-is_padded-clause-none c = no_decimal_padded _ c.args.most (omega arith) (c.if-is_padded.ensures.0 refl).0 (c.if-is_padded.ensures.0 refl).1

pub returns-in_err-digit-clause-none : goal.returns-in_err-digit-clause-none
returns-in_err-digit-clause-none c =
    rw c.from_residual.ensures (no_decimal_byte _ c.args.most c.loop-byte.byte-index (omega arith) (omega arith) c.in_err-digit.ensures.none)

pub returns-in_err-value-clause-none : goal.returns-in_err-value-clause-none
returns-in_err-value-clause-none c =
    rw c.from_residual-in_err-value.ensures (no_decimal_front _ c.args.most c.loop-byte.byte-index c.loop-byte.value c.in_ok-digit.digit (omega arith) (omega arith) c.loop-byte.invariant.1 c.in_ok-digit.ensures.some c.in_err-value.ensures.none)

pub loop-byte-preserved : goal.loop-byte-preserved
loop-byte-preserved c =
    let ds = c.args.spelling.now in
    let i = c.loop-byte.byte-index in (
      digits_more 10 ds i (omega arith) c.loop-byte.invariant.0 (omega (arith, c.in_ok-digit.ensures)),
      omega (arith, digits_value_more 10 ds i (omega arith), c.loop-byte.invariant.1, c.in_ok-digit.ensures.some, c.in_ok-value.ensures.some),
      c.in_ok-value.ensures.within,
    )

pub returns-clause-spelled : goal.returns-clause-spelled
returns-clause-spelled c =
    decimal_at_end c.args.spelling.now c.loop-byte.byte-index c.loop-byte.value (omega arith) c.loop-byte.invariant.0 c.loop-byte.invariant.1 (omega arith)
    (eqb-false _ _ (sym c.if-is_empty.ensures))
    (λ zero_first long. false≢true (c.if-is_padded.ensures.1 (zero_first, long)))
