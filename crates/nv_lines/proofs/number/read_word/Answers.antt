use Rattle.std.proofs.Common.{arith}
use Rattle.std.proofs.lemmas.Int.Digits.{digits_value_more, digits_more}
use Rattle.nv_lines.proofs.NumberLemmas.{word_front, no_word_byte}
use Rattle.nv_lines.proofs.number.read_word.Goals as goal

pub returns-in_err-digit-clause-none : goal.returns-in_err-digit-clause-none
returns-in_err-digit-clause-none c =
    rw c.from_residual.ensures (no_word_byte _ c.loop-byte.byte-index (omega arith) c.in_err-digit.ensures.none)

pub overflow_mul-value : goal.overflow_mul-value
overflow_mul-value c =
    omega (arith, c.loop-byte.invariant.1, word_front c.args.spelling.now c.loop-byte.byte-index (omega arith) (omega arith) c.loop-byte.invariant.0)

pub overflow_add-value : goal.overflow_add-value
overflow_add-value c =
    omega (arith, c.in_ok-digit.ensures.below, c.loop-byte.invariant.1, word_front c.args.spelling.now c.loop-byte.byte-index (omega arith) (omega arith) c.loop-byte.invariant.0)

pub loop-byte-preserved : goal.loop-byte-preserved
loop-byte-preserved c =
    let ds = c.args.spelling.now in
    let i = c.loop-byte.byte-index in (
      digits_more 16 ds i (omega arith) c.loop-byte.invariant.0 (omega (arith, c.in_ok-digit.ensures)),
      omega (arith, digits_value_more 16 ds i (omega arith), c.loop-byte.invariant.1, c.in_ok-digit.ensures.some),
    )
