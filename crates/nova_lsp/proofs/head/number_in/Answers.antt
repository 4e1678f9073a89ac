use Rattle.std.proofs.Common.{arith, ◌∙◌, sym}
use Rattle.std.proofs.lemmas.Int.Digits.{digits_value_more}
use Rattle.std.proofs.lemmas.Bool.{eqb-false}
use Rattle.nova_lsp.proofs.LengthLaws.{no_number, too_large, digits_more, number_is}
use Rattle.nova_lsp.proofs.head.number_in.Goals as goal

pub returns-in_err-digit : goal.returns-in_err-digit
returns-in_err-digit c = c.from_residual.ensures ∙ sym (no_number c.args.digits.now c.loop-byte.byte-index (omega arith) c.in_err-digit.ensures.none)

pub returns-in_err-value : goal.returns-in_err-value
returns-in_err-value c =
    c.from_residual-in_err-value.ensures ∙ sym (too_large c.args.digits.now c.loop-byte.byte-index c.loop-byte.value c.in_ok-digit.digit (omega arith) c.loop-byte.invariant.0 c.in_ok-digit.ensures.some c.in_err-value.ensures.none)

pub loop-byte-preserved : goal.loop-byte-preserved
loop-byte-preserved c =
    let ds = c.args.digits.now in
    let i = c.loop-byte.byte-index in (
      omega (arith, digits_value_more 10 ds i (omega arith), c.loop-byte.invariant.0, c.in_ok-digit.ensures.some, c.in_ok-value.ensures.some),
      digits_more ds i c.in_ok-digit.digit (omega arith) c.loop-byte.invariant.1 c.in_ok-digit.ensures.some c.in_ok-digit.ensures.below,
      c.in_ok-value.ensures.fits,
    )

pub returns : goal.returns
returns c =
    let some = eqb-false _ _ (sym c.if-is_empty.ensures) in
    number_is c.args.digits.now c.loop-byte.byte-index c.loop-byte.value (omega arith) (omega (arith, some)) c.loop-byte.invariant.0 c.loop-byte.invariant.1 c.loop-byte.invariant.2
