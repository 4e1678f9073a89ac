use Rattle.std.proofs.Common.{◌≡◌, sym, ◌∙◌, arith}
use Rattle.std.proofs.Common.{w32, rules}
use mir.Val.{SFits}
use Rattle.std.proofs.lemmas.Int.{ints}
use Rattle.nv_lines.proofs.NumberLemmas.{signed_one, mag_small}
use Rattle.nv_lines.proofs.number.read_signed.Goals as goal
use Rattle.nv_lines.proofs.number.read_signed.Goals.{else-from-z-via-then-from-z+else-z-from, else-from-z-via-else-from-z}

pub returns-else-from-z-clause-none : goal.returns-else-from-z-clause-none
returns-else-from-z-clause-none c z low high e =
    let low_fits : SFits w32 c.args.low = search rules in
    let high_fits : SFits w32 c.args.high = search rules in
    let same : c.in_ok-z.z ≡ z = signed_one c.in_ok-z.z z (mag_small _ c.in_ok-z.ensures.from c.in_ok-z.ensures.to) (mag_small z (omega (arith, ints)) (omega (arith, ints))) (sym c.in_ok-z.ensures.spelled ∙ e) in
    elim c.else-from-z.branch [ else-from-z-via-then-from-z+else-z-from w ↦ omega (arith, ints, w.if-z-from.false, w.from-then-from-z.ensures) | else-from-z-via-else-from-z w ↦ omega (arith, ints, w.if-from-z.false, c.from.ensures) ]
