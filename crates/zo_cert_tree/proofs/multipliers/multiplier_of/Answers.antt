use Rattle.std.proofs.Common.{arith}
use Rattle.zo_cert_tree.proofs.MultiplierLemmas.{no_colon, multiplier_parts, multiplier_is}
use Rattle.zo_cert_tree.proofs.multipliers.multiplier_of.Goals as goal

pub returns-in_err-row-clause-none : goal.returns-in_err-row-clause-none
returns-in_err-row-clause-none c = rw c.from_residual.ensures (no_colon _ _ c.in_err-row.ensures.none)

pub returns-in_err-row-2-clause-none : goal.returns-in_err-row-2-clause-none
returns-in_err-row-2-clause-none c =
    rw c.from_residual-in_err-row-2.ensures (λ m h.
    let p = multiplier_parts _ _ _ _ m c.in_ok-row.ensures.first c.in_ok-row.ensures.split h in
    c.in_err-row-2.ensures.none m.0 (omega (arith, h.high)) p.0)

pub returns-in_err-multiplier-clause-none : goal.returns-in_err-multiplier-clause-none
returns-in_err-multiplier-clause-none c =
    rw c.from_residual-in_err-multiplier.ensures (λ m h.
    let p = multiplier_parts _ _ _ _ m c.in_ok-row.ensures.first c.in_ok-row.ensures.split h in
    c.in_err-multiplier.ensures.none m.1 (omega (arith, h.small)) p.1)

pub returns-then-row-low-clause-none : goal.returns-then-row-low-clause-none
returns-then-row-low-clause-none c = λ m h.
    let s = multiplier_is _ _ _ _ m _ _ c.in_ok-row.ensures.first c.in_ok-row.ensures.split (omega (arith, c.in_ok-row-2.ensures.within)) c.in_ok-row-2.ensures.spelled (omega (arith, c.in_ok-multiplier.ensures.within)) c.in_ok-multiplier.ensures.spelled h in
    omega (arith, h.low, s.0, c.if-row-low.true)

pub returns-then-multiplier-eq0-clause-none : goal.returns-then-multiplier-eq0-clause-none
returns-then-multiplier-eq0-clause-none c = λ m h.
    let s = multiplier_is _ _ _ _ m _ _ c.in_ok-row.ensures.first c.in_ok-row.ensures.split (omega (arith, c.in_ok-row-2.ensures.within)) c.in_ok-row-2.ensures.spelled (omega (arith, c.in_ok-multiplier.ensures.within)) c.in_ok-multiplier.ensures.spelled h in
    omega (arith, h.not_zero, s.1, c.if-multiplier-eq0.true)
