use Rattle.std.proofs.Common.{arith}
use Rattle.std.proofs.lemmas.Int.{ints}
use Rattle.zo_model.proofs.TermLemmas.{no_colon, term_parts, term_is}
use Rattle.nv_lines.proofs.NumberLemmas.{mag_small}
use Rattle.zo_model.proofs.read_text.term_of.Goals as goal
use Rattle.zo_model.proofs.read_text.term_of.Goals.{then-column-low-via-then-column-low, then-column-low-via-else-column-low+then-columns-column, then-column-low-via-else-column-low+else-columns-column+then-coefficient-eq0}

pub returns-in_err-column-clause-none : goal.returns-in_err-column-clause-none
returns-in_err-column-clause-none c = rw c.from_residual.ensures (no_colon _ _ _ c.in_err-column.ensures.none)

pub returns-in_err-column-2-clause-none : goal.returns-in_err-column-2-clause-none
returns-in_err-column-2-clause-none c =
    rw c.from_residual-in_err-column-2.ensures (λ t h.
    let p = term_parts _ _ _ _ _ t c.requires c.in_ok-column.ensures.first c.in_ok-column.ensures.split h in
    c.in_err-column-2.ensures.none t.0 (omega (arith, h.high, c.requires)) p.0)

pub returns-in_err-coefficient-clause-none : goal.returns-in_err-coefficient-clause-none
returns-in_err-coefficient-clause-none c =
    rw c.from_residual-in_err-coefficient.ensures (λ t h.
    let p = term_parts _ _ _ _ _ t c.requires c.in_ok-column.ensures.first c.in_ok-column.ensures.split h in
    c.in_err-coefficient.ensures.none t.1 h.coefficient_fits.low h.coefficient_fits.high p.1)

pub returns-then-column-low-clause-none : goal.returns-then-column-low-clause-none
returns-then-column-low-clause-none c = λ t h.
    let small = mag_small c.in_ok-coefficient.coefficient (omega (arith, ints, c.in_ok-coefficient.ensures.from)) (omega (arith, ints, c.in_ok-coefficient.ensures.to)) in
    let s = term_is _ _ _ _ _ t _ _ c.requires c.in_ok-column.ensures.first c.in_ok-column.ensures.split c.in_ok-column-2.ensures.within c.in_ok-column-2.ensures.spelled small c.in_ok-coefficient.ensures.spelled h in
    elim c.then-column-low.branch [
      | then-column-low-via-then-column-low w ↦ omega (arith, h.low, s.0, w.if-column-low.true)
      | then-column-low-via-else-column-low+then-columns-column w ↦ omega (arith, h.high, s.0, w.if-columns-column.true)
      | then-column-low-via-else-column-low+else-columns-column+then-coefficient-eq0 w ↦ h.coefficient_fits.not_zero (omega (arith, ints, s.1, w.if-coefficient-eq0.true))
    ]
