use Rattle.std.proofs.Common.{◌∙◌, sym, arith}
use Rattle.nv_lines.proofs.NumberLemmas.{decimal_one}
use Rattle.zo_cert.proofs.report_reader.column_of.Goals as goal

pub returns-then-column-low-clause-none : goal.returns-then-column-low-clause-none
returns-then-column-low-clause-none c = λ j low high e.
    let same = decimal_one j c.in_ok-column.column (omega (arith, high, c.requires)) (omega (arith, c.in_ok-column.ensures.within)) (sym e ∙ c.in_ok-column.ensures.spelled) in
    omega (arith, low, same, c.if-column-low.true)

pub returns-then-column-columns-clause-none : goal.returns-then-column-columns-clause-none
returns-then-column-columns-clause-none c = λ j low high e.
    let same = decimal_one j c.in_ok-column.column (omega (arith, high, c.requires)) (omega (arith, c.in_ok-column.ensures.within)) (sym e ∙ c.in_ok-column.ensures.spelled) in
    omega (arith, high, same, c.if-column-columns.true)
