use Rattle.std.proofs.Common.{ℕ, sym, ap, ◌∙◌, below_more, arith}
use Rattle.reg_assign_reading.specs.inner.Reading.{says, column_of}
use Rattle.reg_assign_reading.proofs.Readings.{first-eighth, no-eighth}
use Rattle.reg_assign_reading.proofs.reading.Reading.first_on.Goals as goal

pub loop-r-preserved : goal.loop-r-preserved
loop-r-preserved c = below_more _ _ c.loop-r.invariant (ap (says c.args.self.now) (sym c.column.ensures) ∙ sym c.is_on.ensures ∙ c.if-is_on.false)

pub returns-then-is_on : goal.returns-then-is_on
returns-then-is_on c =
    sym (first-eighth (λ (r : ℕ). says c.args.self.now (column_of c.args.family r)) c.loop-r.r (omega arith) c.loop-r.invariant (ap (says c.args.self.now) (sym c.column.ensures) ∙ sym c.is_on.ensures ∙ c.if-is_on.true))

pub returns : goal.returns
returns c = sym (no-eighth (λ (r : ℕ). says c.args.self.now (column_of c.args.family r)) (λ j l. c.loop-r.invariant j (omega arith)))
