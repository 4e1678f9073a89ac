use Rattle.std.proofs.Common.{◌-◌, arith}
use Rattle.bank_prog_form.proofs.RowTerms.{below-place}
use Rattle.bank_prog_form.proofs.terms.place.Goals as goal

pub returns-else-terms-i-clause-below : goal.returns-else-terms-i-clause-below
returns-else-terms-i-clause-below c = λ i l. let f = c.if-terms-i.false in below-place 0 c.args.terms.now (c.loop-i.i - 1) c.args.j i c.requires (omega arith) f (omega arith)
