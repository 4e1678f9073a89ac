use Rattle.ssu_ir.proofs.Narrow.{narrow_is, is_narrow_from}
use Rattle.ssu_ir.proofs.laws.narrow_literals_are_told.Goals as goal

pub returns : goal.returns
returns c = λ v. (narrow_is v, is_narrow_from v)
