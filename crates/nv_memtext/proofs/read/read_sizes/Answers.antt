use Rattle.nv_memtext.proofs.FaultLemmas.{bad_no_line, bad_sizes}
use Rattle.nv_memtext.proofs.read.read_sizes.Goals as goal

pub returns-in_default-clause-err : goal.returns-in_default-clause-err
returns-in_default-clause-err c = λ params. bad_no_line params _ c.in_default.ensures.none

pub returns-in_default-sizes_of-clause-err : goal.returns-in_default-sizes_of-clause-err
returns-in_default-sizes_of-clause-err c =
    λ params. bad_sizes params _ _ _ c.in-Some.ensures.line c.in-Some.ensures.one c.in_default-sizes_of.ensures.none
