use Rattle.uc_schedule.proofs.Reading.{bad_no_line, bad_count, read_first}
use Rattle.uc_schedule.proofs.read.read_count.Goals as goal

pub returns-in_default-clause-err : goal.returns-in_default-clause-err
returns-in_default-clause-err c = λ params. bad_no_line params _ c.in_default.ensures.none

pub returns-in_default-count_of-clause-err : goal.returns-in_default-count_of-clause-err
returns-in_default-count_of-clause-err c = λ params. bad_count params _ _ _ c.in-Some.ensures.line c.in-Some.ensures.one c.in_default-count_of.ensures.none

pub returns-clause-ok : goal.returns-clause-ok
returns-clause-ok c = λ params. read_first params c.in-Some-count_of.count _ _ _ c.in-Some.ensures.line c.in-Some-count_of.ensures.some
