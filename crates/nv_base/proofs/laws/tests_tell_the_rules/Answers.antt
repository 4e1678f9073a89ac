use Rattle.nv_base.proofs.Operands.{is_access, access_moves, has_its_count, count_is_had}
use Rattle.nv_base.proofs.laws.tests_tell_the_rules.Goals as goal

pub returns-clause-access : goal.returns-clause-access
returns-clause-access c = λ m n. (is_access m n, access_moves m n)

pub returns-clause-count : goal.returns-clause-count
returns-clause-count c = λ op. (has_its_count op, count_is_had op)
