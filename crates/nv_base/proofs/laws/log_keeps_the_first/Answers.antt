use Rattle.nv_base.proofs.LogLemmas.{keeps_first, counts_all}
use Rattle.nv_base.proofs.laws.log_keeps_the_first.Goals as goal

pub returns-clause-kept : goal.returns-clause-kept
returns-clause-kept c = keeps_first

pub returns-clause-counted : goal.returns-clause-counted
returns-clause-counted c = counts_all
