use Rattle.uc_isa.proofs.Effects.{does-alike, keeps-value, goes-on, keeps-engine, keeps-sizes, value-none}
use Rattle.uc_isa.proofs.executions_laws.effects_by_reads.Goals as goal

pub returns-clause-alike : goal.returns-clause-alike
returns-clause-alike c = does-alike

pub returns-clause-kept : goal.returns-clause-kept
returns-clause-kept c = keeps-value

pub returns-clause-goes : goal.returns-clause-goes
returns-clause-goes c = goes-on

pub returns-clause-states : goal.returns-clause-states
returns-clause-states c = λ i e p f h sizes. (keeps-engine i e p f h sizes, keeps-sizes i e p f h sizes)

pub returns-clause-none : goal.returns-clause-none
returns-clause-none c = value-none
