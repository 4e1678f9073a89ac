use Rattle.uc_isa.proofs.EntryLemmas.{starts_of_shape}
use Rattle.uc_isa.proofs.executions_laws.starts_of_labels.Goals as goal

pub returns : goal.returns
returns c = starts_of_shape
