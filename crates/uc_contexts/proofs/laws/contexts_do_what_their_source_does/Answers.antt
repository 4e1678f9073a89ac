use Rattle.uc_contexts.proofs.Sources.{end_as_source, share_no_slot}
use Rattle.uc_contexts.proofs.laws.contexts_do_what_their_source_does.Goals as goal

pub returns-clause-ended : goal.returns-clause-ended
returns-clause-ended c = end_as_source

pub returns-clause-slots : goal.returns-clause-slots
returns-clause-slots c = share_no_slot
