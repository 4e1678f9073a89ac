use Rattle.nv_base.proofs.Frames.{hidden-store, alike-from, fetched-seen, stored-seen, not-stored-seen, source-stretch}
use Rattle.nv_base.proofs.laws.sources_see_enough.Goals as goal

pub returns-clause-hidden : goal.returns-clause-hidden
returns-clause-hidden c = hidden-store

pub returns-clause-fetched : goal.returns-clause-fetched
returns-clause-fetched c = λ m at n p q h k e s. fetched-seen m at n p q (alike-from p q h k e) s

pub returns-clause-stored : goal.returns-clause-stored
returns-clause-stored c = λ m at ws p q r h k e s. stored-seen m at ws p q r (alike-from p q h k e) s

pub returns-clause-past : goal.returns-clause-past
returns-clause-past c = λ m at ws p q h k e s. not-stored-seen m at ws p q (alike-from p q h k e) s

pub returns-clause-addressed : goal.returns-clause-addressed
returns-clause-addressed c = source-stretch
