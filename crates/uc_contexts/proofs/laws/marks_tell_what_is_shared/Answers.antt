use Rattle.uc_contexts.proofs.Disjoint.{disjoint-unshared, shared-not_disjoint, first-common}
use Rattle.uc_contexts.proofs.laws.marks_tell_what_is_shared.Goals as goal

pub returns-clause-disjoint : goal.returns-clause-disjoint
returns-clause-disjoint c = disjoint-unshared

pub returns-clause-shared : goal.returns-clause-shared
returns-clause-shared c = shared-not_disjoint

pub returns-clause-first : goal.returns-clause-first
returns-clause-first c = first-common
