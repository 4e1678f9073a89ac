use Rattle.nv_types_scopes.proofs.Walked.{IsAfter}
use Rattle.nv_types_scopes.proofs.patterns.has_length.Given as goal

abbrev pub invariant-loop-i : goal.invariant-loop-i
invariant-loop-i l = IsAfter l.table l.types l.list l.i
