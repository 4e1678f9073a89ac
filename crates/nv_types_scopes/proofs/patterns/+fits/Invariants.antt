use Rattle.std.proofs.Common.{drop}
use Rattle.nv_types_scopes.proofs.Walked.{FitSo}
use Rattle.nv_types_scopes.proofs.patterns.+fits.Given as goal

abbrev pub invariant-fits_all-loop-p : goal.invariant-fits_all-loop-p
invariant-fits_all-loop-p l = FitSo l.table l.ps (drop l.p-index l.ps) l.types l.list
