use Rattle.std.proofs.Common.{drop}
use Rattle.nv_types_scopes.proofs.SharedNames.{SharedSo}
use Rattle.nv_types_scopes.proofs.functions.Checker.without_seen_names.Given as goal

abbrev pub invariant-loop-s : goal.invariant-loop-s
invariant-loop-s l = SharedSo l.self.table l.shapes (drop l.s-index l.shapes) l.seen.keys
