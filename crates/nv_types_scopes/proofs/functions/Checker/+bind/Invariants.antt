use Rattle.std.proofs.Common.{drop}
use Rattle.nv_types_scopes.specs.inner.Patterns.{Adds}
use Rattle.nv_types_scopes.proofs.Bound.{BindSo}
use Rattle.nv_types_scopes.proofs.functions.Checker.+bind.Given as goal

abbrev pub invariant-bind_all-loop-p : goal.invariant-bind_all-loop-p
invariant-bind_all-loop-p l = record {
  adds : Adds l.initial.self l.self;
  so : BindSo l.initial.self l.self l.ps (drop l.p-index l.ps) l.types l.list;
}
