use Rattle.std.proofs.Common.{drop}
use Rattle.nv_ast.specs.Tests.{names_of}
use Rattle.nv_types_scopes.specs.inner.Standing.{KeepsDeclared}
use Rattle.nv_types_scopes.proofs.Params.{BindingSo}
use Rattle.nv_types_scopes.proofs.functions.Checker.bind_params.Given as goal

abbrev pub invariant-loop-p : goal.invariant-loop-p
invariant-loop-p l = record {
  so : BindingSo l.initial.self l.self (names_of l.f.params.items) (names_of (drop l.p-index l.f.params.items)) l.types l.list;
  keeps : KeepsDeclared l.initial.self l.self;
}
