use Rattle.std.proofs.Common.{◌≡◌, [], map, take, drop}
use Rattle.nv_ast.specs.ProgramView.{fun_tree}
use Rattle.nv_types_scopes.specs.inner.Standing.{Keeps}
use Rattle.nv_types_scopes.proofs.Groups.{BodiedSo, CountedSo}
use Rattle.nv_types.proofs.declarations.bodies.Given as goal

abbrev pub invariant-loop-f : goal.invariant-loop-f
invariant-loop-f l = record {
  so : BodiedSo l.initial.checker (map fun_tree l.fs) (map fun_tree (drop l.f-index l.fs));
  counted : CountedSo l.initial.checker l.whole (map fun_tree l.fs) (map fun_tree (take l.f-index l.fs));
  keeps : l.initial.checker.scope ≡ [] → Keeps l.initial.checker l.checker;
}
