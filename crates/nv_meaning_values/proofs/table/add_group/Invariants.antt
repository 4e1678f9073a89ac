use Rattle.std.proofs.Common.{◌≡◌, ◌++◌, map, take}
use Rattle.nv_ast.specs.ProgramView.{fun_tree}
use Rattle.nv_meaning_values.proofs.table.add_group.Given as goal

abbrev pub invariant-loop-f : goal.invariant-loop-f
invariant-loop-f l = map (λ f. fun_tree f.now) l.functions.items ≡ map (λ f. fun_tree f.now) l.fn.functions.items ++ map fun_tree (take l.f-index l.group)
