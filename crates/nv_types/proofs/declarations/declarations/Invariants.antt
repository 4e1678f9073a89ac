use Rattle.std.proofs.Common.{map, take, drop}
use Rattle.nv_ast.specs.ProgramView.{decl_tree}
use Rattle.nv_types.proofs.Measured.{WalkedSo}
use Rattle.nv_types.proofs.declarations.declarations.Given as goal

abbrev pub invariant-loop-d : goal.invariant-loop-d
invariant-loop-d l = WalkedSo l.initial.checker l.checker (map decl_tree l.ds) (map decl_tree (take l.d-index l.ds)) (map decl_tree (drop l.d-index l.ds))
