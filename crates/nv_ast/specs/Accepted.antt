-- A program that is typed and not too large.
use Rattle.std.specs.Prelude.{◌≤◌}
use Rattle.nv_ast.specs.Tree.{ProgramTree}
use Rattle.nv_ast.specs.Faults.{IsTyped}
use Rattle.nv_ast.specs.Sizes.{expanded_size}

pub record IsAccepted (p : ProgramTree) : Type 0 where
  pub typed : IsTyped p
  pub small : expanded_size p ≤ 4096
