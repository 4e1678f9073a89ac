-- How many exceptions some declarations have.
use Rattle.std.specs.Prelude.{ℕ, ◌+◌, List, [], ◌∷◌}
use Rattle.nv_ast.specs.declared.tree.Decl.{Decl}
use Rattle.nv_ast.specs.declared.tree.Decl.TheVariants.{Layout, Exception, Group}

abbrev pub exceptions : List Decl → ℕ
exceptions [] = 0
exceptions (Layout n l s ∷ ds) = exceptions ds
exceptions (Exception n ts s ∷ ds) = 1 + exceptions ds
exceptions (Group fs ∷ ds) = exceptions ds
