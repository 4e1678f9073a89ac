-- How many exceptions a list of declarations has, as it grows.
use Rattle.std.proofs.Common.{◌≡◌, ◌∙◌, sym, ap, ◌+◌, List, [], ◌∷◌, ◌++◌, zero-add, add_assoc}
use Rattle.nv_ast.specs.declared.tree.Decl.{Decl}
use Rattle.nv_ast.specs.declared.tree.Decl.TheVariants.{Layout, Exception, Group}
use Rattle.nv_ast.specs.Exceptions.{exceptions}

pub exceptions_append : (xs ys : List Decl) → exceptions (xs ++ ys) ≡ exceptions xs + exceptions ys
exceptions_append [] ys = sym (zero-add (exceptions ys))
exceptions_append (Layout n l s ∷ xs) ys = exceptions_append xs ys
exceptions_append (Exception n ts s ∷ xs) ys = ap (λ n. 1 + n) (exceptions_append xs ys) ∙ sym (add_assoc 1 (exceptions xs) (exceptions ys))
exceptions_append (Group fs ∷ xs) ys = exceptions_append xs ys
