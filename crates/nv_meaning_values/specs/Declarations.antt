-- What a program declares, and the numbers of its groups of functions.
use Rattle.std.specs.Prelude.{ℕ, suc, if◌then◌else◌, List, [], ◌∷◌, ◌++◌, length, replicate, Option, Some, None, bytes_eq}
use Rattle.nv_ast.specs.Tree.{FunTree, DeclTree, LayoutDecl, ExceptionDecl, GroupDecl, ProgramTree}
use Rattle.nv_ast.specs.Outline.{Layouts, outline}

-- the layouts and the names of the exceptions, in order, and all functions
pub record Declared : Type 0 where
  pub layouts : Layouts
  pub exceptions : List (List ℕ)
  pub functions : List FunTree

abbrev pub with_decl : Declared → DeclTree → Declared
with_decl d (LayoutDecl x l s) = record d { layouts = d.layouts ++ (x, outline d.layouts l) ∷ [] }
with_decl d (ExceptionDecl x ts s) = record d { exceptions = d.exceptions ++ x ∷ [] }
with_decl d (GroupDecl fs) = record d { functions = d.functions ++ fs }

abbrev pub with_decls : Declared → List DeclTree → Declared
with_decls d [] = d
with_decls d (decl ∷ decls) = with_decls (with_decl d decl) decls

abbrev pub declared : ProgramTree → Declared
declared t = with_decls (record { layouts = []; exceptions = []; functions = [] }) t.decls

abbrev pub function_in : List FunTree → List ℕ → Option FunTree
function_in [] x = None
function_in (f ∷ fs) x = if bytes_eq x f.name then Some f else function_in fs x

-- the number of a function's group, where groups are numbered in order and each function has its group's number
abbrev pub groups_from : ℕ → List DeclTree → List ℕ
groups_from n [] = []
groups_from n (LayoutDecl x l s ∷ ds) = groups_from n ds
groups_from n (ExceptionDecl x ts s ∷ ds) = groups_from n ds
groups_from n (GroupDecl fs ∷ ds) = replicate (length fs) n ++ groups_from (suc n) ds

abbrev pub group_in : List FunTree → List ℕ → List ℕ → ℕ
group_in (g ∷ gs) (n ∷ ns) f = if bytes_eq f g.name then n else group_in gs ns f
group_in _ _ f = 0
