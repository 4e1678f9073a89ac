-- What an expression is judged by: what is declared, and the variables with their types.
use Rattle.std.specs.Prelude.{ℕ, Bool, true, false, ◌&&◌, List, [], ◌∷◌, ◌++◌, Option, Some, None}
use Rattle.nv_ast.specs.Outline.{Layouts, outline}
use Rattle.nv_ast.specs.Tree.{PatternTree, NamePattern, AnyPattern, TuplePattern, PatternTrees, no_patterns, pattern_and, FunTree, DeclTree, LayoutDecl, ExceptionDecl, GroupDecl}
use Rattle.nv_ast.specs.Types.{Ty, TupleTy, Tys, no_tys, ty_and, NamedTys, no_named_tys, named_ty_and, type_of, types_of, named_types_of}

-- the types of a function's parameters, with their names, and of its result
pub record Signature : Type 0 where
  pub params : NamedTys
  pub result : Ty

-- the layouts, the exceptions with the types of their values, the functions of earlier groups and those of the own group, each in the order of their declarations
pub record Known : Type 0 where
  pub layouts : Layouts
  pub exceptions : List (List ℕ × Tys)
  pub functions : List (List ℕ × Signature)
  pub own : List (List ℕ × Signature)

abbrev pub nothing_known : Known
nothing_known = record { layouts = []; exceptions = []; functions = []; own = [] }

-- the functions that may be called: those of earlier groups and of the own one
abbrev pub callable : Known → List (List ℕ × Signature)
callable k = k.functions ++ k.own

-- the variables with their types, the newest first
abbrev pub Vars : Type 0
Vars = List (List ℕ × Ty)

-- what an expression stands in; `tail` says that its value is the function's
pub record Context : Type 0 where
  pub known : Known
  pub vars : Vars
  pub tail : Bool

-- a place inside, whose value isn't the function's
abbrev pub inside : Context → Context
inside p = record { known = p.known; vars = p.vars; tail = false }

-- the same place with other variables
abbrev pub with_vars : Vars → Context → Context
with_vars vars p = record { known = p.known; vars = vars; tail = p.tail }

-- ---- the types of a list, without names
abbrev pub plain_tys : NamedTys → Tys
plain_tys no_named_tys = no_tys
plain_tys (named_ty_and x t ts) = ty_and t (plain_tys ts)

-- ---- patterns

-- the variables with those of a pattern at a type in front of them; a part that doesn't fit binds none
abbrev mutual
  pub bind : PatternTree → Ty → Vars → Vars
  bind (NamePattern x) t vars = (x, t) ∷ vars
  bind AnyPattern t vars = vars
  bind (TuplePattern ps) (TupleTy ts) vars = bind_all ps ts vars
  bind (TuplePattern ps) _ vars = vars

  pub bind_all : PatternTrees → Tys → Vars → Vars
  bind_all (pattern_and p ps) (ty_and t ts) vars = bind_all ps ts (bind p t vars)
  bind_all _ _ vars = vars

-- the same for an expression's type, if it has a value
abbrev pub bind_value : PatternTree → Option Ty → Vars → Vars
bind_value p None vars = vars
bind_value p (Some t) vars = bind p t vars

-- the same for an exception's types, if it is known
abbrev pub bind_raised : PatternTrees → Option Tys → Vars → Vars
bind_raised ps None vars = vars
bind_raised ps (Some ts) vars = bind_all ps ts vars

-- the variables of some parameters
abbrev pub param_vars : NamedTys → Vars → Vars
param_vars no_named_tys vars = vars
param_vars (named_ty_and x t ts) vars = param_vars ts ((x, t) ∷ vars)

-- whether a pattern fits a type: a tuple of patterns fits a tuple of as many types that they fit
abbrev mutual
  pub fits : PatternTree → Ty → Bool
  fits (NamePattern x) t = true
  fits AnyPattern t = true
  fits (TuplePattern ps) (TupleTy ts) = fits_all ps ts
  fits (TuplePattern ps) _ = false

  pub fits_all : PatternTrees → Tys → Bool
  fits_all no_patterns no_tys = true
  fits_all (pattern_and p ps) (ty_and t ts) = fits p t && fits_all ps ts
  fits_all _ _ = false

-- the names in a pattern
abbrev mutual
  pub names_in : PatternTree → List (List ℕ)
  names_in (NamePattern x) = x ∷ []
  names_in AnyPattern = []
  names_in (TuplePattern ps) = names_in_all ps

  pub names_in_all : PatternTrees → List (List ℕ)
  names_in_all no_patterns = []
  names_in_all (pattern_and p ps) = names_in p ++ names_in_all ps

-- ---- declarations

abbrev pub signature : Layouts → FunTree → Signature
signature layouts f = record { params = named_types_of layouts f.params; result = type_of layouts f.result }

-- the functions of a group with their signatures
abbrev pub signatures : Layouts → List FunTree → List (List ℕ × Signature)
signatures layouts [] = []
signatures layouts (f ∷ fs) = (f.name, signature layouts f) ∷ signatures layouts fs

-- what is known in the bodies of a group
abbrev pub in_group : Known → List FunTree → Known
in_group k fs = record { layouts = k.layouts; exceptions = k.exceptions; functions = k.functions; own = signatures k.layouts fs }

-- what is known after a declaration
abbrev pub known_after : Known → DeclTree → Known
known_after k (LayoutDecl x l s) = record { layouts = k.layouts ++ (x, outline k.layouts l) ∷ []; exceptions = k.exceptions; functions = k.functions; own = k.own }
known_after k (ExceptionDecl x ts s) = record { layouts = k.layouts; exceptions = k.exceptions ++ (x, types_of k.layouts ts) ∷ []; functions = k.functions; own = k.own }
known_after k (GroupDecl fs) = record { layouts = k.layouts; exceptions = k.exceptions; functions = k.functions ++ signatures k.layouts fs; own = k.own }
