-- What a whole program declares, and what a body may rest on.
use Rattle.std.specs.Prelude.{◌≡◌, ℕ, zero, suc, Bool, List, [], ◌∷◌, Option, Some, None, slice_get, map, option_map, unwrap_or, if◌then◌else◌, nat_le, nat_lt, true}
use Rattle.nv_ast.specs.Outline.{OutlineTree, outline, IsSound}
use Rattle.nv_ast.specs.Tree.{NamedLayout, FunTree, DeclTree, LayoutDecl, ExceptionDecl, GroupDecl, ProgramTree, TypeTrees}
use Rattle.nv_ast.specs.Types.{Ty, Tys, no_tys, type_of, types_of}
use Rattle.nv_ast.specs.Tests.{look_up, is_among, names_of}
use Rattle.nv_ast.specs.Scope.{Signature, signature, Known, callable, Context}
pub use Rattle.nv_meaning.specs.Meaning.{groups_from}
use Rattle.nv_meaning.specs.Meaning.{Declared, declared, function_in}
use Rattle.nv_meaning.specs.Running.{exception_number}
use Rattle.nv_meaning_values.specs.inner.Tables.{place_from}
use Rattle.nv_flatten_values.specs.inner.Symbols.{SymbolScope, vars_of}

-- the layouts, exceptions and functions; the types of each exception's values; and the number of each function's group
pub record Whole : Type 0 where
  pub declared : Declared
  pub raised : List Tys
  pub groups : List ℕ

-- the types of the values of an exception, by its number
abbrev pub raised_tys : Whole → ℕ → Option Tys
raised_tys w zero = None
raised_tys w (suc i) = slice_get w.raised i

abbrev pub raised_or_none : Whole → ℕ → Tys
raised_or_none w k = unwrap_or (raised_tys w k) no_tys

-- the type of what a function gives, by its name
abbrev pub result_of : Whole → List ℕ → Option Ty
result_of w f = option_map (λ g. type_of w.declared.layouts g.result) (function_in w.declared.functions f)

-- the group of a function, by its name
abbrev pub group_at : Whole → Option ℕ → Option ℕ
group_at w None = None
group_at w (Some i) = slice_get w.groups i

abbrev pub group_of : Whole → List ℕ → Option ℕ
group_of w f = group_at w (place_from 0 f (map (λ g. g.name) w.declared.functions))

-- ---- of a program's text

-- the types of the exceptions' values in the text
abbrev pub raised_in : List DeclTree → List TypeTrees
raised_in [] = []
raised_in (LayoutDecl x l s ∷ ds) = raised_in ds
raised_in (ExceptionDecl x ts s ∷ ds) = ts ∷ raised_in ds
raised_in (GroupDecl fs ∷ ds) = raised_in ds

abbrev pub whole_of : ProgramTree → Whole
whole_of t = record {
  declared = declared t;
  raised = map (λ ts. types_of (declared t).layouts ts) (raised_in t.decls);
  groups = groups_from 0 t.decls;
}

-- ---- what a body may rest on

-- a function of the whole program with this signature, of a group that a body in group `own` may call: an earlier one, or its own
pub record IsCallable (w : Whole) (own : ℕ) (inside : Bool) (f : List ℕ) (g : Signature) : Type 0 where
  pub fun : FunTree
  pub found : function_in w.declared.functions f ≡ Some fun
  pub signed : signature w.declared.layouts fun ≡ g
  pub group : ℕ
  pub numbered : group_of w f ≡ Some group
  pub earlier : (if inside then nat_le group own else nat_lt group own) ≡ true

-- what is known in the bodies of the group `own` is so in the whole program
pub record IsPart (w : Whole) (own : ℕ) (k : Known) : Type 0 where
  pub layouts : (x : List ℕ) (o : OutlineTree) → look_up x k.layouts ≡ Some o → (outline w.declared.layouts (NamedLayout x) ≡ o) × IsSound o
  pub exceptions : (x : List ℕ) (ts : Tys) → look_up x k.exceptions ≡ Some ts → raised_tys w (exception_number w.declared.exceptions x) ≡ Some ts
  pub functions : (f : List ℕ) (g : Signature) → look_up f (callable k) ≡ Some g → IsCallable w own (is_among f (names_of k.own)) f g

-- a place in such a body whose variables have the types of these symbolic values
pub record Stands (w : Whole) (own : ℕ) (scope : SymbolScope) (p : Context) : Type 0 where
  pub part : IsPart w own p.known
  pub vars : p.vars ≡ vars_of scope
