-- What a table of declarations holds.
use Rattle.std.specs.Prelude.{ℕ, Bool, true, false, List, [], ◌∷◌, ◌++◌, Option, Some, None, map}
use Rattle.std.specs.Borrow.{Bor}
use Rattle.nv_ast.specs.Tree.{LayoutTree, NamedLayout, GapLayout, PartsLayout, JoinedLayout, FunTree, DeclTree, LayoutDecl, ExceptionDecl, GroupDecl}
use Rattle.nv_ast.specs.declared.tree.LayoutText.{LayoutText}
use Rattle.nv_ast.specs.LayoutView.{layout_tree}
use Rattle.nv_ast.specs.Outline.{Layouts, outline}
pub use Rattle.nv_meaning_values.specs.inner.Places.{place_from}

-- the outlines of the known layouts and of further ones, each of which may name those before it
abbrev pub laid : Layouts → List (List ℕ × LayoutTree) → Layouts
laid known [] = known
laid known (l ∷ ls) = laid (known ++ (l.0, outline known l.1) ∷ []) ls

-- the layouts in the table, as pairs of their name and their tree
abbrev pub layout_pairs : List (Bor (List ℕ) × Bor LayoutText) → List (List ℕ × LayoutTree)
layout_pairs ls = map (λ l. (l.0.now, layout_tree l.1.now)) ls

-- a layout that is the name of another one
abbrev pub is_alias : LayoutTree → Bool
is_alias (NamedLayout x) = true
is_alias (GapLayout n) = false
is_alias (PartsLayout fs) = false
is_alias (JoinedLayout ls) = false

-- the first of two places that is there
abbrev pub or_else : Option ℕ → Option ℕ → Option ℕ
or_else None b = b
or_else (Some i) b = Some i

-- the functions, layouts and exceptions among some declarations
abbrev pub functions_in : List DeclTree → List FunTree
functions_in [] = []
functions_in (LayoutDecl x l s ∷ ds) = functions_in ds
functions_in (ExceptionDecl x ts s ∷ ds) = functions_in ds
functions_in (GroupDecl fs ∷ ds) = fs ++ functions_in ds

abbrev pub layouts_in : List DeclTree → List (List ℕ × LayoutTree)
layouts_in [] = []
layouts_in (LayoutDecl x l s ∷ ds) = (x, l) ∷ layouts_in ds
layouts_in (ExceptionDecl x ts s ∷ ds) = layouts_in ds
layouts_in (GroupDecl fs ∷ ds) = layouts_in ds

abbrev pub exceptions_in : List DeclTree → List (List ℕ)
exceptions_in [] = []
exceptions_in (LayoutDecl x l s ∷ ds) = exceptions_in ds
exceptions_in (ExceptionDecl x ts s ∷ ds) = x ∷ exceptions_in ds
exceptions_in (GroupDecl fs ∷ ds) = exceptions_in ds
