-- Lists of which the first part is read.
use Rattle.std.specs.Prelude.{◌≡◌, ℕ, List, ◌∷◌}
use Rattle.nv_ast.specs.declared.token.Token.{Token}
use Rattle.nv_ast.specs.declared.token.Span.{Span}
use Rattle.nv_ast.specs.Tokens.{a_name, sign_open, sign_close, sign_open_bracket, sign_close_bracket}
use Rattle.nv_ast.specs.Tree.{LayoutTree, LayoutTrees, layout_and, FieldTree, FieldTrees, field_and, TypeTree, TypeTrees, type_and, NamedTypes, named_type_and, PatternTree, PatternTrees, pattern_and, Tree, Trees, tree_and, NamedTrees, named_tree_and, StatementTree, StatementTrees, statement_and, FunTree}
use Rattle.nv_ast.specs.Grammar.{IsMoreLayouts, IsMoreFields, IsMoreAlternatives, IsMoreTypes, IsMoreNamedTypes, IsMorePatterns, IsMoreExprs, IsMoreMembers, IsStatements, IsMoreFuns}

-- layouts: the first, and those that follow it in the tokens
pub record LayoutsAfter (first : LayoutTree) (all : LayoutTrees) (ts k : List Token) : Type 0 where
  pub new : LayoutTrees
  pub list : IsMoreLayouts new ts k
  pub whole : all ≡ layout_and first new

-- fields: the first, and those that follow it in the tokens
pub record FieldsAfter (name : List ℕ) (first : FieldTree) (all : FieldTrees) (ts k : List Token) : Type 0 where
  pub new : FieldTrees
  pub list : IsMoreFields new ts k
  pub whole : all ≡ field_and name first new

-- alternatives: the first, and those that follow it in the tokens
pub record AlternativesAfter (name : List ℕ) (first : FieldTree) (all : FieldTrees) (ts k : List Token) : Type 0 where
  pub new : FieldTrees
  pub list : IsMoreAlternatives new ts k
  pub whole : all ≡ field_and name first new

-- types: the first, and those that follow it in the tokens
pub record TypesAfter (first : TypeTree) (all : TypeTrees) (ts k : List Token) : Type 0 where
  pub new : TypeTrees
  pub list : IsMoreTypes new ts k
  pub whole : all ≡ type_and first new

-- named types: the first, and those that follow it in the tokens
pub record NamedTypesAfter (name : List ℕ) (first : TypeTree) (all : NamedTypes) (ts k : List Token) : Type 0 where
  pub new : NamedTypes
  pub list : IsMoreNamedTypes new ts k
  pub whole : all ≡ named_type_and name first new

-- patterns: the first, and those that follow it in the tokens
pub record PatternsAfter (first : PatternTree) (all : PatternTrees) (ts k : List Token) : Type 0 where
  pub new : PatternTrees
  pub list : IsMorePatterns new ts k
  pub whole : all ≡ pattern_and first new

-- exprs: the first, and those that follow it in the tokens
pub record ExprsAfter (first : Tree) (all : Trees) (ts k : List Token) : Type 0 where
  pub new : Trees
  pub list : IsMoreExprs new ts k
  pub whole : all ≡ tree_and first new

-- members: the first, and those that follow it in the tokens
pub record MembersAfter (name : List ℕ) (first : Tree) (all : NamedTrees) (ts k : List Token) : Type 0 where
  pub new : NamedTrees
  pub list : IsMoreMembers new ts k
  pub whole : all ≡ named_tree_and name first new

-- statements: the first, and those that follow it in the tokens
pub record StatementsAfter (first : StatementTree) (all : StatementTrees) (ts k : List Token) : Type 0 where
  pub new : StatementTrees
  pub list : IsStatements new ts k
  pub whole : all ≡ statement_and first new

-- functions: the first, and those that follow it in the tokens
pub record FunsAfter (first : FunTree) (all : List FunTree) (ts k : List Token) : Type 0 where
  pub new : List FunTree
  pub list : IsMoreFuns new ts k
  pub whole : all ≡ first ∷ new

-- a name in round brackets
pub record InBrackets (name : List ℕ) (ts k : List Token) : Type 0 where
  pub open_ : Span
  pub at : Span
  pub close : Span
  pub split : ts ≡ sign_open open_ ∷ a_name at name ∷ sign_close close ∷ k

-- a layout's name in square brackets, and an opening bracket
pub record NamesLayout (name : List ℕ) (ts k : List Token) : Type 0 where
  pub open_ : Span
  pub at : Span
  pub close : Span
  pub bracket : Span
  pub split : ts ≡ sign_open_bracket open_ ∷ a_name at name ∷ sign_close_bracket close ∷ sign_open bracket ∷ k
