-- Which tokens begin a program, and at which token of a faulty text they cease to.
use Rattle.std.specs.Prelude.{◌≡◌, ℕ, ◌<◌, ◌≤◌, List, [], ◌∷◌, ◌++◌}
use Rattle.nv_ast.specs.declared.token.Token.{Token}
use Rattle.nv_ast.specs.Tree.{DeclTree}
use Rattle.nv_ast.specs.Height.{highest_decl}
use Rattle.nv_ast.specs.Grammar.{IsDecls}

-- the tokens begin a program: some tokens after them complete one
pub record Begins (seen : List Token) : Type 0 where
  pub more : List Token
  pub decls : List DeclTree
  pub spelled : IsDecls decls (seen ++ more) []

-- they begin a program without a tree higher than 100
pub record BeginsLow (seen : List Token) : Type 0 where
  pub more : List Token
  pub decls : List DeclTree
  pub spelled : IsDecls decls (seen ++ more) []
  pub low : highest_decl decls ≤ 100

-- these tokens begin no program with the next one of `left`, or are none themselves where nothing is left
abbrev pub Dead : List Token → List Token → Type 0
Dead seen [] = (decls : List DeclTree) → IsDecls decls seen [] → ⊥
Dead seen (t ∷ left) = Begins (seen ++ t ∷ []) → ⊥

-- the first byte of the first token that is left, or the text's length
abbrev pub place_of : List Token → ℕ → ℕ
place_of [] length = length
place_of (t ∷ left) length = t.span.first

-- the tokens before this place begin a program of low trees, and with the token at this place they begin none; at the text's length, where all tokens begin a program and are none
pub record SyntaxAt (ts : List Token) (length place : ℕ) : Type 0 where
  pub seen : List Token
  pub left : List Token
  pub split : ts ≡ seen ++ left
  pub here : place ≡ place_of left length
  pub begins : BeginsLow seen
  pub dead : Dead seen left

-- the tokens before this place begin a program of low trees; with the token at this place they still begin a program, but each has a tree higher than 100
pub record DeepAt (ts : List Token) (place : ℕ) : Type 0 where
  pub seen : List Token
  pub token : Token
  pub left : List Token
  pub split : ts ≡ seen ++ token ∷ left
  pub here : place ≡ token.span.first
  pub begins : BeginsLow seen
  pub goes_on : Begins (seen ++ token ∷ [])
  pub high : (more : List Token) (decls : List DeclTree) → IsDecls decls (seen ++ token ∷ more) [] → 100 < highest_decl decls
