-- Which program a text is.
use Rattle.std.specs.Prelude.{ℕ, List, length}
use Rattle.nv_ast.specs.declared.token.Token.{Token}
use Rattle.nv_ast.specs.Tree.{ProgramTree}
use Rattle.nv_ast.specs.Grammar.{IsProgram}
use Rattle.nv_ast.specs.Positions.{SyntaxAt, DeepAt}
use Rattle.nv_text.specs.declared.error.TextError.{TextError}
use Rattle.nv_text.specs.declared.error.TextError.TheVariants.{NoMemory, Char, Number, Name, Syntax, Deep}
use Rattle.nv_text.specs.Tokens.{IsTokens, TokenFault}

-- the text's tokens are this program
pub record IsTextOf (bytes : List ℕ) (p : ProgramTree) : Type 0 where
  pub tokens : List Token
  pub read : IsTokens bytes tokens
  pub program : IsProgram tokens (length bytes) p

-- the text's tokens cease to begin a program at this place
pub record SyntaxText (bytes : List ℕ) (place : ℕ) : Type 0 where
  pub tokens : List Token
  pub read : IsTokens bytes tokens
  pub fault : SyntaxAt tokens (length bytes) place

-- the text's tokens cease to begin a program of trees up to 100 high at this place, and still begin one
pub record DeepText (bytes : List ℕ) (place : ℕ) : Type 0 where
  pub tokens : List Token
  pub read : IsTokens bytes tokens
  pub fault : DeepAt tokens place

-- the text has this fault
abbrev pub FaultOf : List ℕ → TextError → Type 0
FaultOf bytes NoMemory = ⊥
FaultOf bytes (Char p) = TokenFault bytes (Char p)
FaultOf bytes (Number p) = TokenFault bytes (Number p)
FaultOf bytes (Name p) = TokenFault bytes (Name p)
FaultOf bytes (Syntax p) = SyntaxText bytes p
FaultOf bytes (Deep p) = DeepText bytes p
