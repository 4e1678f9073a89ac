-- What stands in front of the tokens that are left.
use Rattle.std.specs.Prelude.{◌≡◌, ℕ, List, [], ◌∷◌}
use Rattle.nv_ast.specs.declared.token.Sort.TheVariants.{Word, Number, Key, Sign}
use Rattle.nv_ast.specs.declared.token.Token.{Token}
use Rattle.nv_text_parser.specs.declared.cursor.Failure.{Failure}
use Rattle.nv_text_parser.specs.declared.cursor.Failure.TheVariants.{NoMemory, Syntax, Deep}

-- what holds of the token in front, if there is one
abbrev pub Front : (Token → Type 0) → List Token → Type 0
Front Q [] = Unit {0}
Front Q (t ∷ ts) = Q t

-- this sign doesn't stand in front
abbrev pub NotSign : ℕ → List Token → Type 0
NotSign n ts = Front (λ t. t.sort ≡ Sign n → ⊥) ts

-- this keyword doesn't stand in front
abbrev pub NotKey : ℕ → List Token → Type 0
NotKey n ts = Front (λ t. t.sort ≡ Key n → ⊥) ts

-- no number stands in front
abbrev pub NotNumber : List Token → Type 0
NotNumber ts = Front (λ t. (n : ℕ) → t.sort ≡ Number n → ⊥) ts

-- no name stands in front
abbrev pub NotName : List Token → Type 0
NotName ts = Front (λ t. (x : List ℕ) → t.sort ≡ Word x → ⊥) ts

-- the first of these tokens fits nothing
abbrev pub IsSyntax : List Token → Failure → Type 0
IsSyntax ts (Syntax left) = left.now ≡ ts
IsSyntax ts NoMemory = ⊥
IsSyntax ts (Deep left) = ⊥

-- memory exhaustion, or the first of these tokens fits nothing, and that is so
abbrev pub IsSyntaxOrMemory : Type 0 → List Token → Failure → Type 0
IsSyntaxOrMemory P ts (Syntax left) = (left.now ≡ ts) × P
IsSyntaxOrMemory P ts NoMemory = Unit {0}
IsSyntaxOrMemory P ts (Deep left) = ⊥
