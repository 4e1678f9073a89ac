-- Operators in front of the tokens that are left.
use Rattle.std.specs.Prelude.{◌≡◌, ℕ, List, ◌∷◌}
use Rattle.nv_ast.specs.declared.token.Sort.TheVariants.{Sign}
use Rattle.nv_ast.specs.declared.token.Token.{Token}
use Rattle.nv_ast.specs.declared.tree.Op.{Op}
use Rattle.nv_ast.specs.declared.tree.ShiftOp.{ShiftOp}
use Rattle.nv_ast.specs.Tokens.{sign_of, level_of, shift_sign_of}
use Rattle.nv_text_parser.specs.inner.Cursor.{Front}

-- the first token is this operator, whose operands are of this level
pub record StartsOperator (l : ℕ) (op : Op) (ts k : List Token) : Type 0 where
  pub token : Token
  pub split : ts ≡ token ∷ k
  pub is : token.sort ≡ Sign (sign_of op)
  pub level : level_of op ≡ l

-- the first token is this shift
pub record StartsShift (op : ShiftOp) (ts k : List Token) : Type 0 where
  pub token : Token
  pub split : ts ≡ token ∷ k
  pub is : token.sort ≡ Sign (shift_sign_of op)

-- no operator whose operands are of this level stands in front
abbrev pub NoOperator : ℕ → List Token → Type 0
NoOperator l ts = Front (λ t. (op : Op) → t.sort ≡ Sign (sign_of op) → level_of op ≡ l → ⊥) ts

-- no shift stands in front
abbrev pub NoShift : List Token → Type 0
NoShift ts = Front (λ t. (op : ShiftOp) → t.sort ≡ Sign (shift_sign_of op) → ⊥) ts
