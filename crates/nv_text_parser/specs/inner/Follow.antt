-- What may follow a phrase: which tokens never go on with it.
use Rattle.std.specs.Prelude.{ℕ, ◌<◌, List, [], ◌∷◌, get_or}
use Rattle.nv_ast.specs.declared.token.Token.{Token}
use Rattle.nv_ast.specs.declared.token.Sort.{Sort}
use Rattle.nv_ast.specs.declared.token.Sort.TheVariants.{Word, Number, Key, Sign}

-- How far a token reaches: the bracket of a call and dots go with an operand, then come the operators by level, commas, what
-- begins an operand, what begins another expression, and last what ends them all.
abbrev pub key_rank : ℕ → ℕ
key_rank n = get_or (13 ∷ 13 ∷ 13 ∷ 0 ∷ 12 ∷ 12 ∷ 13 ∷ 11 ∷ 11 ∷ 12 ∷ 12 ∷ 13 ∷ 11 ∷ 11 ∷ 11 ∷ 11 ∷ 11 ∷ 11 ∷ 11 ∷ 13 ∷ 11 ∷ 11 ∷ 11 ∷ []) n 13

abbrev pub sign_rank : ℕ → ℕ
sign_rank n = get_or (2 ∷ 2 ∷ 4 ∷ 6 ∷ 5 ∷ 11 ∷ 3 ∷ 3 ∷ 3 ∷ 7 ∷ 7 ∷ 7 ∷ 7 ∷ 7 ∷ 7 ∷ 8 ∷ 9 ∷ 11 ∷ 13 ∷ 13 ∷ 13 ∷ 13 ∷ 10 ∷ 1 ∷ 11 ∷ 13 ∷ 11 ∷ 13 ∷ 0 ∷ 13 ∷ 0 ∷ []) n 13

abbrev pub rank : Sort → ℕ
rank (Word x) = 11
rank (Number n) = 11
rank (Key n) = key_rank n
rank (Sign n) = sign_rank n

-- nothing follows, or a token of a higher rank
abbrev pub Above : ℕ → List Token → Type 0
Above n [] = Unit {0}
Above n (t ∷ ts) = n < rank t.sort
