-- What the operators give of words.
use Rattle.std.specs.Prelude.{ℕ, false, not, nat_eq, nat_lt}
use Rattle.nv_base.specs.declared.term.Bin.TheVariants as bin
use Rattle.nv_base.specs.Words.{bin_word, shifted_left, shifted_right, rotated_left}
use Rattle.nv_ast.specs.declared.tree.Op.{Op}
use Rattle.nv_ast.specs.declared.tree.Op.TheVariants.{Add, Sub, And, Or, Xor, Eq, Ne, Lt, Le, Gt, Ge, Both, Either}
use Rattle.nv_ast.specs.declared.tree.ShiftOp.{ShiftOp}
use Rattle.nv_ast.specs.declared.tree.ShiftOp.TheVariants.{Left, Right, Rotate}
use Rattle.nv_meaning_values.specs.Values.{Value, Word, Truth}

-- the value of an operator that evaluates both operands; comparison is unsigned
abbrev pub combined : Op → ℕ → ℕ → Value
combined Add x y = Word (bin_word bin.Add x y)
combined Sub x y = Word (bin_word bin.Sub x y)
combined And x y = Word (bin_word bin.And x y)
combined Or x y = Word (bin_word bin.Or x y)
combined Xor x y = Word (bin_word bin.Xor x y)
combined Eq x y = Truth (nat_eq x y)
combined Ne x y = Truth (not (nat_eq x y))
combined Lt x y = Truth (nat_lt x y)
combined Le x y = Truth (not (nat_lt y x))
combined Gt x y = Truth (nat_lt y x)
combined Ge x y = Truth (not (nat_lt x y))
combined Both x y = Truth false
combined Either x y = Truth false

-- the word of a shift by n places
abbrev pub shifted : ShiftOp → ℕ → ℕ → ℕ
shifted Left n x = shifted_left n x
shifted Right n x = shifted_right n x
shifted Rotate n x = rotated_left n x
