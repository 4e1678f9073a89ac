-- The rules for primitives, and what each answers.
use Rattle.std.specs.Prelude.{◌≡◌, ℕ, ◌-◌, ◌^◌, nat_eq, Bool, false, ◌||◌, if◌then◌else◌, Option, Some, None, is_some}
use Rattle.nv_base.specs.declared.term.Atom.{Atom}
use Rattle.nv_base.specs.declared.term.Atom.TheVariants.{Var, Lit}
use Rattle.nv_base.specs.declared.term.Una.{Una}
use Rattle.nv_base.specs.declared.term.Bin.{Bin}
use Rattle.nv_base.specs.declared.term.Bin.TheVariants.{Add, Sub, And, Or, Xor}
use Rattle.nv_base.specs.declared.term.Primitive.{Primitive}
use Rattle.nv_base.specs.declared.term.Primitive.TheVariants.{Same, Una as UnaOf, Bin as BinOf}
use Rattle.nv_base.specs.Words.{word, una_word, bin_word}
use Rattle.flow_ir.specs.Tree.{Label}
use Rattle.cps_rules.specs.Simplified.{EachLet}

-- ---- an operation on literals gives its word

abbrev pub value_of_one : Una → Atom → Option Primitive
value_of_one op (Lit v) = Some (Same (Lit (una_word op (word v))))
value_of_one op (Var x) = None

abbrev pub value_of_two : Bin → Atom → Atom → Option Primitive
value_of_two op (Lit v) (Lit w) = Some (Same (Lit (bin_word op (word v) (word w))))
value_of_two op (Lit v) (Var y) = None
value_of_two op (Var x) b = None

abbrev pub value_rule : Primitive → Option Primitive
value_rule (Same a) = None
value_rule (UnaOf op a) = value_of_one op a
value_rule (BinOf op a b) = value_of_two op a b

-- ---- an operation that leaves one of its operands as it is gives this

abbrev pub is_literal : ℕ → Atom → Bool
is_literal n (Lit v) = nat_eq v n
is_literal n (Var x) = false

abbrev pub is_operand : Atom → Atom → Bool
is_operand (Var x) (Var y) = nat_eq x y
is_operand (Lit v) (Lit w) = nat_eq v w
is_operand (Var x) (Lit w) = false
is_operand (Lit v) (Var y) = false

-- the word whose bits are all set
abbrev pub ones : ℕ
ones = 2 ^ 32 - 1

-- x + 0, x - 0, x | 0, x | x, x ^ 0, x & 0xFFFFFFFF, x & x
abbrev pub leaves_first : Bin → Atom → Atom → Bool
leaves_first Add a b = is_literal 0 b
leaves_first Sub a b = is_literal 0 b
leaves_first Or a b = is_literal 0 b || is_operand a b
leaves_first Xor a b = is_literal 0 b
leaves_first And a b = is_literal ones b || is_operand a b

-- 0 + x, 0 | x, 0 ^ x, 0xFFFFFFFF & x
abbrev pub leaves_second : Bin → Atom → Bool
leaves_second Add a = is_literal 0 a
leaves_second Sub a = false
leaves_second Or a = is_literal 0 a
leaves_second Xor a = is_literal 0 a
leaves_second And a = is_literal ones a

abbrev pub operand_rule : Primitive → Option Primitive
operand_rule (Same a) = None
operand_rule (UnaOf op a) = None
operand_rule (BinOf op a b) = if leaves_first op a b then Some (Same a) else (if leaves_second op a then Some (Same b) else None)

-- ---- an operation that leaves nothing gives 0

-- x & 0, 0 & x, x - x, x ^ x
abbrev pub leaves_nothing : Bin → Atom → Atom → Bool
leaves_nothing Add a b = false
leaves_nothing Sub a b = is_operand a b
leaves_nothing Or a b = false
leaves_nothing Xor a b = is_operand a b
leaves_nothing And a b = is_literal 0 a || is_literal 0 b

abbrev pub nothing_rule : Primitive → Option Primitive
nothing_rule (Same a) = None
nothing_rule (UnaOf op a) = None
nothing_rule (BinOf op a b) = if leaves_nothing op a b then Some (Same (Lit 0)) else None

-- ---- where the rules are done

-- some rule answers this primitive
abbrev pub is_answered : Primitive → Bool
is_answered p = is_some (value_rule p) || (is_some (operand_rule p) || is_some (nothing_rule p))

-- no `Let` holds a primitive that a rule answers
abbrev pub IsAtRest : Label → Type 0
IsAtRest l = EachLet (λ x p rest. is_answered p ≡ false) l.body
