-- Small parts of flat code, and which operators they stand for.
use Rattle.std.specs.Prelude.{◌≡◌, ℕ, Bool, true, false, List, [], ◌∷◌, Option, Some, None, if◌then◌else◌}
use Rattle.nv_base.specs.declared.term.Atom.{Atom}
use Rattle.nv_base.specs.declared.term.Atom.TheVariants.{Var}
use Rattle.nv_base.specs.declared.term.Bin.{Bin}
use Rattle.nv_base.specs.declared.term.Bin.TheVariants as bin
use Rattle.nv_base.specs.declared.term.Cmp.{Cmp}
use Rattle.nv_base.specs.declared.term.Cmp.TheVariants as cmp
use Rattle.nv_base.specs.declared.term.Una.TheVariants as una
use Rattle.nv_base.specs.declared.term.Primitive.{Primitive}
use Rattle.nv_base.specs.declared.term.Primitive.TheVariants.{Una as UnaOf}
use Rattle.nv_base.specs.Words.{Env, atom_word, compares}
use Rattle.nv_ast.specs.declared.tree.Op.{Op}
use Rattle.nv_ast.specs.declared.tree.Op.TheVariants.{Add, Sub, And, Or, Xor, Eq, Ne, Lt, Le, Gt, Ge, Both, Either}
use Rattle.nv_ast.specs.declared.tree.ShiftOp.{ShiftOp}
use Rattle.nv_ast.specs.declared.tree.ShiftOp.TheVariants.{Left, Right, Rotate}
use Rattle.nv_ast.specs.Tree.{Tree, ParenTree, BinaryTree, CallTree, RaiseTree, IfTree, TryTree, BlockTree}
use Rattle.nv_ast.specs.Types.{Ty, TupleTy, no_tys}
use Rattle.nv_base.specs.Running as flat
use Rattle.flat_ir.specs.Meaning as code
use Rattle.flat_ir.specs.Spine.{Act, steps_do}
use Rattle.flat_ir.specs.declared.spine.Step.{Step}
use Rattle.nv_flatten_values.specs.declared.parts.Ends.{Ends}
use Rattle.nv_flatten_values.specs.declared.parts.Ends.TheVariants as ends
use Rattle.nv_flatten_values.specs.inner.Symbols.{Symbol, form, Keeps}

-- the operation of an operator on words
abbrev pub arithmetic_of : Op → Option Bin
arithmetic_of Add = Some bin.Add
arithmetic_of Sub = Some bin.Sub
arithmetic_of And = Some bin.And
arithmetic_of Or = Some bin.Or
arithmetic_of Xor = Some bin.Xor
arithmetic_of _ = None

-- the comparison of an operator, and whether its operands change places
abbrev pub comparison_of : Op → Option (Cmp × Bool)
comparison_of Eq = Some (cmp.Eq, false)
comparison_of Ne = Some (cmp.Ne, false)
comparison_of Lt = Some (cmp.Lt, false)
comparison_of Ge = Some (cmp.Ge, false)
comparison_of Gt = Some (cmp.Lt, true)
comparison_of Le = Some (cmp.Ge, true)
comparison_of _ = None

-- how code ends with an operator
abbrev pub ends_of : Op → Ends
ends_of Both = ends.Both
ends_of Either = ends.Either
ends_of Eq = ends.Test
ends_of Ne = ends.Test
ends_of Lt = ends.Test
ends_of Le = ends.Test
ends_of Gt = ends.Test
ends_of Ge = ends.Test
ends_of _ = ends.Value

-- the shift of an operand
abbrev pub shift_of : ShiftOp → ℕ → Atom → Primitive
shift_of Left n a = UnaOf (una.Shl n) a
shift_of Right n a = UnaOf (una.Shr n) a
shift_of Rotate n a = UnaOf (una.Rol n) a

-- the operands of variables
abbrev pub variables : List ℕ → List Atom
variables [] = []
variables (x ∷ xs) = Var x ∷ variables xs

-- expressions whose value steps give, without a choice, call or exception of their own
abbrev pub gives : Ends → Bool
gives ends.Value = true
gives ends.Test = false
gives ends.Both = false
gives ends.Either = false

abbrev pub is_given : Tree → Bool
is_given (ParenTree s e) = false
is_given (BinaryTree s op a b) = gives (ends_of op)
is_given (CallTree s f es) = false
is_given (RaiseTree s x es) = false
is_given (IfTree s c a b) = false
is_given (TryTree s a x ps h) = false
is_given (BlockTree s sts e) = false
is_given _ = true

-- comparisons
abbrev pub tests : Ends → Bool
tests ends.Test = true
tests _ = false

abbrev pub is_comparison : Tree → Bool
is_comparison (BinaryTree s op a b) = tests (ends_of op)
is_comparison _ = false

-- the type of a form; without one, of a tuple of nothing
abbrev pub form_or_unit : Option Symbol → Ty
form_or_unit None = TupleTy no_tys
form_or_unit (Some s) = form s

-- steps that only compute: they come to an assignment of which this holds, and change no variable before this number
pub record Computes (low : ℕ) (steps : List Step) (env : Env) (Holds : Env → Type 0) : Type 0 where
  pub new : Env
  pub does : (call : code.Calls) (rest : Act) (now : flat.Running) → steps_do call steps rest env now ≡ rest new now
  pub keeps : Keeps low env new
  pub holds : Holds new

-- what a test chooses between
abbrev pub chosen : Cmp → Atom → Atom → Act → Act → Act
chosen c a b first second = λ env now. if compares c (atom_word env a) (atom_word env b) then first env now else second env now
