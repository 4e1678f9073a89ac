-- Primitives that aren't computed again.
use Rattle.std.specs.Prelude.{◌≡◌, ℕ, ◌-◌, nat_eq, Bool, true, false, ◌&&◌, ◌⊎◌, ⊤, List, [], ◌∷◌, ◌++◌, drop, length}
use Rattle.std.specs.List.{list_any}
use Rattle.nv_base.specs.declared.term.Atom.{Atom}
use Rattle.nv_base.specs.declared.term.Atom.TheVariants.{Var, Lit}
use Rattle.nv_base.specs.declared.term.Una.{Una}
use Rattle.nv_base.specs.declared.term.Una.TheVariants.{Not, Shl, Shr, Rol}
use Rattle.nv_base.specs.declared.term.Bin.{Bin}
use Rattle.nv_base.specs.declared.term.Bin.TheVariants.{Add, Sub, And, Or, Xor}
use Rattle.nv_base.specs.declared.term.Primitive.{Primitive}
use Rattle.nv_base.specs.declared.term.Primitive.TheVariants.{Same, Una as UnaOf, Bin as BinOf}
use Rattle.flow_ir.specs.Tree.{Tree, Let, Read, Write, If, Jump, Halt}

-- ---- two primitives are the same

abbrev pub same_atom : Atom → Atom → Bool
same_atom (Var x) (Var y) = nat_eq x y
same_atom (Lit v) (Lit w) = nat_eq v w
same_atom (Var x) (Lit w) = false
same_atom (Lit v) (Var y) = false

abbrev pub una_code : Una → ℕ × ℕ
una_code Not = (0, 0)
una_code (Shl k) = (1, k)
una_code (Shr k) = (2, k)
una_code (Rol k) = (3, k)

abbrev pub bin_code : Bin → ℕ
bin_code Add = 0
bin_code Sub = 1
bin_code And = 2
bin_code Or = 3
bin_code Xor = 4

abbrev pub same_una : Una → Una → Bool
same_una a b = nat_eq (una_code a).0 (una_code b).0 && nat_eq (una_code a).1 (una_code b).1

abbrev pub same_bin : Bin → Bin → Bool
same_bin a b = nat_eq (bin_code a) (bin_code b)

abbrev pub same : Primitive → Primitive → Bool
same (Same a) (Same b) = same_atom a b
same (Same a) (UnaOf op b) = false
same (Same a) (BinOf op b c) = false
same (UnaOf op a) (Same b) = false
same (UnaOf op a) (UnaOf other b) = same_una op other && same_atom a b
same (UnaOf op a) (BinOf other b c) = false
same (BinOf op a b) (Same c) = false
same (BinOf op a b) (UnaOf other c) = false
same (BinOf op a b) (BinOf other c d) = same_bin op other && (same_atom a c && same_atom b d)

-- ---- none is computed again

abbrev pub is_operand : Primitive → Bool
is_operand (Same a) = true
is_operand (UnaOf op a) = false
is_operand (BinOf op a b) = false

-- the nearest 256 of those above, which stand in order
abbrev pub near : {A : Type 0} → List A → List A
near above = drop (length above - 256) above

-- no `Let` has the primitive of one of the nearest 256 above it on its path, unless it is just an operand
abbrev pub NoneAgain : List Primitive → Tree → Type 0
NoneAgain above (Let x p t) = ((is_operand p ≡ true) ⊎ (list_any (λ q. same q p) (near above) ≡ false)) × NoneAgain (above ++ p ∷ []) t
NoneAgain above (Read m xs a t) = NoneAgain above t
NoneAgain above (Write m a bs t) = NoneAgain above t
NoneAgain above (If c a b t u) = NoneAgain above t × NoneAgain above u
NoneAgain above (Jump l bs) = ⊤
NoneAgain above (Halt e bs) = ⊤
