-- Which literals a label that jumps to itself loads in each turn.
use Rattle.std.specs.Prelude.{◌≡◌, ℕ, ◌+◌, ◌≤◌, nat_eq, Bool, true, false, ◌||◌, if◌then◌else◌, List, [], ◌∷◌, ◌++◌, Some, length, slice_get, ◌⊎◌}
use Rattle.nv_base.specs.declared.term.Mem.{Mem}
use Rattle.nv_base.specs.declared.term.Mem.TheVariants.{Sram, Sdram, Scratch}
use Rattle.nv_base.specs.declared.term.Cmp.{Cmp}
use Rattle.nv_base.specs.declared.term.Cmp.TheVariants.{Eq, Ne, Lt, Ge}
use Rattle.nv_base.specs.declared.term.Atom.{Atom}
use Rattle.nv_base.specs.declared.term.Atom.TheVariants.{Var, Lit}
use Rattle.nv_base.specs.declared.term.Primitive.{Primitive}
use Rattle.nv_base.specs.declared.term.Primitive.TheVariants.{Same, Una as UnaOf, Bin as BinOf}
use Rattle.flow_ir.specs.Tree.{Tree, Let, Read, Write, If, Jump, Halt, Label}

-- ---- what a node loads

abbrev pub literal : Atom → List ℕ
literal (Var x) = []
literal (Lit v) = v ∷ []

abbrev pub prim_literals : Primitive → List ℕ
prim_literals (Same a) = literal a
prim_literals (UnaOf op a) = literal a
prim_literals (BinOf op a b) = literal a ++ literal b

-- an address of scratch is always a literal
abbrev pub address_literals : Mem → Atom → List ℕ
address_literals Sram a = literal a
address_literals Sdram a = literal a
address_literals Scratch a = []

abbrev pub is_zero : Atom → Bool
is_zero (Var x) = false
is_zero (Lit v) = nat_eq v 0

-- a word is tested for 0 by itself
abbrev pub is_zero_test : Cmp → Atom → Bool
is_zero_test Eq a = is_zero a
is_zero_test Ne a = is_zero a
is_zero_test Lt a = false
is_zero_test Ge a = false

abbrev pub test_literals : Cmp → Atom → List ℕ
test_literals c a = if is_zero_test c a then [] else literal a

-- ---- what a turn loads

-- a tree jumps to this label
abbrev pub goes_back : ℕ → Tree → Bool
goes_back l (Let x a t) = goes_back l t
goes_back l (Read m xs a t) = goes_back l t
goes_back l (Write m a bs t) = goes_back l t
goes_back l (If c a b t u) = goes_back l t || goes_back l u
goes_back l (Jump k bs) = nat_eq k l
goes_back l (Halt e bs) = false

-- of the only arm that goes back
abbrev pub only : Bool → Bool → List ℕ → List ℕ → List ℕ
only true true a b = []
only true false a b = a
only false true a b = b
only false false a b = b

-- up to the first test both of whose arms go back
abbrev pub turn_literals : ℕ → Tree → List ℕ
turn_literals l (Let x p t) = prim_literals p ++ turn_literals l t
turn_literals l (Read m xs a t) = address_literals m a ++ turn_literals l t
turn_literals l (Write m a bs t) = address_literals m a ++ turn_literals l t
turn_literals l (If c a b t u) = (test_literals c a ++ test_literals c b) ++ only (goes_back l t) (goes_back l u) (turn_literals l t) (turn_literals l u)
turn_literals l (Jump k bs) = []
turn_literals l (Halt e bs) = []

-- a label that jumps to itself takes so many literals, has so many parameters then, or loads no literal in each turn
abbrev pub IsHeld : ℕ → ℕ → ℕ → Label → Label → Type 0
IsHeld literals params l before after =
    goes_back l after.body ≡ true → (length before.params + literals ≤ length after.params) ⊎ ((params ≤ length after.params) ⊎ (turn_literals l after.body ≡ []))

-- so does each but label 0, to which nothing jumps
abbrev pub AreHeld : ℕ → ℕ → List Label → List Label → Type 0
AreHeld literals params labels news = (l : ℕ) (before after : Label) → 1 ≤ l → slice_get labels l ≡ Some before → slice_get news l ≡ Some after → IsHeld literals params l before after
