-- How literals become parameters.
use Rattle.std.specs.Prelude.{◌≡◌, ℕ, suc, ◌+◌, ◌<◌, ◌≤◌, nat_eq, nat_lt, true, if◌then◌else◌, List, [], ◌∷◌, ◌++◌, Option, Some, None, map, length, slice_get, slice_index_or, ◌⊎◌, ⊤}
use Rattle.std.specs.List.{range_with_len}
use Rattle.std.specs.declared.vec.Vec.{Vec}
use Rattle.std.specs.declared.alloc.Global.{Global}
use Rattle.nv_base.specs.declared.term.Mem.{Mem}
use Rattle.nv_base.specs.declared.term.Mem.TheVariants.{Sram, Sdram, Scratch}
use Rattle.nv_base.specs.declared.term.Cmp.{Cmp}
use Rattle.nv_base.specs.declared.term.Atom.{Atom}
use Rattle.nv_base.specs.declared.term.Atom.TheVariants.{Var, Lit}
use Rattle.nv_base.specs.declared.term.Primitive.{Primitive}
use Rattle.nv_base.specs.declared.term.Primitive.TheVariants.{Same, Una as UnaOf, Bin as BinOf}
use Rattle.nv_base.specs.Sets.{is_in, Within}
use Rattle.flow_ir.specs.Formed.{defined}
use Rattle.flow_ir.specs.Tree.{Tree, Let, Read, Write, If, Jump, Halt, Label}
use Rattle.flow_literals.specs.Turns.{is_zero_test, goes_back, turn_literals}

-- ---- the literals that labels take

abbrev pub row_of : Option (Vec ℕ Global) → List ℕ
row_of (Some row) = row.items
row_of None = []

abbrev pub heads_of : List (Vec ℕ Global) → ℕ → List ℕ
heads_of table l = row_of (slice_get table l)

-- label l takes none where it is 0; where it jumps to itself it takes so many, has so many parameters then, or takes all that each turn loads
pub record IsRow (literals params l : ℕ) (m : Label) (row : Vec ℕ Global) : Type 0 where
  pub first : l ≡ 0 → row.items ≡ []
  pub held : 1 ≤ l → goes_back l m.body ≡ true → (literals ≤ length row.items) ⊎ ((params ≤ length row.items + length m.params) ⊎ Within (turn_literals l m.body) row.items)

-- so do all of these from number i on
abbrev pub AreRows : ℕ → ℕ → ℕ → List Label → List (Vec ℕ Global) → Type 0
AreRows literals params i [] [] = ⊤
AreRows literals params i (l ∷ ls) (r ∷ rs) = IsRow literals params i l r × AreRows literals params (suc i) ls rs
AreRows literals params i [] (r ∷ rs) = ⊥
AreRows literals params i (l ∷ ls) [] = ⊥

-- ---- operands

-- what stands for a literal: the parameter that it is, or itself
abbrev pub held : List ℕ → List ℕ → ℕ → Atom
held [] xs v = Lit v
held (w ∷ ws) [] v = Lit v
held (w ∷ ws) (x ∷ xs) v = if nat_eq v w then Var x else held ws xs v

-- the variable at a place, or the literal
abbrev pub name_at : List ℕ → ℕ → ℕ → Atom
name_at xs i v = if nat_lt i (length xs) then Var (slice_index_or xs i 0) else Lit v

abbrev pub at : (ℕ → Atom) → Atom → Atom
at own (Var x) = Var x
at own (Lit v) = own v

abbrev pub test_at : (ℕ → Atom) → Cmp → Atom → Atom
test_at own c a = if is_zero_test c a then a else at own a

abbrev pub address_at : (ℕ → Atom) → Mem → Atom → Atom
address_at own Sram a = at own a
address_at own Sdram a = at own a
address_at own Scratch a = a

abbrev pub prim_at : (ℕ → Atom) → Primitive → Primitive
prim_at own (Same a) = Same (at own a)
prim_at own (UnaOf op a) = UnaOf op (at own a)
prim_at own (BinOf op a b) = BinOf op (at own a) (at own b)

-- ---- trees and labels

-- a tree with what stands for its literals, whose jumps hand on those that labels take
abbrev pub hoisted : (ℕ → List ℕ) → (ℕ → Atom) → Tree → Tree
hoisted heads own (Let x p t) = Let x (prim_at own p) (hoisted heads own t)
hoisted heads own (Read m xs a t) = Read m xs (address_at own m a) (hoisted heads own t)
hoisted heads own (Write m a bs t) = Write m (address_at own m a) bs (hoisted heads own t)
hoisted heads own (If c a b t u) = If c (test_at own c a) (test_at own c b) (hoisted heads own t) (hoisted heads own u)
hoisted heads own (Jump l bs) = Jump l (map own (heads l) ++ bs)
hoisted heads own (Halt e bs) = Halt e bs

-- all are below a number
abbrev pub AreBelow : ℕ → List ℕ → Type 0
AreBelow n xs = (x : ℕ) → is_in x xs ≡ true → x < n

-- the second label is the first one, of number i, with parameters for the literals that it takes
pub record IsHoisted (heads : ℕ → List ℕ) (i : ℕ) (l m : Label) : Type 0 where
  pub base : ℕ
  pub params_below : AreBelow base l.params
  pub defined_below : AreBelow base (defined l.body)
  pub params : m.params ≡ range_with_len base (length (heads i)) ++ l.params
  pub body : m.body ≡ hoisted heads (held (heads i) (range_with_len base (length (heads i)))) l.body

-- all of these from number i on
abbrev pub AreHoisted : (ℕ → List ℕ) → ℕ → List Label → List Label → Type 0
AreHoisted heads i [] [] = ⊤
AreHoisted heads i (l ∷ ls) (m ∷ ms) = IsHoisted heads i l m × AreHoisted heads (suc i) ls ms
AreHoisted heads i [] (m ∷ ms) = ⊥
AreHoisted heads i (l ∷ ls) [] = ⊥
