-- What contraction is for: no jump is left that another end could stand in place of.
use Rattle.std.specs.Prelude.{◌≡◌, ℕ, ◌+◌, ◌≤◌, ◌<◌, nat_eq, Bool, true, false, not, ◌&&◌, if◌then◌else◌, List, [], ◌∷◌, Some, length, slice_get, All}
use Rattle.nv_base.specs.declared.term.Atom.{Atom}
use Rattle.nv_base.specs.declared.term.Atom.TheVariants.{Var, Lit}
use Rattle.flow_ir.specs.Tree.{Tree, Let, Read, Write, If, Jump, Halt, Label}

-- how many arms of a tree end with a jump to this label
abbrev pub jumps_to : ℕ → Tree → ℕ
jumps_to l (Let x a t) = jumps_to l t
jumps_to l (Read m xs a t) = jumps_to l t
jumps_to l (Write m a bs t) = jumps_to l t
jumps_to l (If c a b t u) = jumps_to l t + jumps_to l u
jumps_to l (Jump k bs) = if nat_eq k l then 1 else 0
jumps_to l (Halt e bs) = 0

-- how many jumps of these labels lead to it
abbrev pub all_jumps_to : ℕ → List Label → ℕ
all_jumps_to l [] = 0
all_jumps_to l (m ∷ ms) = jumps_to l m.body + all_jumps_to l ms

-- a label's whole body is the end of the run, or a jump to another label than this one
abbrev pub is_bare : ℕ → Tree → Bool
is_bare l (Let x a t) = false
is_bare l (Read m xs a t) = false
is_bare l (Write m a bs t) = false
is_bare l (If c a b t u) = false
is_bare l (Jump k bs) = not (nat_eq k l)
is_bare l (Halt e bs) = true

abbrev pub is_literal : Atom → Bool
is_literal (Var x) = false
is_literal (Lit v) = true

-- no `If` of a tree compares two literals
abbrev pub is_undecided : Tree → Bool
is_undecided (Let x a t) = is_undecided t
is_undecided (Read m xs a t) = is_undecided t
is_undecided (Write m a bs t) = is_undecided t
is_undecided (If c a b t u) = not (is_literal a && is_literal b) && (is_undecided t && is_undecided u)
is_undecided (Jump l bs) = true
is_undecided (Halt e bs) = true

-- to each label but 0 at least two jumps lead, and none of these is bare; no `If` compares two literals
pub record AreMerged (labels : List Label) : Type 0 where
  pub shared : (l : ℕ) → 1 ≤ l → l < length labels → 2 ≤ all_jumps_to l labels
  pub busy : (l : ℕ) (m : Label) → 1 ≤ l → slice_get labels l ≡ Some m → is_bare l m.body ≡ false
  pub undecided : All (λ m. is_undecided m.body ≡ true) labels
