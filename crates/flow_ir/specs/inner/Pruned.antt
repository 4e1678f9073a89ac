-- Labels that nothing leads to are left out, and the others are numbered anew, in their order.
use Rattle.std.specs.Prelude.{◌≡◌, ◌<◌, ℕ, zero, suc, Bool, true, false, not, ◌&&◌, ◌||◌, ◌⊎◌, ◌++◌, if◌then◌else◌, List, [], ◌∷◌, All, length, slice_index_or}
use Rattle.flow_ir.specs.Tree.{Tree, Let, Read, Write, If, Jump, Halt, Label}
use Rattle.flow_ir.specs.Reachable.{IsReachable}

-- a label is left out
abbrev pub is_out : List Bool → ℕ → Bool
is_out out l = slice_index_or out l false

-- no label that a tree goes on to is left out
abbrev pub goes_on : List Bool → Tree → Bool
goes_on out (Let x a t) = goes_on out t
goes_on out (Read m xs a t) = goes_on out t
goes_on out (Write m a bs t) = goes_on out t
goes_on out (If c a b t u) = goes_on out t && goes_on out u
goes_on out (Jump l bs) = not (is_out out l)
goes_on out (Halt e bs) = true

-- nor any that a label goes on to which is there, among these from a number on
abbrev pub all_go_on : List Bool → ℕ → List Label → Bool
all_go_on out i [] = true
all_go_on out i (l ∷ ls) = (is_out out i || goes_on out l.body) && all_go_on out (suc i) ls

-- how many labels in front of this one are there
abbrev pub rank : List Bool → ℕ → ℕ
rank out zero = 0
rank out (suc i) = if is_out out i then rank out i else suc (rank out i)

-- a tree that goes on to the new numbers
abbrev pub renumbered : (ℕ → ℕ) → Tree → Tree
renumbered to (Let x a t) = Let x a (renumbered to t)
renumbered to (Read m xs a t) = Read m xs a (renumbered to t)
renumbered to (Write m a bs t) = Write m a bs (renumbered to t)
renumbered to (If c a b t u) = If c a b (renumbered to t) (renumbered to u)
renumbered to (Jump l bs) = Jump (to l) bs
renumbered to (Halt e bs) = Halt e bs

abbrev pub relabelled : (ℕ → ℕ) → Label → Label
relabelled to l = record { params = l.params; body = renumbered to l.body }

-- what is left of the labels from a number on
abbrev pub left : List Bool → (ℕ → ℕ) → ℕ → List Label → List Label
left out to i [] = []
left out to i (l ∷ ls) = if is_out out i then left out to (suc i) ls else relabelled to l ∷ left out to (suc i) ls

-- labels that were left out are there, and waiting, where this holds of them
pub record Noted (P : ℕ → Type 0) (old new : List Bool) (before after : List ℕ) : Type 0 where
  pub same : length new ≡ length old
  pub noted : (i : ℕ) → is_out new i ≡ false → (is_out old i ≡ false) ⊎ P i
  pub added : List ℕ
  pub waiting : after ≡ before ++ added
  pub each : All P added

-- what isn't left out is led to
pub record AreLed (ls : List Label) (out : List Bool) : Type 0 where
  pub all : length out ≡ length ls
  pub led : (i : ℕ) → i < length ls → is_out out i ≡ false → IsReachable ls i

-- the second labels are what is left of the first, where the first label is and where those that are there lead
pub record IsPruned (ls ms : List Label) : Type 0 where
  pub out : List Bool
  pub to : ℕ → ℕ
  pub first : is_out out 0 ≡ false
  pub closed : all_go_on out 0 ls ≡ true
  pub ranked : (i : ℕ) → i < length ls → to i ≡ rank out i
  pub led : AreLed ls out
  pub labels : ms ≡ left out to 0 ls
