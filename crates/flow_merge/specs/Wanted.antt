-- Which variables of labels are wanted: those that are used but to be handed on, and those that are handed on for a wanted parameter.
use Rattle.std.specs.Prelude.{◌≡◌, ℕ, ◌≤◌, true, List, [], ◌∷◌, ◌++◌, Some, slice_get, ◌⊎◌}
use Rattle.nv_base.specs.declared.term.Atom.TheVariants.{Var}
use Rattle.nv_base.specs.Words.{atom_vars, prim_vars}
use Rattle.nv_base.specs.Sets.{is_in, all_vars}
use Rattle.flow_ir.specs.Tree.{Tree, Let, Read, Write, If, Jump, Halt, Label}

-- the variables that a tree uses in other nodes than jumps
abbrev pub used : Tree → List ℕ
used (Let x p t) = prim_vars p ++ used t
used (Read m xs a t) = atom_vars a ++ used t
used (Write m a bs t) = all_vars (a ∷ bs) ++ used t
used (If c a b t u) = all_vars (a ∷ b ∷ []) ++ (used t ++ used u)
used (Jump l bs) = []
used (Halt e bs) = all_vars bs

-- a jump of a tree hands variable x on for parameter j of label k
abbrev pub HandsOn : ℕ → ℕ → ℕ → Tree → Type 0
HandsOn x k j (Let y p t) = HandsOn x k j t
HandsOn x k j (Read m ys a t) = HandsOn x k j t
HandsOn x k j (Write m a bs t) = HandsOn x k j t
HandsOn x k j (If c a b t u) = HandsOn x k j t ⊎ HandsOn x k j u
HandsOn x k j (Jump l bs) = (l ≡ k) × (slice_get bs j ≡ Some (Var x))
HandsOn x k j (Halt e bs) = ⊥

-- label l wants its variable x
pub data IsWanted (labels : List Label) : ℕ → ℕ → Type 0 where
  used_there : (l x : ℕ) (m : Label) → slice_get labels l ≡ Some m → is_in x (used m.body) ≡ true → IsWanted labels l x
  handed_on : (l x k j y : ℕ) (m n : Label) → slice_get labels l ≡ Some m → HandsOn x k j m.body → slice_get labels k ≡ Some n → slice_get n.params j ≡ Some y → IsWanted labels k y → IsWanted labels l x

-- each parameter of a label but 0 is wanted
abbrev pub AllWanted : List Label → Type 0
AllWanted labels = (l j x : ℕ) (m : Label) → 1 ≤ l → slice_get labels l ≡ Some m → slice_get m.params j ≡ Some x → IsWanted labels l x
