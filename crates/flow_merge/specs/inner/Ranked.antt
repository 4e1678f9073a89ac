-- Ranks of parameters: each is used, or handed on for a parameter of a lower rank.
use Rattle.std.specs.Prelude.{◌≡◌, ℕ, ◌≤◌, ◌<◌, true, List, Some, slice_get, slice_index_or, ◌⊎◌}
use Rattle.std.specs.declared.vec.Vec.{Vec}
use Rattle.std.specs.declared.alloc.Global.{Global}
use Rattle.nv_base.specs.Sets.{is_in}
use Rattle.flow_ir.specs.Tree.{Tree, Label}
use Rattle.flow_merge.specs.Wanted.{used, HandsOn}
use Rattle.flow_merge.specs.inner.Pruned.{row_of}

-- the rank of parameter j of label l, 0 where it has none
abbrev pub rank_at : List (Vec ℕ Global) → ℕ → ℕ → ℕ
rank_at ranks l j = slice_index_or (row_of (slice_get ranks l)) j 0

-- a tree uses x, or hands it on for a parameter of a lower rank than this
abbrev pub IsFound : List (Vec ℕ Global) → ℕ → ℕ → Tree → Type 0
IsFound ranks rank x t = (is_in x (used t) ≡ true) ⊎ ((k : ℕ) × (j : ℕ) × HandsOn x k j t × (rank_at ranks k j < rank))

-- so does a label with each of its parameters
abbrev pub IsRanked : List (Vec ℕ Global) → ℕ → Label → Type 0
IsRanked ranks l m = (j x : ℕ) → slice_get m.params j ≡ Some x → IsFound ranks (rank_at ranks l j) x m.body

-- so does each label but 0
abbrev pub AreRanked : List (Vec ℕ Global) → List Label → Type 0
AreRanked ranks labels = (l : ℕ) (m : Label) → 1 ≤ l → slice_get labels l ≡ Some m → IsRanked ranks l m
