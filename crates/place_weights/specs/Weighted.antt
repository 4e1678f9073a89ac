-- Weights of labels.
use Rattle.std.specs.Prelude.{ℕ, ◌≤◌, List, slice_index_or, All}

-- weights of labels, from label 0 on
abbrev pub AreWeights : List ℕ → Type 0
AreWeights ws = All (λ w. (1 ≤ w) × (w ≤ 1023)) ws

-- the weight of a label; past the list of weights it is 1
abbrev pub weight_of : List ℕ → ℕ → ℕ
weight_of ws l = slice_index_or ws l 1
