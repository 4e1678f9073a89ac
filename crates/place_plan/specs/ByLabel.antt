-- What a placement costs in a label: a label has the values that are defined at its points, and the uses there.
use Rattle.std.specs.Prelude.{ℕ, suc, ◌+◌, nat_eq, nat_lt, Bool, List, [], ◌∷◌, filter, length, if◌then◌else◌}
use Rattle.ssu_ir.specs.Tree.{Label}
use Rattle.ssu_ir.specs.Points.{label_points}
use Rattle.place_plan.specs.Costs.{values_cost, uses_cost}
use Rattle.place_plan.specs.Plan.{Plan}
use Rattle.place_plan.specs.Uses.{values, uses}

-- the label of point k, where these labels are numbered from l and their points from n; past the last point it is none of them
abbrev pub label_from : ℕ → ℕ → List Label → ℕ → ℕ
label_from l n [] k = l
label_from l n (m ∷ ms) k = if nat_lt k (n + length (label_points l m)) then l else label_from (suc l) (n + length (label_points l m)) ms k

-- point k is one of label l's
abbrev pub lies_in : List Label → ℕ → ℕ → Bool
lies_in labels l k = nat_eq (label_from 0 0 labels k) l

-- what the placement costs in label l
abbrev pub label_cost : List Label → ℕ → Plan → ℕ
label_cost labels l p = values_cost p (filter (λ v. lies_in labels l v.point) (values labels)) + uses_cost p (filter (λ u. lies_in labels l u.point) (uses labels))
