-- What a placement costs where labels have weights: a value and a use count by the label in which their point lies.
use Rattle.std.specs.Prelude.{ℕ, zero, suc, ◌+◌, ◌*◌, List, [], ◌∷◌}
use Rattle.ssu_ir.specs.Tree.{Label}
use Rattle.place_plan.specs.Costs.{value_cost, use_cost}
use Rattle.place_plan.specs.Plan.{Plan}
use Rattle.place_plan.specs.Uses.{Value, values, Use, uses}
use Rattle.place_weights.specs.Weighted.{weight_of}
use Rattle.place_plan.specs.ByLabel.{label_from, label_cost}

-- the weight of point k is that of its label
abbrev pub point_weight : List Label → List ℕ → ℕ → ℕ
point_weight labels ws k = weight_of ws (label_from 0 0 labels k)

abbrev pub values_weighted : (ℕ → ℕ) → Plan → List Value → ℕ
values_weighted weight p [] = 0
values_weighted weight p (v ∷ vs) = value_cost p v * weight v.point + values_weighted weight p vs

abbrev pub uses_weighted : (ℕ → ℕ) → Plan → List Use → ℕ
uses_weighted weight p [] = 0
uses_weighted weight p (u ∷ us) = use_cost p u * weight u.point + uses_weighted weight p us

abbrev pub weighted_cost : List Label → List ℕ → Plan → ℕ
weighted_cost labels ws p = values_weighted (point_weight labels ws) p (values labels) + uses_weighted (point_weight labels ws) p (uses labels)

-- what the placement costs in each of n labels from number l on, times the label's weight
abbrev pub labels_weighted : List Label → List ℕ → Plan → ℕ → ℕ → ℕ
labels_weighted labels ws p l zero = 0
labels_weighted labels ws p l (suc n) = label_cost labels l p * weight_of ws l + labels_weighted labels ws p (suc l) n
