-- Weights that are all 1.
use Rattle.std.proofs.Common.{◌≡◌, List, [], ◌∷◌, arith}
use Rattle.ssu_ir.specs.Tree.{Label}
use Rattle.place_plan.specs.Costs.{values_cost, uses_cost, cost}
use Rattle.place_plan.specs.Plan.{Plan}
use Rattle.place_plan.specs.Uses.{Value, values, Use, uses}
use Rattle.place_plan.specs.Weighted.{point_weight, values_weighted, uses_weighted, weighted_cost}

values_once : (labels : List Label) (p : Plan) (vs : List Value) → values_weighted (point_weight labels []) p vs ≡ values_cost p vs
values_once labels p [] = omega arith
values_once labels p (v ∷ vs) = let h = values_once labels p vs in omega (arith, h)

uses_once : (labels : List Label) (p : Plan) (us : List Use) → uses_weighted (point_weight labels []) p us ≡ uses_cost p us
uses_once labels p [] = omega arith
uses_once labels p (u ∷ us) = let h = uses_once labels p us in omega (arith, h)

pub weights_of_one : (labels : List Label) (p : Plan) → weighted_cost labels [] p ≡ cost labels p
weights_of_one labels p = let a = values_once labels p (values labels) in let b = uses_once labels p (uses labels) in omega (arith, a, b)
