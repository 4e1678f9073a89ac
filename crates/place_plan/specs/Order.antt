-- The order of the lists of a placement that fits: homes by rising variable, accesses and passes by rising point, and operands by points
-- that never fall.
use Rattle.std.specs.Prelude.{map}
use Rattle.std.specs.List.Sorted.{IsNonDecreasingBy}
use Rattle.place_plan.specs.Fits.{Rises}
use Rattle.place_plan.specs.Plan.{Plan}

pub record IsInOrder (p : Plan) : Type 0 where
  pub homes : Rises (map (λ h. h.var) p.homes)
  pub firsts : Rises (map (λ f. f.point) p.firsts)
  pub serves : IsNonDecreasingBy (λ s. s.point) p.serves
  pub passes : Rises (map (λ q. q.point) p.passes)
