-- What is kept to weigh columns: the weight of each point, and the point that defines each value.
use Rattle.std.specs.Prelude.{◌≡◌, ℕ, nat_eq, List, [], ◌∷◌, Option, Some, None, slice_index_or}
use Rattle.std.specs.HashMap.{get}
use Rattle.ssu_ir.specs.Tree.{Label}
use Rattle.ssu_ir.specs.Points.{PointKind, Entry, At}
use Rattle.place_plan.specs.Uses.{values}
use Rattle.place_plan.specs.Weighted.{point_weight}
use Rattle.bank_prog.specs.Weighted.{point_in}
use Rattle.bank_prog.specs.declared.weighing.Located.{Located}

-- the label of a place, after one of this label
abbrev pub label_at : ℕ → PointKind → ℕ
label_at l (Entry m xs) = m
label_at l (At n) = l

-- the labels of places, after one of this label
abbrev pub labels_behind : ℕ → List PointKind → List ℕ
labels_behind l [] = []
labels_behind l (q ∷ qs) = label_at l q ∷ labels_behind (label_at l q) qs

abbrev pub known_point : Option ℕ → ℕ
known_point (Some k) = k
known_point None = 0

-- it tells of each point its weight, also past the last one, and of each value its point
pub record AreLocated (labels : List Label) (ws : List ℕ) (t : Located) : Type 0 where
  pub weights : (k : ℕ) → slice_index_or t.weights.items k t.past ≡ point_weight labels ws k
  pub points : (x : ℕ) → known_point (get nat_eq t.points x) ≡ point_in (values labels) x
