-- What a placement costs where labels have weights, point by point.
use Rattle.std.proofs.Common.{◌≡◌, ℕ, zero, suc, ◌+◌, ◌*◌, List, [], ◌∷◌, ◌++◌, map, refl, ap, ◌∙◌, arith}
use Rattle.ssu_ir.specs.Tree.{Label, Lit, Una, Bin, Clone, Read, Write, Does, Forks, Ends}
use Rattle.ssu_ir.specs.Points.{PointKind, Entry, At, Point, points}
use Rattle.place_plan.specs.Plan.{Plan, serve}
use Rattle.place_plan.specs.Uses.{ValueOrigin, Value, numbered, values_from, values, place_values, Use, uses}
use Rattle.place_plan.specs.Fits.{use_operand}
use Rattle.place_plan.specs.Costs.{served_cost, value_cost, values_cost}
use Rattle.place_plan.specs.Weighted.{point_weight, values_weighted, uses_weighted, weighted_cost}
use Rattle.ucode_emit.specs.inner.Marks.{Mark, marks}
use Rattle.ucode_emit.specs.inner.Cursors.{place_operands, operands_from, marks_operands}
use Rattle.ucode_emit.proofs.CostMoves.{operands_cost}
use Rattle.ucode_emit.proofs.CostPieces.{place_cost}
use Rattle.ucode_emit.proofs.CostWhole.{mark_places, all_places}
use Rattle.ucode_emit.proofs.Cursored.{uses_by_marks}

module _ (p : Plan) (weight : ℕ → ℕ) where
  abbrev pub marks_weighted : ℕ → List Mark → ℕ
  marks_weighted k [] = 0
  marks_weighted k (q ∷ qs) = place_cost p k q.place * weight k + marks_weighted (suc k) qs

  abbrev values_counted : ℕ → List PointKind → ℕ
  values_counted k [] = 0
  values_counted k (q ∷ qs) = values_cost p (place_values k q) * weight k + values_counted (suc k) qs

  abbrev operands_counted : ℕ → List Mark → ℕ
  operands_counted k [] = 0
  operands_counted k (q ∷ qs) = operands_cost p k 0 (place_operands q.place) * weight k + operands_counted (suc k) qs

  counted_more : (a b w all m n : ℕ) → all ≡ m + n → (a + b) * w + all ≡ a * w + m + (b * w + n)
  counted_more a b w all m n e = omega (arith, e)

  counted : (k : ℕ) (qs : List Mark) → marks_weighted k qs ≡ values_counted k (mark_places qs) + operands_counted k qs
  counted k [] = refl
  counted k (q ∷ qs) =
      counted_more (values_cost p (place_values k q.place)) (operands_cost p k 0 (place_operands q.place)) (weight k) (marks_weighted (suc k) qs) (values_counted (suc k) (mark_places qs)) (operands_counted (suc k) qs) (counted (suc k) qs)

  -- the values
  values_both : (a b : List Value) → values_weighted weight p (a ++ b) ≡ values_weighted weight p a + values_weighted weight p b
  values_both [] b = let z : values_weighted weight p b ≡ 0 + values_weighted weight p b = omega arith in z
  values_both (v ∷ a) b = let h = values_both a b in omega (arith, h)

  one_more : (a w all m : ℕ) → all ≡ m * w → a * w + all ≡ (a + m) * w
  one_more a w all m e = omega (arith, e)

  numbered_at : (k : ℕ) (origin : ℕ → ValueOrigin) (i : ℕ) (xs : List ℕ) → values_weighted weight p (numbered k origin i xs) ≡ values_cost p (numbered k origin i xs) * weight k
  numbered_at k origin i [] = omega arith
  numbered_at k origin i (x ∷ xs) =
      one_more (value_cost p (record { point = k; var = x; origin = origin i })) (weight k) (values_weighted weight p (numbered k origin (suc i) xs)) (values_cost p (numbered k origin (suc i) xs)) (numbered_at k origin (suc i) xs)

  single_at : (a w : ℕ) → a * w + 0 ≡ (a + 0) * w
  single_at a w = omega arith

  values_at : (k : ℕ) (q : PointKind) → values_weighted weight p (place_values k q) ≡ values_cost p (place_values k q) * weight k
  values_at k (Entry l params) = numbered_at k _ 0 params
  values_at k (At (Does (Lit x v))) = single_at _ (weight k)
  values_at k (At (Does (Una x op y))) = single_at _ (weight k)
  values_at k (At (Does (Bin x op y z))) = single_at _ (weight k)
  values_at k (At (Does (Clone xs y))) = omega arith
  values_at k (At (Does (Read m xs y))) = numbered_at k _ 0 xs
  values_at k (At (Does (Write m y xs))) = omega arith
  values_at k (At (Forks c x y)) = omega arith
  values_at k (At (Ends l)) = omega arith

  by_places : (k : ℕ) (qs : List Point) → values_weighted weight p (values_from k qs) ≡ values_counted k (map (λ q. q.place) qs)
  by_places k [] = refl
  by_places k (q ∷ qs) =
      let a = values_both (place_values k q.place) (values_from (suc k) qs) in
      let b = values_at k q.place in
      let c = by_places (suc k) qs in
      omega (arith, a, b, c)

  values_are : (labels : List Label) → values_weighted weight p (values labels) ≡ values_counted 0 (mark_places (marks labels))
  values_are labels = by_places 0 (points labels) ∙ ap (values_counted 0) (all_places 0 labels)

  -- the uses
  abbrev operand_costs : List (ℕ × ℕ) → ℕ
  operand_costs [] = 0
  operand_costs (o ∷ os) = served_cost (serve p o.0 o.1).from (serve p o.0 o.1).at * weight o.0 + operand_costs os

  costs_both : (a b : List (ℕ × ℕ)) → operand_costs (a ++ b) ≡ operand_costs a + operand_costs b
  costs_both [] b = let z : operand_costs b ≡ 0 + operand_costs b = omega arith in z
  costs_both (o ∷ a) b = let h = costs_both a b in omega (arith, h)

  by_operands : (us : List Use) → uses_weighted weight p us ≡ operand_costs (map use_operand us)
  by_operands [] = refl
  by_operands (u ∷ us) = ap (λ n. served_cost (serve p u.point u.operand).from (serve p u.point u.operand).at * weight u.point + n) (by_operands us)

  of_point : (k i n : ℕ) → operand_costs (operands_from k i n) ≡ operands_cost p k i n * weight k
  of_point k i zero = omega arith
  of_point k i (suc n) = one_more (served_cost (serve p k i).from (serve p k i).at) (weight k) (operand_costs (operands_from k (suc i) n)) (operands_cost p k (suc i) n) (of_point k (suc i) n)

  of_points : (k : ℕ) (qs : List Mark) → operand_costs (marks_operands k qs) ≡ operands_counted k qs
  of_points k [] = refl
  of_points k (q ∷ qs) =
      let n = place_operands q.place in
      let a = costs_both (operands_from k 0 n) (marks_operands (suc k) qs) in
      let b = of_point k 0 n in
      let c = of_points (suc k) qs in
      omega (arith, a, b, c)

  uses_are : (labels : List Label) → uses_weighted weight p (uses labels) ≡ operands_counted 0 (marks labels)
  uses_are labels = by_operands (uses labels) ∙ (ap operand_costs (uses_by_marks labels) ∙ of_points 0 (marks labels))

pub weighted_by_marks : (labels : List Label) (p : Plan) (ws : List ℕ) → marks_weighted p (point_weight labels ws) 0 (marks labels) ≡ weighted_cost labels ws p
weighted_by_marks labels p ws =
    let weight = point_weight labels ws in
    let a = counted p weight 0 (marks labels) in
    let b = values_are p weight labels in
    let c = uses_are p weight labels in
    omega (arith, a, b, c)
