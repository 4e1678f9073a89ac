-- The cost under weights, label by label.
use Rattle.std.proofs.Common.{◌≡◌, ℕ, zero, suc, ◌+◌, ◌*◌, ◌<◌, ◌≤◌, nat_lt, Bool, true, false, if◌then◌else◌, List, [], ◌∷◌, length, refl, ap, ◌∙◌, ⊎_elim, arith}
use Rattle.std.proofs.lemmas.Bool.{cases_lt, lt-ltb, le-ltb}
use Rattle.std.proofs.lemmas.List.{length-append}
use Rattle.ssu_ir.specs.Tree.{Label, Lit, Una, Bin, Clone, Read, Write, Does, Forks, Ends}
use Rattle.ssu_ir.specs.Points.{PointKind, Entry, At, Point, points, points_from, label_points}
use Rattle.place_plan.specs.Costs.{value_cost, use_cost, values_cost, uses_cost}
use Rattle.place_plan.specs.Plan.{Plan}
use Rattle.place_plan.proofs.Sound.{Each, each-append}
use Rattle.place_plan.proofs.Spilled.{each-weaker}
use Rattle.place_plan.specs.Uses.{ValueOrigin, Value, numbered, place_values, values_from, values, Role, Use, uses_at, place_roles, uses_from, uses}
use Rattle.place_plan.specs.ByLabel.{label_from, label_cost}
use Rattle.place_weights.specs.Weighted.{weight_of}
use Rattle.place_plan.specs.Weighted.{point_weight, values_weighted, uses_weighted, weighted_cost, labels_weighted}
use Rattle.place_plan.proofs.Summed.{summed, weighed, those, by_labels, by_each}

-- ---- each value and each use is of a label

label_within : (l n : ℕ) (ls : List Label) (k : ℕ) → n ≤ k → k < n + length (points_from l ls) → label_from l n ls k < l + length ls
label_within l n [] k le lt = absurd (omega (arith, le, lt))
label_within l n (x ∷ ls) k le lt =
    let first = label_points l x in
    let next = n + length first in
    let long = length-append first (points_from (suc l) ls) in
    ⊎_elim
    (λ (low : k < next).
    let here : label_from l n (x ∷ ls) k ≡ l = ap (λ b. if b then l else label_from (suc l) next ls k) (lt-ltb k next low) in
    omega (arith, here))
    (λ (high : next ≤ k).
    let later : label_from l n (x ∷ ls) k ≡ label_from (suc l) next ls k = ap (λ b. if b then l else label_from (suc l) next ls k) (le-ltb k next high) in
    let rest : label_from (suc l) next ls k < suc l + length ls = label_within (suc l) next ls k high (omega (arith, lt, long)) in
    omega (arith, later, rest))
    (cases_lt k next)

numbered_within : (m k : ℕ) (origin : ℕ → ValueOrigin) (i : ℕ) (xs : List ℕ) → k < m → Each (λ (v : Value). v.point < m) (numbered k origin i xs)
numbered_within m k origin i [] lt = tt
numbered_within m k origin i (x ∷ xs) lt = (lt, numbered_within m k origin (suc i) xs lt)

place_within : (m k : ℕ) (q : PointKind) → k < m → Each (λ (v : Value). v.point < m) (place_values k q)
place_within m k (Entry l params) lt = numbered_within m k _ 0 params lt
place_within m k (At (Does (Lit x v))) lt = (lt, tt)
place_within m k (At (Does (Una x op y))) lt = (lt, tt)
place_within m k (At (Does (Bin x op y z))) lt = (lt, tt)
place_within m k (At (Does (Clone xs y))) lt = tt
place_within m k (At (Does (Read c xs y))) lt = numbered_within m k _ 0 xs lt
place_within m k (At (Does (Write c y xs))) lt = tt
place_within m k (At (Forks c x y)) lt = tt
place_within m k (At (Ends l)) lt = tt

pub values_within : (m k : ℕ) (qs : List Point) → k + length qs ≤ m → Each (λ (v : Value). v.point < m) (values_from k qs)
values_within m k [] le = tt
values_within m k (q ∷ qs) le = each-append (λ v. v.point < m) (place_values k q.place) (values_from (suc k) qs) (place_within m k q.place (omega (arith, le))) (values_within m (suc k) qs (omega (arith, le)))

point_within : (m k i : ℕ) (xs : List ℕ) (rs : List Role) → k < m → Each (λ (u : Use). u.point < m) (uses_at k i xs rs)
point_within m k i [] rs lt = tt
point_within m k i (x ∷ xs) [] lt = tt
point_within m k i (x ∷ xs) (r ∷ rs) lt = (lt, point_within m k (suc i) xs rs lt)

pub uses_within : (m k : ℕ) (qs : List Point) → k + length qs ≤ m → Each (λ (u : Use). u.point < m) (uses_from k qs)
uses_within m k [] le = tt
uses_within m k (q ∷ qs) le =
    each-append (λ u. u.point < m) (uses_at k 0 q.uses (place_roles q.place)) (uses_from (suc k) qs) (point_within m k 0 q.uses (place_roles q.place) (omega (arith, le))) (uses_within m (suc k) qs (omega (arith, le)))

abbrev pub label_of : List Label → ℕ → ℕ
label_of labels k = label_from 0 0 labels k

pub of_label : (labels : List Label) (k : ℕ) → k < length (points labels) → label_of labels k < length labels
of_label labels k lt = let h = label_within 0 0 labels k (omega arith) (omega (arith, lt)) in omega (arith, h)

-- ---- the sums

values_summed : (p : Plan) (vs : List Value) → values_cost p vs ≡ summed (value_cost p) vs
values_summed p [] = refl
values_summed p (v ∷ vs) = ap (λ n. value_cost p v + n) (values_summed p vs)

uses_summed : (p : Plan) (us : List Use) → uses_cost p us ≡ summed (use_cost p) us
uses_summed p [] = refl
uses_summed p (u ∷ us) = ap (λ n. use_cost p u + n) (uses_summed p us)

abbrev label_of_value : List Label → Value → ℕ
label_of_value labels v = label_of labels v.point

abbrev label_of_use : List Label → Use → ℕ
label_of_use labels u = label_of labels u.point

values_weighed : (labels : List Label) (ws : List ℕ) (p : Plan) (vs : List Value) → values_weighted (point_weight labels ws) p vs ≡ weighed (value_cost p) (label_of_value labels) (weight_of ws) vs
values_weighed labels ws p [] = refl
values_weighed labels ws p (v ∷ vs) = ap (λ n. value_cost p v * point_weight labels ws v.point + n) (values_weighed labels ws p vs)

uses_weighed : (labels : List Label) (ws : List ℕ) (p : Plan) (us : List Use) → uses_weighted (point_weight labels ws) p us ≡ weighed (use_cost p) (label_of_use labels) (weight_of ws) us
uses_weighed labels ws p [] = refl
uses_weighed labels ws p (u ∷ us) = ap (λ n. use_cost p u * point_weight labels ws u.point + n) (uses_weighed labels ws p us)

both_sums : (c a b w all m n : ℕ) → c ≡ a + b → all ≡ m + n → c * w + all ≡ (a * w + m) + (b * w + n)
both_sums c a b w all m n e f = ap (λ k. k * w + all) e ∙ omega (arith, f)

each_label : (labels : List Label) (ws : List ℕ) (p : Plan) (l n : ℕ)
    → labels_weighted labels ws p l n ≡ by_labels (value_cost p) (label_of_value labels) (weight_of ws) l n (values labels) + by_labels (use_cost p) (label_of_use labels) (weight_of ws) l n (uses labels)
each_label labels ws p l zero = refl
each_label labels ws p l (suc n) =
    let vs = those (label_of_value labels) l (values labels) in
    let us = those (label_of_use labels) l (uses labels) in
    let cost_is : label_cost labels l p ≡ summed (value_cost p) vs + summed (use_cost p) us = ap (λ k. k + uses_cost p us) (values_summed p vs) ∙ ap (λ k. summed (value_cost p) vs + k) (uses_summed p us) in
    both_sums (label_cost labels l p) (summed (value_cost p) vs) (summed (use_cost p) us) (weight_of ws l) (labels_weighted labels ws p (suc l) n)
    (by_labels (value_cost p) (label_of_value labels) (weight_of ws) (suc l) n (values labels)) (by_labels (use_cost p) (label_of_use labels) (weight_of ws) (suc l) n (uses labels)) cost_is
    (each_label labels ws p (suc l) n)

-- over as many labels as there are, or more
pub weighted_within : (labels : List Label) (ws : List ℕ) (p : Plan) (n : ℕ) → length labels ≤ n → weighted_cost labels ws p ≡ labels_weighted labels ws p 0 n
weighted_within labels ws p n le =
    let m = length (points labels) in
    let vs = values labels in
    let us = uses labels in
    let within : (k : ℕ) → k < m → label_of labels k < n = λ k lt. let h = of_label labels k lt in omega (arith, h, le) in
    let a = values_weighed labels ws p vs in
    let b = uses_weighed labels ws p us in
    let c = by_each (value_cost p) (label_of_value labels) (weight_of ws) n vs (each-weaker (λ v. v.point < m) (λ v. label_of_value labels v < n) vs (λ v lt. within v.point lt) (values_within m 0 (points labels) (omega arith))) in
    let d = by_each (use_cost p) (label_of_use labels) (weight_of ws) n us (each-weaker (λ u. u.point < m) (λ u. label_of_use labels u < n) us (λ u lt. within u.point lt) (uses_within m 0 (points labels) (omega arith))) in
    let e = each_label labels ws p 0 n in
    omega (arith, a, b, c, d, e)

pub weighted_by_labels : (labels : List Label) (ws : List ℕ) (p : Plan) → weighted_cost labels ws p ≡ labels_weighted labels ws p 0 (length labels)
weighted_by_labels labels ws p = weighted_within labels ws p (length labels) (omega arith)

-- a point past the last one is of no label, which is numbered after the last label
pub label_most : (l n : ℕ) (ls : List Label) (k : ℕ) → label_from l n ls k ≤ l + length ls
label_most l n [] k = omega arith
label_most l n (x ∷ ls) k = by (nat_lt k (n + length (label_points l x))) (label_most (suc l) (n + length (label_points l x)) ls k)
  where
    by : (b : Bool) → label_from (suc l) (n + length (label_points l x)) ls k ≤ suc l + length ls → (if b then l else label_from (suc l) (n + length (label_points l x)) ls k) ≤ l + suc (length ls)
    by true h = omega arith
    by false h = omega (arith, h)
