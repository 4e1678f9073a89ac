-- The label of each point, as a walk over the points finds it.
use Rattle.std.proofs.Common.{◌≡◌, ℕ, zero, suc, ◌+◌, ◌-◌, ◌<◌, ◌≤◌, if◌then◌else◌, List, [], ◌∷◌, ◌++◌, length, map, drop, get_or, append_assoc, refl, sym, ap, ◌∙◌, ⊎_elim, arith}
use Rattle.std.proofs.lemmas.Bool.{cases_lt, lt-ltb, le-ltb}
use Rattle.std.proofs.lemmas.List.{append-nil, map-append, length-map, get_or_append_left, get_or-append_right, at_drop_more, at_drop_all}
use Rattle.std.proofs.Math.ListN.{get_or-map}
use Rattle.ssu_ir.specs.Tree.{Tree, Do, If, End, Label, step_values}
use Rattle.ssu_ir.specs.Points.{Names, own, names_after, PointKind, Point, tree_points, label_points, points_from, points}
use Rattle.place_plan.specs.ByLabel.{label_from}
use Rattle.place_weights.specs.Weighted.{weight_of}
use Rattle.place_plan.specs.Weighted.{point_weight}
use Rattle.bank_prog.specs.inner.Located.{label_at, labels_behind}

abbrev places : List Point → List PointKind
places ps = map (λ q. q.place) ps

-- the nodes of a tree are of the label that stands before them
tree-labels : (l : ℕ) (of : Names) (above : List ℕ) (t : Tree) (qs : List PointKind) → labels_behind l (places (tree_points of above t) ++ qs) ≡ map (λ p. l) (tree_points of above t) ++ labels_behind l qs
tree-labels l of above (Do s t) qs = ap (λ ls. l ∷ ls) (tree-labels l (names_after of s) (above ++ step_values s) t qs)
tree-labels l of above (If c x y t u) qs =
    let a = tree_points of above t in
    let b = tree_points of above u in
    ap (λ ls. l ∷ ls)
    (ap (λ ps. labels_behind l (ps ++ qs)) (map-append (λ (q : Point). q.place) a b)
    ∙ ap (labels_behind l) (append_assoc (places a) (places b) qs)
    ∙ tree-labels l of above t (places b ++ qs)
    ∙ ap (λ ls. map (λ p. l) a ++ ls) (tree-labels l of above u qs)
    ∙ sym (append_assoc (map (λ p. l) a) (map (λ p. l) b) (labels_behind l qs))
    ∙ ap (λ ls. ls ++ labels_behind l qs) (sym (map-append (λ (p : Point). l) a b)))
tree-labels l of above (End e) qs = refl

-- each label as often as it has points
abbrev all_labels : ℕ → List Label → List ℕ
all_labels l [] = []
all_labels l (m ∷ ms) = map (λ p. l) (label_points l m) ++ all_labels (suc l) ms

points-labels : (k l : ℕ) (ms : List Label) → labels_behind k (places (points_from l ms)) ≡ all_labels l ms
points-labels k l [] = refl
points-labels k l (m ∷ ms) =
    let ps = label_points l m in
    ap (labels_behind k) (map-append (λ (q : Point). q.place) ps (points_from (suc l) ms))
    ∙ ap (λ ls. l ∷ ls) (tree-labels l own m.params m.body (places (points_from (suc l) ms)))
    ∙ ap (λ ls. map (λ p. l) ps ++ ls) (points-labels l (suc l) ms)

same-everywhere : (l d i : ℕ) (ps : List Point) → i < length ps → get_or (map (λ p. l) ps) i d ≡ l
same-everywhere l d i [] lt = absurd (omega (arith, lt))
same-everywhere l d zero (p ∷ ps) lt = refl
same-everywhere l d (suc i) (p ∷ ps) lt = same-everywhere l d i ps (omega (arith, lt))

label-found : (l n : ℕ) (ms : List Label) (k i : ℕ) → k ≡ n + i → get_or (all_labels l ms) i (l + length ms) ≡ label_from l n ms k
label-found l n [] k i e = omega arith
label-found l n (m ∷ ms) k i e =
    let ps = label_points l m in
    let next = n + length ps in
    let first = map (λ p. l) ps in
    let rest = all_labels (suc l) ms in
    let long : length first ≡ length ps = length-map ps (λ p. l) in
    ⊎_elim
    (λ (low : i < length ps).
    let here : k < next = omega (arith, low, e) in
    get_or_append_left first rest (l + length (m ∷ ms)) i (omega (arith, low, long)) ∙ same-everywhere l (l + length (m ∷ ms)) i ps low
    ∙ sym (ap (λ b. if b then l else label_from (suc l) next ms k) (lt-ltb k next here)))
    (λ (high : length ps ≤ i).
    let there : next ≤ k = omega (arith, high, e) in
    let behind : l + length (m ∷ ms) ≡ suc l + length ms = omega arith in
    get_or-append_right first rest (length ps) i (l + length (m ∷ ms)) long high
    ∙ ap (get_or rest (i - length ps)) behind
    ∙ label-found (suc l) next ms k (i - length ps) (omega (arith, high, e))
    ∙ sym (ap (λ b. if b then l else label_from (suc l) next ms k) (le-ltb k next there)))
    (cases_lt i (length ps))

-- each point has the weight of its label
pub point-weights : (labels : List Label) (ws : List ℕ) (k past : ℕ) → past ≡ weight_of ws (length labels) → get_or (map (weight_of ws) (labels_behind 0 (map (λ q. q.place) (points labels)))) k past ≡ point_weight labels ws k
point-weights labels ws k past e =
    let found = labels_behind 0 (places (points labels)) in
    let none : length labels ≡ 0 + length labels = omega arith in
    ap (get_or (map (weight_of ws) found) k) e
    ∙ get_or-map (weight_of ws) found k (length labels)
    ∙ ap (weight_of ws) (ap (λ ls. get_or ls k (length labels)) (points-labels 0 0 labels) ∙ ap (get_or (all_labels 0 labels) k) none ∙ label-found 0 0 labels k k (omega arith))

-- ---- the walk

pub walk-more : {V : Type 0} (f : ℕ → ℕ) (view : V → PointKind) (xs : List V) (i : ℕ) (d : V) (l l' : ℕ) (out out' goal : List ℕ) → i < length xs → l' ≡ label_at l (view (get_or xs i d)) → out' ≡ out ++ f l' ∷ []
    → out ++ map f (labels_behind l (map view (drop i xs))) ≡ goal → out' ++ map f (labels_behind l' (map view (drop (i + 1) xs))) ≡ goal
walk-more f view xs i d l l' out out' goal lt e o h =
    let rest = map view (drop (i + 1) xs) in
    ap (λ z. z ++ map f (labels_behind l' rest)) o
    ∙ append_assoc out (f l' ∷ []) (map f (labels_behind l' rest))
    ∙ ap (λ k. out ++ f k ∷ map f (labels_behind k rest)) e
    ∙ sym (at_drop_more (λ ys. out ++ map f (labels_behind l (map view ys))) xs i d lt) ∙ h

pub walk-all : {V : Type 0} (f : ℕ → ℕ) (view : V → PointKind) (xs : List V) (i l : ℕ) (out goal : List ℕ) → length xs ≤ i → out ++ map f (labels_behind l (map view (drop i xs))) ≡ goal → out ≡ goal
walk-all f view xs i l out goal le h = sym (append-nil out) ∙ sym (at_drop_all (λ ys. out ++ map f (labels_behind l (map view ys))) xs i le) ∙ h
