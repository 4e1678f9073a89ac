-- Sums and greatest numbers over points.
use Rattle.std.proofs.Common.{◌≡◌, ℕ, suc, ◌+◌, ◌≤◌, max, List, [], ◌∷◌, ◌++◌, length, refl, arith, length-append}
use Rattle.std.specs.List.{All}
use Rattle.std.proofs.lemmas.List.{length-map}
use Rattle.std.proofs.lemmas.List.Elements.{All-nil, All-cons}
use Rattle.std.proofs.Math.Nat.{le-max_left, le-max_right}
use Rattle.ssu_ir.specs.Tree.{Tree, Label, step_values, step_uses, last_uses, Do, If, End}
use Rattle.ssu_ir.specs.Points.{Names, own, names_after, Point, nodes, tree_points, points_from}
use Rattle.ssu_ir.specs.Measures.{most_held, tree_size, size, point_size, total}

-- ---- sums

pub total-append : (f : Point → ℕ) (a b : List Point) → total f (a ++ b) ≡ total f a + total f b
total-append f [] b = omega arith
total-append f (p ∷ a) b = omega (arith, total-append f a b)

pub total-tree : (of : Names) (above : List ℕ) (t : Tree) → total point_size (tree_points of above t) ≡ tree_size t
total-tree of above (Do s t) = omega (arith, length-map (step_uses s) of, total-tree (names_after of s) (above ++ step_values s) t)
total-tree of above (If c x y t u) =
    omega (arith, total-append point_size (tree_points of above t) (tree_points of above u), total-tree of above t, total-tree of above u)
total-tree of above (End l) = omega (arith, length-map (last_uses l) of)

pub total-from : (k : ℕ) (ls : List Label) → total point_size (points_from k ls) ≡ size ls
total-from k [] = refl
total-from k (l ∷ ls) =
    omega (arith, total-append point_size (tree_points own l.params l.body) (points_from (suc k) ls), total-tree own l.params l.body, total-from (suc k) ls)

-- ---- numbers of points

pub length-tree_points : (of : Names) (above : List ℕ) (t : Tree) → length (tree_points of above t) ≡ nodes t
length-tree_points of above (Do s t) = omega (arith, length-tree_points (names_after of s) (above ++ step_values s) t)
length-tree_points of above (If c x y t u) =
    omega (arith, length-append (tree_points of above t) (tree_points of above u), length-tree_points of above t, length-tree_points of above u)
length-tree_points of above (End l) = refl

-- ---- the greatest number of live values

pub most_held-append : (a b : List Point) → most_held (a ++ b) ≡ max (most_held a) (most_held b)
most_held-append [] b = omega arith
most_held-append (p ∷ a) b = omega (arith, most_held-append a b)

pub all_below_most : (n : ℕ) (ps : List Point) → most_held ps ≤ n → All (λ p. length p.before ≤ n) ps
all_below_most n [] h = All-nil (λ p. length p.before ≤ n)
all_below_most n (p ∷ ps) h =
    let at : length p.before ≤ n = omega (arith, le-max_left (length p.before) (most_held ps)) in
    let rest : most_held ps ≤ n = omega (arith, le-max_right (length p.before) (most_held ps)) in
    All-cons (λ q. length q.before ≤ n) p ps at (all_below_most n ps rest)
