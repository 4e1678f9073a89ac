-- How many points lie below each, by those of the points after it.
use Rattle.std.proofs.Common.{◌≡◌, ℕ, zero, suc, ◌+◌, ◌<◌, ◌≤◌, List, [], ◌∷◌, ◌++◌, length, map, get_or, set, refl, sym, ap, subst, ◌∙◌, append_assoc, arith}
use Rattle.ssu_ir.specs.Tree.{Tree, Do, If, End, Label, step_values}
use Rattle.ssu_ir.specs.Points.{Names, own, names_after, PointKind, Point, nodes, tree_points, points_from, points}
use Rattle.ssu_ir.proofs.PointLemmas.{length-tree_points}
use Rattle.std.proofs.lemmas.List.{get_or-set_same, get_or-set_other}
use Rattle.bank_prog_rows.specs.inner.Waiting.{arms, below_at}
use Rattle.bank_prog_form.proofs.RowTerms.{Order, less, same, more, order}

-- numbers by place, 0 past the last
abbrev pub from_list : List ℕ → ℕ → ℕ
from_list bs k = get_or bs k 0

abbrev pub counts : List Point → List ℕ
counts ps = map (λ p. p.below) ps

pub past : (xs : List ℕ) (k : ℕ) → length xs ≤ k → get_or xs k 0 ≡ 0
past [] k h = refl
past (x ∷ xs) zero h = absurd (omega arith)
past (x ∷ xs) (suc k) h = past xs k (omega (arith, h))

-- what lies after a point agrees
pub below-same : (n : ℕ) (f g : ℕ → ℕ) (k : ℕ) → ((j : ℕ) → k < j → f j ≡ g j) → below_at n f k ≡ below_at n g k
below-same zero f g k h = refl
below-same (suc zero) f g k h = ap (λ b. 1 + b) (h (k + 1) (omega arith))
below-same (suc (suc n)) f g k h =
    ap (λ b. 2 + (b + f (k + 2 + b))) (h (k + 1) (omega arith)) ∙ ap (λ b. 2 + (g (k + 1) + b)) (h (k + 2 + g (k + 1)) (omega arith))

-- one place further
shifted : (n : ℕ) (b : ℕ) (bs : List ℕ) (k : ℕ) → below_at n (from_list (b ∷ bs)) (suc k) ≡ below_at n (from_list bs) k
shifted zero b bs k = refl
shifted (suc zero) b bs k = let e : suc k + 1 ≡ suc (k + 1) = omega arith in ap (λ m. 1 + from_list (b ∷ bs) m) e
shifted (suc (suc n)) b bs k =
    let e : suc k + 1 ≡ suc (k + 1) = omega arith in
    let d : suc k + 2 + from_list bs (k + 1) ≡ suc (k + 2 + from_list bs (k + 1)) = omega arith in
    ap (λ m. 2 + (from_list (b ∷ bs) m + from_list (b ∷ bs) (suc k + 2 + from_list (b ∷ bs) m))) e ∙ ap (λ m. 2 + (from_list bs (k + 1) + from_list (b ∷ bs) m)) d

-- ---- each suffix of the points

abbrev pub Sized : List Point → Type 0
Sized [] = Unit {0}
Sized (q ∷ ps) = (q.below ≡ below_at (arms q.place) (from_list (q.below ∷ counts ps)) 0) × Sized ps

map-both : (ps qs : List Point) → counts (ps ++ qs) ≡ counts ps ++ counts qs
map-both [] qs = refl
map-both (p ∷ ps) qs = ap (λ bs. p.below ∷ bs) (map-both ps qs)

behind : (xs ys : List ℕ) (n : ℕ) → n ≡ length xs → get_or (xs ++ ys) n 0 ≡ get_or ys 0 0
behind [] ys n h = ap (λ m. get_or ys m 0) h
behind (x ∷ xs) ys zero h = absurd (omega (arith, h))
behind (x ∷ xs) ys (suc n) h = behind xs ys n (omega (arith, h))

-- a tree's first point has all others of the tree below
first-below : (of : Names) (above : List ℕ) (t : Tree) (ps : List Point) → nodes t ≡ 1 + get_or (counts (tree_points of above t ++ ps)) 0 0
first-below of above (Do s t) ps = refl
first-below of above (If c x y t u) ps = refl
first-below of above (End l) ps = refl

pub length-counts : (ps : List Point) → length (counts ps) ≡ length ps
length-counts [] = refl
length-counts (p ∷ ps) = ap suc (length-counts ps)

tree-sized : (of : Names) (above : List ℕ) (t : Tree) (ps : List Point) → Sized ps → Sized (tree_points of above t ++ ps)
tree-sized of above (Do s t) ps h = (first-below (names_after of s) (above ++ step_values s) t ps, tree-sized (names_after of s) (above ++ step_values s) t ps h)
tree-sized of above (If c x y t u) ps h =
    let a = tree_points of above t in
    let b = tree_points of above u in
    let one = first-below of above t (b ++ ps) in
    let two = first-below of above u ps in
    let bs = counts (a ++ (b ++ ps)) in
    let n : get_or bs 0 0 + 1 ≡ length (counts a) = omega (arith, one, length-counts a, length-tree_points of above t) in
    let other : get_or bs (get_or bs 0 0 + 1) 0 ≡ get_or (counts (b ++ ps)) 0 0 = ap (λ xs. get_or xs (get_or bs 0 0 + 1) 0) (map-both a (b ++ ps)) ∙ behind (counts a) (counts (b ++ ps)) (get_or bs 0 0 + 1) n in
    let total : nodes t + nodes u ≡ 2 + (get_or bs 0 0 + get_or bs (get_or bs 0 0 + 1) 0) = omega (arith, one, two, other) in
    let e : 0 + 2 + get_or bs 0 0 ≡ suc (get_or bs 0 0 + 1) = omega arith in
    let whole = append_assoc a b ps in (
      total ∙ ap (λ m. 2 + (get_or bs 0 0 + get_or ((nodes t + nodes u) ∷ bs) m 0)) (sym e) ∙ ap (λ xs. below_at 2 (from_list ((nodes t + nodes u) ∷ counts xs)) 0) (sym whole),
      subst Sized (sym whole) (tree-sized of above t (b ++ ps) (tree-sized of above u ps h)),
    )
tree-sized of above (End l) ps h = (refl, h)

labels-sized : (n : ℕ) (ls : List Label) → Sized (points_from n ls)
labels-sized n [] = tt
labels-sized n (l ∷ ls) = (first-below own l.params l.body (points_from (suc n) ls), tree-sized own l.params l.body (points_from (suc n) ls) (labels-sized (suc n) ls))

sized-at : (ps : List Point) (k : ℕ) (p : PointKind) → Sized ps → k < length ps → p ≡ get_or (map (λ q. q.place) ps) k p → from_list (counts ps) k ≡ below_at (arms p) (from_list (counts ps)) k
sized-at [] k p h l e = absurd (omega arith)
sized-at (q ∷ ps) zero p h l e = h.0 ∙ ap (λ z. below_at (arms z) (from_list (counts (q ∷ ps))) 0) (sym e)
sized-at (q ∷ ps) (suc k) p h l e = sized-at ps k p h.1 (omega (arith, l)) e ∙ sym (shifted (arms p) q.below (counts ps) k)

pub points-sized : (labels : List Label) (k : ℕ) (p : PointKind) → k < length (points labels) → p ≡ get_or (map (λ q. q.place) (points labels)) k p
    → from_list (counts (points labels)) k ≡ below_at (arms p) (from_list (counts (points labels))) k
points-sized labels k p l e = sized-at (points labels) k p (labels-sized 0 labels) l e

-- ---- the loop from the last point to the first

pub got-map : {X Y : Type 0} (f : X → Y) (xs : List X) (i : ℕ) (d : X) (e : Y) → i < length xs → f (get_or xs i d) ≡ get_or (map f xs) i e
got-map f [] i d e l = absurd (omega arith)
got-map f (x ∷ xs) zero d e l = refl
got-map f (x ∷ xs) (suc i) d e l = got-map f xs i d e (omega (arith, l))

pub set-done : (bs cs : List ℕ) (k b : ℕ) → k < length bs → ((j : ℕ) → k < j → get_or bs j 0 ≡ get_or cs j 0) → b ≡ get_or cs k 0 → (j : ℕ) → k ≤ j → get_or (set bs k b) j 0 ≡ get_or cs j 0
set-done bs cs k b l h e j m = pick (order k j)
  where
    pick : Order k j → get_or (set bs k b) j 0 ≡ get_or cs j 0
    pick (less n) = get_or-set_other bs k j b 0 (λ q. omega (arith, n, q)) ∙ h j n
    pick (same n) = ap (λ z. get_or (set bs k b) z 0) (sym n) ∙ get_or-set_same bs k b 0 l ∙ e ∙ ap (λ z. get_or cs z 0) n
    pick (more n) = absurd (omega (arith, m, n))
