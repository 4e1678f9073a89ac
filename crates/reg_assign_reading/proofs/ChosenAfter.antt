-- What is held after a step is what is live at the next point.
use Rattle.std.proofs.Common.{◌≡◌, ℕ, zero, suc, true, List, [], ◌∷◌, ◌++◌, Some, refl, sym, ap, subst, ◌∙◌}
use Rattle.std.specs.Prelude.{slice_get}
use Rattle.nv_base.specs.Sets.{all_different}
use Rattle.ssu_ir.specs.Tree.{Step, Tree, Do, If, End, Label, Does, Forks, Ends, step_values}
use Rattle.ssu_ir.specs.Points.{Names, own, names_after, live_of, PointKind, Entry, At, Point, tree_points, label_points, points_from, points}
use Rattle.ssu_ir.specs.Single.{single}
use Rattle.place_plan.specs.Uses.{Access, reads_at}
use Rattle.reg_assign_reading.proofs.Counts.{In}
use Rattle.reg_assign_reading.proofs.ChosenForm.{point-held}

-- the first of these points, at which these values are held
record Begins (ps : List Point) (before : List ℕ) : Type 0 where
  first : Point
  rest : List Point
  is : ps ≡ first ∷ rest
  held_ : first.before ≡ before

-- after a step comes the point at which what is held after it is held
abbrev Follows : PointKind → List Point → List ℕ → Type 0
Follows (Entry l params) ps after = Unit {0}
Follows (At (Does s)) ps after = Begins ps after
Follows (At (Forks c x y)) ps after = Unit {0}
Follows (At (Ends l)) ps after = Unit {0}

abbrev AllFollow : List Point → Type 0
AllFollow [] = Unit {0}
AllFollow (q ∷ ps) = Follows q.place ps q.after × AllFollow ps

follows-append : (q : PointKind) (after : List ℕ) (ps rs : List Point) → Follows q ps after → Follows q (ps ++ rs) after
follows-append (Entry l params) after ps rs h = tt
follows-append (At (Does s)) after ps rs h = record { first = h.first; rest = h.rest ++ rs; is = ap (λ l. l ++ rs) h.is; held_ = h.held_ }
follows-append (At (Forks c x y)) after ps rs h = tt
follows-append (At (Ends l)) after ps rs h = tt

all-append : (ps rs : List Point) → AllFollow ps → AllFollow rs → AllFollow (ps ++ rs)
all-append [] rs h g = g
all-append (q ∷ ps) rs h g = (follows-append q.place q.after ps rs h.0, all-append ps rs h.1 g)

tree-begins : (of : Names) (above : List ℕ) (t : Tree) → Begins (tree_points of above t) (live_of of above t)
tree-begins of above (Do s t) = record { first = _; rest = _; is = refl; held_ = refl }
tree-begins of above (If c x y t u) = record { first = _; rest = _; is = refl; held_ = refl }
tree-begins of above (End l) = record { first = _; rest = _; is = refl; held_ = refl }

tree-follows : (of : Names) (above : List ℕ) (t : Tree) → AllFollow (tree_points of above t)
tree-follows of above (Do s t) = (tree-begins (names_after of s) (above ++ step_values s) t, tree-follows (names_after of s) (above ++ step_values s) t)
tree-follows of above (If c x y t u) = (tt, all-append (tree_points of above t) (tree_points of above u) (tree-follows of above t) (tree-follows of above u))
tree-follows of above (End l) = (tt, tt)

points-follow : (k : ℕ) (ls : List Label) → AllFollow (points_from k ls)
points-follow k [] = tt
points-follow k (l ∷ ls) = all-append (label_points k l) (points_from (suc k) ls) (tt, tree-follows own l.params l.body) (points-follow (suc k) ls)

record Next (ps : List Point) (k : ℕ) (after : List ℕ) : Type 0 where
  point : Point
  at : slice_get ps (suc k) ≡ Some point
  held_ : point.before ≡ after

next-first : (p : Point) (ps : List Point) (after : List ℕ) → Begins ps after → Next (p ∷ ps) zero after
next-first p ps after b = record { point = b.first; at = ap (λ l. slice_get l 0) b.is; held_ = b.held_ }

next-at : (ps : List Point) (k : ℕ) (q : Point) (s : Step) → AllFollow ps → slice_get ps k ≡ Some q → q.place ≡ At (Does s) → Next ps k q.after
next-at [] k q s h e f = absurd (cc)
next-at (p ∷ ps) zero q s h e f =
    let same : p ≡ q = cc in
    next-first p ps q.after (subst (λ z. Follows z ps q.after) f (subst (λ (z : Point). Follows z.place ps z.after) same h.0))
next-at (p ∷ ps) (suc k) q s h e f = let n = next-at ps k q s h.1 e f in record { point = n.point; at = n.at; held_ = n.held_ }

record IsStep (q : PointKind) : Type 0 where
  step : Step
  is : q ≡ At (Does step)

read-step : (a : Access) (k : ℕ) (q : PointKind) → In a (reads_at k q) → IsStep q
read-step a k (Entry l params) i = absurd i
read-step a k (At (Does s)) i = record { step = s; is = refl }
read-step a k (At (Forks c x y)) i = absurd i
read-step a k (At (Ends l)) i = absurd i

-- after a read no value is held twice
pub after-different : (labels : List Label) (k : ℕ) (q : Point) (a : Access) → single labels ≡ true → slice_get (points labels) k ≡ Some q → In a (reads_at k q.place) → all_different q.after ≡ true
after-different labels k q a s at i =
    let r = read-step a k q.place i in
    let n = next-at (points labels) k q r.step (points-follow 0 labels) at r.is in
    ap all_different (sym n.held_) ∙ (point-held labels (suc k) n.point s n.at).different
