-- What is live at a point is used, and a point and the next one.
use Rattle.std.proofs.Common.{◌≡◌, ℕ, suc, ◌+◌, Bool, true, false, List, [], ◌∷◌, ◌++◌, map, Some, refl, sym, ap, ◌∙◌, ⊎_elim, arith, slice_get}
use Rattle.std.proofs.lemmas.Bool.{false≢true}
use Rattle.std.proofs.lemmas.List.{map-append}
use Rattle.nv_base.specs.Sets.{is_in, Within}
use Rattle.nv_base.proofs.Sets.{within-left, within-right}
use Rattle.ssu_ir.specs.Tree.{Step, Lit, Una, Bin, Clone, Read, Write, Jump, Halt, Tree, Do, If, End, Label, Node, Does, Forks, Ends, step_values, step_uses, node_uses}
use Rattle.ssu_ir.specs.Points.{Names, own, names_after, used, live_of, Point, place_values, nodes, tree_points, points_from, points}
use Rattle.ssu_ir.proofs.Liveness.{filter_from, filter_in}
use Rattle.place_plan.specs.Uses.{Role, Written, Argument, Ending, roles, node_roles, place_roles, Use, uses_at, uses_from, uses, is_used}
use Rattle.ssu_liveness.proofs.Scoped.{in-either}
use Rattle.ucode_emit.specs.Pieces.{entry_point}
use Rattle.ucode_emit.specs.inner.Layers.{PointsAt, root_point}
use Rattle.ucode_emit.proofs.PointsEach.{EachFrom, each_map, each_append, each_left, each_right, each_here, each_from}
use Rattle.ucode_emit.proofs.PointsTree.{arms_at}
use Rattle.ucode_emit.proofs.PointsLabels.{entry_at, entry_there}

-- ---- each value that a point uses is one of its uses

abbrev pub values_of : List Use → List ℕ
values_of us = map (λ u. u.value) us

vals_roles : (k i : ℕ) (role : ℕ → Role) (j : ℕ) (of : Names) (xs : List ℕ) → values_of (uses_at k i (map of xs) (roles role j xs)) ≡ map of xs
vals_roles k i role j of [] = refl
vals_roles k i role j of (x ∷ xs) = ap (λ l. of x ∷ l) (vals_roles k (suc i) role (suc j) of xs)

node_vals : (k : ℕ) (of : Names) (n : Node) → values_of (uses_at k 0 (map of (node_uses n)) (node_roles n)) ≡ map of (node_uses n)
node_vals k of (Does (Lit x v)) = refl
node_vals k of (Does (Una x op y)) = refl
node_vals k of (Does (Bin x op y z)) = refl
node_vals k of (Does (Clone xs y)) = refl
node_vals k of (Does (Read m xs y)) = refl
node_vals k of (Does (Write m y xs)) = ap (λ l. of y ∷ l) (vals_roles k 1 (Written m) 0 of xs)
node_vals k of (Forks c x y) = refl
node_vals k of (Ends (Jump l xs)) = vals_roles k 0 (Argument l) 0 of xs
node_vals k of (Ends (Halt e xs)) = vals_roles k 0 Ending 0 of xs

abbrev pub HasUses : ℕ → Point → Type 0
HasUses j r = values_of (uses_at j 0 r.uses (place_roles r.place)) ≡ r.uses

tree_uses : (of : Names) (above : List ℕ) (t : Tree) (n : ℕ) → EachFrom HasUses n (tree_points of above t)
tree_uses of above (Do s t) n = (node_vals n of (Does s), tree_uses (names_after of s) (above ++ step_values s) t (suc n))
tree_uses of above (If c x y t u) n = (
  refl,
  each_append HasUses (suc n) (suc n + nodes t) (tree_points of above t) (tree_points of above u) (arms_at of above t (suc n)) (tree_uses of above t (suc n)) (tree_uses of above u (suc n + nodes t)),
)
tree_uses of above (End l) n = (node_vals n of (Ends l), tt)

labels_uses : (n k : ℕ) (ls : List Label) → EachFrom HasUses n (points_from k ls)
labels_uses n k [] = tt
labels_uses n k (l ∷ ls) = (
  refl,
  each_append HasUses (suc n) (suc n + nodes l.body) (tree_points own l.params l.body) (points_from (suc k) ls) (arms_at own l.params l.body (suc n)) (tree_uses own l.params l.body (suc n))
      (labels_uses (suc n + nodes l.body) (suc k) ls),
)

uses_append : (x : ℕ) (a b : List Use) → is_in x (values_of (a ++ b)) ≡ is_in x (values_of a ++ values_of b)
uses_append x a b = ap (is_in x) (map-append (λ (u : Use). u.value) a b)

used_each : (n : ℕ) (qs : List Point) → EachFrom HasUses n qs → EachFrom (λ j r. Within r.uses (values_of (uses_from n qs))) n qs
used_each n [] h = tt
used_each n (q ∷ qs) h =
    let emit_context = uses_at n 0 q.uses (place_roles q.place) in
    let rest = uses_from (suc n) qs in (
      λ x e. uses_append x emit_context rest ∙ within-left (values_of emit_context) (values_of rest) x (ap (is_in x) h.0 ∙ e),
      each_map (λ j r. Within r.uses (values_of rest)) (λ j r. Within r.uses (values_of (emit_context ++ rest))) (suc n) qs
          (λ j r w x e. uses_append x emit_context rest ∙ within-right (values_of emit_context) (values_of rest) x (w x e))
          (used_each (suc n) qs h.1),
    )

pub used_at_point : (labels : List Label) (k : ℕ) (r : Point) → slice_get (points labels) k ≡ Some r → Within r.uses (values_of (uses labels))
used_at_point labels k r e = each_here (λ j r. Within r.uses (values_of (uses labels))) (points labels) k r (used_each 0 (points labels) (labels_uses 0 0 labels)) e

-- what a tree uses, its points use
pub used_tree : (us : List ℕ) (of : Names) (above : List ℕ) (t : Tree) (n : ℕ) → EachFrom (λ j r. Within r.uses us) n (tree_points of above t) → Within (used of t) us
used_tree us of above (Do s t) n h x e =
    ⊎_elim (λ (k : is_in x (map of (step_uses s)) ≡ true). h.0 x k) (λ (k : is_in x (used (names_after of s) t) ≡ true). used_tree us (names_after of s) (above ++ step_values s) t (suc n) h.1 x k)
    (in-either x (map of (step_uses s)) (used (names_after of s) t) e)
used_tree us of above (If c y z t u) n h x e =
    let P = λ (j : ℕ) (r : Point). Within r.uses us in
    ⊎_elim (λ (k : is_in x (of y ∷ of z ∷ []) ≡ true). h.0 x k)
    (λ (k : is_in x (used of t ++ used of u) ≡ true).
    ⊎_elim
    (λ (l : is_in x (used of t) ≡ true). used_tree us of above t (suc n) (each_left P (suc n) (tree_points of above t) (tree_points of above u) h.1) x l)
    (λ (l : is_in x (used of u) ≡ true). used_tree us of above u (suc n + nodes t) (each_right P (suc n) (suc n + nodes t) (tree_points of above t) (tree_points of above u) (arms_at of above t (suc n)) h.1) x l)
    (in-either x (used of t) (used of u) k))
    (in-either x (of y ∷ of z ∷ []) (used of t ++ used of u) e)
used_tree us of above (End l) n h x e = h.0 x e

pub used_there : (labels : List Label) (k : ℕ) (of : Names) (above : List ℕ) (t : Tree) → PointsAt labels k of above t → Within (used of t) (values_of (uses labels))
used_there labels k of above t h =
    used_tree (values_of (uses labels)) of above t k
    (each_from (λ j r. Within r.uses (values_of (uses labels))) k (tree_points of above t) (λ i q e. used_at_point labels (k + i) q (h.each i q e)))

-- ---- the first point of a tree

pub root_there : (of : Names) (above : List ℕ) (t : Tree) → slice_get (tree_points of above t) 0 ≡ Some (root_point of above t)
root_there of above (Do s t) = refl
root_there of above (If c x y t u) = refl
root_there of above (End l) = refl

pub root_above : (of : Names) (above : List ℕ) (t : Tree) → (root_point of above t).above ≡ above
root_above of above (Do s t) = refl
root_above of above (If c x y t u) = refl
root_above of above (End l) = refl

pub root_before : (of : Names) (above : List ℕ) (t : Tree) → (root_point of above t).before ≡ live_of of above t
root_before of above (Do s t) = refl
root_before of above (If c x y t u) = refl
root_before of above (End l) = refl

pub root_below : (of : Names) (above : List ℕ) (t : Tree) → nodes t ≡ suc ((root_point of above t).below)
root_below of above (Do s t) = omega arith
root_below of above (If c x y t u) = omega arith
root_below of above (End l) = refl

pub root_at : (labels : List Label) (k : ℕ) (of : Names) (above : List ℕ) (t : Tree) → PointsAt labels k of above t → slice_get (points labels) k ≡ Some (root_point of above t)
root_at labels k of above t h = let z : k ≡ k + 0 = omega arith in ap (slice_get (points labels)) z ∙ h.each 0 (root_point of above t) (root_there of above t)

-- the points of what follows a step
pub points_rest : (labels : List Label) (k : ℕ) (of : Names) (above : List ℕ) (s : Step) (t : Tree) → PointsAt labels k of above (Do s t) → PointsAt labels (suc k) (names_after of s) (above ++ step_values s) t
points_rest labels k of above s t h = record { each = λ i q e. let z : suc k + i ≡ k + suc i = omega arith in ap (slice_get (points labels)) z ∙ h.each (suc i) q e }

-- ---- a point that defines these values, and the next one

pub record EmittedPoint (labels : List Label) (k : ℕ) (q r : Point) (xs : List ℕ) : Type 0 where
  pub emit_context : slice_get (points labels) k ≡ Some q
  pub next : slice_get (points labels) (suc k) ≡ Some r
  pub values : place_values q.place ≡ xs
  pub above_it : r.above ≡ q.above ++ xs
  pub below_it : q.below ≡ suc r.below
  pub same : q.after ≡ r.before
  pub before_it : (x : ℕ) → is_in x r.before ≡ true → is_in x xs ≡ false → is_in x q.before ≡ true
  pub used_it : (x : ℕ) → is_in x r.before ≡ true → is_used labels x ≡ true
  pub known : (x : ℕ) → is_in x r.before ≡ true → is_in x r.above ≡ true

abbrev holds_in : Names → Tree → ℕ → Bool
holds_in of t x = is_in x (used of t)

root_held : (of : Names) (above : List ℕ) (t : Tree) (x : ℕ) → is_in x (root_point of above t).before ≡ true → (is_in x above ≡ true) × (is_in x (used of t) ≡ true)
root_held of above t x e = filter_from (holds_in of t) above x (sym (ap (is_in x) (root_before of above t)) ∙ e)

root_known : (of : Names) (above : List ℕ) (t : Tree) (x : ℕ) → is_in x (root_point of above t).before ≡ true → is_in x (root_point of above t).above ≡ true
root_known of above t x e = ap (is_in x) (root_above of above t) ∙ (root_held of above t x e).0

step_before : (of : Names) (above : List ℕ) (s : Step) (t : Tree) (x : ℕ) → is_in x (root_point (names_after of s) (above ++ step_values s) t).before ≡ true → is_in x (step_values s) ≡ false → is_in x (live_of of above (Do s t)) ≡ true
step_before of above s t x e f =
    let d = root_held (names_after of s) (above ++ step_values s) t x e in
    ⊎_elim
    (λ (k : is_in x above ≡ true). filter_in (holds_in of (Do s t)) above x k (within-right (map of (step_uses s)) (used (names_after of s) t) x d.1))
    (λ (k : is_in x (step_values s) ≡ true). absurd (false≢true (sym f ∙ k)))
    (in-either x above (step_values s) d.0)

pub spot_step : (labels : List Label) (k : ℕ) (of : Names) (above : List ℕ) (s : Step) (t : Tree) → PointsAt labels k of above (Do s t)
    → EmittedPoint labels k (root_point of above (Do s t)) (root_point (names_after of s) (above ++ step_values s) t) (step_values s)
spot_step labels k of above s t h =
    let rest = points_rest labels k of above s t h in
    let of' = names_after of s in
    let above' = above ++ step_values s in record {
      emit_context = root_at labels k of above (Do s t) h;
      next = root_at labels (suc k) of' above' t rest;
      values = refl;
      above_it = root_above of' above' t;
      below_it = root_below of' above' t;
      same = sym (root_before of' above' t);
      before_it = step_before of above s t;
      used_it = λ x e. used_there labels (suc k) of' above' t rest x (root_held of' above' t x e).1;
      known = root_known of' above' t;
    }

pub spot_entry : (labels : List Label) (l : ℕ) (it : Label) → slice_get labels l ≡ Some it → PointsAt labels (suc (entry_point labels l)) own it.params it.body
    → EmittedPoint labels (entry_point labels l) (entry_at l it) (root_point own it.params it.body) it.params
spot_entry labels l it e h =
    let z : 0 + l ≡ l = omega arith in record {
      emit_context = entry_there 0 l labels it e ∙ ap (λ j. Some (entry_at j it)) z;
      next = root_at labels (suc (entry_point labels l)) own it.params it.body h;
      values = refl;
      above_it = root_above own it.params it.body;
      below_it = root_below own it.params it.body;
      same = sym (root_before own it.params it.body);
      before_it = λ x i f. (root_held own it.params it.body x i).0;
      used_it = λ x i. used_there labels (suc (entry_point labels l)) own it.params it.body h x (root_held own it.params it.body x i).1;
      known = root_known own it.params it.body;
    }
