-- A value's uses are in the label of its definition.
use Rattle.std.proofs.Common.{◌≡◌, ℕ, suc, ◌+◌, ◌<◌, ◌≤◌, nat_eq, true, if◌then◌else◌, List, [], ◌∷◌, ◌++◌, map, length, append_assoc, sym, ap, subst, ◌∙◌, ⊎_elim, arith}
use Rattle.std.proofs.lemmas.Bool.{lt-ltb, le-ltb, or_left, or_right}
use Rattle.std.proofs.lemmas.List.{map-append}
use Rattle.nv_base.specs.Sets.{is_in, all_different, Within}
use Rattle.ssu_ir.specs.Tree.{Label, Tree, Do, If, End, step_values}
use Rattle.ssu_ir.specs.Points.{Names, own, names_after, Point, tree_points, label_points, points_from, points, IsLive}
use Rattle.ssu_ir.specs.Single.{single}
use Rattle.ssu_ir.proofs.Liveness.{held_from, points_held}
use Rattle.place_plan.specs.Uses.{Value, values_from, values, place_values, Role, Use, uses_at, uses_from, uses, place_roles}
use Rattle.ssu_liveness.specs.inner.Numbers.{values_among}
use Rattle.ssu_liveness.specs.inner.PointIds.{tree_places}
use Rattle.place_plan.proofs.Fitting.{values-are}
use Rattle.ssu_liveness.proofs.Numbering.{values_among-append}
use Rattle.ssu_ir.proofs.Liveness.{in-left as is-left, in-right as is-right}
use Rattle.ssu_liveness.proofs.Scoped.{split-different, in-itself, in-either as is-either}
use Rattle.place_plan.proofs.Sound.{Each, each-append}
use Rattle.place_plan.proofs.Spilled.{all-each, each-left, each-right}
use Rattle.place_plan.proofs.Joined.{values-different}
use Rattle.ssu_liveness.proofs.SpotSteps.{places-of-points}
use Rattle.place_plan.specs.ByLabel.{label_from}
use Rattle.reg_assign_reading.proofs.Counts.{In, in-either}
use Rattle.reg_assign_reading.proofs.FactsThere.{point-of}
use Rattle.reg_assign_reading.proofs.FitPasses.{value-point}

-- ---- which points

uses-append : (n : ℕ) (a b : List Point) → uses_from n (a ++ b) ≡ uses_from n a ++ uses_from (n + length a) b
uses-append n [] b = let e : n ≡ n + 0 = omega arith in ap (λ k. uses_from k b) e
uses-append n (q ∷ a) b =
    let e : suc n + length a ≡ n + suc (length a) = omega arith in
    ap (λ us. uses_at n 0 q.uses (place_roles q.place) ++ us) (uses-append (suc n) a b ∙ ap (λ k. uses_from (suc n) a ++ uses_from k b) e)
    ∙ sym (append_assoc (uses_at n 0 q.uses (place_roles q.place)) (uses_from (suc n) a) (uses_from (n + suc (length a)) b))

values-append : (n : ℕ) (a b : List Point) → values_from n (a ++ b) ≡ values_from n a ++ values_from (n + length a) b
values-append n [] b = let e : n ≡ n + 0 = omega arith in ap (λ k. values_from k b) e
values-append n (q ∷ a) b =
    let e : suc n + length a ≡ n + suc (length a) = omega arith in
    ap (λ vs. place_values n q.place ++ vs) (values-append (suc n) a b ∙ ap (λ k. values_from (suc n) a ++ values_from k b) e)
    ∙ sym (append_assoc (place_values n q.place) (values_from (suc n) a) (values_from (n + suc (length a)) b))

-- number k is that of one of these points, which are numbered from n
abbrev Among : ℕ → List Point → ℕ → Type 0
Among n ps k = (n ≤ k) × (k < n + length ps)

use-among : (u : Use) (n : ℕ) (ps : List Point) → In u (uses_from n ps) → Among n ps u.point
use-among u n [] i = absurd i
use-among u n (q ∷ ps) i = ⊎_elim
    (λ (h : In u (uses_at n 0 q.uses (place_roles q.place))). let e = point-of u n 0 q.uses (place_roles q.place) h in (omega (arith, e), omega (arith, e)))
    (λ (t : In u (uses_from (suc n) ps)). let a = use-among u (suc n) ps t in let b = a.0 in let c = a.1 in (omega (arith, b), omega (arith, c)))
    (in-either u (uses_at n 0 q.uses (place_roles q.place)) (uses_from (suc n) ps) i)

value-among : (v : Value) (n : ℕ) (ps : List Point) → In v (values_from n ps) → Among n ps v.point
value-among v n [] i = absurd i
value-among v n (q ∷ ps) i = ⊎_elim
    (λ (h : In v (place_values n q.place)). let e = value-point v n q.place h in (omega (arith, e), omega (arith, e)))
    (λ (t : In v (values_from (suc n) ps)). let a = value-among v (suc n) ps t in let b = a.0 in let c = a.1 in (omega (arith, b), omega (arith, c)))
    (in-either v (place_values n q.place) (values_from (suc n) ps) i)

here-from : (l n : ℕ) (m : Label) (ms : List Label) (k : ℕ) → k < n + length (label_points l m) → label_from l n (m ∷ ms) k ≡ l
here-from l n m ms k h = ap (λ b. if b then l else label_from (suc l) (n + length (label_points l m)) ms k) (lt-ltb k (n + length (label_points l m)) h)

later-from : (l n : ℕ) (m : Label) (ms : List Label) (k : ℕ) → n + length (label_points l m) ≤ k → label_from l n (m ∷ ms) k ≡ label_from (suc l) (n + length (label_points l m)) ms k
later-from l n m ms k h = ap (λ b. if b then l else label_from (suc l) (n + length (label_points l m)) ms k) (le-ltb k (n + length (label_points l m)) h)

-- ---- which values

-- the values of points, as variables
abbrev vars_at : List Point → List ℕ
vars_at ps = values_among (map (λ q. q.place) ps)

vars-append : (a b : List Point) → vars_at (a ++ b) ≡ vars_at a ++ vars_at b
vars-append a b = ap values_among (map-append (λ (q : Point). q.place) a b) ∙ values_among-append (map (λ q. q.place) a) (map (λ q. q.place) b)

value-var : (v : Value) (n : ℕ) (ps : List Point) → In v (values_from n ps) → is_in v.var (vars_at ps) ≡ true
value-var v n ps i = ap (is_in v.var) (sym (values-are n ps)) ∙ among (values_from n ps) i
  where
    among : (vs : List Value) → In v vs → is_in v.var (map (λ v. v.var) vs) ≡ true
    among [] i = absurd i
    among (w ∷ vs) i = ⊎_elim
        (λ (e : w ≡ v). or_left (nat_eq v.var w.var) (is_in v.var (map (λ v. v.var) vs)) (subst (λ (z : Value). nat_eq v.var z.var ≡ true) (sym e) (in-itself v.var)))
        (λ (j : In v vs). or_right (nat_eq v.var w.var) (is_in v.var (map (λ v. v.var) vs)) (among vs j))
        i

-- what is live at points are these
abbrev HeldIn : List ℕ → Point → Type 0
HeldIn xs q = Within q.before xs

tree-held-in : (xs : List ℕ) (of : Names) (above : List ℕ) (t : Tree) → Within above xs → Within (values_among (tree_places t)) xs → Each (HeldIn xs) (tree_points of above t)
tree-held-in xs of above (Do s t) a d = (
  λ x e. a x (held_from of above (Do s t) x e).0,
  tree-held-in xs (names_after of s) (above ++ step_values s) t
      (λ x e. ⊎_elim (λ (p : is_in x above ≡ true). a x p) (λ (p : is_in x (step_values s) ≡ true). d x (is-left x (step_values s) (values_among (tree_places t)) p)) (is-either x above (step_values s) e))
      (λ x e. d x (is-right x (step_values s) (values_among (tree_places t)) e)),
)
tree-held-in xs of above (If c y z t u) a d =
    let joined : (x : ℕ) → is_in x (values_among (tree_places t) ++ values_among (tree_places u)) ≡ true → is_in x xs ≡ true = λ x e. d x (ap (λ l. is_in x l) (values_among-append (tree_places t) (tree_places u)) ∙ e) in (
      λ x e. a x (held_from of above (If c y z t u) x e).0,
      each-append (HeldIn xs) (tree_points of above t) (tree_points of above u)
          (tree-held-in xs of above t a (λ x e. joined x (is-left x (values_among (tree_places t)) (values_among (tree_places u)) e)))
          (tree-held-in xs of above u a (λ x e. joined x (is-right x (values_among (tree_places t)) (values_among (tree_places u)) e))),
    )
tree-held-in xs of above (End l) a d = (λ x e. a x (held_from of above (End l) x e).0, tt)

label-held-in : (l : ℕ) (m : Label) → Each (HeldIn (vars_at (label_points l m))) (label_points l m)
label-held-in l m =
    let tree = vars_at (tree_points own m.params m.body) in
    let same : vars_at (tree_points own m.params m.body) ≡ values_among (tree_places m.body) = ap values_among (places-of-points own m.params m.body) in (
      λ x e. is-left x m.params tree e,
      tree-held-in (m.params ++ tree) own m.params m.body
          (λ x e. is-left x m.params tree e)
          (λ x e. is-right x m.params tree (ap (is_in x) same ∙ e)),
    )

pub used-here : (u : Use) (k i : ℕ) (xs : List ℕ) (rs : List Role) → In u (uses_at k i xs rs) → is_in u.value xs ≡ true
used-here u k i [] rs h = absurd h
used-here u k i (x ∷ xs) [] h = absurd h
used-here u k i (x ∷ xs) (r ∷ rs) h = ⊎_elim
    (λ (e : ◌≡◌ {A = Use} (record { point = k; operand = i; value = x; role = r }) u).
    or_left (nat_eq u.value x) (is_in u.value xs) (subst (λ n. nat_eq u.value n ≡ true) (ap (λ (w : Use). w.value) (sym e)) (in-itself u.value)))
    (λ (j : In u (uses_at k (suc i) xs rs)). or_right (nat_eq u.value x) (is_in u.value xs) (used-here u k (suc i) xs rs j))
    h

use-var : (xs : List ℕ) (u : Use) (n : ℕ) (ps : List Point) → Each IsLive ps → Each (HeldIn xs) ps → In u (uses_from n ps) → is_in u.value xs ≡ true
use-var xs u n [] h g i = absurd i
use-var xs u n (q ∷ ps) h g i = ⊎_elim
    (λ (j : In u (uses_at n 0 q.uses (place_roles q.place))). g.0 u.value (h.0.uses u.value (used-here u n 0 q.uses (place_roles q.place) j)))
    (λ (j : In u (uses_from (suc n) ps)). use-var xs u (suc n) ps h.1 g.1 j)
    (in-either u (uses_at n 0 q.uses (place_roles q.place)) (uses_from (suc n) ps) i)

-- a use is of a value of its own label
label-var : (u : Use) (l n : ℕ) (m : Label) → Each IsLive (label_points l m) → In u (uses_from n (label_points l m)) → is_in u.value (vars_at (label_points l m)) ≡ true
label-var u l n m h i = use-var (vars_at (label_points l m)) u n (label_points l m) h (label-held-in l m) i

labels-var : (u : Use) (l n : ℕ) (ms : List Label) → Each IsLive (points_from l ms) → In u (uses_from n (points_from l ms)) → is_in u.value (vars_at (points_from l ms)) ≡ true
labels-var u l n [] h i = absurd i
labels-var u l n (m ∷ ms) h i =
    let ps = label_points l m in
    let qs = points_from (suc l) ms in
    ap (is_in u.value) (vars-append ps qs)
    ∙ ⊎_elim
    (λ (j : In u (uses_from n ps)). is-left u.value (vars_at ps) (vars_at qs) (label-var u l n m (each-left IsLive ps qs h) j))
    (λ (j : In u (uses_from (n + length ps) qs)). is-right u.value (vars_at ps) (vars_at qs) (labels-var u (suc l) (n + length ps) ms (each-right IsLive ps qs h) j))
    (in-either u (uses_from n ps) (uses_from (n + length ps) qs) (subst (In u) (uses-append n ps qs) i))

-- ---- the whole

same-label : (u : Use) (v : Value) (l n : ℕ) (ms : List Label) → all_different (vars_at (points_from l ms)) ≡ true → Each IsLive (points_from l ms) → In u (uses_from n (points_from l ms)) → In v (values_from n (points_from l ms)) → u.value ≡ v.var → label_from l n ms u.point ≡ label_from l n ms v.point
same-label u v l n [] d h i j e = absurd i
same-label u v l n (m ∷ ms) d h i j e =
    let ps = label_points l m in
    let qs = points_from (suc l) ms in
    let next = n + length ps in
    let apart = split-different (vars_at ps) (vars_at qs) (ap all_different (sym (vars-append ps qs)) ∙ d) in
    let first = each-left IsLive ps qs h in
    let rest = each-right IsLive ps qs h in
    let first-var : In u (uses_from n ps) → is_in v.var (vars_at ps) ≡ true = λ a. subst (λ x. is_in x (vars_at ps) ≡ true) e (label-var u l n m first a) in
    let rest-var : In u (uses_from next qs) → is_in v.var (vars_at qs) ≡ true = λ a. subst (λ x. is_in x (vars_at qs) ≡ true) e (labels-var u (suc l) next ms rest a) in
    let of-first : In v (values_from n ps) → label_from l n (m ∷ ms) u.point ≡ label_from l n (m ∷ ms) v.point = λ b. ⊎_elim
    (λ (a : In u (uses_from n ps)). here-from l n m ms u.point (use-among u n ps a).1 ∙ sym (here-from l n m ms v.point (value-among v n ps b).1))
    (λ (a : In u (uses_from next qs)). absurd (apart.2 v.var (value-var v n ps b) (rest-var a)))
    (in-either u (uses_from n ps) (uses_from next qs) (subst (In u) (uses-append n ps qs) i)) in
    let of-rest : In v (values_from next qs) → label_from l n (m ∷ ms) u.point ≡ label_from l n (m ∷ ms) v.point = λ b. ⊎_elim
    (λ (a : In u (uses_from n ps)). absurd (apart.2 v.var (first-var a) (value-var v next qs b)))
    (λ (a : In u (uses_from next qs)).
    later-from l n m ms u.point (use-among u next qs a).0
    ∙ same-label u v (suc l) next ms apart.1 rest a b e
    ∙ sym (later-from l n m ms v.point (value-among v next qs b).0))
    (in-either u (uses_from n ps) (uses_from next qs) (subst (In u) (uses-append n ps qs) i)) in
    ⊎_elim of-first of-rest (in-either v (values_from n ps) (values_from next qs) (subst (In v) (values-append n ps qs) j))

pub uses-in-label : (labels : List Label) → single labels ≡ true → (u : Use) (v : Value) → In u (uses labels) → In v (values labels) → u.value ≡ v.var → label_from 0 0 labels u.point ≡ label_from 0 0 labels v.point
uses-in-label labels s u v i j e =
    same-label u v 0 0 labels (ap all_different (sym (values-are 0 (points labels))) ∙ values-different labels s) (all-each IsLive (points labels) (points_held labels s)) i j e
