-- Which values are live at a point, by where they are defined and used.
use Rattle.std.proofs.Common.{◌≡◌, ℕ, zero, suc, ◌+◌, ◌<◌, ◌≤◌, Bool, true, false, not, ◌&&◌, ◌||◌, nat_eq, ⊎_elim, List, [], ◌∷◌, ◌++◌, Some, length, map, refl, sym, ap, subst, ◌∙◌, append_assoc, arith, take, drop}
use Rattle.std.specs.Prelude.{slice_get, nat_le, nat_lt}
use Rattle.std.specs.List.{list_any}
use Rattle.std.proofs.lemmas.Bool.{and_from, or_cases, or_left, or_right, false≢true, lt-ltb, le-ltb, le-leb, lt-leb, eq-eqb, ne_eqb, cases_lt}
use Rattle.std.proofs.lemmas.List.{append-nil}
use Rattle.std.proofs.lemmas.List.Folds.{list_any-append}
use Rattle.std.proofs.Math.Bool.{and-true}
use Rattle.nv_base.specs.Sets.{is_in, without}
use Rattle.nv_base.proofs.Sets.{in-append, in-without}
use Rattle.nv_base.specs.declared.term.Cmp.{Cmp}
use Rattle.ssu_ir.specs.Tree.{Step, Last, Tree, Do, If, End, Label, Does, Forks, Ends, step_values, step_uses, last_uses}
use Rattle.ssu_ir.specs.Points.{Names, own, names_after, used, live_of, union, PointKind, Entry, At, Point, point, nodes, tree_points, points_from, points, place_values}
use Rattle.ssu_ir.specs.Single.{single}
use Rattle.ssu_ir.proofs.Lists.{same-order}
use Rattle.ssu_ir.proofs.PointLemmas.{length-tree_points}
use Rattle.ssu_ir.proofs.Searches.{or-false}
use Rattle.place_plan.specs.Plan.{Plan}
use Rattle.place_plan.specs.Uses.{Role, place_roles, uses_at, uses_from, uses}
use Rattle.place_ir_checks.specs.inner.NodeLookups.{place_at, place_node}
use Rattle.place_ir_checks.specs.inner.Checks.{any_below, found, is_of_below, is_above, is_known, is_before_node, is_before, is_after}
use Rattle.ssu_liveness.proofs.Scoped.{in-filter}
use Rattle.place_plan.proofs.Sound.{Each, uses_among, Sound, sound-points}
use Rattle.place_ir_checks.proofs.Recovered.{point-there}

-- ---- what a point holds, by the points below it

-- what holds of each point and those below it
abbrev pub EachRest : (Point → List Point → Type 0) → List Point → Type 0
EachRest P [] = Unit {0}
EachRest P (q ∷ qs) = P q (take q.below qs) × EachRest P qs

pub rest-at : (P : Point → List Point → Type 0) (qs : List Point) (i : ℕ) (q : Point) → EachRest P qs → slice_get qs i ≡ Some q → P q (take q.below (drop (suc i) qs))
rest-at P [] i q h e = absurd (cc)
rest-at P (p ∷ qs) zero q h e = let same : p ≡ q = cc in subst (λ (w : Point). P w (take w.below qs)) same h.0
rest-at P (p ∷ qs) (suc i) q h e = rest-at P qs i q h.1 e

abbrev pub HeldAt : PointKind → Point → List Point → Type 0
HeldAt (Entry l ps) q rest = q.before ≡ ps
HeldAt (At n) q rest = (x : ℕ) → is_in x q.before ≡ (is_in x q.above && (is_in x q.uses || is_in x (uses_among rest)))

pub record Local (q : Point) (rest : List Point) : Type 0 where
  pub before : HeldAt q.place q rest
  pub after : (x : ℕ) → is_in x q.after ≡ ((is_in x q.above || is_in x (place_values q.place)) && is_in x (uses_among rest))

among-append : (a b : List Point) → uses_among (a ++ b) ≡ uses_among a ++ uses_among b
among-append [] b = refl
among-append (q ∷ a) b = ap (λ l. q.uses ++ l) (among-append a b) ∙ sym (append_assoc q.uses (uses_among a) (uses_among b))

used-among : (of : Names) (above : List ℕ) (t : Tree) → used of t ≡ uses_among (tree_points of above t)
used-among of above (Do s t) = ap (λ l. map of (step_uses s) ++ l) (used-among (names_after of s) (above ++ step_values s) t)
used-among of above (If c x y t u) =
    ap (λ l. of x ∷ of y ∷ (l ++ used of u)) (used-among of above t)
    ∙ ap (λ l. of x ∷ of y ∷ (uses_among (tree_points of above t) ++ l)) (used-among of above u)
    ∙ ap (λ l. of x ∷ of y ∷ l) (sym (among-append (tree_points of above t) (tree_points of above u)))
used-among of above (End l) = sym (append-nil (map of (last_uses l)))

in-live_of : (of : Names) (above xs : List ℕ) (t : Tree) (x : ℕ) → is_in x (live_of of xs t) ≡ (is_in x xs && is_in x (uses_among (tree_points of above t)))
in-live_of of above xs t x = in-filter (λ y. is_in y (used of t)) x xs ∙ ap (λ l. is_in x xs && is_in x l) (used-among of above t)

either-arm : (a u v : Bool) → ((a && u) || ((a && v) && not (a && u))) ≡ (a && (u || v))
either-arm true true true = refl
either-arm true true false = refl
either-arm true false true = refl
either-arm true false false = refl
either-arm false u v = refl

pub and-nothing : (a : Bool) → false ≡ (a && false)
and-nothing true = refl
and-nothing false = refl

take-front : (a b : List Point) (n : ℕ) → n ≡ length a → take n (a ++ b) ≡ a
take-front [] [] zero e = refl
take-front [] (q ∷ b) zero e = refl
take-front [] b (suc n) e = absurd (omega arith)
take-front (q ∷ a) b zero e = absurd (omega arith)
take-front (q ∷ a) b (suc n) e = ap (λ l. q ∷ l) (take-front a b n (omega arith))

pub length-both : (a b : List Point) → length (a ++ b) ≡ length a + length b
length-both [] b = omega arith
length-both (q ∷ a) b = omega (arith, length-both a b)

local-do : (of : Names) (above : List ℕ) (s : Step) (t : Tree)
    → Local (point of (Does s) above (step_uses s) (nodes t) (live_of of above (Do s t)) (live_of (names_after of s) (above ++ step_values s) t)) (tree_points (names_after of s) (above ++ step_values s) t)
local-do of above s t =
    let rest = tree_points (names_after of s) (above ++ step_values s) t in
    record {
      before = λ x. in-live_of of above above (Do s t) x ∙ ap (λ b. is_in x above && b) (in-append x (map of (step_uses s)) (uses_among rest));
      after = λ x. in-live_of (names_after of s) (above ++ step_values s) (above ++ step_values s) t x ∙ ap (λ b. b && is_in x (uses_among rest)) (in-append x above (step_values s));
    }

local-if : (of : Names) (above : List ℕ) (c : Cmp) (v w : ℕ) (t u : Tree)
    → Local (point of (Forks c v w) above (v ∷ w ∷ []) (nodes t + nodes u) (live_of of above (If c v w t u)) (union (live_of of above t) (live_of of above u))) (tree_points of above t ++ tree_points of above u)
local-if of above c v w t u =
    let a = tree_points of above t in
    let b = tree_points of above u in
    record {
      before = λ x. in-live_of of above above (If c v w t u) x ∙ ap (λ y. is_in x above && y) (in-append x (map of (v ∷ w ∷ [])) (uses_among (a ++ b)));
      after = λ x.
          in-append x (live_of of above t) (without (live_of of above u) (live_of of above t))
          ∙ ap (λ y. is_in x (live_of of above t) || y) (in-without x (live_of of above u) (live_of of above t))
          ∙ ap (λ y. y || (is_in x (live_of of above u) && not y)) (in-live_of of above above t x)
          ∙ ap (λ y. (is_in x above && is_in x (uses_among a)) || (y && not (is_in x above && is_in x (uses_among a)))) (in-live_of of above above u x)
          ∙ either-arm (is_in x above) (is_in x (uses_among a)) (is_in x (uses_among b))
          ∙ ap (λ y. is_in x above && y) (sym (ap (is_in x) (among-append a b) ∙ in-append x (uses_among a) (uses_among b)))
          ∙ ap (λ y. y && is_in x (uses_among (a ++ b))) (or-false (is_in x above));
    }

local-end : (of : Names) (above : List ℕ) (l : Last) → Local (point of (Ends l) above (last_uses l) 0 (live_of of above (End l)) []) []
local-end of above l = record {
  before = λ x. in-live_of of above above (End l) x ∙ ap (λ y. is_in x above && y) (in-append x (map of (last_uses l)) []);
  after = λ x. and-nothing (is_in x above || false);
}

local-tree : (of : Names) (above : List ℕ) (t : Tree) (post : List Point) → EachRest Local post → EachRest Local (tree_points of above t ++ post)
local-tree of above (Do s t) post h =
    let rest = tree_points (names_after of s) (above ++ step_values s) t in (
      subst (Local _) (sym (take-front rest post (nodes t) (sym (length-tree_points (names_after of s) (above ++ step_values s) t)))) (local-do of above s t),
      local-tree (names_after of s) (above ++ step_values s) t post h,
    )
local-tree of above (If c v w t u) post h =
    let a = tree_points of above t in
    let b = tree_points of above u in
    let many : nodes t + nodes u ≡ length (a ++ b) = let e = length-tree_points of above t in let f = length-tree_points of above u in let g = length-both a b in omega arith in (
      subst (Local _) (sym (take-front (a ++ b) post (nodes t + nodes u) many)) (local-if of above c v w t u),
      subst (EachRest Local) (sym (append_assoc a b post)) (local-tree of above t (b ++ post) (local-tree of above u post h)),
    )
local-tree of above (End l) post h = (subst (Local _) (sym (take-front [] post 0 refl)) (local-end of above l), h)

local-labels : (k : ℕ) (ls : List Label) → EachRest Local (points_from k ls)
local-labels k [] = tt
local-labels k (l ∷ ls) =
    let rest = tree_points own l.params l.body in
    let post = points_from (suc k) ls in (
      subst (Local _) (sym (take-front rest post (nodes l.body) (sym (length-tree_points own l.params l.body)))) (record { before = refl; after = λ x. in-live_of own l.params l.params l.body x }),
      local-tree own l.params l.body post (local-labels (suc k) ls),
    )

-- ---- uses at numbers that pass

-- a value is used at a point whose number passes
abbrev pub seen : (ℕ → Bool) → ℕ → ℕ → List Point → Bool
seen g x j [] = false
seen g x j (q ∷ qs) = (is_in x q.uses && g j) || seen g x (suc j) qs

pub and-either : (a b c : Bool) → ((a && c) || (b && c)) ≡ ((a || b) && c)
and-either true b true = refl
and-either true true false = refl
and-either true false false = refl
and-either false b c = refl

seen-at-point : (g : ℕ → Bool) (x j i : ℕ) (xs : List ℕ) (rs : List Role) → length rs ≡ length xs → list_any (λ u. nat_eq u.value x && g u.point) (uses_at j i xs rs) ≡ (is_in x xs && g j)
seen-at-point g x j i [] rs e = refl
seen-at-point g x j i (y ∷ xs) [] e = absurd (omega arith)
seen-at-point g x j i (y ∷ xs) (r ∷ rs) e =
    ap (λ b. (nat_eq y x && g j) || b) (seen-at-point g x j (suc i) xs rs (omega arith))
    ∙ ap (λ b. (b && g j) || (is_in x xs && g j)) (same-order y x)
    ∙ and-either (nat_eq x y) (is_in x xs) (g j)

seen-uses : (labels : List Label) (vs us : List ℕ) (g : ℕ → Bool) (x j : ℕ) (qs : List Point) → Each (Sound labels vs us) qs → list_any (λ u. nat_eq u.value x && g u.point) (uses_from j qs) ≡ seen g x j qs
seen-uses labels vs us g x j [] h = refl
seen-uses labels vs us g x j (q ∷ qs) h =
    list_any-append (λ u. nat_eq u.value x && g u.point) (uses_at j 0 q.uses (place_roles q.place)) (uses_from (suc j) qs)
    ∙ ap (λ b. b || list_any (λ u. nat_eq u.value x && g u.point) (uses_from (suc j) qs)) (seen-at-point g x j 0 q.uses (place_roles q.place) h.0.many)
    ∙ ap (λ b. (is_in x q.uses && g j) || b) (seen-uses labels vs us g x (suc j) qs h.1)

seen-none : (g : ℕ → Bool) (x j : ℕ) (qs : List Point) → ((i : ℕ) → j ≤ i → g i ≡ false) → seen g x j qs ≡ false
seen-none g x j [] h = refl
seen-none g x j (q ∷ qs) h = ap (λ b. (is_in x q.uses && b) || seen g x (suc j) qs) (h j (omega arith)) ∙ ap (λ b. b || seen g x (suc j) qs) (sym (and-nothing (is_in x q.uses))) ∙ seen-none g x (suc j) qs (λ i l. h i (omega arith))

seen-first : (g : ℕ → Bool) (x m j : ℕ) (qs : List Point) → ((i : ℕ) → j ≤ i → i < j + m → g i ≡ true) → ((i : ℕ) → j + m ≤ i → g i ≡ false) → seen g x j qs ≡ is_in x (uses_among (take m qs))
seen-first g x zero j [] h n = refl
seen-first g x zero j (q ∷ qs) h n = seen-none g x j (q ∷ qs) (λ i l. n i (omega arith))
seen-first g x (suc m) j [] h n = refl
seen-first g x (suc m) j (q ∷ qs) h n =
    ap (λ b. (is_in x q.uses && b) || seen g x (suc j) qs) (h j (omega arith) (omega arith))
    ∙ ap (λ b. b || seen g x (suc j) qs) (and-true (is_in x q.uses))
    ∙ ap (λ b. is_in x q.uses || b) (seen-first g x m (suc j) qs (λ i l r. h i (omega arith) (omega arith)) (λ i l. n i (omega arith)))
    ∙ sym (in-append x q.uses (uses_among (take m qs)))

seen-from : (g : ℕ → Bool) (x i j k : ℕ) (qs : List Point) (q : Point) → slice_get qs i ≡ Some q → j + i ≡ k → ((l : ℕ) → l < k → g l ≡ false) → seen g x j qs ≡ ((is_in x q.uses && g k) || seen g x (suc k) (drop (suc i) qs))
seen-from g x i j k [] q e a h = absurd (cc)
seen-from g x zero j k (p ∷ qs) q e a h =
    let same : p ≡ q = cc in
    let here : j ≡ k = omega arith in
    ap (λ n. (is_in x p.uses && g n) || seen g x (suc n) qs) here ∙ ap (λ (w : Point). (is_in x w.uses && g k) || seen g x (suc k) qs) same
seen-from g x (suc i) j k (p ∷ qs) q e a h =
    ap (λ b. (is_in x p.uses && b) || seen g x (suc j) qs) (h j (omega arith))
    ∙ ap (λ b. b || seen g x (suc j) qs) (sym (and-nothing (is_in x p.uses)))
    ∙ seen-from g x i (suc j) k qs q e (omega arith) h

-- numbers at a point, or below it
abbrev pub reach : ℕ → ℕ → Bool → ℕ → Bool
reach k b here j = (here && nat_eq j k) || (nat_lt k j && nat_le j (k + b))

reach-before : (k b : ℕ) (here : Bool) (j : ℕ) → j < k → reach k b here j ≡ false
reach-before k b here j l =
    ap (λ e. (here && e) || (nat_lt k j && nat_le j (k + b))) (ne_eqb j k (λ e. omega arith))
    ∙ ap (λ e. (here && false) || (e && nat_le j (k + b))) (le-ltb k j (omega arith))
    ∙ sym (or-false (here && false)) ∙ sym (and-nothing here)

reach-here : (k b : ℕ) (here : Bool) → reach k b here k ≡ here
reach-here k b here =
    ap (λ e. (here && e) || (nat_lt k k && nat_le k (k + b))) (eq-eqb k k refl)
    ∙ ap (λ e. (here && true) || (e && nat_le k (k + b))) (le-ltb k k (omega arith))
    ∙ sym (or-false (here && true)) ∙ and-true here

reach-below : (k b : ℕ) (here : Bool) (j : ℕ) → k < j → j ≤ k + b → reach k b here j ≡ true
reach-below k b here j l r = or_right (here && nat_eq j k) (nat_lt k j && nat_le j (k + b)) (and_from (nat_lt k j) (nat_le j (k + b)) (lt-ltb k j l) (le-leb j (k + b) r))

reach-past : (k b : ℕ) (here : Bool) (j : ℕ) → k + b < j → reach k b here j ≡ false
reach-past k b here j l =
    ap (λ e. (here && e) || (nat_lt k j && nat_le j (k + b))) (ne_eqb j k (λ e. omega arith))
    ∙ ap (λ e. (here && false) || (nat_lt k j && e)) (lt-leb j (k + b) l)
    ∙ ap (λ e. (here && false) || e) (sym (and-nothing (nat_lt k j)))
    ∙ sym (or-false (here && false)) ∙ sym (and-nothing here)

pub used-below : (labels : List Label) (k : ℕ) (here : Bool) (x : ℕ) (q : Point) → single labels ≡ true → slice_get (points labels) k ≡ Some q
    → list_any (is_of_below labels k here x) (uses labels) ≡ ((is_in x q.uses && here) || is_in x (uses_among (take q.below (drop (suc k) (points labels)))))
used-below labels k here x q h e =
    let b = q.below in
    let g = reach k b here in
    ap (λ (w : Point). list_any (λ u. nat_eq u.value x && reach k w.below here u.point) (uses labels)) (point-there labels k q e)
    ∙ seen-uses labels _ _ g x 0 (points labels) (sound-points labels h)
    ∙ seen-from g x k 0 k (points labels) q e (let z : 0 + k ≡ k = omega arith in z) (λ l s. reach-before k b here l s)
    ∙ ap (λ c. (is_in x q.uses && c) || seen g x (suc k) (drop (suc k) (points labels))) (reach-here k b here)
    ∙ ap (λ c. (is_in x q.uses && here) || c) (seen-first g x b (suc k) (drop (suc k) (points labels)) (λ i l r. reach-below k b here i (omega arith) (omega arith)) (λ i l. reach-past k b here i (omega arith)))

-- ---- tests of numbers below a bound

pub record Below (f : ℕ → Bool) (n : ℕ) : Type 0 where
  pub it : ℕ
  pub below : it < n
  pub passes : f it ≡ true

pub below-at : (f : ℕ → Bool) (n : ℕ) → any_below f n ≡ true → Below f n
below-at f zero e = absurd (false≢true e)
below-at f (suc n) e = ⊎_elim (λ (a : any_below f n ≡ true). let w = below-at f n a in let l = w.below in record { it = w.it; below = omega arith; passes = w.passes }) (λ (b : f n ≡ true). record { it = n; below = omega arith; passes = b }) (or_cases (any_below f n) (f n) e)

pub below-from : (f : ℕ → Bool) (n i : ℕ) → i < n → f i ≡ true → any_below f n ≡ true
below-from f zero i l e = absurd (omega arith)
below-from f (suc n) i l e = ⊎_elim
    (λ (a : i < n). or_left (any_below f n) (f n) (below-from f n i a e))
    (λ (b : n ≤ i). let same : i ≡ n = omega arith in or_right (any_below f n) (f n) (ap f (sym same) ∙ e))
    (cases_lt i n)

-- ---- what is held

pub above-is : (labels : List Label) (k : ℕ) (q : Point) (x : ℕ) → slice_get (points labels) k ≡ Some q → is_above labels k x ≡ is_in x q.above
above-is labels k q x e = ap (λ (w : Point). is_in x w.above) (point-there labels k q e)

pub known-is : (labels : List Label) (k : ℕ) (q : Point) (x : ℕ) → slice_get (points labels) k ≡ Some q → is_known labels k x ≡ (is_in x q.above || is_in x (place_values q.place))
known-is labels k q x e = ap (λ b. b || is_in x (place_values (place_at labels k))) (above-is labels k q x e) ∙ ap (λ (w : Point). is_in x q.above || is_in x (place_values w.place)) (point-there labels k q e)

before-place : (labels : List Label) (p : Plan) (k : ℕ) (q : Point) (x : ℕ) (place : PointKind) → single labels ≡ true → found labels p ≡ uses labels → slice_get (points labels) k ≡ Some q → q.place ≡ place
    → HeldAt place q (take q.below (drop (suc k) (points labels))) → is_before_node labels p k x (place_node place) ≡ is_in x q.before
before-place labels p k q x (Entry l ps) h f e g o = ap (λ (w : Point). is_in x (place_values w.place)) (point-there labels k q e) ∙ ap (λ w. is_in x (place_values w)) g ∙ ap (is_in x) (sym o)
before-place labels p k q x (At n) h f e g o =
    let rest = uses_among (take q.below (drop (suc k) (points labels))) in
    ap (λ b. b && list_any (is_of_below labels k true x) (found labels p)) (above-is labels k q x e)
    ∙ ap (λ us. is_in x q.above && list_any (is_of_below labels k true x) us) f
    ∙ ap (λ b. is_in x q.above && b) (used-below labels k true x q h e ∙ ap (λ b. b || is_in x rest) (and-true (is_in x q.uses)))
    ∙ sym (o x)

pub before-is : (labels : List Label) (p : Plan) (k : ℕ) (q : Point) (x : ℕ) → single labels ≡ true → found labels p ≡ uses labels → slice_get (points labels) k ≡ Some q → is_before labels p k x ≡ is_in x q.before
before-is labels p k q x h f e =
    ap (λ (w : Point). is_before_node labels p k x (place_node w.place)) (point-there labels k q e)
    ∙ before-place labels p k q x q.place h f e refl (rest-at Local (points labels) k q (local-labels 0 labels) e).before

pub after-is : (labels : List Label) (p : Plan) (k : ℕ) (q : Point) (x : ℕ) → single labels ≡ true → found labels p ≡ uses labels → slice_get (points labels) k ≡ Some q → is_after labels p k x ≡ is_in x q.after
after-is labels p k q x h f e =
    let rest = uses_among (take q.below (drop (suc k) (points labels))) in
    ap (λ b. b && list_any (is_of_below labels k false x) (found labels p)) (known-is labels k q x e)
    ∙ ap (λ us. (is_in x q.above || is_in x (place_values q.place)) && list_any (is_of_below labels k false x) us) f
    ∙ ap (λ b. (is_in x q.above || is_in x (place_values q.place)) && b) (used-below labels k false x q h e ∙ ap (λ b. b || is_in x rest) (sym (and-nothing (is_in x q.uses))))
    ∙ sym ((rest-at Local (points labels) k q (local-labels 0 labels) e).after x)
