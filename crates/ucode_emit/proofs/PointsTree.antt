-- What a tree's points define and use, and which of them lie below which.
use Rattle.std.proofs.Common.{◌≡◌, ℕ, suc, ◌+◌, ◌<◌, ◌≤◌, ◌⊎◌, nat_eq, true, false, not, List, [], ◌∷◌, ◌++◌, map, length, refl, sym, ap, ◌∙◌, subst, inl, inr, ⊎_elim, arith}
use Rattle.std.proofs.lemmas.Bool.{and_parts, and_from, or_cases, not-true, not_from_false, false≢true, false_from_ne_true}
use Rattle.nv_base.specs.declared.term.Cmp.{Cmp}
use Rattle.nv_base.specs.Sets.{is_in, all_different, Within}
use Rattle.nv_base.proofs.Sets.{same-number, within-left, within-right}
use Rattle.ssu_ir.specs.Tree.{Step, Tree, Do, If, End, Does, Forks, step_values, step_clones, step_uses}
use Rattle.ssu_ir.specs.Points.{Names, names_after, used, live_of, union, Point, place_values, nodes, point, tree_points}
use Rattle.ssu_ir.specs.Single.{defined}
use Rattle.ssu_ir.proofs.PointLemmas.{length-tree_points}
use Rattle.ssu_ir.proofs.Liveness.{filter_in}
use Rattle.ucode_emit.proofs.PointsEach.{EachFrom, each_map, each_both, each_append, each_left, each_right}
use Rattle.ssu_liveness.proofs.Scoped.{in-either}

-- ---- sets

-- nothing is in both
abbrev pub Disjoint : List ℕ → List ℕ → Type 0
Disjoint a b = (x : ℕ) → is_in x a ≡ true → is_in x b ≡ true → ⊥

pub not_in_none : (x : ℕ) → is_in x [] ≡ true → ⊥
not_in_none x e = false≢true e

pub in_one : (x y : ℕ) → is_in x (y ∷ []) ≡ true → x ≡ y
in_one x y e = ⊎_elim (λ (h : nat_eq x y ≡ true). same-number x y h) (λ (h : false ≡ true). absurd (false≢true h)) (or_cases (nat_eq x y) false e)

pub different_apart : (a b : List ℕ) → all_different (a ++ b) ≡ true → Disjoint a b
different_apart [] b d x h g = false≢true h
different_apart (y ∷ a) b d x h g =
    let p = and_parts (not (is_in y (a ++ b))) (all_different (a ++ b)) d in
    ⊎_elim
    (λ (e : nat_eq x y ≡ true). false≢true (sym (not-true (is_in y (a ++ b)) p.0) ∙ within-right a b y (subst (λ z. is_in z b ≡ true) (same-number x y e) g)))
    (λ (e : is_in x a ≡ true). different_apart a b p.1 x e g)
    (or_cases (nat_eq x y) (is_in x a) h)

pub left_rest : (y : ℕ) (a b : List ℕ) → is_in y (a ++ b) ≡ false → is_in y a ≡ false
left_rest y a b e = false_from_ne_true (is_in y a) (λ h. false≢true (sym e ∙ within-left a b y h))

pub different_left : (a b : List ℕ) → all_different (a ++ b) ≡ true → all_different a ≡ true
different_left [] b d = refl
different_left (y ∷ a) b d =
    let p = and_parts (not (is_in y (a ++ b))) (all_different (a ++ b)) d in
    and_from (not (is_in y a)) (all_different a) (not_from_false (is_in y a) (left_rest y a b (not-true (is_in y (a ++ b)) p.0))) (different_left a b p.1)

pub different_right : (a b : List ℕ) → all_different (a ++ b) ≡ true → all_different b ≡ true
different_right [] b d = d
different_right (y ∷ a) b d = different_right a b ((and_parts (not (is_in y (a ++ b))) (all_different (a ++ b)) d).1)

-- ---- what stands in a tree

pub record InTree (of : Names) (above : List ℕ) (t : Tree) (n : ℕ) (j : ℕ) (r : Point) : Type 0 where
  pub from : n ≤ j
  pub to : j < n + nodes t
  pub above_it : (x : ℕ) → is_in x r.above ≡ true → (is_in x above ≡ true) ⊎ (is_in x (defined t) ≡ true)
  pub values : (x : ℕ) → is_in x (place_values r.place) ≡ true → is_in x (defined t) ≡ true
  pub uses : (x : ℕ) → is_in x r.uses ≡ true → is_in x (used of t) ≡ true

rest-above : (s : Step) (above : List ℕ) (t : Tree) (x : ℕ) → (is_in x (above ++ step_values s) ≡ true) ⊎ (is_in x (defined t) ≡ true) → (is_in x above ≡ true) ⊎ (is_in x (defined (Do s t)) ≡ true)
rest-above s above t x h =
    ⊎_elim
    (λ (e : is_in x (above ++ step_values s) ≡ true).
    ⊎_elim (λ (k : is_in x above ≡ true). inl k) (λ (k : is_in x (step_values s) ≡ true). inr (within-left (step_values s) (step_clones s ++ defined t) x k)) (in-either x above (step_values s) e))
    (λ (e : is_in x (defined t) ≡ true). inr (within-right (step_values s) (step_clones s ++ defined t) x (within-right (step_clones s) (defined t) x e)))
    h

in_rest : (of : Names) (above : List ℕ) (s : Step) (t : Tree) (n j : ℕ) (r : Point) → InTree (names_after of s) (above ++ step_values s) t (suc n) j r → InTree of above (Do s t) n j r
in_rest of above s t n j r h = record {
  from = omega (arith, h.from);
  to = omega (arith, h.to);
  above_it = λ x e. rest-above s above t x (h.above_it x e);
  values = λ x e. within-right (step_values s) (step_clones s ++ defined t) x (within-right (step_clones s) (defined t) x (h.values x e));
  uses = λ x e. within-right (map of (step_uses s)) (used (names_after of s) t) x (h.uses x e);
}

in_first : (of : Names) (above : List ℕ) (c : Cmp) (y z : ℕ) (t u : Tree) (n j : ℕ) (r : Point) → InTree of above t (suc n) j r → InTree of above (If c y z t u) n j r
in_first of above c y z t u n j r h = record {
  from = omega (arith, h.from);
  to = omega (arith, h.to);
  above_it = λ x e. ⊎_elim (λ (k : is_in x above ≡ true). inl k) (λ (k : is_in x (defined t) ≡ true). inr (within-left (defined t) (defined u) x k)) (h.above_it x e);
  values = λ x e. within-left (defined t) (defined u) x (h.values x e);
  uses = λ x e. within-right (of y ∷ of z ∷ []) (used of t ++ used of u) x (within-left (used of t) (used of u) x (h.uses x e));
}

in_second : (of : Names) (above : List ℕ) (c : Cmp) (y z : ℕ) (t u : Tree) (n j : ℕ) (r : Point) → InTree of above u (suc n + nodes t) j r → InTree of above (If c y z t u) n j r
in_second of above c y z t u n j r h = record {
  from = omega (arith, h.from);
  to = omega (arith, h.to);
  above_it = λ x e. ⊎_elim (λ (k : is_in x above ≡ true). inl k) (λ (k : is_in x (defined u) ≡ true). inr (within-right (defined t) (defined u) x k)) (h.above_it x e);
  values = λ x e. within-right (defined t) (defined u) x (h.values x e);
  uses = λ x e. within-right (of y ∷ of z ∷ []) (used of t ++ used of u) x (within-right (used of t) (used of u) x (h.uses x e));
}

pub arms_at : (of : Names) (above : List ℕ) (t : Tree) (n : ℕ) → n + nodes t ≡ n + length (tree_points of above t)
arms_at of above t n = ap (λ k. n + k) (sym (length-tree_points of above t))

pub in_tree : (of : Names) (above : List ℕ) (t : Tree) (n : ℕ) → EachFrom (InTree of above t n) n (tree_points of above t)
in_tree of above (Do s t) n = (
  record {
    from = omega arith;
    to = omega arith;
    above_it = λ x e. inl e;
    values = λ x e. within-left (step_values s) (step_clones s ++ defined t) x e;
    uses = λ x e. within-left (map of (step_uses s)) (used (names_after of s) t) x e;
  },
  each_map (InTree (names_after of s) (above ++ step_values s) t (suc n)) (InTree of above (Do s t) n) (suc n) (tree_points (names_after of s) (above ++ step_values s) t)
      (in_rest of above s t n) (in_tree (names_after of s) (above ++ step_values s) t (suc n)),
)
in_tree of above (If c y z t u) n = (
  record {
    from = omega arith;
    to = omega arith;
    above_it = λ x e. inl e;
    values = λ x e. absurd (false≢true e);
    uses = λ x e. within-left (of y ∷ of z ∷ []) (used of t ++ used of u) x e;
  },
  each_append (InTree of above (If c y z t u) n) (suc n) (suc n + nodes t) (tree_points of above t) (tree_points of above u) (arms_at of above t (suc n))
      (each_map (InTree of above t (suc n)) (InTree of above (If c y z t u) n) (suc n) (tree_points of above t) (in_first of above c y z t u n) (in_tree of above t (suc n)))
      (each_map (InTree of above u (suc n + nodes t)) (InTree of above (If c y z t u) n) (suc n + nodes t) (tree_points of above u) (in_second of above c y z t u n) (in_tree of above u (suc n + nodes t))),
)
in_tree of above (End l) n = (
  record {
    from = omega arith;
    to = omega arith;
    above_it = λ x e. inl e;
    values = λ x e. absurd (false≢true e);
    uses = λ x e. e;
  },
  tt,
)

-- ---- what holds of each value above a point

above_first : (P : ℕ → Type 0) (above vs : List ℕ) → ((x : ℕ) → is_in x above ≡ true → P x) → ((x : ℕ) → is_in x vs ≡ true → P x) → (x : ℕ) → is_in x (above ++ vs) ≡ true → P x
above_first P above vs h g x e = ⊎_elim (λ (k : is_in x above ≡ true). h x k) (λ (k : is_in x vs ≡ true). g x k) (in-either x above vs e)

pub above_each : (P : ℕ → Type 0) (of : Names) (above : List ℕ) (t : Tree) (n : ℕ) → ((x : ℕ) → is_in x above ≡ true → P x)
    → EachFrom (λ j r. (x : ℕ) → is_in x (place_values r.place) ≡ true → P x) n (tree_points of above t)
    → EachFrom (λ j r. (x : ℕ) → is_in x r.above ≡ true → P x) n (tree_points of above t)
above_each P of above (Do s t) n h g = (h, above_each P (names_after of s) (above ++ step_values s) t (suc n) (above_first P above (step_values s) h g.0) g.1)
above_each P of above (If c y z t u) n h g =
    let Q = λ (j : ℕ) (r : Point). (x : ℕ) → is_in x (place_values r.place) ≡ true → P x in
    let R = λ (j : ℕ) (r : Point). (x : ℕ) → is_in x r.above ≡ true → P x in (
      h,
      each_append R (suc n) (suc n + nodes t) (tree_points of above t) (tree_points of above u) (arms_at of above t (suc n))
          (above_each P of above t (suc n) h (each_left Q (suc n) (tree_points of above t) (tree_points of above u) g.1))
          (above_each P of above u (suc n + nodes t) h (each_right Q (suc n) (suc n + nodes t) (tree_points of above t) (tree_points of above u) (arms_at of above t (suc n)) g.1)),
    )
above_each P of above (End l) n h g = (h, tt)

-- ---- a use of a value lies below its definition

pub record IsBelow (i j : ℕ) (q r : Point) (x : ℕ) : Type 0 where
  pub under : i < j
  pub within : j ≤ i + q.below
  pub after : is_in x r.uses ≡ true → is_in x q.after ≡ true

-- what the first defines and the second has above it, lies there
abbrev pub Above : ℕ → Point → ℕ → Point → Type 0
Above i q j r = (x : ℕ) → is_in x (place_values q.place) ≡ true → is_in x r.above ≡ true → IsBelow i j q r x

-- each of these with each of those
abbrev pub Pairs : ℕ → List Point → ℕ → List Point → Type 0
Pairs n a m b = EachFrom (λ i q. EachFrom (Above i q) m b) n a

abbrev pub PairsOf : ℕ → List Point → Type 0
PairsOf n a = Pairs n a n a

-- a head before a list
pub pairs_cons : (n : ℕ) (q : Point) (a : List Point) → Above n q n q → EachFrom (Above n q) (suc n) a → EachFrom (λ i r. Above i r n q) (suc n) a → PairsOf (suc n) a → PairsOf n (q ∷ a)
pairs_cons n q a h g f p = ((h, g), each_both (λ i r. Above i r n q) (λ i r. EachFrom (Above i r) (suc n) a) (suc n) a f p)

both_sides : (n m : ℕ) (a b : List Point) (i : ℕ) (q : Point) → m ≡ n + length a → EachFrom (Above i q) n a × EachFrom (Above i q) m b → EachFrom (Above i q) n (a ++ b)
both_sides n m a b i q e h = each_append (Above i q) n m a b e h.0 h.1

-- two lists, one after the other
pub pairs_append : (n m : ℕ) (a b : List Point) → m ≡ n + length a → PairsOf n a → Pairs n a m b → Pairs m b n a → PairsOf m b → PairsOf n (a ++ b)
pairs_append n m a b e aa ab ba bb =
    let F = λ (i : ℕ) (q : Point). EachFrom (Above i q) n a in
    let G = λ (i : ℕ) (q : Point). EachFrom (Above i q) m b in
    let H = λ (i : ℕ) (q : Point). EachFrom (Above i q) n (a ++ b) in
    each_append H n m a b e
    (each_map (λ i q. F i q × G i q) H n a (λ i q h. both_sides n m a b i q e h) (each_both F G n a aa ab))
    (each_map (λ i q. F i q × G i q) H m b (λ i q h. both_sides n m a b i q e h) (each_both F G m b ba bb))

-- points of apart sets: nothing that these define is above those
pub no_pairs : (n m : ℕ) (a b : List Point) (vs us : List ℕ) → Disjoint vs us → EachFrom (λ i q. Within (place_values q.place) vs) n a → EachFrom (λ j r. Within r.above us) m b → Pairs n a m b
no_pairs n m a b vs us d h g =
    each_map (λ i q. Within (place_values q.place) vs) (λ i q. EachFrom (Above i q) m b) n a
    (λ i q k. each_map (λ j r. Within r.above us) (Above i q) m b (λ j r l x e f. absurd (d x (k x e) (l x f))) g)
    h

values_within : (of : Names) (above : List ℕ) (t : Tree) (n : ℕ) → EachFrom (λ i q. Within (place_values q.place) (defined t)) n (tree_points of above t)
values_within of above t n =
    each_map (InTree of above t n) (λ i q. Within (place_values q.place) (defined t)) n (tree_points of above t) (λ i q h. h.values) (in_tree of above t n)

above_within : (of : Names) (above : List ℕ) (t : Tree) (n : ℕ) → EachFrom (λ i q. Within q.above (above ++ defined t)) n (tree_points of above t)
above_within of above t n =
    each_map (InTree of above t n) (λ i q. Within q.above (above ++ defined t)) n (tree_points of above t)
    (λ i q h x e. ⊎_elim (λ (k : is_in x above ≡ true). within-left above (defined t) x k) (λ (k : is_in x (defined t) ≡ true). within-right above (defined t) x k) (h.above_it x e))
    (in_tree of above t n)

-- the values after a step, none of which its rest defines
rest_apart : (above : List ℕ) (s : Step) (t : Tree) → Disjoint above (defined (Do s t)) → all_different (defined (Do s t)) ≡ true → Disjoint (above ++ step_values s) (defined t)
rest_apart above s t d a x h g =
    ⊎_elim
    (λ (k : is_in x above ≡ true). d x k (within-right (step_values s) (step_clones s ++ defined t) x (within-right (step_clones s) (defined t) x g)))
    (λ (k : is_in x (step_values s) ≡ true). different_apart (step_values s) (step_clones s ++ defined t) a x k (within-right (step_clones s) (defined t) x g))
    (in-either x above (step_values s) h)

pub rest_different : (s : Step) (t : Tree) → all_different (defined (Do s t)) ≡ true → all_different (defined t) ≡ true
rest_different s t a = different_right (step_clones s) (defined t) (different_right (step_values s) (step_clones s ++ defined t) a)

-- values of a step, above points of its rest
step_pairs : (of : Names) (above : List ℕ) (s : Step) (t : Tree) (n j : ℕ) (r : Point) → InTree (names_after of s) (above ++ step_values s) t (suc n) j r
    → Above n (point of (Does s) above (step_uses s) (nodes t) (live_of of above (Do s t)) (live_of (names_after of s) (above ++ step_values s) t)) j r
step_pairs of above s t n j r h x e f = record {
  under = omega (arith, h.from);
  within = omega (arith, h.to);
  after = λ u. filter_in (λ z. is_in z (used (names_after of s) t)) (above ++ step_values s) x (within-right above (step_values s) x e) (h.uses x u);
}

pub tree_pairs : (of : Names) (above : List ℕ) (t : Tree) (n : ℕ) → Disjoint above (defined t) → all_different (defined t) ≡ true → PairsOf n (tree_points of above t)
tree_pairs of above (Do s t) n d a =
    let of' = names_after of s in
    let above' = above ++ step_values s in
    let q = point of (Does s) above (step_uses s) (nodes t) (live_of of above (Do s t)) (live_of of' above' t) in
    pairs_cons n q (tree_points of' above' t)
    (λ x e f. absurd (d x f (within-left (step_values s) (step_clones s ++ defined t) x e)))
    (each_map (InTree of' above' t (suc n)) (Above n q) (suc n) (tree_points of' above' t) (step_pairs of above s t n) (in_tree of' above' t (suc n)))
    (each_map (InTree of' above' t (suc n)) (λ i r. Above i r n q) (suc n) (tree_points of' above' t)
    (λ i r h x e f. absurd (d x f (within-right (step_values s) (step_clones s ++ defined t) x (within-right (step_clones s) (defined t) x (h.values x e)))))
    (in_tree of' above' t (suc n)))
    (tree_pairs of' above' t (suc n) (rest_apart above s t d a) (rest_different s t a))
tree_pairs of above (If c y z t u) n d a =
    let q = point of (Forks c y z) above (y ∷ z ∷ []) (nodes t + nodes u) (live_of of above (If c y z t u)) (union (live_of of above t) (live_of of above u)) in
    let ts = tree_points of above t in
    let us = tree_points of above u in
    let tu = different_apart (defined t) (defined u) a in
    let dt : Disjoint above (defined t) = λ x h g. d x h (within-left (defined t) (defined u) x g) in
    let du : Disjoint above (defined u) = λ x h g. d x h (within-right (defined t) (defined u) x g) in
    pairs_cons n q (ts ++ us)
    (λ x e f. absurd (false≢true e))
    (each_append (Above n q) (suc n) (suc n + nodes t) ts us (arms_at of above t (suc n))
    (each_map (InTree of above t (suc n)) (Above n q) (suc n) ts (λ j r h x e f. absurd (false≢true e)) (in_tree of above t (suc n)))
    (each_map (InTree of above u (suc n + nodes t)) (Above n q) (suc n + nodes t) us (λ j r h x e f. absurd (false≢true e)) (in_tree of above u (suc n + nodes t))))
    (each_append (λ i r. Above i r n q) (suc n) (suc n + nodes t) ts us (arms_at of above t (suc n))
    (each_map (InTree of above t (suc n)) (λ i r. Above i r n q) (suc n) ts (λ i r h x e f. absurd (dt x f (h.values x e))) (in_tree of above t (suc n)))
    (each_map (InTree of above u (suc n + nodes t)) (λ i r. Above i r n q) (suc n + nodes t) us (λ i r h x e f. absurd (du x f (h.values x e))) (in_tree of above u (suc n + nodes t))))
    (pairs_append (suc n) (suc n + nodes t) ts us (arms_at of above t (suc n))
    (tree_pairs of above t (suc n) dt (different_left (defined t) (defined u) a))
    (no_pairs (suc n) (suc n + nodes t) ts us (defined t) (above ++ defined u)
    (λ x h g. ⊎_elim (λ (k : is_in x above ≡ true). dt x k h) (λ (k : is_in x (defined u) ≡ true). tu x h k) (in-either x above (defined u) g))
    (values_within of above t (suc n)) (above_within of above u (suc n + nodes t)))
    (no_pairs (suc n + nodes t) (suc n) us ts (defined u) (above ++ defined t)
    (λ x h g. ⊎_elim (λ (k : is_in x above ≡ true). du x k h) (λ (k : is_in x (defined t) ≡ true). tu x k h) (in-either x above (defined t) g))
    (values_within of above u (suc n + nodes t)) (above_within of above t (suc n)))
    (tree_pairs of above u (suc n + nodes t) du (different_right (defined t) (defined u) a)))
tree_pairs of above (End l) n d a =
    ((λ x e f. absurd (false≢true e), tt), tt)
