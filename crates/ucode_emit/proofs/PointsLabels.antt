-- What the points of a form in single use define and use, and which of them lie below which.
use Rattle.std.proofs.Common.{◌≡◌, ℕ, zero, suc, ◌+◌, nat_eq, Bool, true, false, ◌&&◌, List, [], ◌∷◌, ◌++◌, map, if◌then◌else◌, refl, sym, ap, ◌∙◌, subst, ⊎_elim, arith, Some, slice_get}
use Rattle.std.specs.Prelude.{⊤}
use Rattle.std.specs.List.{list_all}
use Rattle.std.proofs.lemmas.Bool.{and_parts, or_cases, or_right, or_parts, false≢true, false_from_ne_true}
use Rattle.std.proofs.lemmas.List.{map-append}
use Rattle.std.proofs.lemmas.Option.{none-some, same_Some}
use Rattle.nv_base.specs.Sets.{is_in, all_different, Within}
use Rattle.nv_base.proofs.Sets.{same-number, in-append, within-left, within-right}
use Rattle.ssu_ir.specs.Tree.{Step, Lit, Una, Bin, Clone, Read, Write, Tree, Do, If, End, Label, Node, Does, Forks, Ends, step_values, step_clones, step_uses, last_uses}
use Rattle.ssu_ir.specs.Points.{Names, own, names_after, used, live_of, PointKind, Entry, At, Point, place_values, nodes, tree_points, points_from, points}
use Rattle.ssu_ir.specs.Single.{defined, all_defined, step_names, all_known, is_scoped, is_step, is_last, are_nodes, step_results, uses_once, clones_early, results_used, are_addressed, unknown, is_entry, is_single, single}
use Rattle.ssu_ir.proofs.PointLemmas.{length-tree_points}
use Rattle.ssu_ir.proofs.Lists.{image_from, all_at, in-itself}
use Rattle.ssu_ir.proofs.Liveness.{filter_in}
use Rattle.ucode_emit.specs.Pieces.{entry_point}
use Rattle.ucode_emit.proofs.PointsEach.{EachFrom, each_map, each_append, each_left, each_right, each_here, get_append}
use Rattle.ucode_emit.proofs.PointsTree.{Disjoint, not_in_none, different_apart, different_left, different_right, InTree, in_tree, arms_at, above_each, IsBelow, Above, PairsOf, pairs_cons, pairs_append, no_pairs, tree_pairs, left_rest, rest_different}
use Rattle.ssu_liveness.proofs.Scoped.{all-in, in-either}

-- ---- lists of names

pub map_within : (of : ℕ → ℕ) (xs above : List ℕ) → ((z : ℕ) → is_in z xs ≡ true → is_in (of z) above ≡ true) → Within (map of xs) above
map_within of [] above h x e = absurd (false≢true e)
map_within of (y ∷ ys) above h x e =
    ⊎_elim
    (λ (k : nat_eq x (of y) ≡ true). subst (λ w. is_in w above ≡ true) (sym (same-number x (of y) k)) (h y (in-itself y ys)))
    (λ (k : is_in x (map of ys) ≡ true). map_within of ys above (λ z g. h z (or_right (nat_eq z y) (is_in z ys) g)) x k)
    (or_cases (nat_eq x (of y)) (is_in x (map of ys)) e)

pub not_in_right : (x : ℕ) (a b : List ℕ) → is_in x (a ++ b) ≡ false → is_in x b ≡ false
not_in_right x a b e = (or_parts (is_in x a) (is_in x b) (sym (in-append x a b) ∙ e)).1

-- ---- names stand for values above

pub record Scope (of : Names) (known above : List ℕ) (t : Tree) : Type 0 where
  pub scoped : is_scoped known t ≡ true
  pub named : (z : ℕ) → is_in z known ≡ true → is_in (of z) above ≡ true
  pub own_name : (z : ℕ) → is_in z known ≡ false → of z ≡ z
  pub apart : Disjoint known (defined t)
  pub different : all_different (defined t) ≡ true

names_within : (s : Step) → Within (step_uses s) (step_names s)
names_within (Lit x v) z e = e
names_within (Una x op y) z e = e
names_within (Bin x op y w) z e = e
names_within (Clone xs y) z e = absurd (false≢true e)
names_within (Read m xs y) z e = e
names_within (Write m y xs) z e = e

uses_above : (of : Names) (known above xs : List ℕ) → all_known known xs ≡ true → ((z : ℕ) → is_in z known ≡ true → is_in (of z) above ≡ true) → Within (map of xs) above
uses_above of known above xs a h = map_within of xs above (λ z e. h z (all-in known xs z a e))

rest_known : (known : List ℕ) (s : Step) (t : Tree) → Disjoint known (defined (Do s t)) → all_different (defined (Do s t)) ≡ true → Disjoint (known ++ (step_values s ++ step_clones s)) (defined t)
rest_known known s t d a x h g =
    let later : is_in x (step_clones s ++ defined t) ≡ true = within-right (step_clones s) (defined t) x g in
    ⊎_elim
    (λ (k : is_in x known ≡ true). d x k (within-right (step_values s) (step_clones s ++ defined t) x later))
    (λ (k : is_in x (step_values s ++ step_clones s) ≡ true).
    ⊎_elim
    (λ (l : is_in x (step_values s) ≡ true). different_apart (step_values s) (step_clones s ++ defined t) a x l later)
    (λ (l : is_in x (step_clones s) ≡ true). different_apart (step_clones s) (defined t) (different_right (step_values s) (step_clones s ++ defined t) a) x l g)
    (in-either x (step_values s) (step_clones s) k))
    (in-either x known (step_values s ++ step_clones s) h)

-- after a step that makes no clones
plain_named : (of : Names) (known above vs rest : List ℕ) → Disjoint known (vs ++ rest) → ((z : ℕ) → is_in z known ≡ true → is_in (of z) above ≡ true) → ((z : ℕ) → is_in z known ≡ false → of z ≡ z)
    → (z : ℕ) → is_in z (known ++ (vs ++ [])) ≡ true → is_in (of z) (above ++ vs) ≡ true
plain_named of known above vs rest d h o z e =
    ⊎_elim
    (λ (k : is_in z known ≡ true). within-left above vs (of z) (h z k))
    (λ (k : is_in z (vs ++ []) ≡ true).
    ⊎_elim
    (λ (l : is_in z vs ≡ true).
    let itself : of z ≡ z = o z (false_from_ne_true (is_in z known) (λ i. d z i (within-left vs rest z l))) in
    subst (λ w. is_in w (above ++ vs) ≡ true) (sym itself) (within-right above vs z l))
    (λ (l : is_in z [] ≡ true). absurd (not_in_none z l))
    (in-either z vs [] k))
    (in-either z known (vs ++ []) e)

plain_own : (of : Names) (known vs : List ℕ) → ((z : ℕ) → is_in z known ≡ false → of z ≡ z) → (z : ℕ) → is_in z (known ++ vs) ≡ false → of z ≡ z
plain_own of known vs o z e = o z (left_rest z known vs e)

-- behind clones
clone_named : (b : Bool) (of : Names) (known above xs : List ℕ) (y z : ℕ) → is_in z xs ≡ b → is_in (of y) above ≡ true → ((z : ℕ) → is_in z known ≡ true → is_in (of z) above ≡ true)
    → is_in z (known ++ xs) ≡ true → is_in (if b then of y else of z) (above ++ []) ≡ true
clone_named true of known above xs y z b hy h e = within-left above [] (of y) hy
clone_named false of known above xs y z b hy h e =
    ⊎_elim (λ (k : is_in z known ≡ true). within-left above [] (of z) (h z k)) (λ (k : is_in z xs ≡ true). absurd (false≢true (sym b ∙ k))) (in-either z known xs e)

clone_own : (b : Bool) (of : Names) (xs : List ℕ) (y z : ℕ) → is_in z xs ≡ b → is_in z xs ≡ false → of z ≡ z → (if b then of y else of z) ≡ z
clone_own true of xs y z e f h = absurd (false≢true (sym f ∙ e))
clone_own false of xs y z e f h = h

rest_named : (of : Names) (known above : List ℕ) (s : Step) (t : Tree) → Scope of known above (Do s t) → all_known known (step_names s) ≡ true
    → (z : ℕ) → is_in z (known ++ (step_values s ++ step_clones s)) ≡ true → is_in (names_after of s z) (above ++ step_values s) ≡ true
rest_named of known above (Lit x v) t h a z e = plain_named of known above (x ∷ []) (defined t) h.apart h.named h.own_name z e
rest_named of known above (Una x op y) t h a z e = plain_named of known above (x ∷ []) (defined t) h.apart h.named h.own_name z e
rest_named of known above (Bin x op y w) t h a z e = plain_named of known above (x ∷ []) (defined t) h.apart h.named h.own_name z e
rest_named of known above (Clone xs y) t h a z e = clone_named (is_in z xs) of known above xs y z refl (h.named y (all-in known (y ∷ []) y a (in-itself y []))) h.named e
rest_named of known above (Read m xs y) t h a z e = plain_named of known above xs (defined t) h.apart h.named h.own_name z e
rest_named of known above (Write m y xs) t h a z e = plain_named of known above [] (defined t) h.apart h.named h.own_name z e

rest_own : (of : Names) (known : List ℕ) (s : Step) → ((z : ℕ) → is_in z known ≡ false → of z ≡ z)
    → (z : ℕ) → is_in z (known ++ (step_values s ++ step_clones s)) ≡ false → names_after of s z ≡ z
rest_own of known (Lit x v) o z e = plain_own of known (x ∷ []) o z e
rest_own of known (Una x op y) o z e = plain_own of known (x ∷ []) o z e
rest_own of known (Bin x op y w) o z e = plain_own of known (x ∷ []) o z e
rest_own of known (Clone xs y) o z e = clone_own (is_in z xs) of xs y z refl (not_in_right z known xs e) (o z (left_rest z known xs e))
rest_own of known (Read m xs y) o z e = plain_own of known (xs ++ []) o z e
rest_own of known (Write m y xs) o z e = plain_own of known [] o z e

pub rest_scope : (of : Names) (known above : List ℕ) (s : Step) (t : Tree) → Scope of known above (Do s t) → Scope (names_after of s) (known ++ (step_values s ++ step_clones s)) (above ++ step_values s) t
rest_scope of known above s t h =
    let p = and_parts (all_known known (step_names s)) (is_scoped (known ++ (step_values s ++ step_clones s)) t) h.scoped in record {
      scoped = p.1;
      named = rest_named of known above s t h p.0;
      own_name = rest_own of known s h.own_name;
      apart = rest_known known s t h.apart h.different;
      different = rest_different s t h.different;
    }

-- ---- what holds at each point

abbrev pub node_fits : List Label → Node → Type 0
node_fits labels (Does s) = is_step s ≡ true
node_fits labels (Forks c x y) = ⊤
node_fits labels (Ends l) = is_last labels l ≡ true

abbrev pub place_fits : List Label → PointKind → Type 0
place_fits labels (Entry l ps) = ⊤
place_fits labels (At n) = node_fits labels n

-- the results of a place, which have to be used
abbrev pub node_results : Node → List ℕ
node_results (Does s) = step_results s
node_results (Forks c x y) = []
node_results (Ends l) = []

abbrev pub place_results : PointKind → List ℕ
place_results (Entry l ps) = []
place_results (At n) = node_results n

pub record Formed (labels : List Label) (j : ℕ) (r : Point) : Type 0 where
  pub uses : Within r.uses r.above
  pub different : all_different (place_values r.place) ≡ true
  pub fits : place_fits labels r.place
  pub results : Within (place_results r.place) r.after

-- ---- results are used under all names

clone_same : (b : Bool) (f of of' : ℕ → ℕ) (y z : ℕ) → ((z : ℕ) → of' z ≡ f (of z)) → (if b then of' y else of' z) ≡ f (if b then of y else of z)
clone_same true f of of' y z h = h y
clone_same false f of of' y z h = h z

names_same : (f of of' : ℕ → ℕ) (s : Step) → ((z : ℕ) → of' z ≡ f (of z)) → (z : ℕ) → names_after of' s z ≡ f (names_after of s z)
names_same f of of' (Lit x v) h z = h z
names_same f of of' (Una x op y) h z = h z
names_same f of of' (Bin x op y w) h z = h z
names_same f of of' (Clone xs y) h z = clone_same (is_in z xs) f of of' y z h
names_same f of of' (Read m xs y) h z = h z
names_same f of of' (Write m y xs) h z = h z

map_same : (f of of' : ℕ → ℕ) (xs : List ℕ) → ((z : ℕ) → of' z ≡ f (of z)) → map of' xs ≡ map f (map of xs)
map_same f of of' [] h = refl
map_same f of of' (x ∷ xs) h = ap (λ y. y ∷ map of' xs) (h x) ∙ ap (λ l. f (of x) ∷ l) (map_same f of of' xs h)

pub used_map : (f of of' : ℕ → ℕ) (t : Tree) → ((z : ℕ) → of' z ≡ f (of z)) → used of' t ≡ map f (used of t)
used_map f of of' (Do s t) h =
    ap (λ l. l ++ used (names_after of' s) t) (map_same f of of' (step_uses s) h)
    ∙ (ap (λ l. map f (map of (step_uses s)) ++ l) (used_map f (names_after of s) (names_after of' s) t (names_same f of of' s h))
    ∙ sym (map-append f (map of (step_uses s)) (used (names_after of s) t)))
used_map f of of' (If c x y t u) h =
    ap (λ l. l ++ (used of' t ++ used of' u)) (map_same f of of' (x ∷ y ∷ []) h)
    ∙ ap (λ l. f (of x) ∷ f (of y) ∷ l)
    (ap (λ l. l ++ used of' u) (used_map f of of' t h)
    ∙ (ap (λ l. map f (used of t) ++ l) (used_map f of of' u h)
    ∙ sym (map-append f (used of t) (used of u))))
used_map f of of' (End l) h = map_same f of of' (last_uses l) h

-- a value that has its own name
used_own : (of : Names) (t : Tree) (x : ℕ) → of x ≡ x → is_in x (used own t) ≡ true → is_in x (used of t) ≡ true
used_own of t x o e =
    ap (is_in x) (used_map of own of t (λ z. refl)) ∙ subst (λ y. is_in y (map of (used own t)) ≡ true) o (image_from of (used own t) x e)

result_value : (s : Step) → Within (step_results s) (step_values s)
result_value (Lit x v) z e = e
result_value (Una x op y) z e = e
result_value (Bin x op y w) z e = e
result_value (Clone xs y) z e = e
result_value (Read m xs y) z e = absurd (false≢true e)
result_value (Write m y xs) z e = e

result_own : (of : Names) (s : Step) (x : ℕ) → is_in x (step_results s) ≡ true → names_after of s x ≡ of x
result_own of (Lit y v) x e = refl
result_own of (Una y op z) x e = refl
result_own of (Bin y op z w) x e = refl
result_own of (Clone xs y) x e = absurd (false≢true e)
result_own of (Read m xs y) x e = absurd (false≢true e)
result_own of (Write m y xs) x e = absurd (false≢true e)

results_after : (of : Names) (known above : List ℕ) (s : Step) (t : Tree) → Scope of known above (Do s t) → list_all (λ x. is_in x (used own t)) (step_results s) ≡ true
    → Within (step_results s) (live_of (names_after of s) (above ++ step_values s) t)
results_after of known above s t h a x e =
    let v = result_value s x e in
    let new : is_in x known ≡ false = false_from_ne_true (is_in x known) (λ k. h.apart x k (within-left (step_values s) (step_clones s ++ defined t) x v)) in
    let used_there = all_at (λ z. is_in z (used own t)) (step_results s) x a e in
    filter_in (λ z. is_in z (used (names_after of s) t)) (above ++ step_values s) x (within-right above (step_values s) x v)
    (used_own (names_after of s) t x (result_own of s x e ∙ h.own_name x new) used_there)

pub formed_tree : (labels : List Label) (of : Names) (known above : List ℕ) (t : Tree) (n : ℕ) → Scope of known above t → are_nodes labels t ≡ true → results_used t ≡ true → EachFrom (Formed labels) n (tree_points of above t)
formed_tree labels of known above (Do s t) n h a r =
    let p = and_parts (all_known known (step_names s)) (is_scoped (known ++ (step_values s ++ step_clones s)) t) h.scoped in
    let b = and_parts (is_step s) (are_nodes labels t) a in
    let g = and_parts (list_all (λ x. is_in x (used own t)) (step_results s)) (results_used t) r in (
      record {
        uses = map_within of (step_uses s) above (λ z e. h.named z (all-in known (step_names s) z p.0 (names_within s z e)));
        different = different_left (step_values s) (step_clones s ++ defined t) h.different;
        fits = b.0;
        results = results_after of known above s t h g.0;
      },
      formed_tree labels (names_after of s) (known ++ (step_values s ++ step_clones s)) (above ++ step_values s) t (suc n) (rest_scope of known above s t h) b.1 g.1,
    )
formed_tree labels of known above (If c x y t u) n h a r =
    let p = and_parts (all_known known (x ∷ y ∷ [])) (is_scoped known t && is_scoped known u) h.scoped in
    let q = and_parts (is_scoped known t) (is_scoped known u) p.1 in
    let b = and_parts (are_nodes labels t) (are_nodes labels u) a in
    let g = and_parts (results_used t) (results_used u) r in (
      record {
        uses = uses_above of known above (x ∷ y ∷ []) p.0 h.named;
        different = refl;
        fits = tt;
        results = λ z e. absurd (false≢true e);
      },
      each_append (Formed labels) (suc n) (suc n + nodes t) (tree_points of above t) (tree_points of above u) (arms_at of above t (suc n))
          (formed_tree labels of known above t (suc n) (record {
            scoped = q.0;
            named = h.named;
            own_name = h.own_name;
            apart = λ z i j. h.apart z i (within-left (defined t) (defined u) z j);
            different = different_left (defined t) (defined u) h.different;
          }) b.0 g.0)
          (formed_tree labels of known above u (suc n + nodes t) (record {
            scoped = q.1;
            named = h.named;
            own_name = h.own_name;
            apart = λ z i j. h.apart z i (within-right (defined t) (defined u) z j);
            different = different_right (defined t) (defined u) h.different;
          }) b.1 g.1),
    )
formed_tree labels of known above (End l) n h a r = (
  record {
    uses = uses_above of known above (last_uses l) h.scoped h.named;
    different = refl;
    fits = a;
    results = λ z e. absurd (false≢true e);
  },
  tt,
)

-- ---- labels

abbrev pub entry_at : ℕ → Label → Point
entry_at k l = record { place = Entry k l.params; above = []; uses = []; below = nodes l.body; before = l.params; after = live_of own l.params l.body }

pub labels_formed : (labels : List Label) (n k : ℕ) (ls : List Label) → all_different (all_defined ls) ≡ true → list_all (is_single labels) ls ≡ true → EachFrom (Formed labels) n (points_from k ls)
labels_formed labels n k [] d h = tt
labels_formed labels n k (l ∷ ls) d h =
    let p = and_parts (is_single labels l) (list_all (is_single labels) ls) h in
    let a = and_parts (are_nodes labels l.body) (uses_once l.body && (is_scoped l.params l.body && (clones_early l.params l.body && (results_used l.body && are_addressed unknown l.body)))) p.0 in
    let b = and_parts (uses_once l.body) (is_scoped l.params l.body && (clones_early l.params l.body && (results_used l.body && are_addressed unknown l.body))) a.1 in
    let c = and_parts (is_scoped l.params l.body) (clones_early l.params l.body && (results_used l.body && are_addressed unknown l.body)) b.1 in
    let e = and_parts (clones_early l.params l.body) (results_used l.body && are_addressed unknown l.body) c.1 in
    let f = and_parts (results_used l.body) (are_addressed unknown l.body) e.1 in
    let rest = different_right l.params (defined l.body ++ all_defined ls) d in (
      record {
        uses = λ x e. absurd (false≢true e);
        different = different_left l.params (defined l.body ++ all_defined ls) d;
        fits = tt;
        results = λ z e. absurd (false≢true e);
      },
      each_append (Formed labels) (suc n) (suc n + nodes l.body) (tree_points own l.params l.body) (points_from (suc k) ls) (arms_at own l.params l.body (suc n))
          (formed_tree labels own l.params l.params l.body (suc n) (record {
            scoped = c.0;
            named = λ z e. e;
            own_name = λ z e. refl;
            apart = λ z i j. different_apart l.params (defined l.body ++ all_defined ls) d z i (within-left (defined l.body) (all_defined ls) z j);
            different = different_left (defined l.body) (all_defined ls) rest;
          }) a.0 f.0)
          (labels_formed labels (suc n + nodes l.body) (suc k) ls (different_right (defined l.body) (all_defined ls) rest) p.1),
    )

-- what labels define and have above a point
record InLabels (ls : List Label) (j : ℕ) (r : Point) : Type 0 where
  values : Within (place_values r.place) (all_defined ls)
  above_it : Within r.above (all_defined ls)

in_labels : (n k : ℕ) (ls : List Label) → EachFrom (InLabels ls) n (points_from k ls)
in_labels n k [] = tt
in_labels n k (l ∷ ls) = (
  record {
    values = within-left l.params (defined l.body ++ all_defined ls);
    above_it = λ x e. absurd (false≢true e);
  },
  each_append (InLabels (l ∷ ls)) (suc n) (suc n + nodes l.body) (tree_points own l.params l.body) (points_from (suc k) ls) (arms_at own l.params l.body (suc n))
      (each_map (InTree own l.params l.body (suc n)) (InLabels (l ∷ ls)) (suc n) (tree_points own l.params l.body)
      (λ j r h. record {
        values = λ x e. within-right l.params (defined l.body ++ all_defined ls) x (within-left (defined l.body) (all_defined ls) x (h.values x e));
        above_it = λ x e.
            ⊎_elim (λ (i : is_in x l.params ≡ true). within-left l.params (defined l.body ++ all_defined ls) x i)
            (λ (i : is_in x (defined l.body) ≡ true). within-right l.params (defined l.body ++ all_defined ls) x (within-left (defined l.body) (all_defined ls) x i))
            (h.above_it x e);
      })
      (in_tree own l.params l.body (suc n)))
      (each_map (InLabels ls) (InLabels (l ∷ ls)) (suc n + nodes l.body) (points_from (suc k) ls)
      (λ j r h. record {
        values = λ x e. within-right l.params (defined l.body ++ all_defined ls) x (within-right (defined l.body) (all_defined ls) x (h.values x e));
        above_it = λ x e. within-right l.params (defined l.body ++ all_defined ls) x (within-right (defined l.body) (all_defined ls) x (h.above_it x e));
      })
      (in_labels (suc n + nodes l.body) (suc k) ls)),
)

entry_below : (k n : ℕ) (l : Label) (j : ℕ) (r : Point) → InTree own l.params l.body (suc n) j r → Above n (entry_at k l) j r
entry_below k n l j r h x e f = record {
  under = omega (arith, h.from);
  within = omega (arith, h.to);
  after = λ u. filter_in (λ z. is_in z (used own l.body)) l.params x e (h.uses x u);
}

pub labels_pairs : (n k : ℕ) (ls : List Label) → all_different (all_defined ls) ≡ true → PairsOf n (points_from k ls)
labels_pairs n k [] d = tt
labels_pairs n k (l ∷ ls) d =
    let ts = tree_points own l.params l.body in
    let us = points_from (suc k) ls in
    let m = suc n + nodes l.body in
    let apart = different_apart l.params (defined l.body ++ all_defined ls) d in
    let rest = different_right l.params (defined l.body ++ all_defined ls) d in
    let behind = different_apart (defined l.body) (all_defined ls) rest in
    let pt : Disjoint l.params (defined l.body) = λ z i j. apart z i (within-left (defined l.body) (all_defined ls) z j) in
    let pu : Disjoint l.params (all_defined ls) = λ z i j. apart z i (within-right (defined l.body) (all_defined ls) z j) in
    let tree = in_tree own l.params l.body (suc n) in
    let later = in_labels m (suc k) ls in
    pairs_cons n (entry_at k l) (ts ++ us)
    (λ x e f. absurd (false≢true f))
    (each_append (Above n (entry_at k l)) (suc n) m ts us (arms_at own l.params l.body (suc n))
    (each_map (InTree own l.params l.body (suc n)) (Above n (entry_at k l)) (suc n) ts (entry_below k n l) tree)
    (each_map (InLabels ls) (Above n (entry_at k l)) m us (λ j r h x e f. absurd (pu x e (h.above_it x f))) later))
    (each_append (λ i r. Above i r n (entry_at k l)) (suc n) m ts us (arms_at own l.params l.body (suc n))
    (each_map (InTree own l.params l.body (suc n)) (λ i r. Above i r n (entry_at k l)) (suc n) ts (λ j r h x e f. absurd (false≢true f)) tree)
    (each_map (InLabels ls) (λ i r. Above i r n (entry_at k l)) m us (λ j r h x e f. absurd (false≢true f)) later))
    (pairs_append (suc n) m ts us (arms_at own l.params l.body (suc n))
    (tree_pairs own l.params l.body (suc n) pt (different_left (defined l.body) (all_defined ls) rest))
    (no_pairs (suc n) m ts us (defined l.body) (all_defined ls) behind
    (each_map (InTree own l.params l.body (suc n)) (λ i q. Within (place_values q.place) (defined l.body)) (suc n) ts (λ i q h. h.values) tree)
    (each_map (InLabels ls) (λ i q. Within q.above (all_defined ls)) m us (λ i q h. h.above_it) later))
    (no_pairs m (suc n) us ts (all_defined ls) (l.params ++ defined l.body)
    (λ x h g. ⊎_elim (λ (i : is_in x l.params ≡ true). pu x i h) (λ (i : is_in x (defined l.body) ≡ true). behind x i h) (in-either x l.params (defined l.body) g))
    (each_map (InLabels ls) (λ i q. Within (place_values q.place) (all_defined ls)) m us (λ i q h. h.values) later)
    (each_map (InTree own l.params l.body (suc n)) (λ i q. Within q.above (l.params ++ defined l.body)) (suc n) ts
    (λ i q h x e. ⊎_elim (λ (i : is_in x l.params ≡ true). within-left l.params (defined l.body) x i) (λ (i : is_in x (defined l.body) ≡ true). within-right l.params (defined l.body) x i) (h.above_it x e))
    tree))
    (labels_pairs m (suc k) ls (different_right (defined l.body) (all_defined ls) rest)))

-- what holds of each value that is defined holds of those above each point
pub labels_above : (P : ℕ → Type 0) (n k : ℕ) (ls : List Label) → EachFrom (λ j r. (x : ℕ) → is_in x (place_values r.place) ≡ true → P x) n (points_from k ls)
    → EachFrom (λ j r. (x : ℕ) → is_in x r.above ≡ true → P x) n (points_from k ls)
labels_above P n k [] h = tt
labels_above P n k (l ∷ ls) h =
    let Q = λ (j : ℕ) (r : Point). (x : ℕ) → is_in x (place_values r.place) ≡ true → P x in
    let R = λ (j : ℕ) (r : Point). (x : ℕ) → is_in x r.above ≡ true → P x in
    let ts = tree_points own l.params l.body in
    let us = points_from (suc k) ls in (
      λ x e. absurd (false≢true e),
      each_append R (suc n) (suc n + nodes l.body) ts us (arms_at own l.params l.body (suc n))
          (above_each P own l.params l.body (suc n) h.0 (each_left Q (suc n) ts us h.1))
          (labels_above P (suc n + nodes l.body) (suc k) ls (each_right Q (suc n) (suc n + nodes l.body) ts us (arms_at own l.params l.body (suc n)) h.1)),
    )

-- ---- the whole form

single_parts : (labels : List Label) → single labels ≡ true → (all_different (all_defined labels) ≡ true) × (list_all (is_single labels) labels ≡ true)
single_parts labels h =
    let p = and_parts (is_entry (slice_get labels 0)) (all_different (all_defined labels) && list_all (is_single labels) labels) h in
    and_parts (all_different (all_defined labels)) (list_all (is_single labels) labels) p.1

pub formed_at : (labels : List Label) (k : ℕ) (q : Point) → single labels ≡ true → slice_get (points labels) k ≡ Some q → Formed labels k q
formed_at labels k q h e = let p = single_parts labels h in each_here (Formed labels) (points labels) k q (labels_formed labels 0 0 labels p.0 p.1) e

pub below_at : (labels : List Label) (i j : ℕ) (q r : Point) (x : ℕ) → single labels ≡ true → slice_get (points labels) i ≡ Some q → slice_get (points labels) j ≡ Some r
    → is_in x (place_values q.place) ≡ true → is_in x r.above ≡ true → IsBelow i j q r x
below_at labels i j q r x h e f v a =
    let all = labels_pairs 0 0 labels (single_parts labels h).0 in
    each_here (Above i q) (points labels) j r (each_here (λ i q. EachFrom (Above i q) 0 (points labels)) (points labels) i q all e) f x v a

-- the point at which a label begins
pub entry_there : (k l : ℕ) (ls : List Label) (it : Label) → slice_get ls l ≡ Some it → slice_get (points_from k ls) (entry_point ls l) ≡ Some (entry_at (k + l) it)
entry_there k l [] it e = absurd (none-some it e)
entry_there k zero (x ∷ ls) it e =
    let same : k ≡ k + zero = omega arith in
    ap (λ y. Some (entry_at k y)) (same_Some x it e) ∙ ap (λ j. Some (entry_at j it)) same
entry_there k (suc l) (x ∷ ls) it e =
    let next : suc k + l ≡ k + suc l = omega arith in
    let far : suc (nodes x.body) + entry_point ls l ≡ suc (nodes x.body + entry_point ls l) = omega arith in
    ap (slice_get (points_from k (x ∷ ls))) far
    ∙ (get_append (tree_points own x.params x.body) (points_from (suc k) ls) (entry_point ls l) (nodes x.body) (sym (length-tree_points own x.params x.body))
    ∙ (entry_there (suc k) l ls it e ∙ ap (λ j. Some (entry_at j it)) next))
