-- Points that are found by walks from the labels.
use Rattle.std.proofs.Common.{◌≡◌, ℕ, zero, suc, ◌+◌, ◌<◌, ◌≤◌, Bool, true, false, ◌||◌, ◌⊎◌, ⊎_elim, List, [], ◌∷◌, ◌++◌, Option, Some, None, length, map, refl, sym, ap, subst, ◌∙◌, arith, drop}
use Rattle.std.proofs.Math.Bool.{or_assoc}
use Rattle.std.specs.Prelude.{slice_get, slice_index_or}
use Rattle.std.proofs.lemmas.List.{drop_more, drop_all}
use Rattle.std.proofs.lemmas.Option.{slice_get_within, get_or_from_slice_get, slice_get-get_or}
use Rattle.nv_base.specs.declared.term.Cmp.{Cmp}
use Rattle.nv_base.specs.Sets.{is_in}
use Rattle.nv_base.proofs.Sets.{in-append}
use Rattle.ssu_ir.specs.declared.node.NodeId.{NodeId}
use Rattle.ssu_ir.specs.declared.node.SsuLabel.{SsuLabel}
use Rattle.ssu_ir.specs.declared.node.SsuNode.{SsuNode}
use Rattle.ssu_ir.specs.declared.ssu.Ssu.{Ssu}
use Rattle.ssu_ir.specs.Tree.{Step, Tree, Do, If, End, Does, step_values, node_values}
use Rattle.ssu_ir.specs.Points.{own, names_after, At, Point, nodes, tree_points, points_from, points}
use Rattle.ssu_ir.specs.Slots.{Slots, slot, node_of, bodies, filled, Placed, DoAt, IfAt, EndAt, bare, bare_all, weight, weight_all, roots_of}
use Rattle.ssu_ir.specs.View.{labels_view, placed_of, with_bodies}
use Rattle.ssu_ir.specs.inner.Under.{HasTree, AllHave, tree_at, label_of}
use Rattle.ssu_ir.proofs.Reading.{there_is, read_in}
use Rattle.ssu_ir.proofs.Unders.{NoKids, OneKid, TwoKids, shape, bodies_have, labels-viewed}
use Rattle.ssu_ir.proofs.PointLemmas.{length-tree_points}
use Rattle.ssu_ir.proofs.Searches.{or-false}
use Rattle.ssu_ir.proofs.Lists.{get-left, get-right, some-there}
use Rattle.place_ir_checks.specs.declared.points.Under.TheVariants.{Here as IsHere}
use Rattle.place_ir_checks.specs.declared.points.Way.TheVariants.{There as IsThere}
use Rattle.ssu_liveness.specs.declared.point_ids.PointId.{PointId}
use Rattle.ssu_liveness.specs.declared.point_ids.PointId.TheVariants.{Entry as EntrySpot, Node as NodeSpot}
use Rattle.ssu_liveness.specs.inner.Live.{node_source, first_of, source_in, source_among, value_by}
use Rattle.ssu_liveness.proofs.Kept.{length-view}
use Rattle.place_ir_checks.specs.inner.NodeLookups.{IsNode, IsNodeAt, IsAboveAt, IsEntry, IsIdOfPointAt, nowhere, point_at, value_in}
use Rattle.place_ir_checks.proofs.Seen.{length-both}

-- ---- lists

pub get-none : {X : Type 0} (xs : List X) (k : ℕ) → slice_get xs k ≡ None → length xs ≤ k
get-none [] k e = omega arith
get-none (y ∷ xs) zero e = absurd (cc)
get-none (y ∷ xs) (suc k) e = let l = get-none xs k e in omega arith

pub get-item : {X : Type 0} (xs : List X) (k : ℕ) (d : X) → k < length xs → d ≡ slice_index_or xs k d → slice_get xs k ≡ Some d
get-item xs k d l e = slice_get-get_or xs k d l ∙ ap (λ x. Some x) (sym e)

-- ---- the node that a walk reaches

same-node : (slots : Slots) (i : ℕ) (n m : SsuNode) → slot slots i ≡ Some n → slot slots i ≡ Some m → n ≡ m
same-node slots i n m e f = let g : Some n ≡ Some m = sym e ∙ f in cc

here-end : (slots : Slots) (i : ℕ) (n : SsuNode) → HasTree slots i → slot slots i ≡ Some n → NoKids slots i n → IsNodeAt slots (tree_at slots i) 0 i
here-end slots i n h f o =
    let P : Tree → Type 0 = λ t. IsNodeAt slots t 0 i in
    subst P (sym o.tree) (record {
      has = h;
      within = omega arith;
      there = λ of above. record {
        point = _;
        found = refl;
        is = record { node = λ m g. ap (λ x. At x) (sym o.is ∙ ap node_of (same-node slots i n m f g)); below = sym (ap nodes o.tree) };
      };
    })

here-do : (slots : Slots) (i : ℕ) (n : SsuNode) (k : ℕ) → HasTree slots i → slot slots i ≡ Some n → OneKid slots i n k → IsNodeAt slots (tree_at slots i) 0 i
here-do slots i n k h f o =
    let P : Tree → Type 0 = λ t. IsNodeAt slots t 0 i in
    subst P (sym o.tree) (record {
      has = h;
      within = omega arith;
      there = λ of above. record {
        point = _;
        found = refl;
        is = record { node = λ m g. ap (λ x. At x) (sym o.is ∙ ap node_of (same-node slots i n m f g)); below = let e = ap nodes o.tree in omega arith };
      };
    })

here-if : (slots : Slots) (i : ℕ) (n : SsuNode) (j k : ℕ) → HasTree slots i → slot slots i ≡ Some n → TwoKids slots i n j k → IsNodeAt slots (tree_at slots i) 0 i
here-if slots i n j k h f o =
    let P : Tree → Type 0 = λ t. IsNodeAt slots t 0 i in
    subst P (sym o.tree) (record {
      has = h;
      within = omega arith;
      there = λ of above. record {
        point = _;
        found = refl;
        is = record { node = λ m g. ap (λ x. At x) (sym o.is ∙ ap node_of (same-node slots i n m f g)); below = let e = ap nodes o.tree in omega arith };
      };
    })

pub node-here : (slots : Slots) (i : ℕ) → HasTree slots i → IsNodeAt slots (tree_at slots i) 0 i
node-here slots i h =
    let w = there_is slots h.placed h.stands in
    let n = w.0 in
    let f : slot slots i ≡ Some n = ap (slot slots) (sym h.at_number) ∙ w.1 in
    ⊎_elim
    (λ (o : NoKids slots i n). here-end slots i n h f o)
    (λ (r : ((k : ℕ) × OneKid slots i n k) ⊎ ((j : ℕ) × ((k : ℕ) × TwoKids slots i n j k))).
    ⊎_elim
    (λ (p : (k : ℕ) × OneKid slots i n k). here-do slots i n p.0 h f p.1)
    (λ (p : (j : ℕ) × ((k : ℕ) × TwoKids slots i n j k)). here-if slots i n p.0 p.1.0 h f p.1.1)
    r)
    (shape slots i n h f)

behind-do : (slots : Slots) (s : Step) (t : Tree) (k m i : ℕ) → k ≡ suc m → IsNodeAt slots t m i → IsNodeAt slots (Do s t) k i
behind-do slots s t k m i e w =
    let P : ℕ → Type 0 = λ n. IsNodeAt slots (Do s t) n i in
    subst P (sym e) (record {
      has = w.has;
      within = let l = w.within in omega arith;
      there = λ of above. let h = w.there (names_after of s) (above ++ step_values s) in record { point = h.point; found = h.found; is = h.is };
    })

behind-first : (slots : Slots) (c : Cmp) (x y : ℕ) (t u : Tree) (k m i : ℕ) → k ≡ suc m → IsNodeAt slots t m i → IsNodeAt slots (If c x y t u) k i
behind-first slots c x y t u k m i e w =
    let P : ℕ → Type 0 = λ n. IsNodeAt slots (If c x y t u) n i in
    subst P (sym e) (record {
      has = w.has;
      within = let l = w.within in omega arith;
      there = λ of above. let h = w.there of above in record { point = h.point; found = get-left (tree_points of above t) (tree_points of above u) m h.point h.found; is = h.is };
    })

behind-second : (slots : Slots) (c : Cmp) (x y : ℕ) (t u : Tree) (k m i : ℕ) → k ≡ suc (nodes t + m) → IsNodeAt slots u m i → IsNodeAt slots (If c x y t u) k i
behind-second slots c x y t u k m i e w =
    let P : ℕ → Type 0 = λ n. IsNodeAt slots (If c x y t u) n i in
    subst P (sym e) (record {
      has = w.has;
      within = let l = w.within in omega arith;
      there = λ of above.
          let h = w.there of above in
          record {
            point = h.point;
            found = get-right (tree_points of above t) (tree_points of above u) (nodes t + m) m (ap (λ n. n + m) (sym (length-tree_points of above t))) ∙ h.found;
            is = h.is;
          };
    })

pub node-behind-one : (slots : Slots) (i : ℕ) (n : SsuNode) (j k m x : ℕ) → OneKid slots i n j → k ≡ suc m → IsNodeAt slots (tree_at slots j) m x → IsNodeAt slots (tree_at slots i) k x
node-behind-one slots i n j k m x o e w =
    let P : Tree → Type 0 = λ t. IsNodeAt slots t k x in
    subst P (sym o.tree) (behind-do slots o.s (tree_at slots j) k m x e w)

pub node-behind-first : (slots : Slots) (i : ℕ) (n : SsuNode) (a b k m x : ℕ) → TwoKids slots i n a b → k ≡ suc m → IsNodeAt slots (tree_at slots a) m x → IsNodeAt slots (tree_at slots i) k x
node-behind-first slots i n a b k m x o e w =
    let P : Tree → Type 0 = λ t. IsNodeAt slots t k x in
    subst P (sym o.tree) (behind-first slots o.c o.x o.y (tree_at slots a) (tree_at slots b) k m x e w)

pub node-behind-second : (slots : Slots) (i : ℕ) (n : SsuNode) (a b k m x : ℕ) → TwoKids slots i n a b → k ≡ suc (nodes (tree_at slots a) + m) → IsNodeAt slots (tree_at slots b) m x → IsNodeAt slots (tree_at slots i) k x
node-behind-second slots i n a b k m x o e w =
    let P : Tree → Type 0 = λ t. IsNodeAt slots t k x in
    subst P (sym o.tree) (behind-second slots o.c o.x o.y (tree_at slots a) (tree_at slots b) k m x e w)

-- ---- the point of a number, from label l on

view-get : (slots : Slots) (ls : List SsuLabel) (k : ℕ) (d : SsuLabel) → slice_get ls k ≡ Some d → slice_get (map (label_of slots) ls) k ≡ Some (label_of slots d)
view-get slots [] k d e = absurd (cc)
view-get slots (l ∷ ls) zero d e = let g : l ≡ d = cc in ap (λ z. Some (label_of slots z)) g
view-get slots (l ∷ ls) (suc k) d e = view-get slots ls k d e

drop-get : {X : Type 0} (xs : List X) (k : ℕ) (x : X) → slice_get xs k ≡ Some x → drop k xs ≡ x ∷ drop (k + 1) xs
drop-get xs k x e = drop_more xs k x (slice_get_within xs k x e) ∙ ap (λ y. y ∷ drop (k + 1) xs) (get_or_from_slice_get xs k x x e)

pub label-next : (s : Ssu) (k : ℕ) (d : SsuLabel) → slice_get s.labels.items k ≡ Some d → drop k (labels_view s) ≡ label_of s.nodes.slots d ∷ drop (k + 1) (labels_view s)
label-next s k d e = drop-get (labels_view s) k (label_of s.nodes.slots d) (ap (λ v. slice_get v k) (labels-viewed s) ∙ view-get s.nodes.slots s.labels.items k d e)

-- the point of this number is that one of those from label l on
abbrev pub IsLeft : Ssu → ℕ → ℕ → ℕ → Type 0
IsLeft s k l left = slice_get (points (labels_view s)) k ≡ slice_get (points_from l (drop l (labels_view s))) left

rest-of : (s : Ssu) (k l left : ℕ) (d : SsuLabel) → slice_get s.labels.items l ≡ Some d → IsLeft s k l left
    → slice_get (points (labels_view s)) k ≡ slice_get (points_from l (label_of s.nodes.slots d ∷ drop (l + 1) (labels_view s))) left
rest-of s k l left d e h = h ∙ ap (λ v. slice_get (points_from l v) left) (label-next s l d e)

have-body : (slots : Slots) (ls : List SsuLabel) (k : ℕ) (d : SsuLabel) → AllHave slots (bodies ls) → slice_get ls k ≡ Some d → HasTree slots d.body.0
have-body slots [] k d h e = absurd (cc)
have-body slots (l ∷ ls) zero d h e = let g : l ≡ d = cc in subst (λ (z : SsuLabel). HasTree slots z.body.0) g h.0
have-body slots (l ∷ ls) (suc k) d h e = have-body slots ls k d h.1 e

pub body-has : (s : Ssu) (k : ℕ) (d : SsuLabel) → slice_get s.labels.items k ≡ Some d → HasTree s.nodes.slots d.body.0
body-has s k d e = have-body s.nodes.slots s.labels.items k d (bodies_have s.nodes.slots (bodies s.labels.items) s.formed) e

at-some : (s : Ssu) (k : ℕ) (q : Point) → slice_get (points (labels_view s)) k ≡ Some q → point_at (labels_view s) k ≡ q
at-some s k q e = get_or_from_slice_get (points (labels_view s)) k q nowhere e

pub entry-found : (s : Ssu) (k l left : ℕ) (d : SsuLabel) → slice_get s.labels.items l ≡ Some d → left ≡ 0 → IsLeft s k l left → IsIdOfPointAt s k (EntrySpot l)
entry-found s k l left d e z h =
    let got = rest-of s k l left d e h ∙ ap (slice_get (points_from l (label_of s.nodes.slots d ∷ drop (l + 1) (labels_view s)))) z in
    let P : Point → Type 0 = λ q. IsEntry s l q in
    record {
      within = slice_get_within (points (labels_view s)) k _ got;
      is = subst P (sym (at-some s k _ got)) (record { label = d; found = e; place = refl; below = refl; has = body-has s l d e });
    }

pub node-found : (s : Ssu) (k l left m i : ℕ) (d : SsuLabel) (x : NodeId) → slice_get s.labels.items l ≡ Some d → left ≡ suc m → x.0 ≡ i → IsNodeAt s.nodes.slots (tree_at s.nodes.slots d.body.0) m i → IsLeft s k l left → IsIdOfPointAt s k (NodeSpot x)
node-found s k l left m i d x e z xe w h =
    let lab = label_of s.nodes.slots d in
    let rest = points_from (suc l) (drop (l + 1) (labels_view s)) in
    let there = w.there own lab.params in
    let got : slice_get (points (labels_view s)) k ≡ Some there.point =
    rest-of s k l left d e h
    ∙ ap (slice_get (points_from l (lab ∷ drop (l + 1) (labels_view s)))) z
    ∙ get-left (tree_points own lab.params lab.body) rest m there.point there.found in
    let P : Point → Type 0 = λ q. HasTree s.nodes.slots x.0 × IsNode s.nodes.slots x.0 q in
    let Q : ℕ → Type 0 = λ n. HasTree s.nodes.slots n × IsNode s.nodes.slots n there.point in
    record {
      within = slice_get_within (points (labels_view s)) k there.point got;
      is = subst P (sym (at-some s k there.point got)) (subst Q (sym xe) (w.has, there.is));
    }

pub label-passed : (s : Ssu) (k l left m n : ℕ) (d : SsuLabel) → slice_get s.labels.items l ≡ Some d → left ≡ suc m → m ≡ nodes (tree_at s.nodes.slots d.body.0) + n → IsLeft s k l left → IsLeft s k (l + 1) n
label-passed s k l left m n d e z g h =
    let lab = label_of s.nodes.slots d in
    let next : suc l ≡ l + 1 = omega arith in
    rest-of s k l left d e h
    ∙ ap (slice_get (points_from l (lab ∷ drop (l + 1) (labels_view s)))) z
    ∙ get-right (tree_points own lab.params lab.body) (points_from (suc l) (drop (l + 1) (labels_view s))) m n (g ∙ ap (λ j. j + n) (sym (length-tree_points own lab.params lab.body)))
    ∙ ap (λ j. slice_get (points_from j (drop (l + 1) (labels_view s))) n) next

pub none-left : (s : Ssu) (k l left : ℕ) → length s.labels.items ≤ l → IsLeft s k l left → length (points (labels_view s)) ≤ k
none-left s k l left e h =
    get-none (points (labels_view s)) k (h ∙ ap (λ v. slice_get (points_from l v) left) (drop_all l (labels_view s) (let g = length-view s in omega arith)))

pub entry-there : (s : Ssu) (k l left : ℕ) (x : PointId) → l < length s.labels.items → left ≡ 0 → EntrySpot l ≡ x → IsLeft s k l left → IsIdOfPointAt s k x
entry-there s k l left x e z g h = let w = some-there s.labels.items l e in subst (IsIdOfPointAt s k) g (entry-found s k l left w.0 w.1 z h)

-- ---- how many points there are

nodes-placed : (p : Placed) → nodes (bare p) ≡ weight p
nodes-placed (DoAt i s p) = ap (λ n. 1 + n) (nodes-placed p)
nodes-placed (IfAt i c x y p q) = ap (λ n. 1 + (n + nodes (bare q))) (nodes-placed p) ∙ ap (λ n. 1 + (weight p + n)) (nodes-placed q)
nodes-placed (EndAt i l) = refl

count-from : (k : ℕ) (ls : List SsuLabel) (ps : List Placed) → roots_of ps ≡ bodies ls → length (points_from k (with_bodies ls (bare_all ps))) ≡ length ls + weight_all ps
count-from k [] [] e = refl
count-from k [] (p ∷ ps) e = absurd (cc)
count-from k (l ∷ ls) [] e = absurd (cc)
count-from k (l ∷ ls) (p ∷ ps) e =
    let rest : roots_of ps ≡ bodies ls = cc in
    let here = tree_points own l.params.items (bare p) in
    let a = length-both here (points_from (suc k) (with_bodies ls (bare_all ps))) in
    let b = length-tree_points own l.params.items (bare p) in
    let c = nodes-placed p in
    let d = count-from (suc k) ls ps rest in
    omega arith

pub count-points : (s : Ssu) → length (points (labels_view s)) ≡ length s.labels.items + filled s.nodes.slots
count-points s =
    let r = read_in s.nodes.slots (bodies s.labels.items) s.formed in
    count-from 0 s.labels.items (placed_of s) r.at_numbers ∙ ap (λ n. length s.labels.items + n) s.formed.many

-- ---- the value of a name

abbrev pub sources-from : Ssu → ℕ → ℕ → Option ℕ
sources-from s i z = source_among (map (λ l. l.body) (map (label_of s.nodes.slots) (drop i s.labels.items))) z

pub sources-start : (s : Ssu) (z : ℕ) → value_in (labels_view s) z ≡ value_by (λ y. sources-from s 0 y) z
sources-start s z = ap (λ v. value_by (source_among (map (λ l. l.body) v)) z) (labels-viewed s)

pub sources-step : (s : Ssu) (i : ℕ) (d : SsuLabel) (z : ℕ) → slice_get s.labels.items i ≡ Some d → sources-from s i z ≡ first_of (source_in (tree_at s.nodes.slots d.body.0) z) (sources-from s (i + 1) z)
sources-step s i d z e = ap (λ ls. source_among (map (λ l. l.body) (map (label_of s.nodes.slots) ls)) z) (drop-get s.labels.items i d e)

-- ---- parameters

-- ---- as the walks end

pub here-as : (slots : Slots) (k : ℕ) (x y : NodeId) → HasTree slots x.0 → k ≡ 0 → IsHere x ≡ IsHere y → IsNodeAt slots (tree_at slots x.0) k y.0
here-as slots k x y h z e =
    let same : x ≡ y = cc in
    let P : ℕ → Type 0 = λ n. IsNodeAt slots (tree_at slots x.0) n x.0 in
    subst (λ (w : NodeId). IsNodeAt slots (tree_at slots x.0) k w.0) same (subst P (sym z) (node-here slots x.0 h))

source-do : (z : ℕ) (n : SsuNode) (s : Step) (t : Tree) → node_of n ≡ Does s → source_in (Do s t) z ≡ first_of (node_source (node_of n) z) (source_in t z)
source-do z n s t e = ap (λ m. first_of (node_source m z) (source_in t z)) (sym e)

pub source-here : (slots : Slots) (i : ℕ) (n : SsuNode) (z y : ℕ) → HasTree slots i → slot slots i ≡ Some n → Some y ≡ node_source (node_of n) z → Some y ≡ source_in (tree_at slots i) z
source-here slots i n z y h f e =
    ⊎_elim
    (λ (o : NoKids slots i n). let g : Some y ≡ None = e ∙ ap (λ m. node_source m z) o.is in absurd (cc))
    (λ (r : ((k : ℕ) × OneKid slots i n k) ⊎ ((j : ℕ) × ((k : ℕ) × TwoKids slots i n j k))).
    ⊎_elim
    (λ (p : (k : ℕ) × OneKid slots i n k).
    sym (ap (λ t. source_in t z) p.1.tree ∙ source-do z n p.1.s (tree_at slots p.0) p.1.is ∙ ap (λ o. first_of o (source_in (tree_at slots p.0) z)) (sym e)))
    (λ (p : (j : ℕ) × ((k : ℕ) × TwoKids slots i n j k)). let g : Some y ≡ None = e ∙ ap (λ m. node_source m z) p.1.1.is in absurd (cc))
    r)
    (shape slots i n h f)

pub source-none : (slots : Slots) (i : ℕ) (n : SsuNode) (z : ℕ) → NoKids slots i n → None ≡ source_in (tree_at slots i) z
source-none slots i n z o = sym (ap (λ t. source_in t z) o.tree)

pub source-one : (slots : Slots) (i : ℕ) (n : SsuNode) (j z : ℕ) → OneKid slots i n j → None ≡ node_source (node_of n) z → source_in (tree_at slots j) z ≡ source_in (tree_at slots i) z
source-one slots i n j z o e = sym (ap (λ t. source_in t z) o.tree ∙ source-do z n o.s (tree_at slots j) o.is ∙ ap (λ w. first_of w (source_in (tree_at slots j) z)) (sym e))

pub source-first : (slots : Slots) (i : ℕ) (n : SsuNode) (j k z y : ℕ) → TwoKids slots i n j k → Some y ≡ source_in (tree_at slots j) z → Some y ≡ source_in (tree_at slots i) z
source-first slots i n j k z y o e = sym (ap (λ t. source_in t z) o.tree ∙ ap (λ w. first_of w (source_in (tree_at slots k) z)) (sym e))

pub source-second : (slots : Slots) (i : ℕ) (n : SsuNode) (j k z : ℕ) → TwoKids slots i n j k → None ≡ source_in (tree_at slots j) z → source_in (tree_at slots k) z ≡ source_in (tree_at slots i) z
source-second slots i n j k z o e = sym (ap (λ t. source_in t z) o.tree ∙ ap (λ w. first_of w (source_in (tree_at slots k) z)) (sym e))

-- a choice that isn't there
pub none-of : (o w : Option ℕ) → o ≡ w → ((y : ℕ) → o ≡ Some y → ⊥) → None ≡ w
none-of None w e h = e
none-of (Some y) w e h = absurd (h y refl)

-- ---- values that are defined above a point

pub above-here : (t : Tree) (x : ℕ) → IsAboveAt t 0 x false
above-here (Do s t) x = record { within = omega arith; there = λ of above. record { point = _; found = refl; is = or-false (is_in x above) } }
above-here (If c v w t u) x = record { within = omega arith; there = λ of above. record { point = _; found = refl; is = or-false (is_in x above) } }
above-here (End l) x = record { within = omega arith; there = λ of above. record { point = _; found = refl; is = or-false (is_in x above) } }

pub above-as : (t : Tree) (k x : ℕ) (test : Bool) → k ≡ 0 → IsThere false ≡ IsThere test → IsAboveAt t k x test
above-as t k x test z e =
    let same : false ≡ test = cc in
    subst (λ n. IsAboveAt t n x test) (sym z) (subst (IsAboveAt t 0 x) same (above-here t x))

above-do : (s : Step) (t : Tree) (k m x : ℕ) (test : Bool) → k ≡ suc m → IsAboveAt t m x test → IsAboveAt (Do s t) k x (is_in x (step_values s) || test)
above-do s t k m x test e w =
    let P : ℕ → Type 0 = λ n. IsAboveAt (Do s t) n x (is_in x (step_values s) || test) in
    subst P (sym e) (record {
      within = let l = w.within in omega arith;
      there = λ of above.
          let h = w.there (names_after of s) (above ++ step_values s) in
          record { point = h.point; found = h.found; is = h.is ∙ ap (λ b. b || test) (in-append x above (step_values s)) ∙ or_assoc (is_in x above) (is_in x (step_values s)) test };
    })

above-first : (c : Cmp) (v w : ℕ) (t u : Tree) (k m x : ℕ) (test : Bool) → k ≡ suc m → IsAboveAt t m x test → IsAboveAt (If c v w t u) k x test
above-first c v w t u k m x test e a =
    let P : ℕ → Type 0 = λ n. IsAboveAt (If c v w t u) n x test in
    subst P (sym e) (record {
      within = let l = a.within in omega arith;
      there = λ of above. let h = a.there of above in record { point = h.point; found = get-left (tree_points of above t) (tree_points of above u) m h.point h.found; is = h.is };
    })

above-second : (c : Cmp) (v w : ℕ) (t u : Tree) (k m x : ℕ) (test : Bool) → k ≡ suc (nodes t + m) → IsAboveAt u m x test → IsAboveAt (If c v w t u) k x test
above-second c v w t u k m x test e a =
    let P : ℕ → Type 0 = λ n. IsAboveAt (If c v w t u) n x test in
    subst P (sym e) (record {
      within = let l = a.within in omega arith;
      there = λ of above.
          let h = a.there of above in
          record {
            point = h.point;
            found = get-right (tree_points of above t) (tree_points of above u) (nodes t + m) m (ap (λ n. n + m) (sym (length-tree_points of above t))) ∙ h.found;
            is = h.is;
          };
    })

pub above-behind-one : (slots : Slots) (i : ℕ) (n : SsuNode) (j k m x : ℕ) (values : List ℕ) (below test : Bool) → OneKid slots i n j → k ≡ suc m → values ≡ node_values (node_of n) → (is_in x values || below) ≡ test
    → IsAboveAt (tree_at slots j) m x below → IsAboveAt (tree_at slots i) k x test
above-behind-one slots i n j k m x values below test o e v same w =
    let from : (is_in x (step_values o.s) || below) ≡ test = ap (λ h. is_in x (node_values h) || below) (sym o.is) ∙ ap (λ vs. is_in x vs || below) (sym v) ∙ same in
    let P : Tree → Type 0 = λ t. IsAboveAt t k x test in
    subst P (sym o.tree) (subst (IsAboveAt (Do o.s (tree_at slots j)) k x) from (above-do o.s (tree_at slots j) k m x below e w))

pub there-same : (a b : Bool) → IsThere a ≡ IsThere b → a ≡ b
there-same a b e = cc

pub or-then : (a b h : Bool) → h ≡ a → h ≡ true → h ≡ (a || b)
or-then a b h e f = f ∙ ap (λ c. c || b) (sym f ∙ e)

pub or-else : (a b h : Bool) → h ≡ a → h ≡ false → b ≡ (a || b)
or-else a b h e f = ap (λ c. c || b) (sym f ∙ e)

pub label-same : (s : Ssu) (l : ℕ) (a b : SsuLabel) → slice_get s.labels.items l ≡ Some a → slice_get s.labels.items l ≡ Some b → a ≡ b
label-same s l a b e f = let g : Some a ≡ Some b = sym e ∙ f in cc

pub above-behind-first : (slots : Slots) (i : ℕ) (n : SsuNode) (a b k m x : ℕ) (test : Bool) → TwoKids slots i n a b → k ≡ suc m → IsAboveAt (tree_at slots a) m x test → IsAboveAt (tree_at slots i) k x test
above-behind-first slots i n a b k m x test o e w =
    let P : Tree → Type 0 = λ t. IsAboveAt t k x test in
    subst P (sym o.tree) (above-first o.c o.x o.y (tree_at slots a) (tree_at slots b) k m x test e w)

pub above-behind-second : (slots : Slots) (i : ℕ) (n : SsuNode) (a b k m x : ℕ) (test : Bool) → TwoKids slots i n a b → k ≡ suc (nodes (tree_at slots a) + m) → IsAboveAt (tree_at slots b) m x test → IsAboveAt (tree_at slots i) k x test
above-behind-second slots i n a b k m x test o e w =
    let P : Tree → Type 0 = λ t. IsAboveAt t k x test in
    subst P (sym o.tree) (above-second o.c o.x o.y (tree_at slots a) (tree_at slots b) k m x test e w)

pub entry-above : (s : Ssu) (k l left x : ℕ) → l < length s.labels.items → left ≡ 0 → IsLeft s k l left → false ≡ is_in x (point_at (labels_view s) k).above
entry-above s k l left x e z h =
    let d = some-there s.labels.items l e in
    let got = rest-of s k l left d.0 d.1 h ∙ ap (slice_get (points_from l (label_of s.nodes.slots d.0 ∷ drop (l + 1) (labels_view s)))) z in
    sym (ap (λ (q : Point). is_in x q.above) (at-some s k _ got))

pub node-above : (s : Ssu) (k l left m x : ℕ) (d : SsuLabel) (test : Bool) → slice_get s.labels.items l ≡ Some d → left ≡ suc m → IsAboveAt (tree_at s.nodes.slots d.body.0) m x test → IsLeft s k l left
    → (is_in x d.params.items || test) ≡ is_in x (point_at (labels_view s) k).above
node-above s k l left m x d test e z w h =
    let lab = label_of s.nodes.slots d in
    let rest = points_from (suc l) (drop (l + 1) (labels_view s)) in
    let there = w.there own lab.params in
    let got : slice_get (points (labels_view s)) k ≡ Some there.point =
    rest-of s k l left d e h
    ∙ ap (slice_get (points_from l (lab ∷ drop (l + 1) (labels_view s)))) z
    ∙ get-left (tree_points own lab.params lab.body) rest m there.point there.found in
    sym (ap (λ (q : Point). is_in x q.above) (at-some s k there.point got) ∙ there.is)

past-last : (qs : List Point) (k : ℕ) → slice_get qs k ≡ None → slice_index_or qs k nowhere ≡ nowhere
past-last [] k e = refl
past-last (q ∷ qs) zero e = absurd (cc)
past-last (q ∷ qs) (suc k) e = past-last qs k e

pub none-above : (s : Ssu) (k l left x : ℕ) → length s.labels.items ≤ l → IsLeft s k l left → false ≡ is_in x (point_at (labels_view s) k).above
none-above s k l left x e h =
    sym (ap (λ (q : Point). is_in x q.above) (past-last (points (labels_view s)) k (h ∙ ap (λ v. slice_get (points_from l v) left) (drop_all l (labels_view s) (let g = length-view s in omega arith)))))
