-- Points one by one.
use Rattle.std.proofs.Common.{◌≡◌, ℕ, zero, suc, ◌+◌, ◌<◌, ◌≤◌, List, [], ◌∷◌, ◌++◌, Some, length, map, get_or, drop, refl, sym, ap, ◌∙◌, append_assoc, arith}
use Rattle.std.specs.Prelude.{slice_get}
use Rattle.std.proofs.lemmas.List.{drop_more, drop_all, append-nil, map-append}
use Rattle.ssu_ir.specs.declared.node.NodeId.{NodeId}
use Rattle.ssu_ir.specs.declared.node.SsuLabel.{SsuLabel}
use Rattle.ssu_ir.specs.declared.ssu.Ssu.{Ssu}
use Rattle.ssu_ir.specs.Tree.{Tree, Do, If, End, Label, Does, Forks, step_values}
use Rattle.ssu_ir.specs.Points.{Names, own, names_after, PointKind, Entry, At, tree_points, label_points, points_from}
use Rattle.ssu_ir.specs.Slots.{Slots, slot, Placed, DoAt, IfAt, EndAt, bare, preorder, Stands}
use Rattle.ssu_ir.specs.View.{labels_view}
use Rattle.ssu_ir.specs.Work.{nums}
use Rattle.ssu_liveness.specs.declared.point_ids.PointId.{PointId}
use Rattle.ssu_liveness.specs.declared.point_ids.PointId.TheVariants.{Entry as EntrySpot, Node as NodeSpot}
use Rattle.ssu_liveness.specs.inner.Live.{label_tree}
use Rattle.ssu_liveness.specs.inner.PointIds.{slot_node, params_of, kind_of_point, node_places, tree_places}
use Rattle.ssu_liveness.proofs.Labels.{tree-at}
use Rattle.ssu_liveness.proofs.Kept.{length-view}

node_places-append : (slots : Slots) (a b : List ℕ) → node_places slots (a ++ b) ≡ node_places slots a ++ node_places slots b
node_places-append slots [] b = refl
node_places-append slots (i ∷ a) b = ap (λ l. At (slot_node (slot slots i)) ∷ l) (node_places-append slots a b)

-- the places of a tree that stands
places-in : (slots : Slots) (p : Placed) → Stands slots p → node_places slots (preorder p) ≡ tree_places (bare p)
places-in slots (DoAt i s p) h =
    ap (λ o. At (slot_node o) ∷ node_places slots (preorder p)) h.0.found ∙ ap (λ n. At n ∷ node_places slots (preorder p)) h.0.is
    ∙ ap (λ l. At (Does s) ∷ l) (places-in slots p h.1)
places-in slots (IfAt i c x y p q) h =
    ap (λ o. At (slot_node o) ∷ node_places slots (preorder p ++ preorder q)) h.0.found ∙ ap (λ n. At n ∷ node_places slots (preorder p ++ preorder q)) h.0.is
    ∙ ap (λ l. At (Forks c x y) ∷ l) (node_places-append slots (preorder p) (preorder q) ∙ ap (λ l. l ++ node_places slots (preorder q)) (places-in slots p h.1) ∙ ap (λ l. tree_places (bare p) ++ l) (places-in slots q h.2))
places-in slots (EndAt i l) h = ap (λ o. At (slot_node o) ∷ []) h.found ∙ ap (λ n. At n ∷ []) h.is

pub places-of-points : (of : Names) (above : List ℕ) (t : Tree) → map (λ p. p.place) (tree_points of above t) ≡ tree_places t
places-of-points of above (Do s t) = ap (λ l. At (Does s) ∷ l) (places-of-points (names_after of s) (above ++ step_values s) t)
places-of-points of above (If c x y t u) =
    ap (λ l. At (Forks c x y) ∷ l) (map-append (λ p. p.place) (tree_points of above t) (tree_points of above u)
    ∙ ap (λ l. l ++ map (λ p. p.place) (tree_points of above u)) (places-of-points of above t) ∙ ap (λ l. tree_places t ++ l) (places-of-points of above u))
places-of-points of above (End l) = refl

-- one node more behind other points
pub node-behind : (s : Ssu) (point_ids point_ids' : List PointId) (xs : List NodeId) (i : ℕ) (x : NodeId) (goal : List PointKind) → i < length xs → get_or xs i x ≡ x → point_ids' ≡ point_ids ++ NodeSpot x ∷ []
    → map (kind_of_point s) point_ids ++ node_places s.nodes.slots (nums (drop i xs)) ≡ goal → map (kind_of_point s) point_ids' ++ node_places s.nodes.slots (nums (drop (i + 1) xs)) ≡ goal
node-behind s point_ids point_ids' xs i x goal l e f h =
    ap (λ m. map (kind_of_point s) m ++ node_places s.nodes.slots (nums (drop (i + 1) xs))) f
    ∙ ap (λ m. m ++ node_places s.nodes.slots (nums (drop (i + 1) xs))) (map-append (kind_of_point s) point_ids (NodeSpot x ∷ []))
    ∙ append_assoc (map (kind_of_point s) point_ids) (kind_of_point s (NodeSpot x) ∷ []) (node_places s.nodes.slots (nums (drop (i + 1) xs)))
    ∙ ap (λ (y : NodeId). map (kind_of_point s) point_ids ++ node_places s.nodes.slots (nums (y ∷ drop (i + 1) xs))) (sym e)
    ∙ ap (λ m. map (kind_of_point s) point_ids ++ node_places s.nodes.slots (nums m)) (sym (drop_more xs i x l)) ∙ h

pub nodes-behind : (s : Ssu) (point_ids : List PointId) (xs : List NodeId) (i : ℕ) (goal : List PointKind) → length xs ≤ i → map (kind_of_point s) point_ids ++ node_places s.nodes.slots (nums (drop i xs)) ≡ goal → map (kind_of_point s) point_ids ≡ goal
nodes-behind s point_ids xs i goal l h = sym (append-nil (map (kind_of_point s) point_ids)) ∙ ap (λ m. map (kind_of_point s) point_ids ++ node_places s.nodes.slots (nums m)) (sym (drop_all i xs l)) ∙ h

get-there : (ls : List SsuLabel) (k : ℕ) (d : SsuLabel) → k < length ls → slice_get ls k ≡ Some (get_or ls k d)
get-there [] k d l = absurd (omega arith)
get-there (m ∷ ls) zero d l = refl
get-there (m ∷ ls) (suc k) d l = get-there ls k d (omega arith)

abbrev pub places_from : ℕ → List Label → List PointKind
places_from k ls = map (λ p. p.place) (points_from k ls)

-- one label more
pub label-behind : (s : Ssu) (k : ℕ) (d : SsuLabel) (point_ids pushed new : List PointId) (order : List NodeId) (goal : List PointKind) → k < length s.labels.items → pushed ≡ point_ids ++ EntrySpot k ∷ [] → nums order ≡ preorder (label_tree s k)
    → map (kind_of_point s) new ≡ map (kind_of_point s) pushed ++ node_places s.nodes.slots (nums order)
    → map (kind_of_point s) point_ids ++ places_from k (drop k (labels_view s)) ≡ goal → map (kind_of_point s) new ++ places_from (k + 1) (drop (k + 1) (labels_view s)) ≡ goal
label-behind s k d point_ids pushed new order goal l p o n h =
    let view = labels_view s in
    let t = tree-at s k l in
    let e0 : Label = record { params = (get_or s.labels.items k d).params.items; body = bare (label_tree s k) } in
    let first : drop k view ≡ e0 ∷ drop (k + 1) view = drop_more view k e0 (omega (arith, length-view s)) ∙ ap (λ x. x ∷ drop (k + 1) view) (t.view_is d e0) in
    let next : suc k ≡ k + 1 = omega arith in
    let entry : map (kind_of_point s) pushed ≡ map (kind_of_point s) point_ids ++ Entry k e0.params ∷ [] =
    ap (map (kind_of_point s)) p ∙ map-append (kind_of_point s) point_ids (EntrySpot k ∷ []) ∙ ap (λ w. map (kind_of_point s) point_ids ++ Entry k (params_of w) ∷ []) (get-there s.labels.items k d l) in
    let nodes' : node_places s.nodes.slots (nums order) ≡ tree_places e0.body = ap (node_places s.nodes.slots) o ∙ places-in s.nodes.slots (label_tree s k) t.stands in
    let mine : places_from k (drop k view) ≡ Entry k e0.params ∷ (tree_places e0.body ++ places_from (k + 1) (drop (k + 1) view)) =
    ap (places_from k) first
    ∙ map-append (λ p. p.place) (label_points k e0) (points_from (suc k) (drop (k + 1) view))
    ∙ ap (λ m. Entry k e0.params ∷ (m ++ places_from (suc k) (drop (k + 1) view))) (places-of-points own e0.params e0.body)
    ∙ ap (λ j. Entry k e0.params ∷ (tree_places e0.body ++ places_from j (drop (k + 1) view))) next in
    let rest = places_from (k + 1) (drop (k + 1) view) in
    ap (λ m. m ++ rest) (n ∙ ap (λ m. m ++ node_places s.nodes.slots (nums order)) entry ∙ ap (λ m. (map (kind_of_point s) point_ids ++ Entry k e0.params ∷ []) ++ m) nodes')
    ∙ append_assoc (map (kind_of_point s) point_ids ++ Entry k e0.params ∷ []) (tree_places e0.body) rest
    ∙ append_assoc (map (kind_of_point s) point_ids) (Entry k e0.params ∷ []) (tree_places e0.body ++ rest)
    ∙ ap (λ m. map (kind_of_point s) point_ids ++ m) (sym mine) ∙ h

pub labels-behind : (s : Ssu) (k : ℕ) (point_ids : List PointId) (goal : List PointKind) → length s.labels.items ≤ k → map (kind_of_point s) point_ids ++ places_from k (drop k (labels_view s)) ≡ goal → map (kind_of_point s) point_ids ≡ goal
labels-behind s k point_ids goal l h =
    sym (append-nil (map (kind_of_point s) point_ids)) ∙ ap (λ m. map (kind_of_point s) point_ids ++ places_from k m) (sym (drop_all k (labels_view s) (omega (arith, length-view s)))) ∙ h

-- some label, where there is one
abbrev pub some-label : (ls : List SsuLabel) (k : ℕ) → k < length ls → SsuLabel
some-label [] k l = absurd (omega arith)
some-label (m ∷ ls) k l = m
