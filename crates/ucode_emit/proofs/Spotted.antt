-- The points of a form, one by one, as the code puts them together.
use Rattle.std.proofs.Common.{◌≡◌, ℕ, suc, ◌+◌, ◌<◌, ◌≤◌, List, [], ◌∷◌, ◌++◌, length, map, get_or, take, drop, All, refl, sym, ap, ◌∙◌, subst, append_assoc, arith}
use Rattle.std.specs.Prelude.{reverse, Some}
use Rattle.std.proofs.lemmas.List.{drop_more, drop_all, take_more, length-take-le, append-nil, map-append, reverse-append}
use Rattle.std.proofs.lemmas.List.Elements.{All-nil, All-push, All-head, All-tail}
use Rattle.std.proofs.lemmas.Option.{slice_get-get_or}
use Rattle.ssu_ir.specs.declared.node.NodeId.{NodeId}
use Rattle.ssu_ir.specs.declared.node.SsuLabel.{SsuLabel}
use Rattle.ssu_ir.specs.declared.node.SsuNode.{SsuNode}
use Rattle.ssu_ir.specs.declared.ssu.Ssu.{Ssu}
use Rattle.ssu_ir.specs.Tree.{Label, Node, Does, Forks, Ends}
use Rattle.ssu_ir.specs.Points.{Entry, At, nodes}
use Rattle.ssu_ir.specs.Slots.{Placed, DoAt, IfAt, EndAt, bare, bare_all, successor_list, weight, over, node_of, slot}
use Rattle.ssu_ir.specs.View.{labels_view}
use Rattle.ssu_ir.proofs.Trees.{arity}
use Rattle.ssu_ir.proofs.Reading.{Below}
use Rattle.ssu_liveness.specs.inner.Live.{label_tree}
use Rattle.ssu_liveness.specs.inner.PointIds.{slot_node, params_of}
use Rattle.ssu_liveness.proofs.Labels.{tree-at}
use Rattle.ssu_liveness.proofs.Kept.{length-view}
use Rattle.ucode_emit.specs.declared.point_ids.EmittedPoint.{EmittedPoint}
use Rattle.ucode_emit.specs.declared.point_ids.EmittedPoint.TheVariants.{Entry as EntrySpot, Node as NodeSpot}
use Rattle.ucode_emit.specs.inner.Marks.{Mark, mark, tree_marks, marks_from}
use Rattle.ucode_emit.specs.inner.EmittedPoints.{point_mark, on_stack, Counts, entries_of_points}

-- ---- stacks

pub top_of : {X : Type 0} (xs : List X) (x : X) → reverse (xs ++ x ∷ []) ≡ x ∷ reverse xs
top_of xs x = reverse-append xs (x ∷ [])

-- ---- trees that are made

abbrev pub weights : List Placed → List ℕ
weights [] = []
weights (p ∷ ps) = weight p ∷ weights ps

abbrev pub all_marks : List Placed → List Mark
all_marks [] = []
all_marks (p ∷ ps) = tree_marks (bare p) ++ all_marks ps

pub marks_one : (p : Placed) → all_marks (p ∷ []) ≡ tree_marks (bare p)
marks_one p = append-nil (tree_marks (bare p))

weighs_as : (p : Placed) → weight p ≡ nodes (bare p)
weighs_as (DoAt i s p) = ap (λ n. 1 + n) (weighs_as p)
weighs_as (IfAt i c x y p q) = ap (λ n. 1 + (n + weight q)) (weighs_as p) ∙ ap (λ n. 1 + (nodes (bare p) + n)) (weighs_as q)
weighs_as (EndAt i l) = refl

-- one node more over trees that are made
pub record Grown (m : Node) (n : ℕ) (top : Placed) (rest : List Placed) (new : List ℕ) : Type 0 where
  pub counts : reverse new ≡ weights (top ∷ rest)
  pub marks_ : mark (At m) n ∷ all_marks (successor_list top ++ rest) ≡ all_marks (top ∷ rest)

grown_at : (top : Placed) (m : Node) (rest : List Placed) (old new : List ℕ) (n : ℕ) → bare top ≡ over m (bare_all (successor_list top)) → length (successor_list top) ≡ arity m
    → reverse old ≡ weights (successor_list top ++ rest) → Counts m old new n → Grown m n top rest new
grown_at (DoAt i r p) (Does s) rest old new n e l o h =
    let same : r ≡ s = cc in
    let one : suc (weight p) ≡ 1 + weight p = omega arith in
    record {
      counts = h.1 (weight p) (weights rest) o ∙ ap (λ w. w ∷ weights rest) one;
      marks_ = ap (λ k. mark (At (Does s)) k ∷ (tree_marks (bare p) ++ all_marks rest)) h.0 ∙ ap (λ q. mark (At (Does q)) 0 ∷ (tree_marks (bare p) ++ all_marks rest)) (sym same);
    }
grown_at (DoAt i r p) (Forks c x y) rest old new n e l o h = absurd (omega arith)
grown_at (DoAt i r p) (Ends w) rest old new n e l o h = absurd (omega arith)
grown_at (IfAt i c x y p q) (Does s) rest old new n e l o h = absurd (omega arith)
grown_at (IfAt i c x y p q) (Forks d v w) rest old new n e l o h =
    let same : Forks c x y ≡ Forks d v w = cc in
    let g = h (weight p) (weight q) (weights rest) o in
    let one : suc (weight p + weight q) ≡ 1 + (weight p + weight q) = omega arith in
    let behind = tree_marks (bare p) ++ (tree_marks (bare q) ++ all_marks rest) in
    record {
      counts = g.1 ∙ ap (λ k. k ∷ weights rest) one;
      marks_ = ap (λ k. mark (At (Forks d v w)) k ∷ behind) (g.0 ∙ weighs_as p)
          ∙ ap (λ k. mark (At k) (nodes (bare p)) ∷ behind) (sym same)
          ∙ ap (λ l. mark (At (Forks c x y)) (nodes (bare p)) ∷ l) (sym (append_assoc (tree_marks (bare p)) (tree_marks (bare q)) (all_marks rest)));
    }
grown_at (IfAt i c x y p q) (Ends w) rest old new n e l o h = absurd (omega arith)
grown_at (EndAt i v) (Does s) rest old new n e l o h = absurd (omega arith)
grown_at (EndAt i v) (Forks c x y) rest old new n e l o h = absurd (omega arith)
grown_at (EndAt i v) (Ends w) rest old new n e l o h =
    let same : v ≡ w = cc in
    record {
      counts = h.1 ∙ ap (λ k. 1 ∷ k) o;
      marks_ = ap (λ k. mark (At (Ends w)) k ∷ all_marks rest) h.0 ∙ ap (λ q. mark (At (Ends q)) 0 ∷ all_marks rest) (sym same);
    }

-- the same, with the point on the stack
pub record Spotted (s : Ssu) (top : Placed) (rest : List Placed) (counts : List ℕ) (point_ids : List EmittedPoint) : Type 0 where
  pub counts_ : reverse counts ≡ weights (top ∷ rest)
  pub marks_ : on_stack s point_ids ≡ all_marks (top ∷ rest)

pub spotted : (s : Ssu) (top : Placed) (rest made : List Placed) (id : NodeId) (it : SsuNode) (old new : List ℕ) (n : ℕ) (point_ids point_ids' : List EmittedPoint)
    → made ≡ successor_list top ++ rest → Below s.nodes.slots top it → slot s.nodes.slots id.0 ≡ Some it → reverse old ≡ weights made → on_stack s point_ids ≡ all_marks made
    → Counts (node_of it) old new n → point_ids' ≡ point_ids ++ NodeSpot id n ∷ [] → Spotted s top rest new point_ids'
spotted s top rest made id it old new n point_ids point_ids' u b f w h c e =
    let g = grown_at top (node_of it) rest old new n b.tree b.many (w ∙ ap weights u) c in
    let emit_context : point_mark s (NodeSpot id n) ≡ mark (At (node_of it)) n = ap (λ o. mark (At (slot_node o)) n) f in
    record {
      counts_ = g.counts;
      marks_ = ap (on_stack s) e ∙ ap (map (point_mark s)) (top_of point_ids (NodeSpot id n))
          ∙ ap (λ q. q ∷ on_stack s point_ids) emit_context ∙ ap (λ l. mark (At (node_of it)) n ∷ l) (h ∙ ap all_marks u) ∙ g.marks_;
    }

-- ---- labels

pub some_label : (ls : List SsuLabel) (k : ℕ) → k < length ls → SsuLabel
some_label [] k l = absurd (omega (arith, l))
some_label (m ∷ ls) k l = m

-- one label more
pub label_more : (s : Ssu) (k : ℕ) (d : SsuLabel) (point_ids pushed new stack : List EmittedPoint) (goal : List Mark) → k < length s.labels.items → pushed ≡ point_ids ++ EntrySpot k ∷ []
    → on_stack s stack ≡ tree_marks (bare (label_tree s k)) → new ≡ pushed ++ reverse stack
    → map (point_mark s) point_ids ++ marks_from k (drop k (labels_view s)) ≡ goal → map (point_mark s) new ++ marks_from (k + 1) (drop (k + 1) (labels_view s)) ≡ goal
label_more s k d point_ids pushed new stack goal l p o n h =
    let view = labels_view s in
    let t = tree-at s k l in
    let it : Label = record { params = (get_or s.labels.items k d).params.items; body = bare (label_tree s k) } in
    let long = length-view s in
    let first : drop k view ≡ it ∷ drop (k + 1) view = drop_more view k it (omega (arith, long, l)) ∙ ap (λ x. x ∷ drop (k + 1) view) (t.view_is d it) in
    let next : suc k ≡ k + 1 = omega arith in
    let rest = marks_from (k + 1) (drop (k + 1) view) in
    let entry : map (point_mark s) pushed ≡ map (point_mark s) point_ids ++ mark (Entry k it.params) 0 ∷ [] =
    ap (map (point_mark s)) p ∙ map-append (point_mark s) point_ids (EntrySpot k ∷ [])
    ∙ ap (λ w. map (point_mark s) point_ids ++ mark (Entry k (params_of w)) 0 ∷ []) (slice_get-get_or s.labels.items k d l) in
    let mine : marks_from k (drop k view) ≡ mark (Entry k it.params) 0 ∷ (tree_marks it.body ++ rest) =
    ap (marks_from k) first ∙ ap (λ j. mark (Entry k it.params) 0 ∷ (tree_marks it.body ++ marks_from j (drop (k + 1) view))) next in
    ap (λ m. m ++ rest) (ap (map (point_mark s)) n ∙ map-append (point_mark s) pushed (reverse stack) ∙ ap (λ m. map (point_mark s) pushed ++ m) o ∙ ap (λ m. m ++ tree_marks it.body) entry)
    ∙ append_assoc (map (point_mark s) point_ids ++ mark (Entry k it.params) 0 ∷ []) (tree_marks it.body) rest
    ∙ append_assoc (map (point_mark s) point_ids) (mark (Entry k it.params) 0 ∷ []) (tree_marks it.body ++ rest)
    ∙ ap (λ m. map (point_mark s) point_ids ++ m) (sym mine) ∙ h

pub labels_done : (s : Ssu) (k : ℕ) (point_ids : List EmittedPoint) (goal : List Mark) → length s.labels.items ≤ k → map (point_mark s) point_ids ++ marks_from k (drop k (labels_view s)) ≡ goal → map (point_mark s) point_ids ≡ goal
labels_done s k point_ids goal l h =
    let long = length-view s in
    sym (append-nil (map (point_mark s) point_ids)) ∙ ap (λ m. map (point_mark s) point_ids ++ marks_from k m) (sym (drop_all k (labels_view s) (omega (arith, long, l)))) ∙ h

-- ---- where labels begin

pub entries_both : (k n : ℕ) (a b : List EmittedPoint) → n ≡ k + length a → entries_of_points k (a ++ b) ≡ entries_of_points k a ++ entries_of_points n b
entries_both k n [] b e = let z : k ≡ n = omega (arith, e) in ap (λ j. entries_of_points j b) z
entries_both k n (EntrySpot l ∷ a) b e = let z : n ≡ suc k + length a = omega (arith, e) in ap (λ l. k ∷ l) (entries_both (suc k) n a b z)
entries_both k n (NodeSpot id m ∷ a) b e = let z : n ≡ suc k + length a = omega (arith, e) in entries_both (suc k) n a b z

pub entries_turn : (point_ids : List EmittedPoint) (k : ℕ) (d : EmittedPoint) (old new : List ℕ) → k < length point_ids → old ≡ entries_of_points 0 (take k point_ids) → new ≡ old ++ entries_of_points k (get_or point_ids k d ∷ []) → new ≡ entries_of_points 0 (take (k + 1) point_ids)
entries_turn point_ids k d old new l o n =
    let long : length (take k point_ids) ≡ k = length-take-le k point_ids (omega (arith, l)) in
    let z : k ≡ 0 + length (take k point_ids) = omega (arith, long) in
    n ∙ ap (λ m. m ++ entries_of_points k (get_or point_ids k d ∷ [])) o ∙ sym (entries_both 0 k (take k point_ids) (get_or point_ids k d ∷ []) z) ∙ ap (entries_of_points 0) (sym (take_more point_ids k d l))

pub all_reverse : {X : Type 0} (P : X → Type 0) (xs : List X) → All P xs → All P (reverse xs)
all_reverse P [] h = All-nil P
all_reverse P (x ∷ xs) h =
    let same : reverse (x ∷ xs) ≡ reverse xs ++ x ∷ [] = reverse-append (x ∷ []) xs in
    subst (λ l. All P l) (sym same) (All-push P (reverse xs) x (all_reverse P xs (All-tail P x xs h)) (All-head P x xs h))
