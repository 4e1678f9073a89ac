-- The code of the points, one point after the other.
use Rattle.std.proofs.Common.{◌≡◌, ℕ, suc, ◌+◌, ◌<◌, ◌≤◌, List, [], ◌∷◌, ◌++◌, length, map, take, drop, get_or, Some, None, Result, Ok, Err, OnOk, Bor, refl, sym, ap, ◌∙◌, subst, append_assoc, slice_get, arith}
use Rattle.std.specs.Prelude.{slice_index_or, nat_le}
use Rattle.std.specs.declared.vec.Vec.{Vec}
use Rattle.std.specs.declared.alloc.Global.{Global}
use Rattle.std.proofs.lemmas.Bool.{and_parts}
use Rattle.std.proofs.lemmas.List.{take_more, length-take-le, append-nil, get_or_default, map-append, length-map}
use Rattle.std.proofs.lemmas.Option.{slice_get-get_or, slice_get_within}
use Rattle.uc_isa.specs.declared.instruction.Instr.{Instr}
use Rattle.ssu_ir.specs.declared.ssu.Ssu.{Ssu}
use Rattle.ssu_ir.specs.Tree.{Jump, Halt, Tree, Do, If, End, Label, Node, Does, Forks, Ends}
use Rattle.ssu_ir.specs.Points.{Names, PointKind, Entry, At, nodes}
use Rattle.ssu_ir.specs.Single.{takes_as_many}
use Rattle.ssu_ir.specs.View.{labels_view}
use Rattle.place_plan.specs.declared.place.First.{First}
use Rattle.place_plan.specs.declared.place.Serve.{Serve}
use Rattle.place_plan.specs.declared.place.Pass.{Pass}
use Rattle.place_plan.specs.Plan.{Plan, serve, first_in, pass_in}
use Rattle.ucode_emit.specs.Moves.{Move}
use Rattle.ucode_emit.specs.declared.point_ids.EmittedPoint.{EmittedPoint}
use Rattle.ucode_emit.specs.declared.point_ids.EmittedPoint.TheVariants.{Entry as EntrySpot, Node as NodeSpot}
use Rattle.ucode_emit.specs.Pieces.{single_moves, all_copies, entry_point, Sequences, sequence_at, parallel_moves}
use Rattle.ucode_emit.specs.Emits.{IsSequence, AreSequences, entries_from}
use Rattle.ucode_emit.specs.inner.Layers.{Placed, PointsAt}
use Rattle.ucode_emit.specs.inner.DraftItems.{draft}
use Rattle.ucode_emit.specs.declared.walk.Points.{Points}
use Rattle.ucode_emit.specs.inner.Cursors.{place_operands, IsCut, AreServed}
use Rattle.ucode_emit.specs.inner.EmitContext.{IsEmitContext, CanAll, CanNode, end_items}
use Rattle.ucode_emit.specs.inner.Marks.{Mark, mark, tree_marks, marks_from, marks, node_moves, place_moves, point_piece, pieces, joined, begins}
use Rattle.ucode_emit.specs.inner.EmittedPoints.{point_mark, entries_of_points}
use Rattle.ucode_emit.specs.inner.Walk.{AreKnown, mark_at, moves_of, place_branch, place_items, CanPlace, pieces_below, IsDrafted}
use Rattle.ucode_emit.proofs.CanPieces.{can_step, can_fork, can_last, can_front}
use Rattle.ucode_emit.proofs.LawfulPieces.{node_here, takes_some, sequence_here}
use Rattle.ucode_emit.proofs.Marked.{pieces_both, joined_both, begins_both, entry_there}
use Rattle.ucode_emit.proofs.Sequenced.{moves_at, as_many_moves, got_map, Come, point_id_at, below_marks, mark_here, spot_within, spot_comes}
use Rattle.ucode_emit.proofs.Stood.{root_node, StoodPlace, stood_at}

-- ---- where labels begin

abbrev place_entries : ℕ → PointKind → List ℕ
place_entries k (Entry l params) = k ∷ []
place_entries k (At n) = []

abbrev mark_entries : ℕ → List Mark → List ℕ
mark_entries k [] = []
mark_entries k (q ∷ qs) = place_entries k q.place ++ mark_entries (suc k) qs

by_marks : (s : Ssu) (k : ℕ) (point_ids : List EmittedPoint) → entries_of_points k point_ids ≡ mark_entries k (map (point_mark s) point_ids)
by_marks s k [] = refl
by_marks s k (EntrySpot l ∷ point_ids) = ap (λ m. k ∷ m) (by_marks s (suc k) point_ids)
by_marks s k (NodeSpot id n ∷ point_ids) = by_marks s (suc k) point_ids

none_in : (k : ℕ) (t : Tree) (rest : List Mark) → mark_entries k (tree_marks t ++ rest) ≡ mark_entries (k + nodes t) rest
none_in k (Do s t) rest = let z : suc k + nodes t ≡ k + (1 + nodes t) = omega arith in none_in (suc k) t rest ∙ ap (λ j. mark_entries j rest) z
none_in k (If c x y t u) rest =
    let z : suc k + nodes t + nodes u ≡ k + (1 + (nodes t + nodes u)) = omega arith in
    ap (mark_entries (suc k)) (append_assoc (tree_marks t) (tree_marks u) rest)
    ∙ none_in (suc k) t (tree_marks u ++ rest) ∙ none_in (suc k + nodes t) u rest ∙ ap (λ j. mark_entries j rest) z
none_in k (End l) rest = let z : suc k ≡ k + 1 = omega arith in ap (λ j. mark_entries j rest) z

entries_in : (k l : ℕ) (ls : List Label) → mark_entries k (marks_from l ls) ≡ entries_from k ls
entries_in k l [] = refl
entries_in k l (x ∷ ls) = ap (λ m. k ∷ m) (none_in (suc k) x.body (marks_from (suc l) ls) ∙ entries_in (suc k + nodes x.body) (suc l) ls)

pub entries_known : (s : Ssu) (point_ids point_ids' : List EmittedPoint) (entries : List ℕ) → map (point_mark s) point_ids ≡ marks (labels_view s) → point_ids' ≡ point_ids → entries ≡ entries_of_points 0 point_ids' → entries ≡ entries_from 0 (labels_view s)
entries_known s point_ids point_ids' entries e f g = g ∙ ap (entries_of_points 0) f ∙ by_marks s 0 point_ids ∙ ap (mark_entries 0) e ∙ entries_in 0 0 (labels_view s)

-- ---- what is asked of a point's piece

can_tree : (labels : List Label) (p : Plan) (k : ℕ) (of : Names) (above : List ℕ) (t : Tree) (ms : List Move) → Placed labels p → PointsAt labels k of above t → IsSequence (node_moves p k (root_node t)) ms → CanNode p k ms (root_node t)
can_tree labels p k of above (Do s t) ms h a q = can_step labels p k of above s t ms h a
can_tree labels p k of above (If c x y t u) ms h a q = can_fork labels p k of above c x y t u ms h a
can_tree labels p k of above (End l) ms h a q = can_last labels p k of above l ms h a q

pub can_place : (labels : List Label) (p : Plan) (mss : Sequences) (k n : ℕ) (q : PointKind) → Placed labels p → AreSequences (parallel_moves p labels) mss → StoodPlace labels p k q n → IsSequence (place_moves p k q) (sequence_at mss k)
    → CanPlace p k (sequence_at mss k) q
can_place labels p mss k n (Entry l params) h r s i =
    subst (λ xs. CanAll (single_moves None (sequence_at mss k) ++ all_copies p k xs)) s.params_ (can_front labels p mss l k s.it h r s.there s.begins_ s.moves s.body)
can_place labels p mss k n (At it) h r s i =
    subst (λ m. CanNode p k (sequence_at mss k) m) s.root
    (can_tree labels p k s.of s.above s.tree (sequence_at mss k) h s.points_ (subst (λ m. IsSequence (node_moves p k m) (sequence_at mss k)) (sym s.root) i))

jump_below : (labels : List Label) (p : Plan) (k : ℕ) (of : Names) (above : List ℕ) (l : ℕ) (xs : List ℕ) → Placed labels p → PointsAt labels k of above (End (Jump l xs)) → l < length labels
jump_below labels p k of above l xs h a =
    let f = node_here labels p k of above (End (Jump l xs)) h a in
    let to = takes_some (length xs) (slice_get labels l) (and_parts (nat_le 1 l) (takes_as_many (length xs) (slice_get labels l)) f.fits).1 in
    slice_get_within labels l to.0 to.1

jumps_within : (labels : List Label) (p : Plan) (k : ℕ) (of : Names) (above : List ℕ) (t : Tree) (l : ℕ) (xs : List ℕ) → Placed labels p → PointsAt labels k of above t → root_node t ≡ Ends (Jump l xs) → l < length labels
jumps_within labels p k of above (Do s t) l xs h a e = absurd (cc)
jumps_within labels p k of above (If c x y t u) l xs h a e = absurd (cc)
jumps_within labels p k of above (End w) l xs h a e =
    let same : w ≡ Jump l xs = cc in jump_below labels p k of above l xs h (subst (λ v. PointsAt labels k of above (End v)) same a)

-- the piece of a point by the point to which it branches
node_same : (labels : List Label) (p : Plan) (k n : ℕ) (it : Node) (entries : List ℕ) (ms : List Move) → Placed labels p → StoodPlace labels p k (At it) n → entries ≡ entries_from 0 labels
    → place_items p k (place_branch k n entries (At it)) ms (At it) ≡ point_piece labels p k (mark (At it) n) ms
node_same labels p k n (Does s) entries ms h s' e = refl
node_same labels p k n (Forks c x y) entries ms h s e = refl
node_same labels p k n (Ends (Jump l xs)) entries ms h s e =
    let l' = jumps_within labels p k s.of s.above s.tree l xs h s.points_ s.root in
    let z : 0 + entry_point labels l ≡ entry_point labels l = omega arith in
    ap (λ to. end_items p k to ms (Jump l xs)) (ap (λ m. slice_index_or m l 0) e ∙ entry_there 0 l labels l' ∙ z)
node_same labels p k n (Ends (Halt c xs)) entries ms h s e = refl

pub place_same : (labels : List Label) (p : Plan) (k n : ℕ) (q : PointKind) (entries : List ℕ) (ms : List Move) → Placed labels p → StoodPlace labels p k q n → entries ≡ entries_from 0 labels
    → place_items p k (place_branch k n entries q) ms q ≡ point_piece labels p k (mark q n) ms
place_same labels p k n (Entry l params) entries ms h s e = refl
place_same labels p k n (At it) entries ms h s e = node_same labels p k n it entries ms h s e

-- ---- the sequence of a point

pub sequence_there : (labels : List Label) (p : Plan) (mss : Sequences) (k : ℕ) → AreSequences (parallel_moves p labels) mss → k < length (marks labels) → IsSequence (place_moves p k (mark_at labels k).place) (sequence_at mss k)
sequence_there labels p mss k r l =
    let many = as_many_moves labels p in
    sequence_here (parallel_moves p labels) mss k (place_moves p k (mark_at labels k).place) r (slice_get-get_or (parallel_moves p labels) k [] (omega (arith, many, l)) ∙ ap (λ ms. Some ms) (moves_at labels p k l))

pub sequences_long : (labels : List Label) (p : Plan) (vs : List (Vec Move Global)) → AreSequences (parallel_moves p labels) (moves_of vs) → length vs ≡ length (marks labels)
sequences_long labels p vs r = sym (length-map vs (λ (v : Vec Move Global). v.items)) ∙ r.as_many ∙ as_many_moves labels p

pub sequence_kept : (vs : List (Vec Move Global)) (k : ℕ) (v : Vec Move Global) → k < length vs → get_or vs k v ≡ v → v.items ≡ sequence_at (moves_of vs) k
sequence_kept vs k v l e = got_map (λ (w : Vec Move Global). w.items) vs k v [] (slice_get-get_or vs k v l ∙ ap (λ w. Some w) e)

-- ---- one point more

pub drafted_none : (labels : List Label) (p : Plan) (mss : Sequences) (code : List Instr) (places : List ℕ) → code ≡ [] → places ≡ [] → IsDrafted labels p mss 0 code places
drafted_none labels p mss code places e f = record { code_ = e; places_ = f }

pub drafted_more : (labels : List Label) (p : Plan) (mss : Sequences) (k : ℕ) (code code' : List Instr) (places places' : List ℕ) (at : ℕ) → k < length (marks labels) → IsDrafted labels p mss k code places
    → code' ≡ code ++ map draft (point_piece labels p k (mark_at labels k) (sequence_at mss k)) → at ≡ length code → places' ≡ places ++ at ∷ [] → IsDrafted labels p mss (k + 1) code' places'
drafted_more labels p mss k code code' places places' at l h e a f =
    let q = mark_at labels k in
    let x = point_piece labels p k q (sequence_at mss k) in
    let was = pieces_below labels p mss k in
    let few : length (take k (marks labels)) ≡ k = length-take-le k (marks labels) (omega (arith, l)) in
    let z : k ≡ 0 + length (take k (marks labels)) = omega (arith, few) in
    let split : pieces_below labels p mss (k + 1) ≡ was ++ x ∷ [] =
    ap (pieces labels p mss 0) (take_more (marks labels) k (mark (Entry 0 []) 0) l) ∙ pieces_both labels p mss 0 k (take k (marks labels)) (q ∷ []) z in
    let items : joined (pieces_below labels p mss (k + 1)) ≡ joined was ++ x = ap joined split ∙ joined_both was (x ∷ []) ∙ ap (λ m. joined was ++ m) (append-nil x) in
    let emit_context : 0 + length (joined was) ≡ at = let m = length-map (joined was) draft in let n = ap length h.code_ in omega (arith, m, n, a) in
    record {
      code_ = e ∙ ap (λ m. m ++ map draft x) h.code_ ∙ sym (map-append draft (joined was) x) ∙ ap (map draft) (sym items);
      places_ = f ∙ ap (λ m. m ++ at ∷ []) h.places_ ∙ ap (λ n. begins 0 was ++ n ∷ []) (sym emit_context) ∙ sym (begins_both 0 was (x ∷ [])) ∙ ap (begins 0) (sym split);
    }

-- ---- a point as the code comes to it

pub spot_same : (point_ids : List EmittedPoint) (k : ℕ) (point_id : EmittedPoint) → k < length point_ids → point_id ≡ get_or point_ids k point_id → point_id ≡ point_id_at point_ids k
spot_same point_ids k point_id l e = e ∙ get_or_default point_ids k point_id (EntrySpot 0) l

pub mark_now : (s : Ssu) (p : Plan) (points : Points) (k : ℕ) (point_id : EmittedPoint) → AreKnown s p points → k < length points.point_ids.items → point_id ≡ get_or points.point_ids.items k point_id → point_mark s point_id ≡ mark_at (labels_view s) k
mark_now s p points k point_id h l e = ap (point_mark s) (spot_same points.point_ids.items k point_id l e) ∙ mark_here s points.point_ids.items k h.point_ids l

pub now_within : (s : Ssu) (p : Plan) (points : Points) (k at m : ℕ) (point_id : EmittedPoint) (all : List Serve) → AreKnown s p points → k < length points.point_ids.items → point_id ≡ get_or points.point_ids.items k point_id
    → AreServed p.serves at k (drop k (marks (labels_view s))) → m ≡ place_operands (point_mark s point_id).place → all ≡ p.serves → at + m ≤ length all
now_within s p points k at m point_id all h l e c f g =
    spot_within s p points.point_ids.items k at m all h.point_ids l c (f ∙ ap (λ r. place_operands (point_mark s r).place) (spot_same points.point_ids.items k point_id l e)) g

pub now_comes : (s : Ssu) (p : Plan) (points : Points) (k at n m : ℕ) (point_id : EmittedPoint) (ss all : List Serve) → Placed (labels_view s) p → AreKnown s p points → k < length points.point_ids.items → point_id ≡ get_or points.point_ids.items k point_id
    → AreServed p.serves at k (drop k (marks (labels_view s))) → m ≡ place_operands (point_mark s point_id).place → n ≡ at + m → all ≡ p.serves → ss ≡ take m (drop at all) → Come (labels_view s) p k at n ss (point_mark s point_id)
now_comes s p points k at n m point_id ss all h a l e c f g b d =
    let same = spot_same points.point_ids.items k point_id l e in
    subst (λ r. Come (labels_view s) p k at n ss (point_mark s r)) (sym same)
    (spot_comes s p points.point_ids.items k at n m ss all h a.point_ids l c (f ∙ ap (λ r. place_operands (point_mark s r).place) same) g b d)

pub now_here : (p : Plan) (labels : List Label) (k at n m point first to : ℕ) (ss : Bor (List Serve)) (q : Mark) (singles : Bor (List Move)) (firsts : List First) (passes : List Pass) (it : Pass)
    → Come labels p k at n ss.now q → point ≡ k → first ≡ first_in firsts point → firsts ≡ p.firsts → it ≡ pass_in passes point → passes ≡ p.passes
    → IsEmitContext p (place_operands q.place) (record { point = point; serves = ss; first = first; pass = it; singles = singles; to = to })
now_here p labels k at n m point first to ss q singles firsts passes it c e f a g b = record {
  as_many = c.long;
  serves = λ i s h. ap (λ j. serve p j i) e ∙ c.each i s h;
  first = f ∙ ap (λ l. first_in l point) a;
  pass = g ∙ ap (λ l. pass_in l point) b;
}

pub now_can : (s : Ssu) (p : Plan) (points : Points) (k point : ℕ) (q : Mark) (ms : List Move) → Placed (labels_view s) p → AreKnown s p points → k < length points.point_ids.items → q ≡ mark_at (labels_view s) k → point ≡ k
    → ms ≡ sequence_at (moves_of points.sequences.items) k → CanPlace p point ms q.place
now_can s p points k point q ms h a l e f g =
    let labels = labels_view s in
    let within = below_marks s points.point_ids.items k a.point_ids l in
    let it = mark_at labels k in
    let mss = moves_of points.sequences.items in
    let can = can_place labels p mss k it.first_arm it.place h a.sequences (stood_at labels p k within) (sequence_there labels p mss k a.sequences within) in
    subst (λ r. CanPlace p point ms r.place) (sym e) (subst (λ j. CanPlace p j ms it.place) (sym f) (subst (λ m. CanPlace p k m it.place) (sym g) can))

pub now_same : (s : Ssu) (p : Plan) (points : Points) (k point to : ℕ) (q : Mark) (entries : List ℕ) (ms : List Move) → Placed (labels_view s) p → AreKnown s p points → k < length points.point_ids.items → q ≡ mark_at (labels_view s) k → point ≡ k
    → ms ≡ sequence_at (moves_of points.sequences.items) k → entries ≡ points.entries.items → to ≡ place_branch point q.first_arm entries q.place
    → place_items p point to ms q.place ≡ point_piece (labels_view s) p k (mark_at (labels_view s) k) (sequence_at (moves_of points.sequences.items) k)
now_same s p points k point to q entries ms h a l e f g b d =
    let labels = labels_view s in
    let within = below_marks s points.point_ids.items k a.point_ids l in
    let it = mark_at labels k in
    ap (λ t. place_items p point t ms q.place) d
    ∙ ap (λ r. place_items p point (place_branch point r.first_arm entries r.place) ms r.place) e
    ∙ ap (λ j. place_items p j (place_branch j it.first_arm entries it.place) ms it.place) f
    ∙ place_same labels p k it.first_arm it.place entries ms h (stood_at labels p k within) (b ∙ a.entries)
    ∙ ap (λ m. point_piece labels p k it m) g

pub cut_on : {X : Type 0} (point : X → ℕ) (all all' : List X) (at k n : ℕ) → IsCut point all at (suc n) → all ≡ all' → n ≡ k → IsCut point all' at (k + 1)
cut_on point all all' at k n c e f =
    let z : suc n ≡ k + 1 = omega (arith, f) in
    subst (λ l. IsCut point l at (k + 1)) e (subst (λ j. IsCut point all at j) z c)

pub always : {E : Type 0} (r : Result (Unit {0}) E) (P : Type 0) → P → OnOk r P
always (Ok u) P h = h
always (Err e) P h = tt
