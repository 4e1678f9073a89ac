-- The single moves of points, one point after the other.
use Rattle.std.proofs.Common.{◌≡◌, ℕ, zero, suc, ◌+◌, ◌<◌, ◌≤◌, List, [], ◌∷◌, ◌++◌, length, map, take, drop, get_or, Some, refl, sym, ap, ◌∙◌, subst, slice_get, arith}
use Rattle.std.specs.declared.vec.Vec.{Vec}
use Rattle.std.specs.declared.alloc.Global.{Global}
use Rattle.std.proofs.lemmas.List.{drop_more, map-append, length-map, length-append}
use Rattle.std.proofs.lemmas.Option.{none-some, same_Some, slice_get-get_or}
use Rattle.ssu_ir.specs.declared.ssu.Ssu.{Ssu}
use Rattle.ssu_ir.specs.Tree.{Last, Jump, Halt, Label, Does, Forks, Ends, last_uses}
use Rattle.ssu_ir.specs.Points.{PointKind, Entry, At}
use Rattle.ssu_ir.specs.View.{labels_view}
use Rattle.place_plan.specs.declared.place.Serve.{Serve}
use Rattle.place_plan.specs.Plan.{Plan, serve}
use Rattle.ucode_emit.specs.Moves.{Move, HaveOwnTargets, SpareTemporary, none}
use Rattle.ucode_emit.specs.declared.point_ids.EmittedPoint.{EmittedPoint}
use Rattle.ucode_emit.specs.declared.point_ids.EmittedPoint.TheVariants.{Entry as EntrySpot}
use Rattle.ucode_emit.specs.Pieces.{Sequences, parallel_moves, last_moves}
use Rattle.ucode_emit.specs.Emits.{IsSequence, AreSequences}
use Rattle.ucode_emit.specs.inner.Layers.{Placed}
use Rattle.ucode_emit.specs.inner.EmitContext.{ends}
use Rattle.ucode_emit.specs.inner.Marks.{Mark, mark, marks, place_moves, marks_moves}
use Rattle.ucode_emit.specs.inner.EmittedPoints.{point_mark}
use Rattle.ucode_emit.specs.inner.Cursors.{place_operands, AreServed}
use Rattle.ucode_emit.specs.inner.Walk.{place_ends, HasFew, moves_of, mark_at}
use Rattle.ucode_emit.proofs.Entries.{few_params}
use Rattle.ucode_emit.proofs.EntriesMoves.{sequenced}
use Rattle.ucode_emit.proofs.CanPieces.{ends_served}
use Rattle.ucode_emit.proofs.Marked.{all_moves}
use Rattle.ucode_emit.proofs.Cursored.{Next, served_next}
use Rattle.ucode_emit.proofs.Stood.{StoodPlace, stood_at}

-- ---- the parallel move of a point

pub moves_long : (p : Plan) (n : ℕ) (qs : List Mark) → length (marks_moves p n qs) ≡ length qs
moves_long p n [] = refl
moves_long p n (q ∷ qs) = ap suc (moves_long p (suc n) qs)

moves_get : (p : Plan) (n k : ℕ) (qs : List Mark) (d : Mark) → k < length qs → get_or (marks_moves p n qs) k [] ≡ place_moves p (n + k) (get_or qs k d).place
moves_get p n k [] d l = absurd (omega (arith, l))
moves_get p n zero (q ∷ qs) d l = let z : n ≡ n + 0 = omega arith in ap (λ j. place_moves p j q.place) z
moves_get p n (suc k) (q ∷ qs) d l = let z : suc n + k ≡ n + suc k = omega arith in moves_get p (suc n) k qs d (omega (arith, l)) ∙ ap (λ j. place_moves p j (get_or qs k d).place) z

pub moves_at : (labels : List Label) (p : Plan) (k : ℕ) → k < length (marks labels) → get_or (parallel_moves p labels) k [] ≡ place_moves p k (mark_at labels k).place
moves_at labels p k l =
    let z : 0 + k ≡ k = omega arith in
    ap (λ m. get_or m k []) (sym (all_moves p labels)) ∙ moves_get p 0 k (marks labels) (mark (Entry 0 []) 0) l ∙ ap (λ j. place_moves p j (mark_at labels k).place) z

pub as_many_moves : (labels : List Label) (p : Plan) → length (parallel_moves p labels) ≡ length (marks labels)
as_many_moves labels p = ap length (sym (all_moves p labels)) ∙ moves_long p 0 (marks labels)

-- they can be put in sequence
pub orderly : (labels : List Label) (p : Plan) (k : ℕ) → Placed labels p → k < length (marks labels) → HaveOwnTargets (place_moves p k (mark_at labels k).place) × SpareTemporary (place_moves p k (mark_at labels k).place)
orderly labels p k h l =
    let m = as_many_moves labels p in
    subst (λ ms. HaveOwnTargets ms × SpareTemporary ms) (moves_at labels p k l) (sequenced labels p h k [] (omega (arith, m, l)))

-- ---- by the serves of its operands

last_by : (p : Plan) (k : ℕ) (ss : List Serve) (l : Last) → length ss ≡ length (last_uses l) → ((i : ℕ) (s : Serve) → slice_get ss i ≡ Some s → serve p k i ≡ s) → ends ss ≡ last_moves p k l
last_by p k ss (Jump l xs) n h = ends_served p k (length xs) ss n h
last_by p k ss (Halt e xs) n h = ends_served p k (length xs) ss n h

pub place_by : (p : Plan) (k : ℕ) (ss : List Serve) (q : PointKind) → length ss ≡ place_operands q → ((i : ℕ) (s : Serve) → slice_get ss i ≡ Some s → serve p k i ≡ s) → place_ends p ss q ≡ place_moves p k q
place_by p k ss (Entry zero params) n h = refl
place_by p k ss (Entry (suc l) params) n h = refl
place_by p k ss (At (Does s)) n h = refl
place_by p k ss (At (Forks c x y)) n h = refl
place_by p k ss (At (Ends l)) n h = last_by p k ss l n h

few_at : (labels : List Label) (p : Plan) (k n : ℕ) (q : PointKind) → Placed labels p → StoodPlace labels p k q n → HasFew q
few_at labels p k n (Entry zero params) h s = subst (λ xs. length xs ≤ 8) s.params_ (few_params labels p s.it h s.there)
few_at labels p k n (Entry (suc l) params) h s = tt
few_at labels p k n (At it) h s = tt

-- ---- a point as the walk comes to it

pub got_map : {X Y : Type 0} (f : X → Y) (xs : List X) (k : ℕ) (x : X) (d : Y) → slice_get xs k ≡ Some x → f x ≡ get_or (map f xs) k d
got_map f [] k x d e = absurd (none-some x e)
got_map f (y ∷ xs) zero x d e = ap f (sym (same_Some y x e))
got_map f (y ∷ xs) (suc k) x d e = got_map f xs k x d e

pub mark_of : (s : Ssu) (point_ids : List EmittedPoint) (k : ℕ) (point_id : EmittedPoint) → map (point_mark s) point_ids ≡ marks (labels_view s) → slice_get point_ids k ≡ Some point_id → point_mark s point_id ≡ mark_at (labels_view s) k
mark_of s point_ids k point_id e f = got_map (point_mark s) point_ids k point_id (mark (Entry 0 []) 0) f ∙ ap (λ l. get_or l k (mark (Entry 0 []) 0)) e

-- what is known where a point's serves are taken
pub record Come (labels : List Label) (p : Plan) (k at n : ℕ) (ss : List Serve) (q : Mark) : Type 0 where
  pub long : length ss ≡ place_operands q.place
  pub each : (i : ℕ) (s : Serve) → slice_get ss i ≡ Some s → serve p k i ≡ s
  pub ends_ : place_ends p ss q.place ≡ place_moves p k q.place
  pub few : HasFew q.place
  pub targets : HaveOwnTargets (place_ends p ss q.place)
  pub spare : SpareTemporary (place_ends p ss q.place)
  pub next : AreServed p.serves n (k + 1) (drop (k + 1) (marks labels))

-- the operands are within the list
pub come_within : (labels : List Label) (p : Plan) (k at : ℕ) → k < length (marks labels) → AreServed p.serves at k (drop k (marks labels)) → Next p.serves at k (place_operands (mark_at labels k).place) (drop (k + 1) (marks labels))
come_within labels p k at l c =
    let split : drop k (marks labels) ≡ mark_at labels k ∷ drop (k + 1) (marks labels) = drop_more (marks labels) k (mark (Entry 0 []) 0) l in
    served_next p.serves at k (mark_at labels k) (drop (k + 1) (marks labels)) (subst (λ qs. AreServed p.serves at k qs) split c)

pub come : (labels : List Label) (p : Plan) (k at n : ℕ) (ss : List Serve) → Placed labels p → k < length (marks labels) → AreServed p.serves at k (drop k (marks labels))
    → n ≡ at + place_operands (mark_at labels k).place → ss ≡ take (place_operands (mark_at labels k).place) (drop at p.serves) → Come labels p k at n ss (mark_at labels k)
come labels p k at n ss h l c e f =
    let x = come_within labels p k at l c in
    let q = mark_at labels k in
    let same : ss ≡ x.mine = f ∙ x.slice in
    let long : length ss ≡ place_operands q.place = ap length same ∙ x.long in
    let each : (i : ℕ) (s : Serve) → slice_get ss i ≡ Some s → serve p k i ≡ s = λ i s g. x.each i s (ap (λ m. slice_get m i) (sym same) ∙ g) in
    let ends' = place_by p k ss q.place long each in
    let o = orderly labels p k h l in
    let next : suc k ≡ k + 1 = omega arith in
    record {
      long = long;
      each = each;
      ends_ = ends';
      few = few_at labels p k q.first_arm q.place h (stood_at labels p k l);
      targets = subst HaveOwnTargets (sym ends') o.0;
      spare = subst SpareTemporary (sym ends') o.1;
      next = subst (λ m. AreServed p.serves m (k + 1) (drop (k + 1) (marks labels))) (sym e)
          (subst (λ j. AreServed p.serves (at + place_operands q.place) j (drop (k + 1) (marks labels))) next x.further_);
    }

-- the same, by the point that the walk has before it
abbrev pub point_id_at : List EmittedPoint → ℕ → EmittedPoint
point_id_at point_ids k = get_or point_ids k (EntrySpot 0)

pub below_marks : (s : Ssu) (point_ids : List EmittedPoint) (k : ℕ) → map (point_mark s) point_ids ≡ marks (labels_view s) → k < length point_ids → k < length (marks (labels_view s))
below_marks s point_ids k e l = let m = length-map point_ids (point_mark s) in let n = ap length e in omega (arith, m, n, l)

pub mark_here : (s : Ssu) (point_ids : List EmittedPoint) (k : ℕ) → map (point_mark s) point_ids ≡ marks (labels_view s) → k < length point_ids → point_mark s (point_id_at point_ids k) ≡ mark_at (labels_view s) k
mark_here s point_ids k e l = mark_of s point_ids k (point_id_at point_ids k) e (slice_get-get_or point_ids k (EntrySpot 0) l)

pub spot_within : (s : Ssu) (p : Plan) (point_ids : List EmittedPoint) (k at m : ℕ) (all : List Serve) → map (point_mark s) point_ids ≡ marks (labels_view s) → k < length point_ids → AreServed p.serves at k (drop k (marks (labels_view s)))
    → m ≡ place_operands (point_mark s (point_id_at point_ids k)).place → all ≡ p.serves → at + m ≤ length all
spot_within s p point_ids k at m all e l c f g =
    let x = come_within (labels_view s) p k at (below_marks s point_ids k e l) c in
    let w = x.within in
    let same : m ≡ place_operands (mark_at (labels_view s) k).place = f ∙ ap (λ (q : Mark). place_operands q.place) (mark_here s point_ids k e l) in
    let long = ap length g in
    omega (arith, w, same, long)

pub spot_comes : (s : Ssu) (p : Plan) (point_ids : List EmittedPoint) (k at n m : ℕ) (ss all : List Serve) → Placed (labels_view s) p → map (point_mark s) point_ids ≡ marks (labels_view s) → k < length point_ids
    → AreServed p.serves at k (drop k (marks (labels_view s))) → m ≡ place_operands (point_mark s (point_id_at point_ids k)).place → n ≡ at + m → all ≡ p.serves → ss ≡ take m (drop at all)
    → Come (labels_view s) p k at n ss (point_mark s (point_id_at point_ids k))
spot_comes s p point_ids k at n m ss all h e l c f g a b =
    let emit_context = mark_here s point_ids k e l in
    let same : m ≡ place_operands (mark_at (labels_view s) k).place = f ∙ ap (λ (q : Mark). place_operands q.place) emit_context in
    subst (λ q. Come (labels_view s) p k at n ss q) (sym emit_context)
    (come (labels_view s) p k at n ss h (below_marks s point_ids k e l) c (g ∙ ap (λ i. at + i) same) (b ∙ ap (λ r. take m (drop at r)) a ∙ ap (λ i. take i (drop at p.serves)) same))

-- ---- the sequences of the points so far

pub record SoFar (labels : List Label) (p : Plan) (k : ℕ) (mss : Sequences) : Type 0 where
  pub as_many_ : length mss ≡ k
  pub each : (i : ℕ) (moves ms : List Move) → slice_get (parallel_moves p labels) i ≡ Some moves → slice_get mss i ≡ Some ms → IsSequence moves ms

pub so_far_none : (labels : List Label) (p : Plan) (mss : Sequences) → mss ≡ [] → SoFar labels p 0 mss
so_far_none labels p mss e = record {
  as_many_ = ap length e;
  each = λ i moves ms f g. absurd (none-some ms (ap (λ m. slice_get m i) (sym e) ∙ g));
}

-- of a list with one element more, what holds of the elements before and of the last
last_of : {X : Type 0} (xs : List X) (x : X) (P : ℕ → X → Type 0) → ((i : ℕ) (y : X) → slice_get xs i ≡ Some y → P i y) → P (length xs) x → (i : ℕ) (y : X) → slice_get (xs ++ x ∷ []) i ≡ Some y → P i y
last_of [] x P h l zero y e = subst (P 0) (same_Some x y e) l
last_of [] x P h l (suc i) y e = absurd (none-some y e)
last_of (z ∷ xs) x P h l zero y e = h zero y e
last_of (z ∷ xs) x P h l (suc i) y e = last_of xs x (λ j w. P (suc j) w) (λ j w f. h (suc j) w f) l i y e

last_case : (labels : List Label) (p : Plan) (k : ℕ) (mss : Sequences) (new : List Move) → SoFar labels p k mss → ((moves : List Move) → slice_get (parallel_moves p labels) k ≡ Some moves → IsSequence moves new)
    → (i : ℕ) (moves ms : List Move) → slice_get (parallel_moves p labels) i ≡ Some moves → slice_get (mss ++ new ∷ []) i ≡ Some ms → IsSequence moves ms
last_case labels p k mss new h n i moves ms f g = last_of mss new (λ j m. (ws : List Move) → slice_get (parallel_moves p labels) j ≡ Some ws → IsSequence ws m)
    (λ j m e ws d. h.each j ws m d e)
    (λ ws d. n ws (ap (slice_get (parallel_moves p labels)) (sym h.as_many_) ∙ d))
    i ms g moves f

pub so_far_more : (labels : List Label) (p : Plan) (k : ℕ) (mss mss' : Sequences) (new : List Move) → k < length (marks labels) → SoFar labels p k mss → mss' ≡ mss ++ new ∷ [] → IsSequence (place_moves p k (mark_at labels k).place) new
    → SoFar labels p (k + 1) mss'
so_far_more labels p k mss mss' new l h e n =
    let m = h.as_many_ in
    let long = length-append mss (new ∷ []) in
    let many = as_many_moves labels p in
    let emit_context : slice_get (parallel_moves p labels) k ≡ Some (place_moves p k (mark_at labels k).place) =
    slice_get-get_or (parallel_moves p labels) k [] (omega (arith, many, l)) ∙ ap (λ ws. Some ws) (moves_at labels p k l) in
    record {
      as_many_ = ap length e ∙ omega (arith, long, m);
      each = λ i moves ms f g. last_case labels p k mss new h
          (λ ws d. subst (λ w. IsSequence w new) (same_Some (place_moves p k (mark_at labels k).place) ws (sym emit_context ∙ d)) n)
          i moves ms f (ap (λ w. slice_get w i) (sym e) ∙ g);
    }

pub so_far_all : (labels : List Label) (p : Plan) (k : ℕ) (mss : Sequences) → k ≡ length (marks labels) → SoFar labels p k mss → AreSequences (parallel_moves p labels) mss
so_far_all labels p k mss e h = record {
  as_many = h.as_many_ ∙ e ∙ sym (as_many_moves labels p);
  each = h.each;
}

pub moves_push : (vs vs' : List (Vec Move Global)) (v : Vec Move Global) → vs' ≡ vs ++ v ∷ [] → moves_of vs' ≡ moves_of vs ++ v.items ∷ []
moves_push vs vs' v e = ap moves_of e ∙ map-append (λ (w : Vec Move Global). w.items) vs (v ∷ [])

pub no_sequence : (ms : List Move) → ms ≡ [] → IsSequence [] ms
no_sequence ms e = subst (λ m. IsSequence [] m) (sym e) (record { effect = λ e q h. refl; kinds = none; few = omega arith })
