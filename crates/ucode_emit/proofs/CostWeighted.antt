-- What the code of a form weighs where its labels have weights: no more than what its placement costs under the same weights.
use Rattle.std.proofs.Common.{◌≡◌, ℕ, zero, suc, ◌+◌, ◌*◌, ◌<◌, ◌≤◌, nat_le, true, false, if◌then◌else◌, None, List, [], ◌∷◌, ◌++◌, map, length, refl, sym, ap, ◌∙◌, subst, arith, slice_index_or}
use Rattle.std.specs.Prelude.{nat_lt, ⊤}
use Rattle.std.proofs.lemmas.Bool.{le-leb, lt-ltb, false_from_ne_true, leb-true, ltb-true}
use Rattle.std.proofs.lemmas.List.{map-append, length-map, length-append}
use Rattle.uc_isa.specs.Moves.{label_weight, moves_from, moves}
use Rattle.uc_isa.specs.StraightCode.{weights}
use Rattle.uc_isa.proofs.Costs.{moves-append, moves-level}
use Rattle.ssu_ir.specs.Tree.{Label}
use Rattle.ssu_ir.specs.Points.{own, Entry, nodes, label_points}
use Rattle.ssu_ir.proofs.PointLemmas.{length-tree_points}
use Rattle.place_plan.specs.Plan.{Plan}
use Rattle.place_plan.specs.ByLabel.{label_from}
use Rattle.place_plan.specs.Weighted.{point_weight, weighted_cost}
use Rattle.ucode_emit.specs.inner.Layers.{Placed}
use Rattle.ucode_emit.specs.inner.Marks.{Mark, mark, tree_marks, marks_from, marks, point_piece, pieces, joined}
use Rattle.ucode_emit.specs.Pieces.{Item, moved, instr_of, single_moves, all_copies, label_items, starts, Sequences, sequence_at, parallel_moves}
use Rattle.ucode_emit.specs.Emits.{label_starts, AreSequences}
use Rattle.ucode_emit.proofs.CostLabels.{marks_weighted, weighted_by_marks}
use Rattle.ucode_emit.proofs.CostPieces.{items_weight, place_cost}
use Rattle.ucode_emit.proofs.CostWhole.{instr_weight, IsLight, each_light}
use Rattle.ucode_emit.proofs.LabelPlaces.{label_begins, starts_by_length}
use Rattle.ucode_emit.proofs.Marked.{marks_many, tree_joined, all_joined}
use Rattle.ucode_emit.proofs.Placing.{code_of}
use Rattle.ucode_emit.proofs.PointsEach.{EachFrom}

-- ---- weights of places

abbrev first_weight : List ℕ → ℕ
first_weight [] = 1
first_weight (w ∷ ws) = w

abbrev other_weights : List ℕ → List ℕ
other_weights [] = []
other_weights (w ∷ ws) = ws

weight_next : (sofar s place : ℕ) (begins ws : List ℕ) → label_weight sofar (s ∷ begins) ws place ≡ label_weight (if nat_le s place then first_weight ws else sofar) begins (other_weights ws) place
weight_next sofar s place begins [] = refl
weight_next sofar s place begins (w ∷ ws) = refl

weight_behind : (sofar s place : ℕ) (begins ws : List ℕ) → s ≤ place → label_weight sofar (s ∷ begins) ws place ≡ label_weight (first_weight ws) begins (other_weights ws) place
weight_behind sofar s place begins ws le =
    weight_next sofar s place begins ws ∙ ap (λ b. label_weight (if b then first_weight ws else sofar) begins (other_weights ws) place) (le-leb s place le)

weight_before : (sofar s place : ℕ) (begins ws : List ℕ) → place < s → label_weight sofar (s ∷ begins) ws place ≡ label_weight sofar begins (other_weights ws) place
weight_before sofar s place begins ws lt =
    let no : nat_le s place ≡ false = false_from_ne_true (nat_le s place) (λ e. let le : s ≤ place = leb-true s place e in absurd (omega (arith, le, lt))) in
    weight_next sofar s place begins ws ∙ ap (λ b. label_weight (if b then first_weight ws else sofar) begins (other_weights ws) place) no

weight_index : (ws : List ℕ) (i : ℕ) → slice_index_or ws (suc i) 1 ≡ slice_index_or (other_weights ws) i 1
weight_index [] i = refl
weight_index (w ∷ ws) i = refl

weight_first : (ws : List ℕ) → slice_index_or ws 0 1 ≡ first_weight ws
weight_first [] = refl
weight_first (w ∷ ws) = refl

-- before all labels
weight_none : (labels : List Label) (p : Plan) (mss : Sequences) (sofar at k place : ℕ) (ls : List Label) (ws : List ℕ) → place < at → label_weight sofar (label_begins labels p mss at k ls) ws place ≡ sofar
weight_none labels p mss sofar at k place [] ws lt = refl
weight_none labels p mss sofar at k place (x ∷ ls) ws lt =
    let next = at + length (label_items labels p mss k x) in
    weight_before sofar at place (label_begins labels p mss next (suc k + nodes x.body) ls) ws lt
    ∙ weight_none labels p mss sofar next (suc k + nodes x.body) place ls (other_weights ws) (omega (arith, lt))

-- ---- piece by piece

items_weights : (places : List ℕ) (is : List Item) → weights (map (instr_of places) is) ≡ items_weight is
items_weights places [] = refl
items_weights places (i ∷ is) = let a = instr_weight places i in let b = items_weights places is in omega (arith, a, b)

times_more : (a b w : ℕ) → a ≤ b → a * w ≤ b * w
times_more a b zero le = omega arith
times_more a b (suc w) le = let h = times_more a b w le in omega (arith, h, le)

module _ (labels : List Label) (p : Plan) (mss : Sequences) (ws : List ℕ) where
  abbrev begins : List ℕ
  begins = label_begins labels p mss 0 0 labels

  abbrev places : List ℕ
  places = starts labels p mss

  abbrev point_at : ℕ → ℕ
  point_at = point_weight labels ws

  abbrev pieces_at : ℕ → List Mark → List (List Item)
  pieces_at k qs = pieces labels p mss k qs

  -- all instructions of each point have the weight of the point
  abbrev Weighs : ℕ → ℕ → List Mark → Type 0
  Weighs at k [] = ⊤
  Weighs at k (q ∷ qs) =
      ((d : ℕ) → d < length (point_piece labels p k q (sequence_at mss k)) → label_weight 1 begins ws (at + d) ≡ point_at k) × Weighs (at + length (point_piece labels p k q (sequence_at mss k))) (suc k) qs

  pieces_light : (at k : ℕ) (qs : List Mark) → EachFrom (IsLight labels p mss) k qs → Weighs at k qs → moves_from at (map (instr_of places) (joined (pieces_at k qs))) begins ws ≤ marks_weighted p point_at k qs
  pieces_light at k [] h g = omega arith
  pieces_light at k (q ∷ qs) h g =
      let f = instr_of places in
      let piece = point_piece labels p k q (sequence_at mss k) in
      let rest = joined (pieces_at (suc k) qs) in
      let long : length (map f piece) ≡ length piece = length-map piece f in
      let split : moves_from at (map f (piece ++ rest)) begins ws ≡ moves_from at (map f piece) begins ws + moves_from (at + length (map f piece)) (map f rest) begins ws =
      ap (λ is. moves_from at is begins ws) (map-append f piece rest) ∙ moves-append at (map f piece) (map f rest) begins ws in
      let level : moves_from at (map f piece) begins ws ≡ weights (map f piece) * point_at k = moves-level at (point_at k) (map f piece) begins ws (λ d lt. g.0 d (omega (arith, lt, long))) in
      let same : weights (map f piece) * point_at k ≡ items_weight piece * point_at k = ap (λ n. n * point_at k) (items_weights places piece) in
      let light : items_weight piece * point_at k ≤ place_cost p k q.place * point_at k = times_more (items_weight piece) (place_cost p k q.place) (point_at k) h.0 in
      let there : moves_from (at + length (map f piece)) (map f rest) begins ws ≡ moves_from (at + length piece) (map f rest) begins ws = ap (λ n. moves_from (at + n) (map f rest) begins ws) long in
      let more : moves_from (at + length piece) (map f rest) begins ws ≤ marks_weighted p point_at (suc k) qs = pieces_light (at + length piece) (suc k) qs h.1 g.1 in
      omega (arith, split, level, same, light, there, more)

  -- points of one label
  weighs_all : (w at k : ℕ) (qs : List Mark) → ((y : ℕ) → at ≤ y → y < at + length (joined (pieces_at k qs)) → label_weight 1 begins ws y ≡ w) → ((j : ℕ) → k ≤ j → j < k + length qs → point_at j ≡ w) → Weighs at k qs
  weighs_all w at k [] h g = tt
  weighs_all w at k (q ∷ qs) h g =
      let piece = point_piece labels p k q (sequence_at mss k) in
      let rest = joined (pieces_at (suc k) qs) in
      let long : length (piece ++ rest) ≡ length piece + length rest = length-append piece rest in (
        λ d lt. h (at + d) (omega arith) (omega (arith, lt, long)) ∙ sym (g k (omega arith) (omega arith)),
        weighs_all w (at + length piece) (suc k) qs (λ y a b. h y (omega (arith, a)) (omega (arith, b, long))) (λ j a b. g j (omega (arith, a)) (omega (arith, b))),
      )

  weighs_both : (at k n : ℕ) (a b : List Mark) → n ≡ k + length a → Weighs at k a → Weighs (at + length (joined (pieces_at k a))) n b → Weighs at k (a ++ b)
  weighs_both at k n [] b e h g =
      let z : at + 0 ≡ at = omega arith in
      let m : n ≡ k = omega (arith, e) in
      subst (λ j. Weighs j k b) z (subst (λ j. Weighs (at + 0) j b) m g)
  weighs_both at k n (q ∷ a) b e h g =
      let piece = point_piece labels p k q (sequence_at mss k) in
      let rest = joined (pieces_at (suc k) a) in
      let long = length-append piece rest in
      let z : at + length (piece ++ rest) ≡ at + length piece + length rest = omega (arith, long) in
      let m : n ≡ suc k + length a = omega (arith, e) in
      (h.0, weighs_both (at + length piece) (suc k) n a b m h.1 (subst (λ j. Weighs j n b) z g))

  -- label by label: what is known of the weights of places and points from here on
  record HoldsAfterMoves (at k l sofar : ℕ) (vs : List ℕ) (ls : List Label) : Type 0 where
    at_place : (y : ℕ) → at ≤ y → label_weight 1 begins ws y ≡ label_weight sofar (label_begins labels p mss at k ls) vs y
    at_point : (j : ℕ) → k ≤ j → label_from 0 0 labels j ≡ label_from l k ls j
    at_label : (i : ℕ) → slice_index_or ws (l + i) 1 ≡ slice_index_or vs i 1

  points_long : (l k : ℕ) (x : Label) → k + length (label_points l x) ≡ suc k + nodes x.body
  points_long l k x = let a = length-tree_points own x.params x.body in omega (arith, a)

  behind_next : (at k l sofar : ℕ) (vs : List ℕ) (x : Label) (ls : List Label) → HoldsAfterMoves at k l sofar vs (x ∷ ls) → HoldsAfterMoves (at + length (label_items labels p mss k x)) (suc k + nodes x.body) (suc l) (first_weight vs) (other_weights vs) ls
  behind_next at k l sofar vs x ls h =
      let next = at + length (label_items labels p mss k x) in
      let long = points_long l k x in
      record {
        at_place = λ y le. h.at_place y (omega (arith, le)) ∙ weight_behind sofar at y (label_begins labels p mss next (suc k + nodes x.body) ls) vs (omega (arith, le));
        at_point = λ j le.
            let no : nat_lt j (k + length (label_points l x)) ≡ false = false_from_ne_true (nat_lt j (k + length (label_points l x))) (λ e. let lt : j < k + length (label_points l x) = ltb-true j (k + length (label_points l x)) e in absurd (omega (arith, le, lt, long))) in
            h.at_point j (omega (arith, le)) ∙ (ap (λ b. if b then l else label_from (suc l) (k + length (label_points l x)) ls j) no ∙ ap (λ n. label_from (suc l) n ls j) long);
        at_label = λ i. let z : suc l + i ≡ l + suc i = omega arith in ap (λ n. slice_index_or ws n 1) z ∙ (h.at_label (suc i) ∙ weight_index vs i);
      }

  label_weighs : (at k l sofar : ℕ) (vs : List ℕ) (x : Label) (ls : List Label) → HoldsAfterMoves at k l sofar vs (x ∷ ls) → Weighs at k (mark (Entry l x.params) 0 ∷ tree_marks x.body)
  label_weighs at k l sofar vs x ls h =
      let next = at + length (label_items labels p mss k x) in
      let long = points_long l k x in
      let many = marks_many x.body in
      let own_weight : slice_index_or ws l 1 ≡ first_weight vs = let z : l ≡ l + 0 = omega arith in ap (λ n. slice_index_or ws n 1) z ∙ (h.at_label 0 ∙ weight_first vs) in
      let same : length (joined (pieces_at k (mark (Entry l x.params) 0 ∷ tree_marks x.body))) ≡ length (label_items labels p mss k x) =
      ap (λ is. length (moved (single_moves None (sequence_at mss k) ++ all_copies p k x.params) ++ is)) (tree_joined labels p mss (suc k) x.body) in
      weighs_all (first_weight vs) at k (mark (Entry l x.params) 0 ∷ tree_marks x.body)
      (λ y a b.
      h.at_place y a ∙ (weight_behind sofar at y (label_begins labels p mss next (suc k + nodes x.body) ls) vs a
      ∙ weight_none labels p mss (first_weight vs) next (suc k + nodes x.body) y ls (other_weights vs) (omega (arith, b, same))))
      (λ j a b.
      let yes : nat_lt j (k + length (label_points l x)) ≡ true = lt-ltb j (k + length (label_points l x)) (omega (arith, b, long, many)) in
      let label : label_from 0 0 labels j ≡ l = h.at_point j a ∙ ap (λ t. if t then l else label_from (suc l) (k + length (label_points l x)) ls j) yes in
      ap (λ n. slice_index_or ws n 1) label ∙ own_weight)

  labels_weigh : (at k l sofar : ℕ) (vs : List ℕ) (ls : List Label) → HoldsAfterMoves at k l sofar vs ls → Weighs at k (marks_from l ls)
  labels_weigh at k l sofar vs [] h = tt
  labels_weigh at k l sofar vs (x ∷ ls) h =
      let qs = mark (Entry l x.params) 0 ∷ tree_marks x.body in
      let many = marks_many x.body in
      let z : suc k + nodes x.body ≡ k + length qs = omega (arith, many) in
      let same : length (label_items labels p mss k x) ≡ length (joined (pieces_at k qs)) =
      sym (ap (λ is. length (moved (single_moves None (sequence_at mss k) ++ all_copies p k x.params) ++ is)) (tree_joined labels p mss (suc k) x.body)) in
      weighs_both at k (suc k + nodes x.body) qs (marks_from (suc l) ls) z (label_weighs at k l sofar vs x ls h)
      (subst (λ n. Weighs (at + n) (suc k + nodes x.body) (marks_from (suc l) ls)) same
      (labels_weigh (at + length (label_items labels p mss k x)) (suc k + nodes x.body) (suc l) (first_weight vs) (other_weights vs) ls (behind_next at k l sofar vs x ls h)))

  all_weigh : Weighs 0 0 (marks labels)
  all_weigh =
      labels_weigh 0 0 0 1 ws labels
      (record {
        at_place = λ y le. refl;
        at_point = λ j le. refl;
        at_label = λ i. let z : 0 + i ≡ i = omega arith in ap (λ n. slice_index_or ws n 1) z;
      })

  pub weighted_light : Placed labels p → AreSequences (parallel_moves p labels) mss → moves (code_of labels p mss) begins ws ≤ marks_weighted p point_at 0 (marks labels)
  weighted_light h r =
      subst (λ is. moves_from 0 (map (instr_of places) is) begins ws ≤ marks_weighted p point_at 0 (marks labels)) (all_joined labels p mss)
      (pieces_light 0 0 (marks labels) (each_light labels p mss h r) all_weigh)

pub code_weighted : (labels : List Label) (p : Plan) (mss : Sequences) (ws : List ℕ) → Placed labels p → AreSequences (parallel_moves p labels) mss → moves (code_of labels p mss) (label_starts labels p mss) ws ≤ weighted_cost labels ws p
code_weighted labels p mss ws h r =
    subst (λ s. moves (code_of labels p mss) s ws ≤ weighted_cost labels ws p) (sym (starts_by_length labels p mss))
    (subst (λ c. moves (code_of labels p mss) (label_begins labels p mss 0 0 labels) ws ≤ c) (weighted_by_marks labels p ws) (weighted_light labels p mss ws h r))
