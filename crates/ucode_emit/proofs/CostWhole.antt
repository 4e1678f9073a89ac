-- What the code of a form weighs: no more than what its placement costs.
use Rattle.std.proofs.Common.{◌≡◌, ℕ, zero, suc, ◌+◌, ◌*◌, ◌≤◌, List, [], ◌∷◌, ◌++◌, map, refl, sym, ap, ◌∙◌, subst, arith}
use Rattle.std.proofs.lemmas.List.{map-append}
use Rattle.std.proofs.lemmas.Option.{slice_get_within, get_or_from_slice_get}
use Rattle.uc_isa.specs.Moves.{weight, moves_from, moves}
use Rattle.ssu_ir.specs.Tree.{Tree, Do, If, End, Label, Does, Forks, step_values}
use Rattle.ssu_ir.specs.Points.{Names, own, names_after, PointKind, Entry, At, Point, points, points_from, tree_points}
use Rattle.place_plan.specs.Plan.{Plan, serve}
use Rattle.place_plan.specs.Uses.{Value, values_from, values, place_values, Use, uses}
use Rattle.place_plan.specs.Fits.{use_operand}
use Rattle.place_plan.specs.Costs.{served_cost, value_cost, values_cost, uses_cost, cost}
use Rattle.ucode_emit.specs.Pieces.{Item, Moved, Plain, Branch, instr_of, items, starts, Sequences, sequence_at, parallel_moves}
use Rattle.ucode_emit.specs.Emits.{AreSequences}
use Rattle.ucode_emit.specs.inner.Layers.{Placed}
use Rattle.ucode_emit.specs.inner.Marks.{Mark, mark, tree_marks, marks_from, marks, point_piece, pieces, joined}
use Rattle.ucode_emit.specs.inner.Cursors.{place_operands, operands_from, marks_operands}
use Rattle.ucode_emit.specs.inner.Walk.{mark_at}
use Rattle.ucode_emit.proofs.CostMoves.{operands_cost, sum_steps}
use Rattle.ucode_emit.proofs.CostPieces.{item_weight, items_weight, items_both, place_cost, place_light}
use Rattle.ucode_emit.proofs.Cursored.{uses_by_marks}
use Rattle.ucode_emit.proofs.Marked.{all_joined}
use Rattle.ucode_emit.proofs.Placing.{code_of}
use Rattle.ucode_emit.proofs.PointsEach.{EachFrom, each_of}
use Rattle.ucode_emit.proofs.Stood.{stood_at}
use Rattle.ucode_emit.proofs.Walked.{sequence_there}

-- ---- the weight of the code is that of its items

pub instr_weight : (places : List ℕ) (i : Item) → weight (instr_of places i) ≡ item_weight i
instr_weight places (Moved from at) = refl
instr_weight places (Plain i) = refl
instr_weight places (Branch c point) = refl

one_more : (a b m n : ℕ) → a ≡ b → m ≡ n → a * 1 + m ≡ b + n
one_more a b m n e f = omega (arith, e, f)

code_weight : (places : List ℕ) (place : ℕ) (is : List Item) → moves_from place (map (instr_of places) is) [] [] ≡ items_weight is
code_weight places place [] = refl
code_weight places place (i ∷ is) =
    one_more (weight (instr_of places i)) (item_weight i) (moves_from (suc place) (map (instr_of places) is) [] []) (items_weight is) (instr_weight places i) (code_weight places (suc place) is)

-- ---- point by point

abbrev marks_cost : Plan → ℕ → List Mark → ℕ
marks_cost p k [] = 0
marks_cost p k (q ∷ qs) = place_cost p k q.place + marks_cost p (suc k) qs

abbrev pub IsLight : List Label → Plan → Sequences → ℕ → Mark → Type 0
IsLight labels p mss k q = items_weight (point_piece labels p k q (sequence_at mss k)) ≤ place_cost p k q.place

pieces_light : (labels : List Label) (p : Plan) (mss : Sequences) (k : ℕ) (qs : List Mark) → EachFrom (IsLight labels p mss) k qs → items_weight (joined (pieces labels p mss k qs)) ≤ marks_cost p k qs
pieces_light labels p mss k [] h = omega arith
pieces_light labels p mss k (q ∷ qs) h =
    let a = items_both (point_piece labels p k q (sequence_at mss k)) (joined (pieces labels p mss (suc k) qs)) in
    let b = pieces_light labels p mss (suc k) qs h.1 in
    let c = h.0 in
    omega (arith, a, b, c)

pub each_light : (labels : List Label) (p : Plan) (mss : Sequences) → Placed labels p → AreSequences (parallel_moves p labels) mss → EachFrom (IsLight labels p mss) 0 (marks labels)
each_light labels p mss h r =
    each_of (IsLight labels p mss) (marks labels) (λ k q e.
    let l = slice_get_within (marks labels) k q e in
    let emit_context = get_or_from_slice_get (marks labels) k q (mark (Entry 0 []) 0) e in
    subst (IsLight labels p mss k) emit_context
    (place_light labels p k (mark_at labels k).first_arm (mark_at labels k).place (sequence_at mss k) h (stood_at labels p k l) (sequence_there labels p mss k r l)))

-- ---- what is counted, point by point

abbrev values_counted : Plan → ℕ → List PointKind → ℕ
values_counted p k [] = 0
values_counted p k (q ∷ qs) = values_cost p (place_values k q) + values_counted p (suc k) qs

abbrev operands_counted : Plan → ℕ → List Mark → ℕ
operands_counted p k [] = 0
operands_counted p k (q ∷ qs) = operands_cost p k 0 (place_operands q.place) + operands_counted p (suc k) qs

two_sums : (a b m n : ℕ) (all : ℕ) → all ≡ m + n → a + b + all ≡ a + m + (b + n)
two_sums a b m n all e = omega (arith, e)

counted : (p : Plan) (k : ℕ) (qs : List Mark) → marks_cost p k qs ≡ values_counted p k (map (λ q. q.place) qs) + operands_counted p k qs
counted p k [] = refl
counted p k (q ∷ qs) =
    two_sums (values_cost p (place_values k q.place)) (operands_cost p k 0 (place_operands q.place)) (values_counted p (suc k) (map (λ q. q.place) qs)) (operands_counted p (suc k) qs) (marks_cost p (suc k) qs) (counted p (suc k) qs)

-- the values
values_both : (p : Plan) (a b : List Value) → values_cost p (a ++ b) ≡ values_cost p a + values_cost p b
values_both p [] b = let z : values_cost p b ≡ 0 + values_cost p b = omega arith in z
values_both p (v ∷ a) b = sum_steps (value_cost p v) (values_cost p (a ++ b)) (values_cost p a) (values_cost p b) (values_both p a b)

by_places : (p : Plan) (k : ℕ) (qs : List Point) → values_cost p (values_from k qs) ≡ values_counted p k (map (λ q. q.place) qs)
by_places p k [] = refl
by_places p k (q ∷ qs) = values_both p (place_values k q.place) (values_from (suc k) qs) ∙ ap (λ n. values_cost p (place_values k q.place) + n) (by_places p (suc k) qs)

abbrev pub point_places : List Point → List PointKind
point_places qs = map (λ q. q.place) qs

abbrev pub mark_places : List Mark → List PointKind
mark_places qs = map (λ q. q.place) qs

-- marks stand for points
tree_places : (of : Names) (above : List ℕ) (t : Tree) → point_places (tree_points of above t) ≡ mark_places (tree_marks t)
tree_places of above (Do s t) = ap (λ l. At (Does s) ∷ l) (tree_places (names_after of s) (above ++ step_values s) t)
tree_places of above (If c x y t u) =
    ap (λ l. At (Forks c x y) ∷ l)
    (map-append (λ (q : Point). q.place) (tree_points of above t) (tree_points of above u)
    ∙ (ap (λ l. l ++ point_places (tree_points of above u)) (tree_places of above t)
    ∙ (ap (λ l. mark_places (tree_marks t) ++ l) (tree_places of above u) ∙ sym (map-append (λ (q : Mark). q.place) (tree_marks t) (tree_marks u)))))
tree_places of above (End l) = refl

pub all_places : (l : ℕ) (ls : List Label) → point_places (points_from l ls) ≡ mark_places (marks_from l ls)
all_places l [] = refl
all_places l (x ∷ ls) =
    ap (λ r. Entry l x.params ∷ r)
    (map-append (λ (q : Point). q.place) (tree_points own x.params x.body) (points_from (suc l) ls)
    ∙ (ap (λ r. r ++ point_places (points_from (suc l) ls)) (tree_places own x.params x.body)
    ∙ (ap (λ r. mark_places (tree_marks x.body) ++ r) (all_places (suc l) ls) ∙ sym (map-append (λ (q : Mark). q.place) (tree_marks x.body) (marks_from (suc l) ls)))))

values_are : (labels : List Label) (p : Plan) → values_cost p (values labels) ≡ values_counted p 0 (mark_places (marks labels))
values_are labels p = by_places p 0 (points labels) ∙ ap (values_counted p 0) (all_places 0 labels)

-- the uses
abbrev operand_costs : Plan → List (ℕ × ℕ) → ℕ
operand_costs p [] = 0
operand_costs p (o ∷ os) = served_cost (serve p o.0 o.1).from (serve p o.0 o.1).at + operand_costs p os

costs_both : (p : Plan) (a b : List (ℕ × ℕ)) → operand_costs p (a ++ b) ≡ operand_costs p a + operand_costs p b
costs_both p [] b = let z : operand_costs p b ≡ 0 + operand_costs p b = omega arith in z
costs_both p (o ∷ a) b = sum_steps (served_cost (serve p o.0 o.1).from (serve p o.0 o.1).at) (operand_costs p (a ++ b)) (operand_costs p a) (operand_costs p b) (costs_both p a b)

by_operands : (p : Plan) (us : List Use) → uses_cost p us ≡ operand_costs p (map use_operand us)
by_operands p [] = refl
by_operands p (u ∷ us) = ap (λ n. served_cost (serve p u.point u.operand).from (serve p u.point u.operand).at + n) (by_operands p us)

of_point : (p : Plan) (k i n : ℕ) → operand_costs p (operands_from k i n) ≡ operands_cost p k i n
of_point p k i zero = refl
of_point p k i (suc n) = ap (λ m. served_cost (serve p k i).from (serve p k i).at + m) (of_point p k (suc i) n)

of_points : (p : Plan) (k : ℕ) (qs : List Mark) → operand_costs p (marks_operands k qs) ≡ operands_counted p k qs
of_points p k [] = refl
of_points p k (q ∷ qs) =
    let n = place_operands q.place in
    costs_both p (operands_from k 0 n) (marks_operands (suc k) qs)
    ∙ (ap (λ m. m + operand_costs p (marks_operands (suc k) qs)) (of_point p k 0 n) ∙ ap (λ m. operands_cost p k 0 n + m) (of_points p (suc k) qs))

uses_are : (labels : List Label) (p : Plan) → uses_cost p (uses labels) ≡ operands_counted p 0 (marks labels)
uses_are labels p = by_operands p (uses labels) ∙ (ap (operand_costs p) (uses_by_marks labels) ∙ of_points p 0 (marks labels))

-- ---- the whole

cost_is : (labels : List Label) (p : Plan) → marks_cost p 0 (marks labels) ≡ cost labels p
cost_is labels p =
    let a = counted p 0 (marks labels) in
    let b = values_are labels p in
    let c = uses_are labels p in
    omega (arith, a, b, c)

pub code_light : (labels : List Label) (p : Plan) (mss : Sequences) → Placed labels p → AreSequences (parallel_moves p labels) mss → moves (code_of labels p mss) [] [] ≤ cost labels p
code_light labels p mss h r =
    let a = code_weight (starts labels p mss) 0 (items labels p mss) in
    let b = ap items_weight (all_joined labels p mss) in
    let c = pieces_light labels p mss 0 (marks labels) (each_light labels p mss h r) in
    let d = cost_is labels p in
    omega (arith, a, b, c, d)
