-- The code of a form is no longer than the form's own bound: the words that are put early are, over all values, those of the uses that are served so.
use Rattle.std.proofs.Common.{◌≡◌, ℕ, zero, suc, ◌+◌, ◌≤◌, nat_eq, Bool, true, false, ◌&&◌, if◌then◌else◌, List, [], ◌∷◌, ◌++◌, map, filter, length, refl, sym, ap, ◌∙◌, subst, append_assoc, slice_get, arith}
use Rattle.std.specs.List.{list_all}
use Rattle.std.proofs.lemmas.Bool.{and_parts}
use Rattle.std.proofs.lemmas.List.{length-map, length-append}
use Rattle.std.proofs.lemmas.Option.{slice_get_within, get_or_from_slice_get}
use Rattle.nv_base.specs.Sets.{all_different}
use Rattle.ssu_ir.specs.Tree.{Tree, Do, If, End, Label, Does}
use Rattle.ssu_ir.specs.Points.{Entry, At, place_values as place_variables}
use Rattle.ssu_ir.specs.Measures.{tree_code, labels_code, code_bound}
use Rattle.ssu_ir.specs.Single.{all_defined, is_entry, is_single}
use Rattle.place_plan.specs.Plan.{Plan, serve}
use Rattle.place_plan.specs.Uses.{Use, uses}
use Rattle.place_plan.specs.Fits.{use_operand, is_early}
use Rattle.ucode_emit.specs.Pieces.{instr_of, items, starts, Sequences, sequence_at, parallel_moves}
use Rattle.ucode_emit.specs.Emits.{AreSequences}
use Rattle.ucode_emit.specs.inner.Layers.{Placed}
use Rattle.ucode_emit.specs.inner.Marks.{Mark, mark, tree_marks, marks_from, marks, point_piece, pieces, joined}
use Rattle.ucode_emit.specs.inner.Cursors.{place_operands, operands_from, marks_operands}
use Rattle.ucode_emit.specs.inner.Walk.{mark_at}
use Rattle.ucode_emit.proofs.Cursored.{uses_by_marks}
use Rattle.ucode_emit.proofs.LawfulCopies.{sum_of, sum_both, count, one_if, more_if, counted_once}
use Rattle.ucode_emit.proofs.LawfulLength.{tree_values, all_values, all_among}
use Rattle.ucode_emit.proofs.LengthMoves.{early_one, operands_early, early_of}
use Rattle.ucode_emit.proofs.LengthPieces.{place_code, Fit, place_room}
use Rattle.ucode_emit.proofs.Marked.{all_joined}
use Rattle.ucode_emit.proofs.Placing.{code_of}
use Rattle.ucode_emit.proofs.PointsEach.{EachFrom, each_of}
use Rattle.ucode_emit.proofs.Stood.{stood_at}
use Rattle.ucode_emit.proofs.Walked.{sequence_there}

-- ---- point by point

abbrev codes : List Mark → ℕ
codes [] = 0
codes (q ∷ qs) = place_code q.place + codes qs

abbrev earlies : Plan → ℕ → List Mark → ℕ
earlies p k [] = 0
earlies p k (q ∷ qs) = operands_early p k 0 (place_operands q.place) + earlies p (suc k) qs

abbrev variables : List Mark → List ℕ
variables [] = []
variables (q ∷ qs) = place_variables q.place ++ variables qs

abbrev Fits : List Label → Plan → Sequences → ℕ → Mark → Type 0
Fits labels p mss k q = Fit labels p k q.place (point_piece labels p k q (sequence_at mss k))

pieces_room : (labels : List Label) (p : Plan) (mss : Sequences) (k : ℕ) (qs : List Mark) → EachFrom (Fits labels p mss) k qs → length (joined (pieces labels p mss k qs)) + earlies p k qs ≤ codes qs + sum_of (early_of labels p) (variables qs)
pieces_room labels p mss k [] h = omega arith
pieces_room labels p mss k (q ∷ qs) h =
    let a = length-append (point_piece labels p k q (sequence_at mss k)) (joined (pieces labels p mss (suc k) qs)) in
    let b = sum_both (early_of labels p) (place_variables q.place) (variables qs) in
    let c = pieces_room labels p mss (suc k) qs h.1 in
    let d = h.0 in
    omega (arith, a, b, c, d)

each_room : (labels : List Label) (p : Plan) (mss : Sequences) → Placed labels p → AreSequences (parallel_moves p labels) mss → EachFrom (Fits labels p mss) 0 (marks labels)
each_room labels p mss h r =
    each_of (Fits labels p mss) (marks labels) (λ k q e.
    let l = slice_get_within (marks labels) k q e in
    let emit_context = get_or_from_slice_get (marks labels) k q (mark (Entry 0 []) 0) e in
    subst (Fits labels p mss k) emit_context
    (place_room labels p k (mark_at labels k).first_arm (mark_at labels k).place (sequence_at mss k) h (stood_at labels p k l) (sequence_there labels p mss k r l)))

-- ---- the bound, point by point

codes_both : (a b : List Mark) → codes (a ++ b) ≡ codes a + codes b
codes_both [] b = let z : codes b ≡ 0 + codes b = omega arith in z
codes_both (q ∷ a) b = let x = codes_both a b in omega (arith, x)

tree_codes : (t : Tree) → codes (tree_marks t) ≡ tree_code t
tree_codes (Do s t) = let x = tree_codes t in omega (arith, x)
tree_codes (If c x y t u) = let a = codes_both (tree_marks t) (tree_marks u) in let b = tree_codes t in let d = tree_codes u in omega (arith, a, b, d)
tree_codes (End l) = omega arith

later_codes : (l : ℕ) (ls : List Label) → codes (marks_from (suc l) ls) ≡ labels_code ls
later_codes l [] = refl
later_codes l (x ∷ ls) =
    let a = codes_both (tree_marks x.body) (marks_from (suc (suc l)) ls) in
    let b = tree_codes x.body in
    let c = later_codes (suc l) ls in
    omega (arith, a, b, c)

all_codes : (ls : List Label) → codes (marks ls) ≡ code_bound ls
all_codes [] = refl
all_codes (x ∷ ls) =
    let a = codes_both (tree_marks x.body) (marks_from 1 ls) in
    let b = tree_codes x.body in
    let c = later_codes 0 ls in
    omega (arith, a, b, c)

-- ---- the variables, point by point

variables_both : (a b : List Mark) → variables (a ++ b) ≡ variables a ++ variables b
variables_both [] b = refl
variables_both (q ∷ a) b = ap (λ l. place_variables q.place ++ l) (variables_both a b) ∙ sym (append_assoc (place_variables q.place) (variables a) (variables b))

tree_variables : (t : Tree) → variables (tree_marks t) ≡ tree_values t
tree_variables (Do s t) = ap (λ l. place_variables (At (Does s)) ++ l) (tree_variables t)
tree_variables (If c x y t u) = variables_both (tree_marks t) (tree_marks u) ∙ (ap (λ l. l ++ variables (tree_marks u)) (tree_variables t) ∙ ap (λ l. tree_values t ++ l) (tree_variables u))
tree_variables (End l) = refl

all_variables : (l : ℕ) (ls : List Label) → variables (marks_from l ls) ≡ all_values ls
all_variables l [] = refl
all_variables l (x ∷ ls) =
    ap (λ r. x.params ++ r)
    (variables_both (tree_marks x.body) (marks_from (suc l) ls)
    ∙ (ap (λ r. r ++ variables (marks_from (suc l) ls)) (tree_variables x.body) ∙ ap (λ r. tree_values x.body ++ r) (all_variables (suc l) ls)))

-- ---- the uses that are served from write registers

abbrev early_counts : Plan → List (ℕ × ℕ) → ℕ
early_counts p [] = 0
early_counts p (o ∷ os) = early_one (serve p o.0 o.1).from + early_counts p os

counts_both : (p : Plan) (a b : List (ℕ × ℕ)) → early_counts p (a ++ b) ≡ early_counts p a + early_counts p b
counts_both p [] b = let z : early_counts p b ≡ 0 + early_counts p b = omega arith in z
counts_both p (o ∷ a) b = let x = counts_both p a b in omega (arith, x)

of_uses : (p : Plan) (us : List Use) → early_counts p (map use_operand us) ≡ length (filter (is_early p) us)
of_uses p [] = refl
of_uses p (u ∷ us) = ap (λ n. early_one (serve p u.point u.operand).from + n) (of_uses p us) ∙ sym (more_if (is_early p u) u (filter (is_early p) us))

of_point : (p : Plan) (k i n : ℕ) → early_counts p (operands_from k i n) ≡ operands_early p k i n
of_point p k i zero = refl
of_point p k i (suc n) = ap (λ m. early_one (serve p k i).from + m) (of_point p k (suc i) n)

of_points : (p : Plan) (k : ℕ) (qs : List Mark) → early_counts p (marks_operands k qs) ≡ earlies p k qs
of_points p k [] = refl
of_points p k (q ∷ qs) =
    let n = place_operands q.place in
    let a = counts_both p (operands_from k 0 n) (marks_operands (suc k) qs) in
    let b = of_point p k 0 n in
    let c = of_points p (suc k) qs in
    omega (arith, a, b, c)

earlies_are : (labels : List Label) (p : Plan) → earlies p 0 (marks labels) ≡ length (filter (is_early p) (uses labels))
earlies_are labels p = sym (of_points p 0 (marks labels)) ∙ (ap (early_counts p) (sym (uses_by_marks labels)) ∙ of_uses p (uses labels))

-- ---- each of them is of one value

filter_if : (f : Use → Bool) (b : Bool) (u : Use) (us : List Use) → length (filter f (if b then u ∷ us else us)) ≡ (if b then one_if (f u) else 0) + length (filter f us)
filter_if f true u us = more_if (f u) u (filter f us)
filter_if f false u us = omega arith

both_tests : (a b : Bool) → (if a then one_if b else 0) ≡ (if b then one_if a else 0)
both_tests true true = refl
both_tests true false = refl
both_tests false true = refl
both_tests false false = refl

two_filters : (f g : Use → Bool) (us : List Use) → length (filter f (filter g us)) ≡ length (filter g (filter f us))
two_filters f g [] = refl
two_filters f g (u ∷ us) =
    let a = filter_if f (g u) u (filter g us) in
    let b = filter_if g (f u) u (filter f us) in
    let c = both_tests (g u) (f u) in
    let d = two_filters f g us in
    a ∙ (ap (λ n. n + length (filter f (filter g us))) c ∙ (ap (λ n. (if f u then one_if (g u) else 0) + n) d ∙ sym b))

sum_same : (f g : ℕ → ℕ) (xs : List ℕ) → ((x : ℕ) → f x ≡ g x) → sum_of f xs ≡ sum_of g xs
sum_same f g [] h = refl
sum_same f g (x ∷ xs) h = let a = h x in let b = sum_same f g xs h in omega (arith, a, b)

early_once : (labels : List Label) (p : Plan) (xs : List ℕ) → all_different xs ≡ true → sum_of (early_of labels p) xs ≤ length (filter (is_early p) (uses labels))
early_once labels p xs d =
    let us = filter (is_early p) (uses labels) in
    let a = sum_same (early_of labels p) (count us) xs (λ x. two_filters (is_early p) (λ u. nat_eq u.value x) (uses labels)) in
    let b = counted_once us xs d in
    omega (arith, a, b)

-- ---- the whole

pub code_bounded : (labels : List Label) (p : Plan) (mss : Sequences) → Placed labels p → AreSequences (parallel_moves p labels) mss → length (code_of labels p mss) ≤ code_bound labels
code_bounded labels p mss h r =
    let different = (and_parts (all_different (all_defined labels)) (list_all (is_single labels) labels)
    (and_parts (is_entry (slice_get labels 0)) (all_different (all_defined labels) && list_all (is_single labels) labels) h.single).1).0 in
    let a = length-map (items labels p mss) (instr_of (starts labels p mss)) in
    let b = ap length (all_joined labels p mss) in
    let c = pieces_room labels p mss 0 (marks labels) (each_room labels p mss h r) in
    let d = all_codes labels in
    let e = ap (sum_of (early_of labels p)) (all_variables 0 labels) in
    let f = earlies_are labels p in
    let g = all_among (early_of labels p) labels in
    let i = early_once labels p (all_defined labels) different in
    omega (arith, a, b, c, d, e, f, g, i)
