-- How long the code of a form is: at most 16 instructions for each point, value and use.
use Rattle.std.proofs.Common.{◌≡◌, ℕ, zero, suc, ◌+◌, ◌*◌, ◌≤◌, ◌<◌, Bool, true, false, ◌&&◌, List, [], ◌∷◌, ◌++◌, length, Option, None, if◌then◌else◌, refl, sym, ap, slice_get, arith}
use Rattle.std.specs.Prelude.{◌^◌, ◌/◌}
use Rattle.std.specs.List.{list_all}
use Rattle.std.proofs.lemmas.Bool.{and_parts}
use Rattle.std.proofs.lemmas.List.{length-map, length-append}
use Rattle.nv_base.specs.Sets.{all_different}
use Rattle.nv_base.specs.declared.term.Bin.TheVariants.{Sub}
use Rattle.uc_isa.specs.declared.instruction.Instr.{Instr}
use Rattle.uc_isa.specs.declared.instruction.Instr.TheVariants as instr
use Rattle.uc_isa.specs.declared.instruction.Dst.{Dst}
use Rattle.uc_isa.specs.declared.instruction.Dst.TheVariants as dst
use Rattle.uc_isa.specs.declared.instruction.Cond.{Cond}
use Rattle.uc_isa.specs.declared.instruction.Cond.TheVariants.{Always}
use Rattle.uc_isa.specs.Registers.{failing}
use Rattle.ssu_ir.specs.Tree.{Step, Lit, Una, Bin, Clone, Read, Write, Last, Jump, Halt, Tree, Do, If, End, Label, Does, Ends, step_values, step_clones}
use Rattle.ssu_ir.specs.Points.{nodes, points}
use Rattle.ssu_ir.specs.Single.{defined, all_defined, is_entry, is_single}
use Rattle.ssu_ir.specs.Measures.{node_size, tree_size, size}
use Rattle.ssu_ir.proofs.PointLemmas.{total-from}
use Rattle.place_plan.specs.declared.place.Place.{Place}
use Rattle.place_plan.specs.declared.place.Place.TheVariants.{A, B, L, LD, S, SD, Slot}
use Rattle.place_plan.specs.Places.{same_place}
use Rattle.place_plan.specs.Plan.{Plan, home, first, serve, pass}
use Rattle.place_plan.specs.Uses.{uses}
use Rattle.place_plan.specs.Fits.{is_slot, is_read_register}
use Rattle.ucode_emit.specs.Moves.{Move, temporary, StandFor, none, once, around, at_rest}
use Rattle.ucode_emit.specs.Pieces.{Item, Plain, Branch, instr_of, named, bring, brought, to_temporary, to_read_register, each_operand, operands, operand_at, words, to_slot, copied, all_copied, copies, all_copies, single_move, single_moves, un_op, source, address_of, shift_of, defines, moved, step_items, fork_items, last_items, entry_point, Sequences, sequence_at, tree_items, label_items, items_from, items, starts, served_moves, entry_moves, last_moves, tree_moves, label_moves, moves_from, parallel_moves}
use Rattle.ucode_emit.specs.Emits.{AreSequences}
use Rattle.ucode_emit.specs.inner.Layers.{Placed}
use Rattle.ucode_emit.proofs.Placing.{items_long, Part, part_whole, part_head, part_tail, part_left, part_right, label_moves_many, moves_many, code_of}
use Rattle.ucode_emit.proofs.LawfulPieces.{sequence_here, front_moves}
use Rattle.ucode_emit.proofs.LawfulCopies.{how_many, count, sum_of, sum_both, counted_once, uses_few, all_copies_few}

-- ---- moves

if_short : {X : Type 0} (b : Bool) (a c : List X) (n : ℕ) → length a ≤ n → length c ≤ n → length (if b then a else c) ≤ n
if_short true a c n h g = h
if_short false a c n h g = g

bring_short : (l : Option ℕ) (from at : Place) → length (bring l from at) ≤ 2
bring_short l (Slot k) at = omega arith
bring_short l (A k) at = omega arith
bring_short l (B k) at = omega arith
bring_short l (L k) at = omega arith
bring_short l (LD k) at = omega arith
bring_short l (S k) at = omega arith
bring_short l (SD k) at = omega arith

brought_short : (l : Option ℕ) (from at : Place) → length (brought l from at) ≤ 2
brought_short l from at = if_short (same_place from at) [] (bring l from at) 2 (omega arith) (bring_short l from at)

temporary_short : (p : Plan) (k i : ℕ) → length (to_temporary p k i) ≤ 2
temporary_short p k i =
    let s = serve p k i in
    if_short (same_place s.at temporary) (brought (pass p k).l s.from s.at) [] 2 (brought_short (pass p k).l s.from s.at) (omega arith)

read_short : (p : Plan) (k i : ℕ) → length (to_read_register p k i) ≤ 2
read_short p k i = let s = serve p k i in if_short (is_slot s.from && is_read_register s.at) ((s.from, s.at) ∷ []) [] 2 (omega arith) (omega arith)

each_short : (fetch : ℕ → List Move) (i n : ℕ) → ((j : ℕ) → length (fetch j) ≤ 2) → length (each_operand fetch i n) ≤ 2 * n
each_short fetch i zero h = omega arith
each_short fetch i (suc n) h = omega (arith, h i, length-append (fetch i) (each_operand fetch (suc i) n), each_short fetch (suc i) n h)

operands_short : (p : Plan) (k n : ℕ) → length (operands p k n) ≤ 4 * n
operands_short p k n =
    omega (arith, length-append (each_operand (to_temporary p k) 0 n) (each_operand (to_read_register p k) 0 n), each_short (to_temporary p k) 0 n (temporary_short p k), each_short (to_read_register p k) 0 n (read_short p k))

words_short : (p : Plan) (k i n : ℕ) → length (words p k i n) ≤ 2 * n
words_short p k i n = each_short (λ j. brought (pass p k).l (serve p k j).from (serve p k j).at) i n (λ j. brought_short (pass p k).l (serve p k j).from (serve p k j).at)

pub slot_short : (p : Plan) (k x : ℕ) → length (to_slot p k x) ≤ 1
slot_short p k x = let d = (home p x).defined in if_short (is_slot d) ((S (named (pass p k).s), d) ∷ []) [] 1 (omega arith) (omega arith)

copied_short : (s : Option ℕ) (from q : Place) → length (copied s from q) ≤ 2
copied_short s from q = if_short (is_slot q) ((from, S (named s)) ∷ (S (named s), q) ∷ []) ((from, q) ∷ []) 2 (omega arith) (omega arith)

all_short : (s : Option ℕ) (from : Place) (qs : List Place) → length (all_copied s from qs) ≤ 2 * length qs
all_short s from [] = omega arith
all_short s from (q ∷ qs) = omega (arith, copied_short s from q, length-append (copied s from q) (all_copied s from qs), all_short s from qs)

copies_short : (p : Plan) (k x : ℕ) → length (copies p k x) ≤ 2 * how_many p x
copies_short p k x = all_short (pass p k).s (home p x).defined (home p x).copied

all_copies_short : (p : Plan) (k : ℕ) (xs : List ℕ) → length (all_copies p k xs) ≤ 2 * sum_of (how_many p) xs
all_copies_short p k [] = omega arith
all_copies_short p k (x ∷ xs) = omega (arith, copies_short p k x, length-append (copies p k x) (all_copies p k xs), all_copies_short p k xs)

single_short : (l : Option ℕ) (from at : Place) → length (single_move l from at) ≤ 3
single_short l from at =
    let a = bring_short l from (S 0) in
    let b = bring_short l from at in
    let c = length-append (bring l from (S 0)) ((S 0, at) ∷ []) in
    if_short (is_slot at) (bring l from (S 0) ++ (S 0, at) ∷ []) (bring l from at) 3 (omega (arith, a, c)) (omega (arith, b))

singles_short : (l : Option ℕ) (ms : List Move) → length (single_moves l ms) ≤ 3 * length ms
singles_short l [] = omega arith
singles_short l (m ∷ ms) = omega (arith, single_short l m.0 m.1, length-append (single_move l m.0 m.1) (single_moves l ms), singles_short l ms)

once_short : (n : ℕ) (m : Move) (a b : List Move) → length (a ++ b) ≤ 2 * n → length (a ++ m ∷ b) ≤ 2 * suc n
once_short n m a b h = omega (arith, h, length-append a b, length-append a (m ∷ b))

around_short : (n : ℕ) (m m' : Move) (a b c : List Move) → length (a ++ (b ++ c)) ≤ 2 * n → length (a ++ (m ∷ (b ++ (m' ∷ c)))) ≤ 2 * suc n
around_short n m m' a b c h = omega (arith, h, length-append a (b ++ c), length-append b c, length-append a (m ∷ (b ++ (m' ∷ c))), length-append b (m' ∷ c))

rest_short : (n m : ℕ) → m ≤ 2 * n → m ≤ 2 * suc n
rest_short n m h = omega (arith, h)

stand_short : (moves ms : List Move) → StandFor moves ms → length ms ≤ 2 * length moves
stand_short moves ms none = omega arith
stand_short moves ms (once {s} {t} {ms = ns} a b n h) = once_short (length ns) (s, t) a b (stand_short ns (a ++ b) h)
stand_short moves ms (around {s} {t} {ms = ns} a b c n h) = around_short (length ns) (s, temporary) (temporary, t) a b c (stand_short ns (a ++ (b ++ c)) h)
stand_short moves ms (at_rest {p = q} {ms = ns} {r} h) = rest_short (length ns) (length r) (stand_short ns r h)

served_many : (p : Plan) (k i n : ℕ) → length (served_moves p k i n) ≡ n
served_many p k i zero = refl
served_many p k i (suc n) = ap suc (served_many p k (suc i) n)

entry_many : (p : Plan) (i : ℕ) (xs : List ℕ) → length (entry_moves p i xs) ≡ length xs
entry_many p i [] = refl
entry_many p i (x ∷ xs) = ap suc (entry_many p (suc i) xs)

-- ---- pieces

defines_short : (p : Plan) (k x : ℕ) (op : Dst → Instr) → length (defines p k x op) ≤ 2 + 2 * how_many p x
defines_short p k x op = omega (arith, slot_short p k x, copies_short p k x, length-append (to_slot p k x) (copies p k x), items_long (to_slot p k x ++ copies p k x))

front_short : (ms : List Move) (is : List Item) (n m : ℕ) → length ms ≤ n → length is ≤ m → length (moved ms ++ is) ≤ n + m
front_short ms is n m h g = omega (arith, h, g, length-append (moved ms) is, items_long ms)

step_short : (p : Plan) (k : ℕ) (s : Step) → length (step_items p k s) ≤ 8 * node_size (Does s) + 2 * sum_of (how_many p) (step_values s)
step_short p k (Lit x v) = omega (arith, defines_short p k x (λ d. instr.Immed d (v / 2 ^ shift_of v) (shift_of v)))
step_short p k (Una x op y) =
    let def = defines p k x (λ d. instr.Un d (un_op op) (source (operand_at p k 0))) in
    omega (arith, front_short (operands p k 1) def 4 (2 + 2 * how_many p x) (operands_short p k 1) (defines_short p k x (λ d. instr.Un d (un_op op) (source (operand_at p k 0)))))
step_short p k (Bin x op y z) =
    let def = defines p k x (λ d. instr.Alu d op (source (operand_at p k 0)) (source (operand_at p k 1))) in
    omega (arith, front_short (operands p k 2) def 8 (2 + 2 * how_many p x) (operands_short p k 2) (defines_short p k x (λ d. instr.Alu d op (source (operand_at p k 0)) (source (operand_at p k 1)))))
step_short p k (Clone xs y) = omega arith
step_short p k (Read m xs y) =
    let rest = Plain (instr.Read m (first p k) (length xs) (address_of (operand_at p k 0)) 0) ∷ moved (all_copies p k xs) in
    omega (arith, operands_short p k 1, length-append (moved (operands p k 1)) rest, items_long (operands p k 1), items_long (all_copies p k xs), all_copies_short p k xs)
step_short p k (Write m y xs) =
    let front = operands p k 1 ++ words p k 1 (length xs) in
    let rest = Plain (instr.Write m (first p k) (length xs) (address_of (operand_at p k 0)) 0) ∷ [] in
    omega (arith, operands_short p k 1, words_short p k 1 (length xs), length-append (operands p k 1) (words p k 1 (length xs)), length-append (moved front) rest, items_long front)

fork_short : (p : Plan) (k : ℕ) (c : Cond) (second : ℕ) → length (fork_items p k c second) ≤ 10
fork_short p k c second =
    let rest = Plain (instr.Alu dst.Nowhere Sub (source (operand_at p k 0)) (source (operand_at p k 1))) ∷ Branch c second ∷ [] in
    omega (arith, operands_short p k 2, length-append (moved (operands p k 2)) rest, items_long (operands p k 2))

last_short : (labels : List Label) (p : Plan) (k : ℕ) (l : Last) (ms : List Move) → StandFor (last_moves p k l) ms → length (last_items labels p k l ms) ≤ 8 * node_size (Ends l)
last_short labels p k (Jump l xs) ms h =
    let a = stand_short (served_moves p k 0 (length xs)) ms h in
    let front = single_moves (pass p k).l ms in
    omega (arith, a, served_many p k 0 (length xs), singles_short (pass p k).l ms, items_long front, length-append (moved front) (Branch Always (entry_point labels l) ∷ []))
last_short labels p k (Halt c xs) ms h =
    let a = stand_short (served_moves p k 0 (length xs)) ms h in
    let front = single_moves (pass p k).l ms in
    omega (arith, a, served_many p k 0 (length xs), singles_short (pass p k).l ms, items_long front, length-append (moved front) (Plain (instr.Halt c (length xs)) ∷ []))

-- ---- trees and labels

-- the values that a tree defines, without clones
abbrev pub tree_values : Tree → List ℕ
tree_values (Do s t) = step_values s ++ tree_values t
tree_values (If c x y t u) = tree_values t ++ tree_values u
tree_values (End l) = []

abbrev pub all_values : List Label → List ℕ
all_values [] = []
all_values (l ∷ ls) = l.params ++ (tree_values l.body ++ all_values ls)

tree_short : (labels : List Label) (p : Plan) (mss : Sequences) (k : ℕ) (t : Tree) → AreSequences (parallel_moves p labels) mss → Part k (tree_moves p k t) (parallel_moves p labels)
    → length (tree_items labels p mss k t) ≤ 8 * tree_size t + 2 * sum_of (how_many p) (tree_values t)
tree_short labels p mss k (Do s t) q a =
    let b = tree_short labels p mss (suc k) t q (part_tail k [] (tree_moves p (suc k) t) (parallel_moves p labels) a) in
    omega (arith, b, step_short p k s, length-append (step_items p k s) (tree_items labels p mss (suc k) t), sum_both (how_many p) (step_values s) (tree_values t))
tree_short labels p mss k (If c x y t u) q a =
    let rest = part_tail k [] (tree_moves p (suc k) t ++ tree_moves p (suc k + nodes t) u) (parallel_moves p labels) a in
    let b = tree_short labels p mss (suc k) t q (part_left (suc k) (tree_moves p (suc k) t) (tree_moves p (suc k + nodes t) u) (parallel_moves p labels) rest) in
    let d = tree_short labels p mss (suc k + nodes t) u q
    (part_right (suc k) (suc k + nodes t) (tree_moves p (suc k) t) (tree_moves p (suc k + nodes t) u) (parallel_moves p labels) (ap (λ n. suc k + n) (sym (moves_many p (suc k) t))) rest) in
    let ts = tree_items labels p mss (suc k) t in
    let us = tree_items labels p mss (suc k + nodes t) u in
    omega (arith, b, d, fork_short p k (failing c) (suc k + nodes t), length-append (fork_items p k (failing c) (suc k + nodes t)) (ts ++ us), length-append ts us, sum_both (how_many p) (tree_values t) (tree_values u))
tree_short labels p mss k (End l) q a =
    let s = sequence_here (parallel_moves p labels) mss k (last_moves p k l) q (part_head k (last_moves p k l) [] (parallel_moves p labels) a) in
    omega (arith, last_short labels p k l (sequence_at mss k) s.kinds)

-- the moves in front of a label, and those of its tree
fronts_short : (labels : List Label) (p : Plan) (mss : Sequences) (k : ℕ) (l : Label) → AreSequences (parallel_moves p labels) mss → Part k (label_moves p k l) (parallel_moves p labels)
    → length (front_moves mss k) ≤ 6 * length l.params
fronts_short labels p mss zero l q a =
    let s = sequence_here (parallel_moves p labels) mss 0 (entry_moves p 0 l.params) q (part_head 0 (entry_moves p 0 l.params) (tree_moves p 1 l.body) (parallel_moves p labels) a) in
    omega (arith, stand_short (entry_moves p 0 l.params) (sequence_at mss 0) s.kinds, entry_many p 0 l.params, singles_short None (sequence_at mss 0))
fronts_short labels p mss (suc k) l q a =
    let s = sequence_here (parallel_moves p labels) mss (suc k) [] q (part_head (suc k) [] (tree_moves p (suc (suc k)) l.body) (parallel_moves p labels) a) in
    omega (arith, stand_short [] (sequence_at mss (suc k)) s.kinds, singles_short None (sequence_at mss (suc k)))

body_part : (labels : List Label) (p : Plan) (k : ℕ) (l : Label) → Part k (label_moves p k l) (parallel_moves p labels) → Part (suc k) (tree_moves p (suc k) l.body) (parallel_moves p labels)
body_part labels p zero l a = part_tail 0 (entry_moves p 0 l.params) (tree_moves p 1 l.body) (parallel_moves p labels) a
body_part labels p (suc k) l a = part_tail (suc k) [] (tree_moves p (suc (suc k)) l.body) (parallel_moves p labels) a

labels_short : (labels : List Label) (p : Plan) (mss : Sequences) (k : ℕ) (ls : List Label) → AreSequences (parallel_moves p labels) mss → Part k (moves_from p k ls) (parallel_moves p labels)
    → length (items_from labels p mss k ls) ≤ 8 * size ls + 2 * sum_of (how_many p) (all_values ls)
labels_short labels p mss k [] q a = omega arith
labels_short labels p mss k (l ∷ ls) q a =
    let j = suc k + nodes l.body in
    let emit_context = part_left k (label_moves p k l) (moves_from p j ls) (parallel_moves p labels) a in
    let many = label_moves_many p k l in
    let later = part_right k j (label_moves p k l) (moves_from p j ls) (parallel_moves p labels) (omega (arith, many)) a in
    let b = tree_short labels p mss (suc k) l.body q (body_part labels p k l emit_context) in
    let c = labels_short labels p mss j ls q later in
    let moves = front_moves mss k ++ all_copies p k l.params in
    let body = tree_items labels p mss (suc k) l.body in
    omega (
      arith,
      b,
      c,
      fronts_short labels p mss k l q emit_context,
      all_copies_short p k l.params,
      length-append (front_moves mss k) (all_copies p k l.params),
      items_long moves,
      length-append (moved moves) body,
      length-append (label_items labels p mss k l) (items_from labels p mss j ls),
      sum_both (how_many p) l.params (tree_values l.body ++ all_values ls),
      sum_both (how_many p) (tree_values l.body) (all_values ls),
    )

-- ---- how many values there are

values_few : (t : Tree) → length (tree_values t) ≤ tree_size t
values_few (Do s t) = omega (arith, length-append (step_values s) (tree_values t), values_few t)
values_few (If c x y t u) = omega (arith, length-append (tree_values t) (tree_values u), values_few t, values_few u)
values_few (End l) = omega arith

all_values_few : (ls : List Label) → length (all_values ls) ≤ size ls
all_values_few [] = omega arith
all_values_few (l ∷ ls) = omega (arith, length-append l.params (tree_values l.body ++ all_values ls), length-append (tree_values l.body) (all_values ls), values_few l.body, all_values_few ls)

-- what is summed over values is no more than over all that is defined
tree_among : (f : ℕ → ℕ) (t : Tree) → sum_of f (tree_values t) ≤ sum_of f (defined t)
tree_among f (Do s t) =
    omega (arith, sum_both f (step_values s) (tree_values t), sum_both f (step_values s) (step_clones s ++ defined t), sum_both f (step_clones s) (defined t), tree_among f t)
tree_among f (If c x y t u) = omega (arith, sum_both f (tree_values t) (tree_values u), sum_both f (defined t) (defined u), tree_among f t, tree_among f u)
tree_among f (End l) = omega arith

pub all_among : (f : ℕ → ℕ) (ls : List Label) → sum_of f (all_values ls) ≤ sum_of f (all_defined ls)
all_among f [] = omega arith
all_among f (l ∷ ls) =
    omega (
      arith,
      sum_both f l.params (tree_values l.body ++ all_values ls),
      sum_both f (tree_values l.body) (all_values ls),
      sum_both f l.params (defined l.body ++ all_defined ls),
      sum_both f (defined l.body) (all_defined ls),
      tree_among f l.body,
      all_among f ls,
    )

-- ---- the whole

pub code_short : (labels : List Label) (p : Plan) (mss : Sequences) → Placed labels p → AreSequences (parallel_moves p labels) mss → length (code_of labels p mss) ≤ 16 * size labels
code_short labels p mss h q =
    let different = (and_parts (all_different (all_defined labels)) (list_all (is_single labels) labels)
    (and_parts (is_entry (slice_get labels 0)) (all_different (all_defined labels) && list_all (is_single labels) labels) h.single).1).0 in
    omega (
      arith,
      labels_short labels p mss 0 labels q (part_whole (parallel_moves p labels)),
      length-map (items labels p mss) (instr_of (starts labels p mss)),
      all_copies_few labels p (all_values labels) h,
      all_values_few labels,
      all_among (count (uses labels)) labels,
      counted_once (uses labels) (all_defined labels) different,
      uses_few 0 (points labels),
      total-from 0 labels,
    )

pub code_few : (labels : List Label) (p : Plan) (mss : Sequences) → Placed labels p → AreSequences (parallel_moves p labels) mss → size labels ≤ 2 ^ 26 → length (code_of labels p mss) < 2 ^ 31
code_few labels p mss h q n = let s = code_short labels p mss h q in omega (arith, s, n)
