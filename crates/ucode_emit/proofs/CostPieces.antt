-- What the piece of each point weighs: no more than what the placement counts for the values and the operands of the point.
use Rattle.std.proofs.Common.{◌≡◌, ℕ, zero, suc, ◌+◌, ◌<◌, ◌≤◌, true, false, nat_eq, if◌then◌else◌, List, [], ◌∷◌, ◌++◌, map, length, Option, Some, None, refl, sym, ap, ◌∙◌, subst, ⊎_elim, slice_get, arith}
use Rattle.std.specs.Prelude.{◌/◌, ◌^◌}
use Rattle.std.proofs.lemmas.Bool.{cases_Bool, or_right}
use Rattle.std.proofs.lemmas.Bool.Decides.{eqb_tells}
use Rattle.nv_base.specs.declared.term.Mem.{Mem}
use Rattle.nv_base.specs.declared.term.Mem.TheVariants.{Sram, Sdram, Scratch}
use Rattle.nv_base.specs.declared.term.Una.{Una as Unary}
use Rattle.nv_base.specs.declared.term.Una.TheVariants as una
use Rattle.nv_base.specs.declared.term.Bin.TheVariants.{Sub}
use Rattle.nv_base.specs.Sets.{is_in}
use Rattle.uc_isa.specs.declared.instruction.Instr.{Instr}
use Rattle.uc_isa.specs.declared.instruction.Instr.TheVariants as instr
use Rattle.uc_isa.specs.declared.instruction.Dst.{Dst}
use Rattle.uc_isa.specs.declared.instruction.Dst.TheVariants as dst
use Rattle.uc_isa.specs.declared.instruction.Cond.TheVariants.{Always}
use Rattle.uc_isa.specs.Registers.{failing}
use Rattle.uc_isa.specs.declared.instruction.Src.{Src}
use Rattle.uc_isa.specs.Moves.{weight, access_weight}
use Rattle.ssu_ir.specs.Tree.{Step, Lit, Una, Bin, Clone, Read, Write, Last, Jump, Halt, Tree, Do, If, End, Label, Does, Ends}
use Rattle.ssu_ir.specs.Points.{Names, PointKind as PointPlace, Entry, At, Point, points, place_values as place_variables}
use Rattle.ssu_ir.proofs.Lists.{in-itself}
use Rattle.place_plan.specs.declared.place.Place.{Place}
use Rattle.place_plan.specs.declared.place.Place.TheVariants.{A, B, L, LD, S, SD, Slot}
use Rattle.place_plan.specs.Plan.{Plan, home, first, pass}
use Rattle.place_plan.specs.Uses.{ValueOrigin, Parameter, Fetched, numbered, place_values, Address, is_used}
use Rattle.place_plan.specs.Fits.{is_slot, IsAddressAt}
use Rattle.place_plan.specs.Costs.{served_cost, entry_cost, result_cost, all_copied_cost, values_cost}
use Rattle.ucode_emit.specs.Moves.{Move}
use Rattle.ucode_emit.specs.Pieces.{Item, Moved, Plain, Branch, move_instr, moved, named, operands, operand_at, words, result_place, to_slot, copies, all_copies, single_moves, un_op, source, target, address_of, shift_of, defines, step_items, entry_point, entry_moves, last_moves}
use Rattle.ucode_emit.specs.Emits.{IsSequence}
use Rattle.ucode_emit.specs.inner.Layers.{Placed, PointsAt, root_point}
use Rattle.ucode_emit.specs.inner.Marks.{node_piece, place_piece, node_moves, place_moves}
use Rattle.ucode_emit.specs.inner.Cursors.{place_operands}
use Rattle.ucode_emit.proofs.CostMoves.{moves_weight, weight_both, operands_cost, operands_light, words_light, all_copied_light, moves_cost, stand_light, served_costs, sum_steps}
use Rattle.ucode_emit.proofs.DefinitionsHomes.{Settled, in_general, put_early, fetched_to, settled_at, unused_bare}
use Rattle.ucode_emit.proofs.Entries.{entry_here}
use Rattle.ucode_emit.proofs.PointsLabels.{entry_at}
use Rattle.ucode_emit.proofs.OperandsHomes.{CanServe, IsEmitContext, here_at, uses_here, source_of}
use Rattle.ucode_emit.proofs.PointsUsed.{root_at}
use Rattle.ucode_emit.proofs.Stood.{root_node, StoodPlace}

-- ---- the weight of items

abbrev pub item_weight : Item → ℕ
item_weight (Moved from at) = weight (move_instr from at)
item_weight (Plain i) = weight i
item_weight (Branch c point) = 0

abbrev pub items_weight : List Item → ℕ
items_weight [] = 0
items_weight (i ∷ is) = item_weight i + items_weight is

pub items_both : (a b : List Item) → items_weight (a ++ b) ≡ items_weight a + items_weight b
items_both [] b = let z : items_weight b ≡ 0 + items_weight b = omega arith in z
items_both (i ∷ a) b = sum_steps (item_weight i) (items_weight (a ++ b)) (items_weight a) (items_weight b) (items_both a b)

pub moved_weight : (ms : List Move) → items_weight (moved ms) ≡ moves_weight ms
moved_weight [] = refl
moved_weight (m ∷ ms) = ap (λ n. weight (move_instr m.0 m.1) + n) (moved_weight ms)

-- moves before other items
before : (ms : List Move) (is : List Item) → items_weight (moved ms ++ is) ≡ moves_weight ms + items_weight is
before ms is = items_both (moved ms) is ∙ ap (λ n. n + items_weight is) (moved_weight ms)

-- what is counted at a point
abbrev pub place_cost : Plan → ℕ → PointPlace → ℕ
place_cost p k q = values_cost p (place_values k q) + operands_cost p k 0 (place_operands q)

-- ---- what is defined in a slot has no copies

abbrev Bare : Plan → ℕ → Type 0
Bare p x = is_slot (home p x).defined ≡ true → (home p x).copied ≡ []

settled_bare : (labels : List Label) (p : Plan) (x : ℕ) → Settled labels p x → Bare p x
settled_bare labels p x (in_general g c) e = c.from_slot e
settled_bare labels p x (put_early c) e = c.copied
settled_bare labels p x (fetched_to m r d c) e = c.from_slot e

bare_at : (labels : List Label) (p : Plan) (k : ℕ) (q : Point) (x : ℕ) → Placed labels p → slice_get (points labels) k ≡ Some q → is_in x (place_variables q.place) ≡ true → Bare p x
bare_at labels p k q x h e i c =
    ⊎_elim (λ (u : is_used labels x ≡ true). settled_bare labels p x (settled_at labels p k q x h e i u) c) (λ (u : is_used labels x ≡ false). unused_bare labels p x h u) (cases_Bool (is_used labels x))

all_bare : (p : Plan) (x : ℕ) (xs : List ℕ) → ((y : ℕ) → is_in y (x ∷ xs) ≡ true → Bare p y) → (y : ℕ) → is_in y xs ≡ true → Bare p y
all_bare p x xs h y i = h y (or_right (nat_eq y x) (is_in y xs) i)

-- ---- results

slot_light : (s : Option ℕ) (d : Place) → moves_weight (if is_slot d then (S (named s), d) ∷ [] else []) ≤ result_cost d
slot_light s (A k) = omega arith
slot_light s (B k) = omega arith
slot_light s (L k) = omega arith
slot_light s (LD k) = omega arith
slot_light s (S k) = omega arith
slot_light s (SD k) = omega arith
slot_light s (Slot k) = omega arith

copies_light : (p : Plan) (k x : ℕ) → Bare p x → moves_weight (copies p k x) ≤ all_copied_cost (home p x).copied
copies_light p k x b = all_copied_light (pass p k).s (home p x).defined (home p x).copied b

defines_light : (p : Plan) (k x : ℕ) (op : Dst → Instr) → weight (op (target (result_place p k x))) ≡ 0 → Bare p x → items_weight (defines p k x op) ≤ result_cost (home p x).defined + all_copied_cost (home p x).copied
defines_light p k x op w b =
    let a = weight_both (to_slot p k x) (copies p k x) in
    let m = moved_weight (to_slot p k x ++ copies p k x) in
    let c = slot_light (pass p k).s (home p x).defined in
    let d = copies_light p k x b in
    omega (arith, w, a, m, c, d)

un_weight : (d : Dst) (op : Unary) (x : Src) → weight (instr.Un d (un_op op) x) ≡ 0
un_weight d una.Not x = refl
un_weight d (una.Shl k) x = refl
un_weight d (una.Shr k) x = refl
un_weight d (una.Rol k) x = refl

-- ---- values that stand where they are put

read_light : (p : Plan) (k : ℕ) (origin : ℕ → ValueOrigin) (i : ℕ) (xs : List ℕ) → ((x : ℕ) → is_in x xs ≡ true → Bare p x) → moves_weight (all_copies p k xs) ≤ values_cost p (numbered k origin i xs)
read_light p k origin i [] h = omega arith
read_light p k origin i (x ∷ xs) h =
    let a = weight_both (copies p k x) (all_copies p k xs) in
    let b = copies_light p k x (h x (in-itself x xs)) in
    let c = read_light p k origin (suc i) xs (all_bare p x xs h) in
    omega (arith, a, b, c)

entry_one : (i : ℕ) (d : Place) → served_cost (A i) d ≤ entry_cost d
entry_one i (A k) = omega arith
entry_one i (B k) = omega arith
entry_one i (L k) = omega arith
entry_one i (LD k) = omega arith
entry_one i (S k) = omega arith
entry_one i (SD k) = omega arith
entry_one i (Slot k) = omega arith

entry_light : (p : Plan) (k i : ℕ) (xs : List ℕ) → ((x : ℕ) → is_in x xs ≡ true → Bare p x) → moves_cost (entry_moves p i xs) + moves_weight (all_copies p k xs) ≤ values_cost p (numbered k (Parameter 0) i xs)
entry_light p k i [] h = omega arith
entry_light p k i (x ∷ xs) h =
    let a = weight_both (copies p k x) (all_copies p k xs) in
    let b = copies_light p k x (h x (in-itself x xs)) in
    let c = entry_light p k (suc i) xs (all_bare p x xs h) in
    let d = entry_one i (home p x).defined in
    omega (arith, a, b, c, d)

-- ---- no address is the spill base

not_fifteen : (m : Mem) (k : ℕ) → k < 15 → access_weight m (address_of (B k)) ≡ 0
not_fifteen Sram k h = refl
not_fifteen Sdram k h = refl
not_fifteen Scratch k h = ⊎_elim (λ z. absurd (omega (arith, h, z.1))) (λ z. ap (λ b. if b then 16 else 0) z.0) (eqb_tells k 15)

in_first_bank : (m : Mem) (k : ℕ) → access_weight m (address_of (A k)) ≡ 0
in_first_bank Sram k = refl
in_first_bank Sdram k = refl
in_first_bank Scratch k = refl

address_free : (slots : ℕ) (m : Mem) {from at : Place} → IsAddressAt from at → CanServe slots from → access_weight m (address_of at) ≡ 0
address_free slots m (IsAddressAt.in_a {k}) c = in_first_bank m k
address_free slots m (IsAddressAt.in_b {k}) c = not_fifteen m k c
address_free slots m (IsAddressAt.from_l {k}) c = in_first_bank m 15
address_free slots m (IsAddressAt.from_ld {k}) c = in_first_bank m 15
address_free slots m (IsAddressAt.from_slot {k}) c = in_first_bank m 15

use_free : (labels : List Label) (p : Plan) (k : ℕ) (of : Names) (above : List ℕ) (t : Tree) (x : ℕ) (m : Mem) → Placed labels p → PointsAt labels k of above t
    → IsEmitContext labels p k (record { point = k; operand = 0; value = x; role = Address }) → is_in x (root_point of above t).uses ≡ true → access_weight m (address_of (operand_at p k 0)) ≡ 0
use_free labels p k of above t x m h a u i =
    let s = here_at labels p k of above t h a in
    let source = source_of labels p k (root_point of above t) (record { point = k; operand = 0; value = x; role = Address }) h s u.0.1 i u.0.0.0 in
    address_free p.slots m u.0.0.1 source.serves

-- ---- steps

three_parts : (all a b c d : ℕ) → all ≡ a + b → a ≤ c → b ≤ d → all ≤ d + 0 + c
three_parts all a b c d e f g = omega (arith, e, f, g)

pub step_light : (labels : List Label) (p : Plan) (k : ℕ) (of : Names) (above : List ℕ) (s : Step) (t : Tree) → Placed labels p → PointsAt labels k of above (Do s t) → items_weight (step_items p k s) ≤ place_cost p k (At (Does s))
step_light labels p k of above (Lit x v) t h a =
    let e = root_at labels k of above (Do (Lit x v) t) a in
    let d = defines_light p k x (λ d. instr.Immed d (v / 2 ^ shift_of v) (shift_of v)) refl (bare_at labels p k (root_point of above (Do (Lit x v) t)) x h e (in-itself x [])) in
    omega (arith, d)
step_light labels p k of above (Una x op y) t h a =
    let e = root_at labels k of above (Do (Una x op y) t) a in
    let op' = λ (d : Dst). instr.Un d (un_op op) (source (operand_at p k 0)) in
    let d = defines_light p k x op' (un_weight (target (result_place p k x)) op (source (operand_at p k 0))) (bare_at labels p k (root_point of above (Do (Una x op y) t)) x h e (in-itself x [])) in
    three_parts (items_weight (moved (operands p k 1) ++ defines p k x op')) (moves_weight (operands p k 1)) (items_weight (defines p k x op')) (operands_cost p k 0 1) (result_cost (home p x).defined + all_copied_cost (home p x).copied)
    (before (operands p k 1) (defines p k x op')) (operands_light p k 1) d
step_light labels p k of above (Bin x op y z) t h a =
    let e = root_at labels k of above (Do (Bin x op y z) t) a in
    let op' = λ (d : Dst). instr.Alu d op (source (operand_at p k 0)) (source (operand_at p k 1)) in
    let d = defines_light p k x op' refl (bare_at labels p k (root_point of above (Do (Bin x op y z) t)) x h e (in-itself x [])) in
    three_parts (items_weight (moved (operands p k 2) ++ defines p k x op')) (moves_weight (operands p k 2)) (items_weight (defines p k x op')) (operands_cost p k 0 2) (result_cost (home p x).defined + all_copied_cost (home p x).copied)
    (before (operands p k 2) (defines p k x op')) (operands_light p k 2) d
step_light labels p k of above (Clone xs y) t h a = omega arith
step_light labels p k of above (Read m xs y) t h a =
    let q = root_point of above (Do (Read m xs y) t) in
    let e = root_at labels k of above (Do (Read m xs y) t) a in
    let u = uses_here labels p k q h e in
    let w = use_free labels p k of above (Do (Read m xs y) t) (of y) m h a u.0 (in-itself (of y) []) in
    let is = Plain (instr.Read m (first p k) (length xs) (address_of (operand_at p k 0)) 0) ∷ moved (all_copies p k xs) in
    let b = before (operands p k 1) is in
    let c = moved_weight (all_copies p k xs) in
    let d = read_light p k (Fetched m) 0 xs (λ x i. bare_at labels p k q x h e i) in
    let o = operands_light p k 1 in
    omega (arith, w, b, c, d, o)
step_light labels p k of above (Write m y xs) t h a =
    let q = root_point of above (Do (Write m y xs) t) in
    let e = root_at labels k of above (Do (Write m y xs) t) a in
    let u = uses_here labels p k q h e in
    let n = length xs in
    let w = use_free labels p k of above (Do (Write m y xs) t) (of y) m h a u.0 (in-itself (of y) (map of xs)) in
    let b = before (operands p k 1 ++ words p k 1 n) (Plain (instr.Write m (first p k) n (address_of (operand_at p k 0)) 0) ∷ []) in
    let c = weight_both (operands p k 1) (words p k 1 n) in
    let d = words_light p k 1 n in
    let o = operands_light p k 1 in
    omega (arith, w, b, c, d, o)

-- ---- any node

last_light : (labels : List Label) (p : Plan) (k n : ℕ) (l : Last) (ms : List Move) → IsSequence (last_moves p k l) ms → items_weight (node_piece labels p k (Ends l) n ms) ≤ place_cost p k (At (Ends l))
last_light labels p k n (Jump l xs) ms q =
    let a = stand_light (pass p k).l (last_moves p k (Jump l xs)) ms q.kinds in
    let b = before (single_moves (pass p k).l ms) (Branch Always (entry_point labels l) ∷ []) in
    let c = served_costs p k 0 (length xs) in
    omega (arith, a, b, c)
last_light labels p k n (Halt e xs) ms q =
    let a = stand_light (pass p k).l (last_moves p k (Halt e xs)) ms q.kinds in
    let b = before (single_moves (pass p k).l ms) (Plain (instr.Halt e (length xs)) ∷ []) in
    let c = served_costs p k 0 (length xs) in
    omega (arith, a, b, c)

tree_light : (labels : List Label) (p : Plan) (k n : ℕ) (of : Names) (above : List ℕ) (t : Tree) (ms : List Move) → Placed labels p → PointsAt labels k of above t → IsSequence (node_moves p k (root_node t)) ms
    → items_weight (node_piece labels p k (root_node t) n ms) ≤ place_cost p k (At (root_node t))
tree_light labels p k n of above (Do s t) ms h a q = step_light labels p k of above s t h a
tree_light labels p k n of above (If c x y t u) ms h a q =
    let b = before (operands p k 2) (Plain (instr.Alu dst.Nowhere Sub (source (operand_at p k 0)) (source (operand_at p k 1))) ∷ Branch (failing c) (suc k + n) ∷ []) in
    let o = operands_light p k 2 in
    omega (arith, b, o)
tree_light labels p k n of above (End l) ms h a q = last_light labels p k n l ms q

-- ---- where labels begin

front_parts : (labels : List Label) (p : Plan) (k l n : ℕ) (params : List ℕ) (ms : List Move) → items_weight (place_piece labels p k (Entry l params) n ms) ≡ moves_weight (single_moves None ms) + moves_weight (all_copies p k params)
front_parts labels p k l n params ms = moved_weight (single_moves None ms ++ all_copies p k params) ∙ weight_both (single_moves None ms) (all_copies p k params)

front_light : (labels : List Label) (p : Plan) (k l n : ℕ) (params : List ℕ) (ms : List Move) → ((x : ℕ) → is_in x params ≡ true → Bare p x) → IsSequence (place_moves p k (Entry l params)) ms
    → items_weight (place_piece labels p k (Entry l params) n ms) ≤ place_cost p k (Entry l params)
front_light labels p k zero n params ms h q =
    let a = front_parts labels p k 0 n params ms in
    let b = stand_light None (entry_moves p 0 params) ms q.kinds in
    let c = entry_light p k 0 params h in
    omega (arith, a, b, c)
front_light labels p k (suc l) n params ms h q =
    let a = front_parts labels p k (suc l) n params ms in
    let b = stand_light None [] ms q.kinds in
    let c = read_light p k (Parameter (suc l)) 0 params h in
    omega (arith, a, b, c)

-- ---- any point

entry_bare : (labels : List Label) (p : Plan) (k l : ℕ) (params : List ℕ) → Placed labels p → StoodPlace labels p k (Entry l params) 0 → (x : ℕ) → is_in x params ≡ true → Bare p x
entry_bare labels p k l params h s x i =
    bare_at labels p (entry_point labels l) (entry_at l s.it) x h (entry_here labels l s.it s.there) (subst (λ xs. is_in x xs ≡ true) (sym s.params_) i)

pub place_light : (labels : List Label) (p : Plan) (k n : ℕ) (q : PointPlace) (ms : List Move) → Placed labels p → StoodPlace labels p k q n → IsSequence (place_moves p k q) ms
    → items_weight (place_piece labels p k q n ms) ≤ place_cost p k q
place_light labels p k n (Entry l params) ms h s i = front_light labels p k l n params ms (entry_bare labels p k l params h s) i
place_light labels p k n (At it) ms h s i =
    subst (λ m. items_weight (node_piece labels p k m n ms) ≤ place_cost p k (At m)) s.root
    (tree_light labels p k n s.of s.above s.tree ms h s.points_ (subst (λ m. IsSequence (node_moves p k m) ms) (sym s.root) i))
