-- How many instructions the piece of each point has. Words that are put early are counted at their uses, and not where their values are defined.
use Rattle.std.proofs.Common.{◌≡◌, ℕ, zero, suc, ◌+◌, ◌*◌, ◌≤◌, ◌⊎◌, false, List, [], ◌∷◌, ◌++◌, map, length, None, sym, ap, ◌∙◌, subst, ⊎_elim, slice_get, Some, arith}
use Rattle.std.proofs.lemmas.List.{length-append}
use Rattle.std.specs.List.{AllByRecursion}
use Rattle.nv_base.specs.declared.term.Mem.{Mem}
use Rattle.nv_base.specs.declared.term.Bin.TheVariants.{Sub}
use Rattle.uc_isa.specs.declared.instruction.Instr.{Instr}
use Rattle.uc_isa.specs.declared.instruction.Instr.TheVariants as instr
use Rattle.uc_isa.specs.declared.instruction.Dst.{Dst}
use Rattle.uc_isa.specs.declared.instruction.Dst.TheVariants as dst
use Rattle.uc_isa.specs.declared.instruction.Cond.TheVariants.{Always}
use Rattle.uc_isa.specs.Registers.{failing}
use Rattle.ssu_ir.specs.Tree.{Step, Lit, Una, Bin, Clone, Read, Write, Last, Jump, Halt, Tree, Do, If, End, Label, Does, Forks, Ends}
use Rattle.ssu_ir.specs.Points.{Names, PointKind as PointPlace, Entry, At, Point, points, place_values as place_variables}
use Rattle.ssu_ir.specs.Measures.{step_code, last_code}
use Rattle.place_plan.specs.Plan.{Plan, home, first, pass}
use Rattle.place_plan.specs.Uses.{Parameter, Fetched, Ending, numbered, place_values, uses_at, roles}
use Rattle.place_plan.specs.Fits.{is_slot, IsHoused, IsGeneral, AreCopies, IsPutEarly}
use Rattle.ucode_emit.specs.Moves.{Move}
use Rattle.ucode_emit.specs.Pieces.{Item, Plain, Branch, moved, operands, operand_at, words, to_slot, copies, all_copies, single_moves, un_op, source, address_of, shift_of, defines, step_items, entry_point, entry_moves, served_moves, last_moves}
use Rattle.ucode_emit.specs.Emits.{IsSequence}
use Rattle.ucode_emit.specs.inner.Layers.{Placed, PointsAt, root_point}
use Rattle.ucode_emit.specs.inner.Marks.{node_piece, place_piece, node_moves, place_moves}
use Rattle.ucode_emit.specs.inner.Cursors.{place_operands}
use Rattle.ucode_emit.proofs.DefinitionsHomes.{housed_each}
use Rattle.ucode_emit.proofs.Entries.{entry_here}
use Rattle.ucode_emit.proofs.LawfulCopies.{sum_of}
use Rattle.ucode_emit.proofs.LengthMoves.{operands_early, operands_room, words_room, stand_long, jump_room, end_room, entry_room, early_of, general_room, early_room, read_room}
use Rattle.ucode_emit.proofs.OperandsHomes.{IsEmitContext, uses_here}
use Rattle.ucode_emit.proofs.Placing.{items_long}
use Rattle.ucode_emit.proofs.PointsEach.{each_here}
use Rattle.ucode_emit.proofs.PointsLabels.{entry_at}
use Rattle.ucode_emit.proofs.PointsUsed.{root_at}
use Rattle.ucode_emit.proofs.Stood.{root_node, StoodPlace}
use Rattle.std.specs.Prelude.{◌/◌, ◌^◌}

-- what the measure counts for a point
abbrev pub place_code : PointPlace → ℕ
place_code (Entry zero params) = 6 * length params
place_code (Entry (suc l) params) = 3 * length params
place_code (At (Does s)) = step_code s
place_code (At (Forks c x y)) = 6
place_code (At (Ends l)) = last_code l

abbrev pub Fit : List Label → Plan → ℕ → PointPlace → List Item → Type 0
Fit labels p k q is = length is + operands_early p k 0 (place_operands q) ≤ place_code q + sum_of (early_of labels p) (place_variables q)

-- moves before other items
before : (ms : List Move) (is : List Item) → length (moved ms ++ is) ≡ length ms + length is
before ms is = length-append (moved ms) is ∙ ap (λ n. n + length is) (items_long ms)

housed_at : (labels : List Label) (p : Plan) (k : ℕ) (q : Point) → Placed labels p → slice_get (points labels) k ≡ Some q → AllByRecursion (IsHoused labels p) (place_values k q.place)
housed_at labels p k q h e = each_here (λ j r. AllByRecursion (IsHoused labels p) (place_values j r.place)) (points labels) k q (housed_each labels p h) e

-- ---- values

result_room : (labels : List Label) (p : Plan) (k x : ℕ) → Placed labels p → (IsGeneral p (home p x).defined × AreCopies labels p x (home p x)) ⊎ IsPutEarly labels p x (home p x) → length (to_slot p k x) + length (copies p k x) ≤ 3 + early_of labels p x
result_room labels p k x h c = ⊎_elim (λ g. general_room labels p k x h g.0 g.1) (λ e. early_room labels p k x e) c

defines_room : (labels : List Label) (p : Plan) (k x : ℕ) (op : Dst → Instr) → Placed labels p → (IsGeneral p (home p x).defined × AreCopies labels p x (home p x)) ⊎ IsPutEarly labels p x (home p x)
    → length (defines p k x op) ≤ 4 + early_of labels p x
defines_room labels p k x op h c =
    let a = result_room labels p k x h c in
    let b = length-append (to_slot p k x) (copies p k x) in
    let d = items_long (to_slot p k x ++ copies p k x) in
    omega (arith, a, b, d)

fetched_room : (labels : List Label) (p : Plan) (k : ℕ) (m : Mem) (i : ℕ) (xs : List ℕ) → Placed labels p → AllByRecursion (IsHoused labels p) (numbered k (Fetched m) i xs) → length (all_copies p k xs) ≤ 4 * length xs + sum_of (early_of labels p) xs
fetched_room labels p k m i [] h c = omega arith
fetched_room labels p k m i (x ∷ xs) h c =
    let a = read_room labels p k x h (λ u. (c.0 u).1) in
    let b = fetched_room labels p k m (suc i) xs h c.1 in
    let d = length-append (copies p k x) (all_copies p k xs) in
    omega (arith, a, b, d)

params_room : (labels : List Label) (p : Plan) (k l i : ℕ) (xs : List ℕ) → Placed labels p → AllByRecursion (IsHoused labels p) (numbered k (Parameter l) i xs) → length (all_copies p k xs) ≤ 3 * length xs + sum_of (early_of labels p) xs
params_room labels p k l i [] h c = omega arith
params_room labels p k l i (x ∷ xs) h c =
    let a = general_room labels p k x h c.0.0 c.0.1 in
    let b = params_room labels p k l (suc i) xs h c.1 in
    let d = length-append (copies p k x) (all_copies p k xs) in
    omega (arith, a, b, d)

-- ---- steps

step_room : (labels : List Label) (p : Plan) (k : ℕ) (of : Names) (above : List ℕ) (s : Step) (t : Tree) → Placed labels p → PointsAt labels k of above (Do s t) → Fit labels p k (At (Does s)) (step_items p k s)
step_room labels p k of above (Lit x v) t h a =
    let c = housed_at labels p k (root_point of above (Do (Lit x v) t)) h (root_at labels k of above (Do (Lit x v) t) a) in
    let d = defines_room labels p k x (λ d. instr.Immed d (v / 2 ^ shift_of v) (shift_of v)) h c.0 in
    omega (arith, d)
step_room labels p k of above (Una x op y) t h a =
    let c = housed_at labels p k (root_point of above (Do (Una x op y) t)) h (root_at labels k of above (Do (Una x op y) t) a) in
    let op' = λ (d : Dst). instr.Un d (un_op op) (source (operand_at p k 0)) in
    let d = defines_room labels p k x op' h c.0 in
    let b = before (operands p k 1) (defines p k x op') in
    let o = operands_room p k 1 in
    omega (arith, d, b, o)
step_room labels p k of above (Bin x op y z) t h a =
    let c = housed_at labels p k (root_point of above (Do (Bin x op y z) t)) h (root_at labels k of above (Do (Bin x op y z) t) a) in
    let op' = λ (d : Dst). instr.Alu d op (source (operand_at p k 0)) (source (operand_at p k 1)) in
    let d = defines_room labels p k x op' h c.0 in
    let b = before (operands p k 2) (defines p k x op') in
    let o = operands_room p k 2 in
    omega (arith, d, b, o)
step_room labels p k of above (Clone xs y) t h a = omega arith
step_room labels p k of above (Read m xs y) t h a =
    let c = housed_at labels p k (root_point of above (Do (Read m xs y) t)) h (root_at labels k of above (Do (Read m xs y) t) a) in
    let d = fetched_room labels p k m 0 xs h c in
    let b = before (operands p k 1) (Plain (instr.Read m (first p k) (length xs) (address_of (operand_at p k 0)) 0) ∷ moved (all_copies p k xs)) in
    let e = items_long (all_copies p k xs) in
    let o = operands_room p k 1 in
    omega (arith, d, b, e, o)
step_room labels p k of above (Write m y xs) t h a =
    let n = length xs in
    let b = before (operands p k 1 ++ words p k 1 n) (Plain (instr.Write m (first p k) n (address_of (operand_at p k 0)) 0) ∷ []) in
    let c = length-append (operands p k 1) (words p k 1 n) in
    let d = words_room p k 1 n in
    let o = operands_room p k 1 in
    omega (arith, b, c, d, o)

-- ---- jumps and ends

end_targets : (labels : List Label) (p : Plan) (k : ℕ) (of : Names) (i a : ℕ) (xs : List ℕ) → AllByRecursion (IsEmitContext labels p k) (uses_at k i (map of xs) (roles Ending a xs)) → AllByRecursion (λ (m : Move). is_slot m.1 ≡ false) (served_moves p k i (length xs))
end_targets labels p k of i a [] h = tt
end_targets labels p k of i a (x ∷ xs) h = (ap is_slot h.0.0.0.1, end_targets labels p k of (suc i) (suc a) xs h.1)

last_room : (labels : List Label) (p : Plan) (k n : ℕ) (of : Names) (above : List ℕ) (l : Last) (ms : List Move) → Placed labels p → PointsAt labels k of above (End l) → IsSequence (last_moves p k l) ms → Fit labels p k (At (Ends l)) (node_piece labels p k (Ends l) n ms)
last_room labels p k n of above (Jump l xs) ms h a q =
    let b = before (single_moves (pass p k).l ms) (Branch Always (entry_point labels l) ∷ []) in
    let c = stand_long (pass p k).l (last_moves p k (Jump l xs)) ms q.kinds in
    let d = jump_room p k 0 (length xs) in
    omega (arith, b, c, d)
last_room labels p k n of above (Halt e xs) ms h a q =
    let r = root_point of above (End (Halt e xs)) in
    let u = uses_here labels p k r h (root_at labels k of above (End (Halt e xs)) a) in
    let b = before (single_moves (pass p k).l ms) (Plain (instr.Halt e (length xs)) ∷ []) in
    let c = stand_long (pass p k).l (last_moves p k (Halt e xs)) ms q.kinds in
    let d = end_room p k 0 (length xs) (end_targets labels p k of 0 0 xs u) in
    omega (arith, b, c, d)

tree_room : (labels : List Label) (p : Plan) (k n : ℕ) (of : Names) (above : List ℕ) (t : Tree) (ms : List Move) → Placed labels p → PointsAt labels k of above t → IsSequence (node_moves p k (root_node t)) ms → Fit labels p k (At (root_node t)) (node_piece labels p k (root_node t) n ms)
tree_room labels p k n of above (Do s t) ms h a q = step_room labels p k of above s t h a
tree_room labels p k n of above (If c x y t u) ms h a q =
    let b = before (operands p k 2) (Plain (instr.Alu dst.Nowhere Sub (source (operand_at p k 0)) (source (operand_at p k 1))) ∷ Branch (failing c) (suc k + n) ∷ []) in
    let o = operands_room p k 2 in
    omega (arith, b, o)
tree_room labels p k n of above (End l) ms h a q = last_room labels p k n of above l ms h a q

-- ---- where labels begin

front_long : (labels : List Label) (p : Plan) (k l n : ℕ) (params : List ℕ) (ms : List Move) → length (place_piece labels p k (Entry l params) n ms) ≡ length (single_moves None ms) + length (all_copies p k params)
front_long labels p k l n params ms = items_long (single_moves None ms ++ all_copies p k params) ∙ length-append (single_moves None ms) (all_copies p k params)

front_room : (labels : List Label) (p : Plan) (k l n : ℕ) (params : List ℕ) (ms : List Move) → Placed labels p → AllByRecursion (IsHoused labels p) (numbered k (Parameter l) 0 params) → IsSequence (place_moves p k (Entry l params)) ms
    → Fit labels p k (Entry l params) (place_piece labels p k (Entry l params) n ms)
front_room labels p k zero n params ms h c q =
    let a = front_long labels p k 0 n params ms in
    let b = stand_long None (entry_moves p 0 params) ms q.kinds in
    let d = entry_room p 0 params in
    let e = params_room labels p k 0 0 params h c in
    omega (arith, a, b, d, e)
front_room labels p k (suc l) n params ms h c q =
    let a = front_long labels p k (suc l) n params ms in
    let b = stand_long None [] ms q.kinds in
    let e = params_room labels p k (suc l) 0 params h c in
    omega (arith, a, b, e)

entry_housed : (labels : List Label) (p : Plan) (k l n : ℕ) (params : List ℕ) → Placed labels p → StoodPlace labels p k (Entry l params) n → AllByRecursion (IsHoused labels p) (numbered k (Parameter l) 0 params)
entry_housed labels p k l n params h s =
    subst (λ j. AllByRecursion (IsHoused labels p) (numbered j (Parameter l) 0 params)) s.begins_
    (subst (λ xs. AllByRecursion (IsHoused labels p) (numbered (entry_point labels l) (Parameter l) 0 xs)) s.params_
    (housed_at labels p (entry_point labels l) (entry_at l s.it) h (entry_here labels l s.it s.there)))

-- ---- any point

pub place_room : (labels : List Label) (p : Plan) (k n : ℕ) (q : PointPlace) (ms : List Move) → Placed labels p → StoodPlace labels p k q n → IsSequence (place_moves p k q) ms → Fit labels p k q (place_piece labels p k q n ms)
place_room labels p k n (Entry l params) ms h s i = front_room labels p k l n params ms h (entry_housed labels p k l n params h s) i
place_room labels p k n (At it) ms h s i =
    subst (λ m. Fit labels p k (At m) (node_piece labels p k m n ms)) s.root
    (tree_room labels p k n s.of s.above s.tree ms h s.points_ (subst (λ m. IsSequence (node_moves p k m) ms) (sym s.root) i))
