-- The rows of the program of the banks, family by family.
use Rattle.std.proofs.Common.{◌≡◌, inl, inr, ℕ, suc, ◌+◌, ◌*◌, ◌≤◌, true, not, ◌&&◌, List, [], ◌∷◌, ◌++◌, length, map, filter, arith}
use Rattle.std.specs.List.{flat_map}
use Rattle.std.proofs.lemmas.List.{length-append, length-map}
use Rattle.nv_base.specs.Sets.{without}
use Rattle.ssu_ir.specs.Measures.{size}
use Rattle.ssu_ir.specs.Points.{PointKind, Entry, At, Point, points}
use Rattle.ssu_ir.specs.Single.{single}
use Rattle.ssu_ir.specs.Tree.{Lit, Una, Bin, Clone, Read, Write, Label, Does, Forks, Ends}
use Rattle.ssu_ir.proofs.PointLemmas.{total-from}
use Rattle.place_plan.specs.Uses.{accesses, reads_at, Value, values, values_from, place_values, Role, Operand, Address, Written, Argument, Ending, Use, uses, uses_from, uses_of, is_used, place_roles}
use Rattle.place_plan.specs.Fits.{is_result, point_values}
use Rattle.place_plan.proofs.Joined.{values-different}
use Rattle.bank_prog_form.specs.declared.column.Column.TheVariants.{Def, Fill, Stay, First}
use Rattle.bank_prog_form.specs.declared.column.Bank.TheVariants.{M}
use Rattle.bank_prog_form.specs.Columns.{each_point, origin_of, is_fetched, point_uses, place_words, role_beginnings, origin_beginnings, services}
use Rattle.bank_prog_form.specs.Rows.{Line, covers, exactly_one, def, dir, is_parameter, is_written, parameter_choice, result_choice, access_choice, use_choice, one_choice, served_stay, use_cover, copy_lines, word_from_register, copy_cover, argument_lines, argument_cover, homes_cover, two_operands, pair_lines, operand_lines, operand_banks, room_lines, capacity, read_owners, access_owners, fill_owners, write_owners, owners, stay_begins, word_begins, begins_at, adjacency, is_slot, slot_read, slot_written, result_written, value_written, passes, lines}
use Rattle.bank_prog_form.specs.Program.{row_of, number_of, rows, IsTooLarge}
use Rattle.bank_prog.proofs.Lengths.{kept-few, if-few, flat-few, points-few, accesses-few, parts-few}
use Rattle.bank_prog.proofs.FewColumns.{words-few, fetches-few, map-few, services-few, columns_few}
use Rattle.bank_prog.proofs.UseSums.{sum_of, sum-ones, of_value, by_value, each-once}

-- ---- 1. one choice

parameter-few : (v : Value) → length (parameter_choice v) ≤ 2
parameter-few v = if-few 2 (is_parameter v.origin) (exactly_one (def v.var)) (omega arith)

result-few : (labels : List Label) (v : Value) → length (result_choice labels v) ≤ 2
result-few labels v = if-few 2 (is_result v.origin) (exactly_one (def v.var ++ flat_map dir (uses_of labels v.var))) (omega arith)

-- ---- 2. homes cover uses

cover-few : (labels : List Label) (u : Use) → length (use_cover labels u) ≤ 4
cover-few labels u = let h = if-few 1 (is_fetched (origin_of labels u.value)) (served_stay u ∷ []) (omega arith) in omega (arith, h)

word-few : (x : ℕ) (u : Use) → length (word_from_register x u) ≤ 1
word-few x u = if-few 1 (is_written u.role) _ (omega arith)

-- six for each value, and one for each of its uses
copies-few : (labels : List Label) (v : Value) → length (copy_cover labels v) ≤ 6 + sum_of (λ (u : Use). 1) (of_value (uses labels) v.var)
copies-few labels v =
    let words = flat-few 1 (word_from_register v.var) (uses_of labels v.var) (word-few v.var) in
    let ones = sum-ones (uses_of labels v.var) in
    if-few (6 + sum_of (λ (u : Use). 1) (of_value (uses labels) v.var)) (is_used labels v.var && not (is_fetched v.origin)) (copy_lines labels v.var) (omega (arith, words, ones))

all-copies-few : (labels : List Label) (vs : List Value) → length (flat_map (copy_cover labels) vs) ≤ 6 * length vs + by_value (λ u. 1) (uses labels) vs
all-copies-few labels [] = omega arith
all-copies-few labels (v ∷ vs) =
    let a = length-append (copy_cover labels v) (flat_map (copy_cover labels) vs) in
    let b = copies-few labels v in
    let c = all-copies-few labels vs in
    omega (arith, a, b, c)

argument-few : (labels : List Label) (k i : ℕ) (r : Role) → length (argument_lines labels k i r) ≤ 3
argument-few labels k i Operand = omega arith
argument-few labels k i Address = omega arith
argument-few labels k i (Written m j) = omega arith
argument-few labels k i (Argument l j) = omega arith
argument-few labels k i (Ending j) = omega arith

-- ---- 3. operand banks

operand-few : (k : ℕ) (q : Point) → length (operand_lines k q) ≤ 3
operand-few k q = if-few 3 (two_operands (place_roles q.place)) (pair_lines k) (omega arith)

-- ---- 5. owners

reads-few : (k : ℕ) (q : PointKind) → length (reads_at k q) ≤ 1
reads-few k (Entry l params) = omega arith
reads-few k (At (Does (Lit x v))) = omega arith
reads-few k (At (Does (Una x op y))) = omega arith
reads-few k (At (Does (Bin x op y z))) = omega arith
reads-few k (At (Does (Clone xs y))) = omega arith
reads-few k (At (Does (Read m xs y))) = omega arith
reads-few k (At (Does (Write m y xs))) = omega arith
reads-few k (At (Forks c x y)) = omega arith
reads-few k (At (Ends l)) = omega arith

filled-few : (labels : List Label) (k : ℕ) (q : Point) → length (fill_owners labels k q) ≤ 8
filled-few labels k q =
    let f = access_owners labels (without q.after (point_values k q)) in
    let a = flat-few 8 f (reads_at k q.place) (λ a. omega arith) in
    let b = reads-few k q.place in
    omega (arith, a, b)

-- ---- 6. adjacency

stay-begins-few : (labels : List Label) (n : ℕ) (v : Value) → length (stay_begins labels n v) ≤ 8
stay-begins-few labels n v =
    let rs = origin_beginnings n v.origin in
    let begin : ℕ → Line = λ f. covers (First v.point f ∷ []) (Stay v.var f ∷ []) in
    if-few 8 (is_used labels v.var) (map begin rs) (map-few 8 begin rs (fetches-few n v.origin))

word-begins-few : (n : ℕ) (u : Use) → length (word_begins n u) ≤ 8
word-begins-few n u = map-few 8 _ (role_beginnings n u.role) (words-few n u.role)

begins-few : (labels : List Label) (k : ℕ) (ps : List Point) → length (each_point (begins_at labels) k ps) ≤ 8 * length (values_from k ps) + 8 * length (uses_from k ps)
begins-few labels k [] = omega arith
begins-few labels k (q ∷ ps) =
    let vs = place_values k q.place in
    let us = point_uses k q in
    let stays = stay_begins labels (place_words q.place) in
    let words = word_begins (place_words q.place) in
    let a = length-append (begins_at labels k q) (each_point (begins_at labels) (suc k) ps) in
    let b = length-append (flat_map stays vs) (flat_map words us) in
    let c = flat-few 8 stays vs (stay-begins-few labels (place_words q.place)) in
    let d = flat-few 8 words us (word-begins-few (place_words q.place)) in
    let e = length-append vs (values_from (suc k) ps) in
    let f = length-append us (uses_from (suc k) ps) in
    let g = begins-few labels (suc k) ps in
    omega (arith, a, b, c, d, e, f, g)

-- ---- 7. passes

slot-reads-few : (u : Use) → length (slot_read u) ≤ 12
slot-reads-few u =
    let kept = filter (λ s. is_slot s.from) (services u.role) in
    let a = kept-few (λ s. is_slot s.from) (services u.role) in
    let b = services-few u.role in
    map-few 12 _ kept (omega (arith, a, b))

written-few : (labels : List Label) (v : Value) → length (value_written labels v) ≤ 2
written-few labels v =
    let r = if-few 1 (is_result v.origin) (slot_written v.point (Def v.var M) ∷ []) (omega arith) in
    if-few 2 (is_used labels v.var) (slot_written v.point (Fill v.var M) ∷ result_written v) (omega (arith, r))

-- ---- all

three-parts : {X : Type 0} (a b c : List X) → length (a ++ (b ++ c)) ≡ length a + (length b + length c)
three-parts a b c = omega (arith, length-append b c, length-append a (b ++ c))

four-parts : {X : Type 0} (a b c d : List X) → length (a ++ (b ++ (c ++ d))) ≡ length a + (length b + (length c + length d))
four-parts a b c d = omega (arith, three-parts b c d, length-append a (b ++ (c ++ d)))

seven-parts : {X : Type 0} (a b c d e f g : List X) → length (a ++ (b ++ (c ++ (d ++ (e ++ (f ++ g)))))) ≡ length a + (length b + (length c + (length d + (length e + (length f + length g)))))
seven-parts a b c d e f g = omega (arith, four-parts d e f g, length-append c (d ++ (e ++ (f ++ g))), length-append b (c ++ (d ++ (e ++ (f ++ g)))), length-append a (b ++ (c ++ (d ++ (e ++ (f ++ g))))))

choices-few : (labels : List Label) → length (one_choice labels) ≤ 4 * length (values labels) + (2 * length (points labels) + 2 * length (uses labels))
choices-few labels =
    let vs = values labels in
    let us = uses labels in
    let parts = four-parts (flat_map parameter_choice vs) (flat_map (result_choice labels) vs) (flat_map access_choice (accesses labels)) (flat_map use_choice us) in
    let a = flat-few 2 parameter_choice vs parameter-few in
    let b = flat-few 2 (result_choice labels) vs (result-few labels) in
    let c = flat-few 2 access_choice (accesses labels) (λ a. omega arith) in
    let d = accesses-few 0 (points labels) in
    let e = flat-few 2 use_choice us (λ u. omega arith) in
    omega (arith, parts, a, b, c, d, e)

covers-few : (labels : List Label) → single labels ≡ true → length (homes_cover labels) ≤ 6 * length (values labels) + 8 * length (uses labels)
covers-few labels h =
    let vs = values labels in
    let us = uses labels in
    let parts = three-parts (flat_map (use_cover labels) us) (flat_map (copy_cover labels) vs) (flat_map (argument_cover labels) us) in
    let a = flat-few 4 (use_cover labels) us (cover-few labels) in
    let b = all-copies-few labels vs in
    let c = each-once (λ u. 1) us vs (values-different labels h) in
    let d = sum-ones us in
    let e = flat-few 3 (argument_cover labels) us (λ u. argument-few labels u.point u.operand u.role) in
    omega (arith, parts, a, b, c, d, e)

owners-few : (labels : List Label) → length (owners labels) ≤ 40 * length (points labels)
owners-few labels =
    let ps = points labels in
    let parts = three-parts (each_point (read_owners labels) 0 ps) (each_point (fill_owners labels) 0 ps) (each_point (write_owners labels) 0 ps) in
    let a = points-few 16 (read_owners labels) 0 ps (λ k q. omega arith) in
    let b = points-few 8 (fill_owners labels) 0 ps (filled-few labels) in
    let c = points-few 16 (write_owners labels) 0 ps (λ k q. omega arith) in
    omega (arith, parts, a, b, c)

passes-few : (labels : List Label) → length (passes labels) ≤ 12 * length (uses labels) + 2 * length (values labels)
passes-few labels =
    let a = length-append (flat_map slot_read (uses labels)) (flat_map (value_written labels) (values labels)) in
    let b = flat-few 12 slot_read (uses labels) slot-reads-few in
    let c = flat-few 2 (value_written labels) (values labels) (written-few labels) in
    omega (arith, a, b, c)

pub rows_few : (labels : List Label) (slots : ℕ) → single labels ≡ true → length (rows labels slots) ≤ 64 * size labels
rows_few labels slots h =
    let ps = points labels in
    let all = length-map (lines labels slots) (row_of (number_of labels)) in
    let parts = seven-parts (one_choice labels) (homes_cover labels) (operand_banks labels) (capacity labels slots) (owners labels) (adjacency labels) (passes labels) in
    let a = choices-few labels in
    let b = covers-few labels h in
    let c = points-few 3 operand_lines 0 ps operand-few in
    let d = points-few 3 (λ k q. room_lines slots q.before) 0 ps (λ k q. omega arith) in
    let e = owners-few labels in
    let f = begins-few labels 0 ps in
    let g = passes-few labels in
    let sizes = parts-few 0 ps in
    let whole = total-from 0 labels in
    omega (arith, all, parts, a, b, c, d, e, f, g, sizes, whole)

-- so what is too large isn't larger than that
pub large_few : (labels : List Label) (slots n : ℕ) → single labels ≡ true → IsTooLarge labels slots n → n ≤ 64 * size labels
large_few labels slots n h (inl many) = let e = columns_few labels in omega (arith, e, many.0)
large_few labels slots n h (inr many) = let e = rows_few labels slots h in omega (arith, e, many.1.0)
