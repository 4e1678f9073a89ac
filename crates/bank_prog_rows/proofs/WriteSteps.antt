-- Rows of write registers, point by point.
use Rattle.std.proofs.Common.{◌≡◌, ℕ, zero, suc, ◌+◌, ◌<◌, ◌≤◌, Bool, true, false, cond, List, [], ◌∷◌, ◌++◌, map, length, drop, get_or, refl, sym, ap, ◌∙◌, append_assoc, arith}
use Rattle.std.specs.List.{flat_map, filter}
use Rattle.std.proofs.lemmas.List.{at_drop_more, at_drop_all, append-nil, drop_all, map-append}
use Rattle.std.proofs.lemmas.Bool.{false≢true}
use Rattle.std.specs.declared.vec.Vec.{Vec}
use Rattle.std.specs.declared.alloc.Global.{Global}
use Rattle.zo_model.specs.declared.program.Row.{Row}
use Rattle.zo_model.specs.Contents.{RowContents, row_contents}
use Rattle.ssu_ir.specs.Tree.{Label}
use Rattle.ssu_ir.specs.Points.{Point, points}
use Rattle.place_plan.specs.Uses as pure
use Rattle.place_plan.specs.Uses.{Role, Operand, Address, Written, Argument, Ending, writes_at}
use Rattle.bank_prog_form.specs.declared.column.Column.TheVariants.{WriteVia}
use Rattle.place_plan.specs.declared.uses.Use.{Use}
use Rattle.bank_prog_form.specs.Columns.{each_point, eight}
use Rattle.bank_prog_form.specs.Rows.{at_most, role_early, early_at, side_covering, waiting, is_written, write_owners}
use Rattle.bank_prog_form.specs.Program.{Numbers, row_of}
use Rattle.bank_prog_form.specs.inner.Adds.{Adds}
use Rattle.bank_prog_form.specs.inner.Form as form
use Rattle.bank_prog_form.specs.inner.Form.{Part, part_of}
use Rattle.bank_prog_rows.specs.inner.Waiting.{waiting_from, all_waiting, lists_of, write_owner, sdram_write_owner, part_writes, first_list, rest_lists, writes}

pub rest-dropped : (j : ℕ) (vs : List (Vec Use Global)) → rest_lists (lists_of (drop j vs)) ≡ lists_of (drop (j + 1) vs)
rest-dropped zero [] = refl
rest-dropped zero (v ∷ vs) = refl
rest-dropped (suc j) [] = ap lists_of (sym (drop_all (suc j + 1) [] (omega arith)))
rest-dropped (suc j) (v ∷ vs) = let n : suc j + 1 ≡ suc (j + 1) = omega arith in rest-dropped j vs ∙ ap (λ m. lists_of (drop m (v ∷ vs))) (sym n)

pub writes-more : {V : Type 0} (number : Numbers) (view : V → Part) (xs : List V) (i : ℕ) (d : V) (now : List (List pure.Use)) (rows rows' : List Row) (goal : List RowContents) → i < length xs
    → Adds number rows rows' (part_writes (view (get_or xs i d)) (first_list now)) → map row_contents rows ++ map (row_of number) (writes (map view (drop i xs)) now) ≡ goal
    → map row_contents rows' ++ map (row_of number) (writes (map view (drop (i + 1) xs)) (rest_lists now)) ≡ goal
writes-more number view xs i d now rows rows' goal l e h =
    let here = part_writes (view (get_or xs i d)) (first_list now) in
    let later = writes (map view (drop (i + 1) xs)) (rest_lists now) in
    ap (λ o. o ++ map (row_of number) later) e ∙ append_assoc (map row_contents rows) (map (row_of number) here) (map (row_of number) later)
    ∙ ap (λ o. map row_contents rows ++ o) (sym (map-append (row_of number) here later))
    ∙ sym (at_drop_more (λ ys. map row_contents rows ++ map (row_of number) (writes (map view ys) now)) xs i d l) ∙ h

pub writes-all : {V : Type 0} (number : Numbers) (view : V → Part) (xs : List V) (i : ℕ) (now : List (List pure.Use)) (rows : List Row) (goal : List RowContents) → length xs ≤ i
    → map row_contents rows ++ map (row_of number) (writes (map view (drop i xs)) now) ≡ goal → map row_contents rows ≡ goal
writes-all number view xs i now rows goal l h =
    sym (append-nil (map row_contents rows)) ∙ sym (at_drop_all (λ ys. map row_contents rows ++ map (row_of number) (writes (map view ys) now)) xs i l) ∙ h

-- ---- only written words are put early

none-early : (sdram : Bool) (r k i : ℕ) (role : Role) → is_written role ≡ false → role_early sdram r k i role ≡ []
none-early sdram r k i Operand e = refl
none-early sdram r k i Address e = refl
none-early sdram r k i (Written m j) e = absurd (false≢true (sym e))
none-early sdram r k i (Argument l j) e = refl
none-early sdram r k i (Ending j) e = refl

early-written : (sdram : Bool) (r : ℕ) (us : List pure.Use) → early_at sdram r (filter (λ u. is_written u.role) us) ≡ early_at sdram r us
early-written sdram r [] = refl
early-written sdram r (u ∷ us) = pick (is_written u.role) refl (early-written sdram r us)
  where
    pick : (b : Bool) → is_written u.role ≡ b → early_at sdram r (filter (λ u. is_written u.role) us) ≡ early_at sdram r us
        → early_at sdram r (cond b (u ∷ filter (λ u. is_written u.role) us) (filter (λ u. is_written u.role) us)) ≡ role_early sdram r u.point u.operand u.role ++ early_at sdram r us
    pick true e h = ap (λ cs. role_early sdram r u.point u.operand u.role ++ cs) h
    pick false e h = h ∙ ap (λ cs. cs ++ early_at sdram r us) (sym (none-early sdram r u.point u.operand u.role e))

owners-written : (k : ℕ) (us : List pure.Use) (as' : List pure.Access) (rs : List ℕ)
    → flat_map (write_owner k (filter (λ u. is_written u.role) us) as') rs ≡ map (λ r. at_most 1 (early_at false r us ++ ((WriteVia k r ∷ []) ++ flat_map (side_covering false r) as'))) rs
owners-written k us as' [] = refl
owners-written k us as' (r ∷ rs) =
    ap (λ cs. at_most 1 (cs ++ ((WriteVia k r ∷ []) ++ flat_map (side_covering false r) as')) ∷ flat_map (write_owner k (filter (λ u. is_written u.role) us) as') rs) (early-written false r us)
    ∙ ap (λ ls. at_most 1 (early_at false r us ++ ((WriteVia k r ∷ []) ++ flat_map (side_covering false r) as')) ∷ ls) (owners-written k us as' rs)

sdram-written : (us : List pure.Use) (as' : List pure.Access) (rs : List ℕ)
    → flat_map (sdram_write_owner (filter (λ u. is_written u.role) us) as') rs ≡ map (λ r. at_most 1 (early_at true r us ++ ([] ++ flat_map (side_covering true r) as'))) rs
sdram-written us as' [] = refl
sdram-written us as' (r ∷ rs) =
    ap (λ cs. at_most 1 (cs ++ ([] ++ flat_map (side_covering true r) as')) ∷ flat_map (sdram_write_owner (filter (λ u. is_written u.role) us) as') rs) (early-written true r us)
    ∙ ap (λ ls. at_most 1 (early_at true r us ++ ([] ++ flat_map (side_covering true r) as')) ∷ ls) (sdram-written us as' rs)

part-written : (labels : List Label) (k : ℕ) (q : Point) → part_writes (part_of k q) (filter (λ u. is_written u.role) (waiting labels k q)) ≡ write_owners labels k q
part-written labels k q =
    ap (λ ls. ls ++ flat_map (sdram_write_owner (filter (λ u. is_written u.role) (waiting labels k q)) (writes_at k q.place)) eight) (owners-written k (waiting labels k q) (writes_at k q.place) eight)
    ∙ ap (λ ls. map (λ r. at_most 1 (early_at false r (waiting labels k q) ++ ((WriteVia k r ∷ []) ++ flat_map (side_covering false r) (writes_at k q.place)))) eight ++ ls) (sdram-written (waiting labels k q) (writes_at k q.place) eight)

points-written : (labels : List Label) (k : ℕ) (ps : List Point) → writes (each_point (λ k q. part_of k q ∷ []) k ps) (waiting_from labels k ps) ≡ each_point (write_owners labels) k ps
points-written labels k [] = refl
points-written labels k (q ∷ ps) = ap (λ ls. ls ++ writes (each_point (λ k q. part_of k q ∷ []) (suc k) ps) (waiting_from labels (suc k) ps)) (part-written labels k q) ∙ ap (λ ls. write_owners labels k q ++ ls) (points-written labels (suc k) ps)

pub all-written : (labels : List Label) → writes (form.parts labels) (all_waiting labels) ≡ each_point (write_owners labels) 0 (points labels)
all-written labels = points-written labels 0 (points labels)
