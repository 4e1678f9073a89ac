-- All lines hold for a placement that fits.
use Rattle.std.proofs.Common.{◌≡◌, ℕ, true, Some, List, ◌++◌, map, sym, subst, ◌∙◌, arith}
use Rattle.std.specs.Prelude.{slice_get, All}
use Rattle.std.specs.List.{flat_map}
use Rattle.std.proofs.lemmas.List.Elements.{All-contains}
use Rattle.nv_base.proofs.Sets.{same-number}
use Rattle.ssu_ir.specs.Tree.{Label}
use Rattle.ssu_ir.specs.Points.{Point, points}
use Rattle.ssu_ir.specs.Single.{single}
use Rattle.place_plan.specs.Plan.{Plan, first}
use Rattle.place_plan.specs.Uses.{Access, accesses, values, place_values, uses}
use Rattle.place_plan.specs.Fits.{IsFirst, Fits}
use Rattle.ssu_liveness.proofs.Scoped.{in-itself}
use Rattle.place_plan.proofs.Sound.{Each, each-append}
use Rattle.place_plan.proofs.Spilled.{each-all}
use Rattle.bank_prog_form.specs.declared.column.Column.TheVariants.{First}
use Rattle.bank_prog_form.specs.Columns.{eight, place_words, may_begin, point_uses}
use Rattle.bank_prog_form.specs.Rows.{Line, lines, parameter_choice, result_choice, access_choice, use_choice, one_choice, use_cover, copy_cover, argument_cover, homes_cover, operand_banks, capacity, owners, stay_begins, word_begins, begins_at, adjacency, slot_read, value_written, passes}
use Rattle.bank_prog.specs.Meaning.{Chosen, Holds}
use Rattle.reg_assign_reading.specs.inner.Chosen.{IsChosen}
use Rattle.reg_assign_reading.proofs.Counts.{In, contained-in, in-kept, each-from}
use Rattle.reg_assign_reading.proofs.ChosenHolds.{one-holds, flat-each, points-each}
use Rattle.reg_assign_reading.proofs.ChosenForm.{Placed, chosen-on}
use Rattle.reg_assign_reading.proofs.ChosenThere.{value-point, value-among, use-among, value-stands, use-stands, access-words, first-begins, first-there}
use Rattle.reg_assign_reading.proofs.ChosenServes.{counts-one}
use Rattle.reg_assign_reading.proofs.ChosenValues.{parameter-lines, result-lines, copy-cover-holds, stay-lines, written-lines}
use Rattle.reg_assign_reading.proofs.ChosenUses.{choice-lines, cover-lines, argument-cover-holds, begin-lines, read-lines}
use Rattle.reg_assign_reading.proofs.ChosenOperands.{operands-hold}
use Rattle.reg_assign_reading.proofs.ChosenRoom.{capacity-holds}
use Rattle.reg_assign_reading.proofs.ChosenOwners.{owners-hold}

access-lines : (labels : List Label) (p : Plan) (on : Chosen) (a : Access) → Placed labels p on → In a (accesses labels) → Each (Holds on) (access_choice a)
access-lines labels p on a g i =
    let f = first p a.point in
    let is = All-contains (λ (a : Access). IsFirst a.mem a.words (first p a.point)) (accesses labels) a g.fits.registers (contained-in a (accesses labels) i) in
    let b = first-begins a.mem a.words f (access-words labels a g.form i) is in
    one-holds on (map (First a.point) eight)
    (counts-one on (First a.point) f (λ r e. sym (same-number f r (chosen-on labels p on g (First a.point r) e)))
    (in-kept (may_begin a.mem a.words) f eight b).0 (g.is.same (First a.point f) (first-there labels a f i b) ∙ in-itself f))

choice-holds : (labels : List Label) (p : Plan) (on : Chosen) → Placed labels p on → Each (Holds on) (one_choice labels)
choice-holds labels p on g =
    let H : Line → Type 0 = Holds on in
    let vs = values labels in
    let as' = accesses labels in
    let us = uses labels in
    each-append H (flat_map parameter_choice vs) (flat_map (result_choice labels) vs ++ (flat_map access_choice as' ++ flat_map use_choice us))
    (flat-each H parameter_choice vs (each-from _ vs (λ v i. parameter-lines labels p on v g i)))
    (each-append H (flat_map (result_choice labels) vs) (flat_map access_choice as' ++ flat_map use_choice us)
    (flat-each H (result_choice labels) vs (each-from _ vs (λ v i. result-lines labels p on v g i)))
    (each-append H (flat_map access_choice as') (flat_map use_choice us)
    (flat-each H access_choice as' (each-from _ as' (λ a i. access-lines labels p on a g i)))
    (flat-each H use_choice us (each-from _ us (λ u i. choice-lines labels p on u g i)))))

cover-holds : (labels : List Label) (p : Plan) (on : Chosen) → Placed labels p on → Each (Holds on) (homes_cover labels)
cover-holds labels p on g =
    let H : Line → Type 0 = Holds on in
    let vs = values labels in
    let us = uses labels in
    each-append H (flat_map (use_cover labels) us) (flat_map (copy_cover labels) vs ++ flat_map (argument_cover labels) us)
    (flat-each H (use_cover labels) us (each-from _ us (λ u i. cover-lines labels p on u g i)))
    (each-append H (flat_map (copy_cover labels) vs) (flat_map (argument_cover labels) us)
    (flat-each H (copy_cover labels) vs (each-from _ vs (λ v i. copy-cover-holds labels p on v g i)))
    (flat-each H (argument_cover labels) us (each-from _ us (λ u i. argument-cover-holds labels p on u g i))))

begins-hold : (labels : List Label) (p : Plan) (on : Chosen) (k : ℕ) (q : Point) → Placed labels p on → slice_get (points labels) k ≡ Some q → Each (Holds on) (begins_at labels k q)
begins-hold labels p on k q g at =
    let H : Line → Type 0 = Holds on in
    let n = place_words q.place in
    each-append H (flat_map (stay_begins labels n) (place_values k q.place)) (flat_map (word_begins n) (point_uses k q))
    (flat-each H (stay_begins labels n) (place_values k q.place) (each-from (λ v. Each H (stay_begins labels n v)) (place_values k q.place) (λ v i.
    stay-lines labels p on v (value-stands labels k q v at i) g (value-among labels k q v at i))))
    (flat-each H (word_begins n) (point_uses k q) (each-from (λ u. Each H (word_begins n u)) (point_uses k q) (λ u i.
    begin-lines labels p on u (use-stands labels k q u at i) g (use-among labels k q u at i))))

adjacency-holds : (labels : List Label) (p : Plan) (on : Chosen) → Placed labels p on → Each (Holds on) (adjacency labels)
adjacency-holds labels p on g = points-each (Holds on) (begins_at labels) 0 (points labels) (λ i k q e at.
    begins-hold labels p on k q g (subst (λ n. slice_get (points labels) n ≡ Some q) (let s : i ≡ k = omega (arith, e) in s) at))

passes-hold : (labels : List Label) (p : Plan) (on : Chosen) → Placed labels p on → Each (Holds on) (passes labels)
passes-hold labels p on g =
    each-append (Holds on) (flat_map slot_read (uses labels)) (flat_map (value_written labels) (values labels))
    (flat-each (Holds on) slot_read (uses labels) (each-from _ (uses labels) (λ u i. read-lines labels p on u g i)))
    (flat-each (Holds on) (value_written labels) (values labels) (each-from _ (values labels) (λ v i. written-lines labels p on v (value-point labels v i) g)))

pub lines-hold : (labels : List Label) (p : Plan) (on : Chosen) → single labels ≡ true → Fits labels p → IsChosen labels p on → All (Holds on) (lines labels p.slots)
lines-hold labels p on s f c =
    let g : Placed labels p on = record { form = s; fits = f; is = c } in
    let H : Line → Type 0 = Holds on in
    let rows6 = adjacency labels ++ passes labels in
    let rows5 = owners labels ++ rows6 in
    let rows4 = capacity labels p.slots ++ rows5 in
    let rows3 = operand_banks labels ++ rows4 in
    let rows2 = homes_cover labels ++ rows3 in
    each-all H (lines labels p.slots)
    (each-append H (one_choice labels) rows2 (choice-holds labels p on g)
    (each-append H (homes_cover labels) rows3 (cover-holds labels p on g)
    (each-append H (operand_banks labels) rows4 (operands-hold labels p on s f c)
    (each-append H (capacity labels p.slots) rows5 (capacity-holds labels p on s f c)
    (each-append H (owners labels) rows6 (owners-hold labels p on s f c)
    (each-append H (adjacency labels) (passes labels) (adjacency-holds labels p on g) (passes-hold labels p on g)))))))
