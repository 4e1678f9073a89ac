-- What the call promises, from what its result is.
use Rattle.std.proofs.Common.{◌≡◌, ℕ, zero, suc, arith, ◌≤◌, ◌<◌, true, ◌&&◌, List, [], ◌∷◌, ◌++◌, map, length, get_or, Some, None, slice_get, All, refl, sym, ap, subst, ◌∙◌}
use Rattle.std.proofs.lemmas.List.Elements.{All-nil, All-cons}
use Rattle.std.proofs.lemmas.Bool.{and_parts, false≢true}
use Rattle.std.proofs.lemmas.List.{length-map}
use Rattle.std.specs.List.{list_all}
use Rattle.nv_base.specs.Measures.{IsAtMost}
use Rattle.cps_ir.specs.Bulk.{bulk, main_bulk, code_bulk, group_bulk, AreBulks}
use Rattle.cps_ir.specs.Formed.{is_function, is_main, all_raised, agree, is_program}
use Rattle.cps_ir.specs.Term.{Fun}
use Rattle.cps_ir.specs.Wide.{wide, main_wide, group_wide, AreWidths}
use Rattle.cps_ir.specs.Callless.{only_jumps}
use Rattle.cps_inline.specs.inner.Inlined.{behind, operands, entering, counts, inlined_main}
use Rattle.cps_ir.specs.declared.program.CpsFun.{CpsFun}
use Rattle.cps_ir.specs.View.{fun_view}
use Rattle.std.proofs.lemmas.Option.{slice_get_read}
use Rattle.cps_inline.proofs.Along.{slice-view}
use Rattle.cps_inline.proofs.WholeProgram.{program-formed}
use Rattle.cps_inline.proofs.Jumping.{entering-jumps, entered-jumps}
use Rattle.cps_inline.proofs.Bulks.{main-bulk}
use Rattle.cps_inline.proofs.Wide.{main-wide}

pub inlined-jumps : (funs : List Fun) (main : ℕ) (f : Fun) (top : List Fun) → top ≡ inlined_main funs main f ∷ [] → All (λ g. only_jumps g.body ≡ true) top
inlined-jumps funs main f top is =
    subst (All (λ g. only_jumps g.body ≡ true)) (sym is)
    (All-cons (λ g. only_jumps g.body ≡ true) (inlined_main funs main f) [] ((entered-jumps funs (entering funs f.group) (entering-jumps funs f.group) (counts funs f.group)).by main f (operands f.params) None [] (behind f.params)) (All-nil (λ g. only_jumps g.body ≡ true)))

pub inlined-bulk : (funs : List Fun) → AreBulks funs (group_bulk funs) → (main : ℕ) (f : Fun) → slice_get funs main ≡ Some f → (top : List Fun) → top ≡ inlined_main funs main f ∷ [] → IsAtMost (code_bulk top 0) (bulk funs main)
inlined-bulk funs bounds main f there top is =
    subst (λ t. IsAtMost (code_bulk t 0) (bulk funs main)) (sym is)
    (subst (λ o. IsAtMost (code_bulk (inlined_main funs main f ∷ []) 0) (main_bulk funs o)) (sym there) (main-bulk funs (group_bulk funs) bounds main f))

pub inlined-wide : (funs : List Fun) → AreWidths funs (group_wide funs) → (main : ℕ) (f : Fun) → is_program funs main ≡ true → slice_get funs main ≡ Some f → (top : List Fun) → top ≡ inlined_main funs main f ∷ [] → wide top 0 ≤ wide funs main
inlined-wide funs widths main f program there top is =
    let ok = (and_parts (list_all (is_function funs) funs) (agree (all_raised funs) && is_main funs (slice_get funs main)) program).0 in
    subst (λ t. wide t 0 ≤ wide funs main) (sym is)
    (subst (λ o. group_wide (inlined_main funs main f ∷ []) 0 ≤ main_wide funs o) (sym there) (main-wide funs (group_wide funs) widths ok main f there))

-- ---- what the call made

pub one-function : (funs seen : List CpsFun) (i : ℕ) (f g : CpsFun) (none made : List CpsFun) → seen ≡ funs → fun_view g ≡ inlined_main (map fun_view seen) i (fun_view f) → none ≡ [] → made ≡ none ++ g ∷ [] → map fun_view made ≡ inlined_main (map fun_view funs) i (fun_view f) ∷ []
one-function funs seen i f g none made same is empty push =
    ap (map fun_view) (push ∙ ap (λ l. l ++ g ∷ []) empty) ∙ ap (λ h. h ∷ []) (is ∙ ap (λ s. inlined_main (map fun_view s) i (fun_view f)) same)

pub main-there : (funs : List CpsFun) (i : ℕ) (f : CpsFun) → i < length funs → f ≡ get_or funs i f → slice_get (map fun_view funs) i ≡ Some (fun_view f)
main-there funs i f lt is = slice-view funs i f (slice_get_read funs (length funs) i f refl lt is)

is-main-within : (all funs : List Fun) (i : ℕ) → is_main all (slice_get funs i) ≡ true → i < length funs
is-main-within all [] i h = absurd (false≢true h)
is-main-within all (f ∷ funs) zero h = omega arith
is-main-within all (f ∷ funs) (suc i) h = let lt : i < length funs = is-main-within all funs i h in omega arith

-- main is one of the functions
pub main-within : (funs : List CpsFun) (main : ℕ) → is_program (map fun_view funs) main ≡ true → main < length funs
main-within funs main program =
    let parts = and_parts (list_all (is_function (map fun_view funs)) (map fun_view funs)) (agree (all_raised (map fun_view funs)) && is_main (map fun_view funs) (slice_get (map fun_view funs) main)) program in
    let lt : main < length (map fun_view funs) = is-main-within (map fun_view funs) (map fun_view funs) main (and_parts (agree (all_raised (map fun_view funs))) (is_main (map fun_view funs) (slice_get (map fun_view funs) main)) parts.1).1 in
    omega (arith, length-map funs fun_view)

pub formed-at : (funs : List Fun) (main : ℕ) (f : Fun) → is_program funs main ≡ true → slice_get funs main ≡ Some f → (top : List Fun) → top ≡ inlined_main funs main f ∷ [] → is_program top 0 ≡ true
formed-at funs main f program there top is = ap (λ t. is_program t 0) is ∙ program-formed funs main f program there
