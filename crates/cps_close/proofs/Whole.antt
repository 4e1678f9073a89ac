-- What a program's main function and its flow have in common.
use Rattle.std.proofs.Common.{◌≡◌, ℕ, zero, suc, ◌≤◌, Bool, true, nat_le, ◌==◌, ◌&&◌, List, [], ◌∷◌, map, Some, All, refl, sym, ap, subst, ◌∙◌, if◌then◌else◌, length, slice_get, get_or, ◌<◌, arith}
use Rattle.std.specs.List.{list_all}
use Rattle.std.proofs.lemmas.Bool.{and_parts, false≢true}
use Rattle.std.proofs.lemmas.List.Elements.{All-head, All-tail}
use Rattle.std.proofs.lemmas.Option.{none-some, same_Some, slice_get_read}
use Rattle.nv_base.specs.Meanings.{AreEqual}
use Rattle.nv_base.specs.Measures.{IsAtMost}
use Rattle.cps_ir.specs.Term.{Fun}
use Rattle.cps_ir.specs.declared.program.CpsFun.{CpsFun}
use Rattle.cps_ir.specs.View.{fun_view}
use Rattle.cps_ir.specs.Formed.{is_function, is_program, is_main, agree, all_raised}
use Rattle.cps_ir.specs.Meaning.{cps_meaning, params_of, params_in}
use Rattle.cps_ir.specs.Wide.{nowhere}
use Rattle.cps_ir.specs.Wide as before_wide
use Rattle.cps_ir.specs.Bulk as before_bulk
use Rattle.flow_ir.specs.Tree.{Label}
use Rattle.flow_ir.specs.Formed.{is_flow}
use Rattle.flow_ir.specs.Meaning.{flow_meaning, flow_params}
use Rattle.flow_ir.specs.Wide as behind_wide
use Rattle.flow_ir.specs.Bulk as behind_bulk
use Rattle.cps_ir.specs.Callless.{only_jumps}
use Rattle.cps_close.specs.inner.Closed.{closed, IsClosed}
use Rattle.cps_close.proofs.Simulates.{meaning-same}
use Rattle.cps_close.proofs.Settles.{ready-in}
use Rattle.cps_close.proofs.Reached.{setting, place-of, kept-reached, all-settled}
use Rattle.cps_close.proofs.Closes.{flow-formed}
use Rattle.cps_close.proofs.Bulks.{code-most}
use Rattle.cps_close.proofs.Narrow.{flow-narrow}

all-at : (P : Fun → Type 0) (funs : List Fun) (i : ℕ) (f : Fun) → All P funs → slice_get funs i ≡ Some f → P f
all-at P [] i f h e = absurd (none-some f e)
all-at P (g ∷ funs) zero f h e = let same : g ≡ f = same_Some g f e in subst P same (All-head P g funs h)
all-at P (g ∷ funs) (suc i) f h e = all-at P funs i f (All-tail P g funs h) e

test-at : (test : Fun → Bool) (funs : List Fun) (i : ℕ) (f : Fun) → list_all test funs ≡ true → slice_get funs i ≡ Some f → test f ≡ true
test-at test [] i f h e = absurd (none-some f e)
test-at test (g ∷ funs) zero f h e = let same : g ≡ f = same_Some g f e in subst (λ z. test z ≡ true) same (and_parts (test g) (list_all test funs) h).0
test-at test (g ∷ funs) (suc i) f h e = test-at test funs i f (and_parts (test g) (list_all test funs) h).1 e

pub view-at : {A B : Type 0} (view : A → B) (xs : List A) (i : ℕ) (x : A) → slice_get xs i ≡ Some x → slice_get (map view xs) i ≡ Some (view x)
view-at view [] i x e = absurd (none-some x e)
view-at view (y ∷ xs) zero x e = let same : y ≡ x = same_Some y x e in ap (λ z. Some (view z)) same
view-at view (y ∷ xs) (suc i) x e = view-at view xs i x e

-- a program whose main function this is
pub record IsMain (funs : List Fun) (main : ℕ) (f : Fun) : Type 0 where
  pub here : slice_get funs main ≡ Some f
  pub formed : is_function funs f ≡ true
  pub jumps : only_jumps f.body ≡ true
  pub few : nat_le (length f.params) 8 ≡ true

pub main-of : (funs : List Fun) (main : ℕ) (f : Fun) → is_program funs main ≡ true → All (λ g. only_jumps g.body ≡ true) funs → slice_get funs main ≡ Some f → IsMain funs main f
main-of funs main f e j here =
    let parts = and_parts (list_all (is_function funs) funs) (agree (all_raised funs) && is_main funs (slice_get funs main)) e in
    let rest = and_parts (agree (all_raised funs)) (is_main funs (slice_get funs main)) parts.1 in
    let main' : is_main funs (Some f) ≡ true = subst (λ o. is_main funs o ≡ true) here rest.1 in
    record {
      here = here;
      formed = test-at (is_function funs) funs main f parts.0 here;
      jumps = all-at (λ g. only_jumps g.body ≡ true) funs main f j here;
      few = (and_parts (nat_le (length f.params) 8) (list_all (λ g. if g.group == f.group then nat_le g.results 8 else true) funs) main').0;
    }

-- main is one of the functions
within : (all : List Fun) (funs : List CpsFun) (i : ℕ) → is_main all (slice_get (map fun_view funs) i) ≡ true → i < length funs
within all [] i h = absurd (false≢true h)
within all (f ∷ funs) zero h = omega arith
within all (f ∷ funs) (suc i) h = let lt : i < length funs = within all funs i h in omega arith

pub main-within : (funs : List CpsFun) (main : ℕ) → is_program (map fun_view funs) main ≡ true → main < length funs
main-within funs main e =
    let all = map fun_view funs in
    let rest = and_parts (list_all (is_function all) all) (agree (all_raised all) && is_main all (slice_get all main)) e in
    within all funs main (and_parts (agree (all_raised all)) (is_main all (slice_get all main)) rest.1).1

-- main is the function under its number
pub main-at : (funs : List CpsFun) (main : ℕ) (f : CpsFun) → f ≡ get_or funs main f → is_program (map fun_view funs) main ≡ true → All (λ g. only_jumps g.body ≡ true) (map fun_view funs) → IsMain (map fun_view funs) main (fun_view f)
main-at funs main f found e j =
    let here : slice_get funs main ≡ Some f = slice_get_read funs (length funs) main f refl (main-within funs main e) found in
    main-of (map fun_view funs) main (fun_view f) e j (view-at fun_view funs main f here)

-- ---- each property

pub whole-formed : (funs : List Fun) (main : ℕ) (f : Fun) (labels : List Label) → IsMain funs main f → IsClosed f labels → is_flow labels ≡ true
whole-formed funs main f labels m c = subst (λ ls. is_flow ls ≡ true) (sym c.labels) (flow-formed funs f c.tab m.formed m.jumps m.few c.table)

pub whole-params : (funs : List Fun) (main : ℕ) (f : Fun) (labels : List Label) → IsMain funs main f → IsClosed f labels → flow_params labels ≡ params_in funs main
whole-params funs main f labels m c = ap flow_params c.labels ∙ sym (ap params_of m.here)

pub whole-equal : (funs : List Fun) (main : ℕ) (f : Fun) (labels : List Label) → IsMain funs main f → IsClosed f labels → AreEqual (params_in funs main) (cps_meaning funs main) (flow_meaning labels)
whole-equal funs main f labels m c = λ args p a s n.
    let tab = c.tab in
    let k = kept-reached funs f c.tab m.formed m.jumps c.table.reached in
    let place = place-of funs f c.tab m.formed m.jumps k.least in
    let ready = ready-in (closed c.tab f) (setting funs f c.tab) (all-settled funs f c.tab m.formed m.jumps c.table) f.body [] nowhere f.params place in
    meaning-same funs main f (closed c.tab f) c.tab m.here refl ready args p n ∙ ap (λ ls. flow_meaning ls args p n) (sym c.labels)

pub whole-narrow : (funs : List Fun) (main : ℕ) (f : Fun) (labels : List Label) → IsMain funs main f → IsClosed f labels → behind_wide.wide labels ≤ before_wide.wide funs main
whole-narrow funs main f labels m c = subst (λ ls. behind_wide.wide ls ≤ before_wide.wide funs main) (sym c.labels) (flow-narrow funs main f c.tab m.here m.formed m.jumps c.table)

pub whole-bulk : (funs : List Fun) (main : ℕ) (f : Fun) (labels : List Label) → IsMain funs main f → IsClosed f labels → IsAtMost (behind_bulk.bulk labels) (before_bulk.code_bulk funs main)
whole-bulk funs main f labels m c = subst (λ ls. IsAtMost (behind_bulk.bulk ls) (before_bulk.code_bulk funs main)) (sym c.labels) (code-most c.tab funs main f m.here m.jumps)
