-- The vector of a placement that fits: it meets the rows of the bank program, and costs what the placement does.
use Rattle.std.proofs.Common.{◌≡◌, ℕ, nat_eq, Bool, true, not, ◌&&◌, ◌||◌, List, [], ◌∷◌, length, map, refl, sym, ap, subst, ◌∙◌}
use Rattle.std.proofs.lemmas.List.{length-map}
use Rattle.std.specs.List.{list_any}
use Rattle.ssu_ir.specs.Tree.{Label}
use Rattle.ssu_ir.specs.Single.{single}
use Rattle.zo_model.specs.Program.{vector, costs_of}
use Rattle.place_plan.specs.Plan.{Plan, home, first, serve, pass}
use Rattle.place_plan.specs.Costs.{cost}
use Rattle.place_plan.specs.Uses.{Use, uses_of}
use Rattle.place_plan.specs.Fits.{is_read_register, is_write_register, served, Fits}
use Rattle.bank_prog_form.specs.declared.column.Column.{Column}
use Rattle.bank_prog_form.specs.declared.column.Column.TheVariants.{Def, DirectWrite, Fill, Stay, EarlyWrite, First, Serve, ReadVia, WriteVia}
use Rattle.place_plan.specs.Weighted.{weighted_cost}
use Rattle.bank_prog_form.specs.Columns.{columns, costs}
use Rattle.bank_prog.specs.Weighted.{weighted_costs}
use Rattle.bank_prog_form.specs.Program.{same_bank}
use Rattle.bank_prog.specs.Meaning.{on, IsFeasible}
use Rattle.bank_prog.proofs.LawsColumns.{on-there, chosen-on}
use Rattle.bank_prog.proofs.LawsCost.{costs-by-name}
use Rattle.reg_assign_reading.specs.declared.plan.PlanTables.{PlanTables}
use Rattle.reg_assign_reading.specs.inner.Chosen.{use_at, value_at, bank_of, is_in_bank, preferred_bank, waits, goes_there, names, chosen, IsChosen}
use Rattle.reg_assign_reading.specs.inner.PlanTables.{first_told, from_told, at_told, value_told, role_told, point_told, waits_told, goes_told, stays_told, told, AreTold}
use Rattle.reg_assign_reading.proofs.FitWords.{map-same}
use Rattle.reg_assign_reading.proofs.ChosenAll.{lines-hold}
use Rattle.reg_assign_reading.proofs.ChosenCostAll.{cost-same}
use Rattle.reg_assign_reading.proofs.ChosenCostKept.{label-same}
use Rattle.reg_assign_reading.proofs.Weighed.{weighted-same}

-- ---- the tables tell of the columns that the placement has on

and-same : (a b c d : Bool) → a ≡ b → c ≡ d → (a && c) ≡ (b && d)
and-same a b c d e f = ap (λ z. z && c) e ∙ ap (λ z. b && z) f

begins-same : (labels : List Label) (p : Plan) (t : PlanTables) (k f : ℕ) → AreTold labels p t → nat_eq (first_told t k) f ≡ nat_eq (first p k) f
begins-same labels p t k f a = ap (λ n. nat_eq n f) (ap (λ (q : Plan). first q k) a.plan)

waits-same : (labels : List Label) (p : Plan) (t : PlanTables) (k i : ℕ) → AreTold labels p t → waits_told t k i ≡ waits p k i
waits-same labels p t k i a = ap is_write_register (ap (λ (q : Plan). (serve q k i).from) a.plan)

goes-same : (labels : List Label) (p : Plan) (t : PlanTables) (k i : ℕ) → AreTold labels p t → goes_told t (value_told t k i) ≡ goes_there p (use_at labels k i).value
goes-same labels p t k i a = ap (goes_told t) (a.values k i) ∙ ap is_write_register (ap (λ (q : Plan). (home q (use_at labels k i).value).defined) a.plan)

stays-same : (labels : List Label) (p : Plan) (t : PlanTables) (us : List Use) → AreTold labels p t → stays_told t us ≡ list_any (λ u. is_read_register (served p u).from) us
stays-same labels p t [] a = refl
stays-same labels p t (u ∷ us) a =
    ap (λ q. is_read_register q || stays_told t us) (ap (λ (q : Plan). (serve q u.point u.operand).from) a.plan)
    ∙ ap (λ b. is_read_register (served p u).from || b) (stays-same labels p t us a)

pub told-chosen : (labels : List Label) (p : Plan) (t : PlanTables) → AreTold labels p t → (c : Column) → told labels t c ≡ chosen labels p c
told-chosen labels p t a (Def x h) = ap (is_in_bank h) (ap (λ (q : Plan). (home q x).defined) a.plan)
told-chosen labels p t a (DirectWrite k i f) =
    and-same (nat_eq (first_told t k) f) (nat_eq (first p k) f) (waits_told t k i && goes_told t (value_told t k i)) (waits p k i && goes_there p (use_at labels k i).value)
    (begins-same labels p t k f a)
    (and-same (waits_told t k i) (waits p k i) (goes_told t (value_told t k i)) (goes_there p (use_at labels k i).value) (waits-same labels p t k i a) (goes-same labels p t k i a))
told-chosen labels p t a (Fill x h) = ap (list_any (is_in_bank h)) (ap (λ (q : Plan). (home q x).copied) a.plan)
told-chosen labels p t a (Stay x f) =
    and-same (nat_eq (first_told t (point_told t x)) f) (nat_eq (first p (value_at labels x).point) f) (stays_told t (uses_of labels x)) (list_any (λ u. is_read_register (served p u).from) (uses_of labels x))
    (ap (λ k. nat_eq (first_told t k) f) (a.points x) ∙ begins-same labels p t (value_at labels x).point f a)
    (stays-same labels p t (uses_of labels x) a)
told-chosen labels p t a (EarlyWrite k i f) =
    and-same (nat_eq (first_told t k) f) (nat_eq (first p k) f) (waits_told t k i && not (goes_told t (value_told t k i))) (waits p k i && not (goes_there p (use_at labels k i).value))
    (begins-same labels p t k f a)
    (and-same (waits_told t k i) (waits p k i) (not (goes_told t (value_told t k i))) (not (goes_there p (use_at labels k i).value)) (waits-same labels p t k i a) (ap not (goes-same labels p t k i a)))
told-chosen labels p t a (First k f) = begins-same labels p t k f a
told-chosen labels p t a (Serve k i h q) =
    let role = (use_at labels k i).role in
    let from = (serve p k i).from in
    let at = (serve p k i).at in
    and-same (is_in_bank h (from_told t k i)) (is_in_bank h from) (same_bank q (preferred_bank (role_told t k i) (bank_of (from_told t k i)) (at_told t k i))) (same_bank q (preferred_bank role (bank_of from) at))
    (ap (is_in_bank h) (ap (λ (q : Plan). (serve q k i).from) a.plan))
    (ap (λ r. same_bank q (preferred_bank r (bank_of (from_told t k i)) (at_told t k i))) (a.roles k i)
    ∙ ap (λ z. same_bank q (preferred_bank role (bank_of z) (at_told t k i))) (ap (λ (q : Plan). (serve q k i).from) a.plan)
    ∙ ap (λ z. same_bank q (preferred_bank role (bank_of from) z)) (ap (λ (q : Plan). (serve q k i).at) a.plan))
told-chosen labels p t a (ReadVia k r) = ap (λ o. names o r) (ap (λ (q : Plan). (pass q k).l) a.plan)
told-chosen labels p t a (WriteVia k r) = ap (λ o. names o r) (ap (λ (q : Plan). (pass q k).s) a.plan)

pub all-told : (labels : List Label) (p : Plan) (t : PlanTables) (cs : List Column) → AreTold labels p t → map (told labels t) cs ≡ map (chosen labels p) cs
all-told labels p t cs a = map-same (told labels t) (chosen labels p) cs (told-chosen labels p t a)

-- ---- their vector

-- a vector is that of a placement
pub record IsVector (labels : List Label) (p : Plan) (xs : List Bool) : Type 0 where
  pub is : xs ≡ map (chosen labels p) (columns labels)

is-chosen : (labels : List Label) (p : Plan) → IsChosen labels p (on labels (vector (map (chosen labels p) (columns labels))))
is-chosen labels p = record {
  same = λ c i. chosen-on labels (chosen labels p) c i;
  only = λ c e. on-there labels (vector (map (chosen labels p) (columns labels))) c e;
}

pub vector-long : (labels : List Label) (p : Plan) (xs : List Bool) → IsVector labels p xs → length xs ≡ length (columns labels)
vector-long labels p xs v = ap length v.is ∙ length-map (columns labels) (chosen labels p)

pub vector-feasible : (labels : List Label) (p : Plan) (xs : List Bool) → single labels ≡ true → Fits labels p → IsVector labels p xs → IsFeasible labels p.slots (vector xs)
vector-feasible labels p xs s f v =
    subst (λ ys. IsFeasible labels p.slots (vector ys)) (sym v.is)
    (lines-hold labels p (on labels (vector (map (chosen labels p) (columns labels)))) s f (is-chosen labels p))

pub vector-costs : (labels : List Label) (p : Plan) (xs : List Bool) → single labels ≡ true → Fits labels p → IsVector labels p xs → costs_of (costs labels) (vector xs) ≡ cost labels p
vector-costs labels p xs s f v =
    let ys = map (chosen labels p) (columns labels) in
    ap (λ zs. costs_of (costs labels) (vector zs)) v.is ∙ costs-by-name labels (vector ys) s ∙ cost-same labels p (on labels (vector ys)) s f (is-chosen labels p)

pub vector-weighted : (labels : List Label) (p : Plan) (xs : List Bool) → single labels ≡ true → Fits labels p → IsVector labels p xs → (ws : List ℕ) → costs_of (weighted_costs labels ws) (vector xs) ≡ weighted_cost labels ws p
vector-weighted labels p xs s f v ws =
    let ys = map (chosen labels p) (columns labels) in
    ap (λ zs. costs_of (weighted_costs labels ws) (vector zs)) v.is
    ∙ weighted-same labels p (vector ys) s (λ l. label-same labels p (on labels (vector ys)) l s f (is-chosen labels p)) ws
