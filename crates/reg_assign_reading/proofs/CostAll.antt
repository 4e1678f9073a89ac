-- The plan that is read off costs no more than the columns that are on.
use Rattle.std.proofs.Common.{◌≡◌, ℕ, zero, suc, ◌+◌, ◌≤◌, nat_eq, Bool, true, false, if◌then◌else◌, Some, List, [], ◌∷◌, ◌++◌, map, filter, refl, sym, ap, subst, ◌∙◌, inl, inr, ⊎_elim, arith}
use Rattle.std.specs.Prelude.{slice_get, All}
use Rattle.std.specs.List.{flat_map, list_any}
use Rattle.std.proofs.lemmas.List.Elements.{All-contains}
use Rattle.std.proofs.lemmas.Bool.{false≢true, and_from, or_left, or_right}
use Rattle.nv_base.specs.Sets.{all_different}
use Rattle.nv_base.proofs.Sets.{same-number}
use Rattle.ssu_ir.specs.Tree.{Label}
use Rattle.ssu_ir.specs.Points.{Point, points}
use Rattle.ssu_ir.specs.Single.{single}
use Rattle.place_plan.specs.Costs.{values_cost, uses_cost, cost}
use Rattle.place_plan.specs.Plan.{Home, Plan}
use Rattle.place_plan.specs.Uses.{ValueOrigin, Parameter, Result, Fetched, Value, values, Use, uses, uses_of, is_used, place_roles, accesses}
use Rattle.place_plan.proofs.Fitting.{apart-from}
use Rattle.ssu_liveness.proofs.Scoped.{in-itself}
use Rattle.place_plan.proofs.Spilled.{all-each}
use Rattle.place_plan.proofs.Joined.{values-different}
use Rattle.zo_model.specs.Program.{cost_where}
use Rattle.bank_prog_form.specs.declared.column.Bank.TheVariants.{A, B, M}
use Rattle.bank_prog_form.specs.declared.column.Column.{Column}
use Rattle.bank_prog_form.specs.declared.column.Column.TheVariants.{Def, DirectWrite, Fill, EarlyWrite, Serve}
use Rattle.bank_prog_form.specs.declared.column.Service.{Service}
use Rattle.bank_prog_form.specs.Columns.{Priced, eight, origin_of, is_fetched, point_uses, place_words, role_beginnings, origin_defs, def_columns, fill_columns, ear_columns, first_columns, services, has_bank, srv_columns, all_dirs, all_stays, all_ears, all_pas_l, all_pas_s, priced}
use Rattle.bank_prog.specs.Weighted.{point_in, column_point}
use Rattle.bank_prog_form.specs.Rows.{ear, lines}
use Rattle.bank_prog.specs.Meaning.{Chosen, on, named_cost, Holds}
use Rattle.bank_prog_rows.proofs.PlainLines.{each-kept}
use Rattle.place_plan.specs.ByLabel.{lies_in, label_cost}
use Rattle.reg_assign_reading.specs.ByLabel.{label_price}
use Rattle.reg_assign_reading.specs.inner.Facts.{OnlyThere, ValueFacts, UseFacts, Facts}
use Rattle.reg_assign_reading.specs.ReadOff.{Numbers, AreRead, read_off}
use Rattle.reg_assign_reading.proofs.Counts.{In, contained-in, in-map, in-kept, in-if, map-in}
use Rattle.reg_assign_reading.proofs.FactsThere.{uses-among, point-of}
use Rattle.reg_assign_reading.proofs.FactsValues.{Known, role-eight, same-value, used-of}
use Rattle.reg_assign_reading.proofs.FactsUses.{early-there}
use Rattle.reg_assign_reading.proofs.FactsAll.{known, facts}
use Rattle.reg_assign_reading.proofs.ReadParts.{IsFound, serves-found}
use Rattle.bank_prog.proofs.UseSums.{sum_of, each-once}
use Rattle.reg_assign_reading.proofs.CostSums.{cost-append, cost-one, cost-points}
use Rattle.reg_assign_reading.proofs.CostKept.{filter-all, sum-kept, sum-less, and_passes, cost-kept, cost-of-kept}
use Rattle.reg_assign_reading.proofs.CostUses.{uses-bounded}
use Rattle.reg_assign_reading.proofs.CostValues.{early_price, in-any, Eighths, values-bounded}
use Rattle.reg_assign_reading.proofs.LabelPoints.{uses-in-label}

-- ---- by a test of points

-- the columns that are on at the points that `keep` says
abbrev pub kept_on : List Label → (ℕ → Bool) → Chosen → Chosen
kept_on labels keep on = and_passes on (λ c. keep (column_point labels c))

-- a word that is copied early pays for its column, which stands at its use
ear-paid : (labels : List Label) (on : Chosen) (keep : ℕ → Bool) (k : ℕ) (q : Point) (u : Use) → Known labels on → slice_get (points labels) k ≡ Some q → In u (point_uses k q) → keep u.point ≡ true → (b : Bool) → list_any on (ear u) ≡ b → cost_where b 1 ≤ named_cost (kept_on labels keep on) (ear_columns (place_words q.place) u)
ear-paid labels on keep k q u g at i y false e = omega arith
ear-paid labels on keep k q u g at i y true e =
    let w = in-any on (ear u) e in
    let f = in-map w.0 (EarlyWrite u.point u.operand) eight w.1 in
    let lit : on (EarlyWrite u.point u.operand f.0) ≡ true = ap on f.2 ∙ w.2 in
    let t = early-there labels on u f.0 g (uses-among u 0 k k (points labels) q (omega arith) at i) (or_right (on (DirectWrite u.point u.operand f.0)) (on (EarlyWrite u.point u.operand f.0)) lit) in
    let p : u.point ≡ k = point-of u k 0 q.uses (place_roles q.place) i in
    let there : slice_get (points labels) k ≡ Some t.place = subst (λ n. slice_get (points labels) n ≡ Some t.place) p t.at in
    let same : t.place ≡ q = cc in
    let begins : In f.0 (role_beginnings (place_words q.place) u.role) = subst (λ (z : Point). In f.0 (role_beginnings (place_words z.place) u.role)) same t.begins in
    cost-one (kept_on labels keep on) (EarlyWrite u.point u.operand f.0, 1) (ear_columns (place_words q.place) u) (map-in (λ f. (EarlyWrite u.point u.operand f, 1)) f.0 (role_beginnings (place_words q.place) u.role) begins)
    (and_from (on (EarlyWrite u.point u.operand f.0)) (keep u.point) lit y)

-- the price of a use that is kept
abbrev kept_price : (ℕ → Bool) → Chosen → Use → ℕ
kept_price keep on u = cost_where (keep u.point) (early_price on u)

kept-ear-paid : (labels : List Label) (on : Chosen) (keep : ℕ → Bool) (k : ℕ) (q : Point) (u : Use) → Known labels on → slice_get (points labels) k ≡ Some q → In u (point_uses k q) → (b : Bool) → keep u.point ≡ b → cost_where b (early_price on u) ≤ named_cost (kept_on labels keep on) (ear_columns (place_words q.place) u)
kept-ear-paid labels on keep k q u g at i false e = omega arith
kept-ear-paid labels on keep k q u g at i true e = ear-paid labels on keep k q u g at i e (list_any on (ear u)) refl

ears-paid : (labels : List Label) (on : Chosen) (keep : ℕ → Bool) → Known labels on → sum_of (kept_price keep on) (uses labels) ≤ named_cost (kept_on labels keep on) (all_ears labels)
ears-paid labels on keep g = cost-points (kept_on labels keep on) (λ k q u. ear_columns (place_words q.place) u) (kept_price keep on) 0 (points labels) (λ i k q e s u j.
    let at : slice_get (points labels) k ≡ Some q = subst (λ n. slice_get (points labels) n ≡ Some q) (let n : i ≡ k = omega (arith, e) in n) s in
    kept-ear-paid labels on keep k q u g at j (keep u.point) refl)

-- `keep` says the same of a use and of its value's definition
abbrev pub KeepsTogether : List Label → (ℕ → Bool) → Type 0
KeepsTogether labels keep = (u : Use) (v : Value) → In u (uses labels) → In v (values labels) → u.value ≡ v.var → keep u.point ≡ keep v.point

-- the words of the values that are kept, each at its use
words-paid : (labels : List Label) (on : Chosen) (keep : ℕ → Bool) → Known labels on → KeepsTogether labels keep → all_different (map (λ v. v.var) (values labels)) ≡ true
    → sum_of (λ v. sum_of (early_price on) (uses_of labels v.var)) (filter (λ v. keep v.point) (values labels)) ≤ named_cost (kept_on labels keep on) (all_ears labels)
words-paid labels on keep g same d =
    let plain : Value → ℕ = λ v. sum_of (early_price on) (uses_of labels v.var) in
    let kept : Value → ℕ = λ v. sum_of (kept_price keep on) (uses_of labels v.var) in
    let a = sum-less plain kept (filter (λ v. keep v.point) (values labels)) (λ v i.
    let w = in-kept (λ (v : Value). keep v.point) v (values labels) i in
    sum-less (early_price on) (kept_price keep on) (uses_of labels v.var) (λ u j.
    let t = used-of labels u v.var j in
    counted (keep u.point) (early_price on u) (same u v t.0 w.0 t.1 ∙ w.1))) in
    let b = sum-kept kept (λ v. keep v.point) (values labels) in
    let c = each-once (kept_price keep on) (uses labels) (values labels) d in
    let e = ears-paid labels on keep g in
    omega (arith, a, b, c, e)
  where
    counted : (b : Bool) (n : ℕ) → b ≡ true → n ≤ cost_where b n
    counted true n e = omega arith
    counted false n e = absurd (false≢true e)

-- ---- where the columns stand

value-found : (ws : List Value) (v : Value) → ((w : Value) → In w ws → w.var ≡ v.var → w ≡ v) → In v ws → point_in ws v.var ≡ v.point
value-found [] v f i = absurd i
value-found (w ∷ ws) v f i = by (nat_eq w.var v.var) refl (λ j. value-found ws v (λ z k. f z (inr k)) j)
  where
    by : (b : Bool) → nat_eq w.var v.var ≡ b → (In v ws → point_in ws v.var ≡ v.point) → (if b then w.point else point_in ws v.var) ≡ v.point
    by true e g = ap (λ (z : Value). z.point) (f w (inl refl) (same-number w.var v.var e))
    by false e g = g (⊎_elim
        (λ (s : w ≡ v). absurd (false≢true (sym e ∙ subst (λ (z : Value). nat_eq z.var v.var ≡ true) (sym s) (in-itself v.var))))
        (λ (k : In v ws). k)
        i)

pub value-stands : (vs : List Value) (v : Value) → all_different (map (λ v. v.var) vs) ≡ true → In v vs → point_in vs v.var ≡ v.point
value-stands vs v d i = value-found vs v (λ w j e. same-value vs v w d i j e) i

three-stand : (labels : List Label) (k : ℕ) (a b d c : Priced) → column_point labels a.0 ≡ k → column_point labels b.0 ≡ k → column_point labels d.0 ≡ k → In c (a ∷ b ∷ d ∷ []) → column_point labels c.0 ≡ k
three-stand labels k a b d c p q r (inl e) = ap (λ (z : Priced). column_point labels z.0) (sym e) ∙ p
three-stand labels k a b d c p q r (inr (inl e)) = ap (λ (z : Priced). column_point labels z.0) (sym e) ∙ q
three-stand labels k a b d c p q r (inr (inr (inl e))) = ap (λ (z : Priced). column_point labels z.0) (sym e) ∙ r
three-stand labels k a b d c p q r (inr (inr (inr e))) = absurd e

pub def-stands : (labels : List Label) (x : ℕ) (s : ValueOrigin) (c : Priced) → In c (origin_defs x s) → column_point labels c.0 ≡ point_in (values labels) x
def-stands labels x (Parameter zero i) c h = three-stand labels (point_in (values labels) x) (Def x A, 0) (Def x B, 1) (Def x M, 17) c refl refl refl h
def-stands labels x (Parameter (suc l) i) c h = three-stand labels (point_in (values labels) x) (Def x A, 0) (Def x B, 0) (Def x M, 0) c refl refl refl h
def-stands labels x Result c h = three-stand labels (point_in (values labels) x) (Def x A, 0) (Def x B, 0) (Def x M, 16) c refl refl refl h
def-stands labels x (Fetched m i) c h = absurd h

pub fill-stands : (labels : List Label) (v : Value) (c : Priced) → In c (fill_columns labels v) → column_point labels c.0 ≡ point_in (values labels) v.var
fill-stands labels v c h =
    let x = v.var in
    three-stand labels (point_in (values labels) x) (Fill x A, 1) (Fill x B, 1) (Fill x M, 17) c refl refl refl (in-if c (is_used labels x) ((Fill x A, 1) ∷ (Fill x B, 1) ∷ (Fill x M, 17) ∷ []) h).1

pub srv-stands : (labels : List Label) (u : Use) (c : Priced) → In c (srv_columns labels u) → column_point labels c.0 ≡ u.point
srv-stands labels u c h =
    let w = in-map c (λ (s : Service). (Serve u.point u.operand s.from s.at, s.cost)) (filter (λ (s : Service). has_bank (is_fetched (origin_of labels u.value)) s.from) (services u.role)) h in
    ap (λ (z : Priced). column_point labels z.0) (sym w.2)

eighths : (labels : List Label) (on : Chosen) → Known labels on → Eighths labels on
eighths labels on g u i k e =
    let t = early-there labels on u k g i (or_left (on (DirectWrite u.point u.operand k)) (on (EarlyWrite u.point u.operand k)) e) in
    role-eight (place_words t.place.place) k u.role t.begins

-- the columns of four families alone
families-paid : (labels : List Label) (on : Chosen) → named_cost on (flat_map def_columns (values labels)) + (named_cost on (flat_map (fill_columns labels) (values labels)) + (named_cost on (all_ears labels) + named_cost on (flat_map (srv_columns labels) (uses labels)))) ≤ named_cost on (priced labels)
families-paid labels on =
    let f1 : List Priced = flat_map def_columns (values labels) in
    let f2 : List Priced = all_dirs labels in
    let f3 : List Priced = flat_map (fill_columns labels) (values labels) in
    let f4 : List Priced = all_stays labels in
    let f5 : List Priced = all_ears labels in
    let f6 : List Priced = flat_map first_columns (accesses labels) in
    let f7 : List Priced = flat_map (srv_columns labels) (uses labels) in
    let f8 : List Priced = all_pas_l labels in
    let f9 : List Priced = all_pas_s labels in
    nine-parts on f1 f2 f3 f4 f5 f6 f7 (f8 ++ f9)
  where
    nine-parts : (on : Chosen) (a b c d e f g h : List Priced) → named_cost on a + (named_cost on c + (named_cost on e + named_cost on g)) ≤ named_cost on (a ++ (b ++ (c ++ (d ++ (e ++ (f ++ (g ++ h)))))))
    nine-parts on a b c d e f g h =
        let p1 = cost-append on a (b ++ (c ++ (d ++ (e ++ (f ++ (g ++ h)))))) in
        let p2 = cost-append on b (c ++ (d ++ (e ++ (f ++ (g ++ h))))) in
        let p3 = cost-append on c (d ++ (e ++ (f ++ (g ++ h)))) in
        let p4 = cost-append on d (e ++ (f ++ (g ++ h))) in
        let p5 = cost-append on e (f ++ (g ++ h)) in
        let p6 = cost-append on f (g ++ h) in
        let p7 = cost-append on g h in
        omega (arith, p1, p2, p3, p4, p5, p6, p7)

-- ---- the whole

-- what is kept of the plan costs no more than what is kept of the columns
abbrev KeptCost : List Label → Chosen → Plan → (ℕ → Bool) → Type 0
KeptCost labels on p keep = values_cost p (filter (λ v. keep v.point) (values labels)) + uses_cost p (filter (λ u. keep u.point) (uses labels)) ≤ named_cost on (filter (λ c. keep (column_point labels c.0)) (priced labels))

read-off-kept : (labels : List Label) (slots : ℕ) (on : Chosen) (numbers : Numbers) (hs : List Home) → single labels ≡ true → Known labels on → Facts labels slots on → AreRead labels on numbers hs → (keep : ℕ → Bool) → KeepsTogether labels keep → KeptCost labels on (read_off labels slots on numbers hs) keep
read-off-kept labels slots on numbers hs s g f r keep same =
    let d = values-different labels s in
    let vs = filter (λ (v : Value). keep v.point) (values labels) in
    let us = filter (λ (u : Use). keep u.point) (uses labels) in
    let test : Column → Bool = λ c. keep (column_point labels c) in
    let facts_of = λ (u : Use) (i : In u (uses labels)). All-contains (UseFacts labels on) (uses labels) u f.uses (contained-in u (uses labels) i) in
    let a = values-bounded labels slots on numbers hs vs r d
    (λ v i.
    let j = (in-kept (λ (v : Value). keep v.point) v (values labels) i).0 in
    (j, All-contains (ValueFacts labels on) (values labels) v f.values (contained-in v (values labels) j)))
    facts_of (eighths labels on g) in
    let b = words-paid labels on keep g same d in
    let e = uses-bounded labels slots on numbers hs us
    (each-kept (UseFacts labels on) (λ u. keep u.point) (uses labels) (all-each (UseFacts labels on) (uses labels) f.uses))
    (each-kept (IsFound labels on numbers (uses labels)) (λ u. keep u.point) (uses labels) (serves-found labels on numbers (uses labels) (apart-from 0 (points labels)))) in
    let defs = cost-of-kept on test def_columns (λ v. keep v.point) (values labels) (λ v i k c h. ap keep (def-stands labels v.var v.origin c h ∙ value-stands (values labels) v d i) ∙ k) in
    let fills = cost-of-kept on test (fill_columns labels) (λ v. keep v.point) (values labels) (λ v i k c h. ap keep (fill-stands labels v c h ∙ value-stands (values labels) v d i) ∙ k) in
    let srvs = cost-of-kept on test (srv_columns labels) (λ u. keep u.point) (uses labels) (λ u i k c h. ap keep (srv-stands labels u c h) ∙ k) in
    let all = families-paid labels (kept_on labels keep on) in
    let sum = cost-kept on test (priced labels) in
    omega (arith, a, b, e, defs, fills, srvs, all, sum)

pub kept-cost : (labels : List Label) (slots : ℕ) (on : Chosen) (numbers : Numbers) (hs : List Home) → single labels ≡ true → OnlyThere labels on → All (Holds on) (lines labels slots) → AreRead labels on numbers hs → (keep : ℕ → Bool) → KeepsTogether labels keep → KeptCost labels on (read_off labels slots on numbers hs) keep
kept-cost labels slots on numbers hs s only h r keep same = read-off-kept labels slots on numbers hs s (known labels slots on s only h) (facts labels slots on s only h) r keep same

pub plan-cost : (labels : List Label) (slots : ℕ) (on : Chosen) (numbers : Numbers) (hs : List Home) → single labels ≡ true → OnlyThere labels on → All (Holds on) (lines labels slots) → AreRead labels on numbers hs → cost labels (read_off labels slots on numbers hs) ≤ named_cost on (priced labels)
plan-cost labels slots on numbers hs s only h r =
    let p = read_off labels slots on numbers hs in
    let a : KeptCost labels on p (λ k. true) = kept-cost labels slots on numbers hs s only h r (λ k. true) (λ u v i j e. refl) in
    let b = ap (values_cost p) (filter-all (values labels)) in
    let c = ap (uses_cost p) (filter-all (uses labels)) in
    let d = ap (named_cost on) (filter-all (priced labels)) in
    omega (arith, a, b, c, d)

-- label by label
pub label-paid : (labels : List Label) (slots : ℕ) (x : ℕ → Bool) (numbers : Numbers) (hs : List Home) → single labels ≡ true → OnlyThere labels (on labels x) → All (Holds (on labels x)) (lines labels slots) → AreRead labels (on labels x) numbers hs
    → (l : ℕ) → label_cost labels l (read_off labels slots (on labels x) numbers hs) ≤ label_price labels l x
label-paid labels slots x numbers hs s only h r l = kept-cost labels slots (on labels x) numbers hs s only h r (lies_in labels l) (λ u v i j e. ap (λ n. nat_eq n l) (uses-in-label labels s u v i j e))
