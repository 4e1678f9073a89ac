-- The columns that a placement stands for cost in each label what it does there.
use Rattle.std.proofs.Common.{◌≡◌, ℕ, ◌+◌, nat_eq, Bool, true, false, ◌&&◌, if◌then◌else◌, Some, List, [], ◌∷◌, filter, refl, sym, ap, subst, inl, inr, ◌∙◌, arith}
use Rattle.std.specs.Prelude.{slice_get}
use Rattle.std.specs.List.{flat_map}
use Rattle.ssu_ir.specs.Tree.{Label}
use Rattle.ssu_ir.specs.Points.{Point, points}
use Rattle.ssu_ir.specs.Single.{single}
use Rattle.place_plan.specs.Costs.{use_cost, values_cost, uses_cost}
use Rattle.place_plan.specs.Plan.{Plan}
use Rattle.place_plan.specs.Uses.{Value, values, Use, uses, uses_of}
use Rattle.place_plan.specs.Fits.{Fits}
use Rattle.place_plan.proofs.Joined.{values-different}
use Rattle.zo_model.specs.Program.{cost_where}
use Rattle.place_plan.specs.ByLabel.{lies_in, label_cost}
use Rattle.bank_prog_form.specs.declared.column.Column.{Column}
use Rattle.bank_prog_form.specs.declared.column.Column.TheVariants.{EarlyWrite}
use Rattle.bank_prog_form.specs.Columns.{Priced, point_uses, place_words, role_beginnings, def_columns, fill_columns, ear_columns, srv_columns, all_ears, priced, columns}
use Rattle.bank_prog.specs.Weighted.{column_point}
use Rattle.bank_prog.specs.Meaning.{Chosen, named_cost}
use Rattle.reg_assign_reading.specs.inner.Chosen.{chosen, IsChosen}
use Rattle.reg_assign_reading.proofs.Counts.{In, contained-in, in-map, in-kept, map-in, each-from}
use Rattle.reg_assign_reading.proofs.FactsValues.{used-of}
use Rattle.bank_prog.proofs.UseSums.{sum_of}
use Rattle.reg_assign_reading.proofs.CostSums.{cost-append}
use Rattle.reg_assign_reading.proofs.CostKept.{and_passes, cost-kept, all-pass}
use Rattle.reg_assign_reading.proofs.CostAll.{kept_on, KeepsTogether, value-stands, def-stands, fill-stands, srv-stands}
use Rattle.reg_assign_reading.proofs.ChosenCostValues.{early_price, values-priced}
use Rattle.reg_assign_reading.proofs.ChosenCostUses.{use-priced, each-priced}
use Rattle.reg_assign_reading.proofs.ChosenCostAll.{families-cost, points-cost, ear-cost, by-values, same-cost}
use Rattle.reg_assign_reading.proofs.LabelPoints.{uses-in-label}

-- ---- the columns of what is kept, where an element's columns all pass or none

none-pass : (on : Chosen) (test : Column → Bool) (cs : List Priced) → ((c : Priced) → In c cs → test c.0 ≡ false) → named_cost (and_passes on test) cs ≡ 0
none-pass on test [] h = refl
none-pass on test (c ∷ cs) h = by (on c.0) (test c.0) (h c (inl refl)) (none-pass on test cs (λ d i. h d (inr i)))
  where
    by : (a b : Bool) → b ≡ false → named_cost (and_passes on test) cs ≡ 0 → cost_where (a && b) c.1 + named_cost (and_passes on test) cs ≡ 0
    by true false e k = omega (arith, k)
    by false false e k = omega (arith, k)
    by a true e k = absurd (cc)

same-of-kept : {X : Type 0} (on : Chosen) (test : Column → Bool) (f : X → List Priced) (keep : X → Bool) (xs : List X) → ((x : X) → In x xs → (c : Priced) → In c (f x) → test c.0 ≡ keep x) → named_cost (and_passes on test) (flat_map f xs) ≡ named_cost on (flat_map f (filter keep xs))
same-of-kept on test f keep [] h = refl
same-of-kept on test f keep (x ∷ xs) h = by (keep x) refl (same-of-kept on test f keep xs (λ y i. h y (inr i)))
  where
    by : (b : Bool) → keep x ≡ b → named_cost (and_passes on test) (flat_map f xs) ≡ named_cost on (flat_map f (filter keep xs)) → named_cost (and_passes on test) (flat_map f (x ∷ xs)) ≡ named_cost on (flat_map f (if b then x ∷ filter keep xs else filter keep xs))
    by true e k =
        let p = all-pass on test (f x) (λ c i. h x (inl refl) c i ∙ e) in
        let a = cost-append on (f x) (flat_map f (filter keep xs)) in
        let b = cost-append (and_passes on test) (f x) (flat_map f xs) in
        omega (arith, k, p, a, b)
    by false e k =
        let p = none-pass on test (f x) (λ c i. h x (inl refl) c i ∙ e) in
        let b = cost-append (and_passes on test) (f x) (flat_map f xs) in
        omega (arith, k, p, b)

-- ---- words that are copied early, each at its use

abbrev kept_early : (ℕ → Bool) → Plan → Use → ℕ
kept_early keep p u = cost_where (keep u.point) (early_price p u)

ear-stands : (labels : List Label) (n : ℕ) (u : Use) (c : Priced) → In c (ear_columns n u) → column_point labels c.0 ≡ u.point
ear-stands labels n u c h =
    let w = in-map c (λ f. (EarlyWrite u.point u.operand f, 1)) (role_beginnings n u.role) h in
    ap (λ (z : Priced). column_point labels z.0) (sym w.2)

kept-ear : (labels : List Label) (p : Plan) (keep : ℕ → Bool) (k : ℕ) (q : Point) (u : Use) → single labels ≡ true → Fits labels p → slice_get (points labels) k ≡ Some q → In u (point_uses k q) → named_cost (kept_on labels keep (chosen labels p)) (ear_columns (place_words q.place) u) ≡ kept_early keep p u
kept-ear labels p keep k q u s f at i = by (keep u.point) refl
  where
    by : (b : Bool) → keep u.point ≡ b → named_cost (kept_on labels keep (chosen labels p)) (ear_columns (place_words q.place) u) ≡ cost_where b (early_price p u)
    by true e =
        sym (all-pass (chosen labels p) (λ c. keep (column_point labels c)) (ear_columns (place_words q.place) u) (λ c h. ap keep (ear-stands labels (place_words q.place) u c h) ∙ e))
        ∙ ear-cost labels p k q u s f at i
    by false e = none-pass (chosen labels p) (λ c. keep (column_point labels c)) (ear_columns (place_words q.place) u) (λ c h. ap keep (ear-stands labels (place_words q.place) u c h) ∙ e)

kept-ears : (labels : List Label) (p : Plan) (keep : ℕ → Bool) → single labels ≡ true → Fits labels p → named_cost (kept_on labels keep (chosen labels p)) (all_ears labels) ≡ sum_of (kept_early keep p) (uses labels)
kept-ears labels p keep s f = points-cost (kept_on labels keep (chosen labels p)) (λ k q u. ear_columns (place_words q.place) u) (kept_early keep p) 0 (points labels) (λ i k q e at u j.
    kept-ear labels p keep k q u s f (subst (λ n. slice_get (points labels) n ≡ Some q) (let n : i ≡ k = omega (arith, e) in n) at) j)

sum-same : (g h : Use → ℕ) (us : List Use) → ((u : Use) → In u us → g u ≡ h u) → sum_of g us ≡ sum_of h us
sum-same g h [] e = refl
sum-same g h (u ∷ us) e = ap (λ n. n + sum_of g us) (e u (inl refl)) ∙ ap (λ n. h u + n) (sum-same g h us (λ w i. e w (inr i)))

sum-none : (g : Use → ℕ) (us : List Use) → ((u : Use) → In u us → g u ≡ 0) → sum_of g us ≡ 0
sum-none g [] e = refl
sum-none g (u ∷ us) e =
    let a = e u (inl refl) in
    let b = sum-none g us (λ w i. e w (inr i)) in
    omega (arith, a, b)

-- a value and its words are kept together
kept-words : (labels : List Label) (p : Plan) (keep : ℕ → Bool) (vs : List Value) → KeepsTogether labels keep → ((v : Value) → In v vs → In v (values labels))
    → sum_of (λ v. sum_of (early_price p) (uses_of labels v.var)) (filter (λ v. keep v.point) vs) ≡ sum_of (λ v. sum_of (kept_early keep p) (uses_of labels v.var)) vs
kept-words labels p keep [] same h = refl
kept-words labels p keep (v ∷ vs) same h = by (keep v.point) refl (kept-words labels p keep vs same (λ w i. h w (inr i)))
  where
    together : (b : Bool) → keep v.point ≡ b → (u : Use) → In u (uses_of labels v.var) → kept_early keep p u ≡ cost_where b (early_price p u)
    together b e u j = let t = used-of labels u v.var j in ap (λ c. cost_where c (early_price p u)) (same u v t.0 (h v (inl refl)) t.1 ∙ e)

    by : (b : Bool) → keep v.point ≡ b → sum_of (λ v. sum_of (early_price p) (uses_of labels v.var)) (filter (λ v. keep v.point) vs) ≡ sum_of (λ v. sum_of (kept_early keep p) (uses_of labels v.var)) vs
        → sum_of (λ v. sum_of (early_price p) (uses_of labels v.var)) (if b then v ∷ filter (λ v. keep v.point) vs else filter (λ v. keep v.point) vs) ≡ sum_of (kept_early keep p) (uses_of labels v.var) + sum_of (λ v. sum_of (kept_early keep p) (uses_of labels v.var)) vs
    by true e k =
        let a = sum-same (kept_early keep p) (early_price p) (uses_of labels v.var) (λ u j. together true e u j) in
        omega (arith, a, k)
    by false e k =
        let a = sum-none (kept_early keep p) (uses_of labels v.var) (λ u j. together false e u j) in
        omega (arith, a, k)

-- ---- the whole

kept-priced : (labels : List Label) (p : Plan) (keep : ℕ → Bool) → single labels ≡ true → Fits labels p → KeepsTogether labels keep
    → named_cost (chosen labels p) (filter (λ c. keep (column_point labels c.0)) (priced labels)) ≡ values_cost p (filter (λ v. keep v.point) (values labels)) + uses_cost p (filter (λ u. keep u.point) (uses labels))
kept-priced labels p keep s f same =
    let on = chosen labels p in
    let test = λ (c : Column). keep (column_point labels c) in
    let d = values-different labels s in
    let a = cost-kept on test (priced labels) in
    let families = families-cost (kept_on labels keep on) labels in
    let defs = same-of-kept on test def_columns (λ v. keep v.point) (values labels) (λ v i c h. ap keep (def-stands labels v.var v.origin c h ∙ value-stands (values labels) v d i)) in
    let fills = same-of-kept on test (fill_columns labels) (λ v. keep v.point) (values labels) (λ v i c h. ap keep (fill-stands labels v c h ∙ value-stands (values labels) v d i)) in
    let srvs = same-of-kept on test (srv_columns labels) (λ u. keep u.point) (uses labels) (λ u i c h. ap keep (srv-stands labels u c h)) in
    let ears = kept-ears labels p keep s f in
    let vs = values-priced labels p (filter (λ v. keep v.point) (values labels)) s f (λ v i. (in-kept (λ (v : Value). keep v.point) v (values labels) i).0) in
    let words = kept-words labels p keep (values labels) same (λ v i. i) in
    let each = by-values labels (kept_early keep p) s in
    let us = each-priced labels p (filter (λ u. keep u.point) (uses labels)) (each-from (λ u. use_cost p u ≡ named_cost (chosen labels p) (srv_columns labels u)) (filter (λ u. keep u.point) (uses labels)) (λ u i. use-priced labels p u s f (in-kept (λ (u : Use). keep u.point) u (uses labels) i).0)) in
    omega (arith, a, families, defs, fills, srvs, ears, vs, words, each, us)

pub label-same : (labels : List Label) (p : Plan) (on : Chosen) (l : ℕ) → single labels ≡ true → Fits labels p → IsChosen labels p on → named_cost on (filter (λ c. lies_in labels l (column_point labels c.0)) (priced labels)) ≡ label_cost labels l p
label-same labels p on l s f c =
    let keep = λ (d : Priced). lies_in labels l (column_point labels d.0) in
    same-cost on (chosen labels p) (filter keep (priced labels)) (each-from (λ d. on d.0 ≡ chosen labels p d.0) (filter keep (priced labels)) (λ d i.
    c.same d.0 (contained-in d.0 (columns labels) (map-in (λ (d : Priced). d.0) d (priced labels) (in-kept keep d (priced labels) i).0))))
    ∙ kept-priced labels p (lies_in labels l) s f (λ u v i j e. ap (λ n. nat_eq n l) (uses-in-label labels s u v i j e))
