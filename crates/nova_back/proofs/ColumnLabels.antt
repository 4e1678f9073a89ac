-- Each column of the program of the banks lies at a point of the form, so in a label. Under weights a vector costs at most so many times
-- more as the heaviest label weighs.
use Rattle.std.proofs.Common.{◌≡◌, ℕ, zero, suc, ◌+◌, ◌*◌, ◌<◌, ◌≤◌, nat_eq, Bool, true, false, if◌then◌else◌, List, [], ◌∷◌, ◌++◌, length, map, filter, slice_index, sym, subst, ◌∙◌, arith}
use Rattle.std.specs.List.{flat_map}
use Rattle.std.proofs.lemmas.List.{length-map}
use Rattle.std.proofs.lemmas.Option.{slice_get_within}
use Rattle.std.proofs.Math.Nat.{mul-le-mul_left}
use Rattle.ssu_ir.specs.Points.{PointKind, Entry, At, Point, points}
use Rattle.ssu_ir.specs.Tree.{Lit, Una, Bin, Clone, Read, Write, Label, Does, Forks, Ends}
use Rattle.place_plan.specs.Uses.{Access, accesses, accesses_from, place_accesses, ValueOrigin, Parameter, Result, Fetched, Value, values, place_values, uses, place_roles, is_used}
use Rattle.place_plan.specs.Fits.{is_result}
use Rattle.place_plan.proofs.Sound.{Each, each-append}
use Rattle.place_plan.proofs.Slotted.{each-any}
use Rattle.place_plan.proofs.Spilled.{each-weaker}
use Rattle.place_plan.specs.ByLabel.{label_from}
use Rattle.place_plan.proofs.Labels.{of_label, values_within, uses_within}
use Rattle.zo_model.specs.Program.{cost_where, cost_below, costs_of}
use Rattle.bank_prog_form.specs.declared.column.Bank.TheVariants.{A, B, M}
use Rattle.bank_prog_form.specs.declared.column.Column.{Column}
use Rattle.bank_prog_form.specs.declared.column.Column.TheVariants.{DirectWrite, Fill, Stay, EarlyWrite, First, Serve, ReadVia, WriteVia}
use Rattle.bank_prog_form.specs.declared.column.Service.{Service}
use Rattle.bank_prog_form.specs.Columns.{origin_of, is_fetched, eight, beginnings, role_beginnings, origin_beginnings, place_words, point_uses, Priced, origin_defs, def_columns, dir_columns, point_dirs, fill_columns, stay_columns, point_stays, ear_columns, point_ears, first_columns, services, has_bank, srv_columns, for_eight, pas_l_columns, pas_s_columns, all_dirs, all_stays, all_ears, all_pas_l, all_pas_s, priced, columns, costs}
use Rattle.bank_prog.specs.Weighted.{point_in, column_point, weigh, weighted, weighted_costs}
use Rattle.bank_prog_rows.proofs.PlainLines.{mapped-each}
use Rattle.reg_assign_reading.proofs.ChosenHolds.{flat-each, if-each, points-each}
use Rattle.reg_assign_reading.proofs.Counts.{each-from}
use Rattle.reg_assign_reading.proofs.FactsThere.{point-of}
use Rattle.nova_back.specs.Causes.{WeighAtMost}

-- ---- points

accesses-at : (n k : ℕ) (q : PointKind) → k < n → Each (λ a. a.point < n) (place_accesses k q)
accesses-at n k (Entry l ps) h = tt
accesses-at n k (At (Does (Lit x v))) h = tt
accesses-at n k (At (Does (Una x op y))) h = tt
accesses-at n k (At (Does (Bin x op y z))) h = tt
accesses-at n k (At (Does (Clone xs y))) h = tt
accesses-at n k (At (Does (Read m xs y))) h = (h, tt)
accesses-at n k (At (Does (Write m y xs))) h = (h, tt)
accesses-at n k (At (Forks c x y)) h = tt
accesses-at n k (At (Ends l)) h = tt

accesses-below : (n k : ℕ) (ps : List Point) → k + length ps ≤ n → Each (λ a. a.point < n) (accesses_from k ps)
accesses-below n k [] h = tt
accesses-below n k (q ∷ ps) h =
    each-append (λ (a : Access). a.point < n) (place_accesses k q.place) (accesses_from (suc k) ps) (accesses-at n k q.place (omega (arith, h))) (accesses-below n (suc k) ps (omega (arith, h)))

found-below : (n x : ℕ) (vs : List Value) → 0 < n → Each (λ v. v.point < n) vs → point_in vs x < n
found-below n x [] some h = some
found-below n x (v ∷ vs) some h = by (nat_eq v.var x) (found-below n x vs some h.1)
  where
    by : (b : Bool) → point_in vs x < n → (if b then v.point else point_in vs x) < n
    by true rest = h.0
    by false rest = rest

-- ---- columns, family by family

abbrev Lies : List Label → Priced → Type 0
Lies labels c = column_point labels c.0 < length (points labels)

value-lies : (labels : List Label) (x k : ℕ) → k < length (points labels) → point_in (values labels) x < length (points labels)
value-lies labels x k h = found-below (length (points labels)) x (values labels) (omega (arith, h)) (values_within (length (points labels)) 0 (points labels) (omega arith))

defs-lie : (labels : List Label) (x : ℕ) (s : ValueOrigin) → point_in (values labels) x < length (points labels) → Each (Lies labels) (origin_defs x s)
defs-lie labels x (Parameter zero i) h = (h, (h, (h, tt)))
defs-lie labels x (Parameter (suc l) i) h = (h, (h, (h, tt)))
defs-lie labels x Result h = (h, (h, (h, tt)))
defs-lie labels x (Fetched m i) h = tt

each-value : (labels : List Label) (P : Value → Type 0) → ((v : Value) → point_in (values labels) v.var < length (points labels) → P v) → Each P (values labels)
each-value labels P f = each-weaker (λ v. v.point < length (points labels)) P (values labels) (λ v h. f v (value-lies labels v.var v.point h)) (values_within (length (points labels)) 0 (points labels) (omega arith))

eight-lie : (labels : List Label) (b : Bool) (column : ℕ → Column) → ((r : ℕ) → Lies labels (column r, 0)) → Each (Lies labels) (for_eight b column)
eight-lie labels true column h = mapped-each (Lies labels) (λ r. (column r, 0)) eight (each-any (λ r. Lies labels (column r, 0)) eight h)
eight-lie labels false column h = tt

dirs-lie : (labels : List Label) → Each (Lies labels) (all_dirs labels)
dirs-lie labels = points-each (Lies labels) (point_dirs labels) 0 (points labels) (λ i k q e s.
    let n = place_words q.place in
    let us = point_uses k q in
    flat-each (Lies labels) (dir_columns labels n) us (each-from (λ u. Each (Lies labels) (dir_columns labels n u)) us (λ u j.
    let fs = role_beginnings n u.role in
    let at = point-of u k 0 q.uses (place_roles q.place) j in
    let inside = slice_get_within (points labels) i q s in
    if-each (Lies labels) (is_result (origin_of labels u.value)) (map (λ f. (DirectWrite u.point u.operand f, 0)) fs) (λ _.
    mapped-each (Lies labels) (λ f. (DirectWrite u.point u.operand f, 0)) fs (each-any (λ f. Lies labels (DirectWrite u.point u.operand f, 0)) fs (λ f. omega (arith, at, inside, e)))))))

stays-lie : (labels : List Label) → Each (Lies labels) (all_stays labels)
stays-lie labels = points-each (Lies labels) (point_stays labels) 0 (points labels) (λ i k q e s.
    let n = place_words q.place in
    let vs = place_values k q.place in
    let inside = slice_get_within (points labels) i q s in
    flat-each (Lies labels) (stay_columns labels n) vs (each-any (λ v. Each (Lies labels) (stay_columns labels n v)) vs (λ v.
    let fs = origin_beginnings n v.origin in
    if-each (Lies labels) (is_used labels v.var) (map (λ f. (Stay v.var f, 0)) fs) (λ _.
    mapped-each (Lies labels) (λ f. (Stay v.var f, 0)) fs (each-any (λ f. Lies labels (Stay v.var f, 0)) fs (λ f. value-lies labels v.var i inside))))))

ears-lie : (labels : List Label) → Each (Lies labels) (all_ears labels)
ears-lie labels = points-each (Lies labels) point_ears 0 (points labels) (λ i k q e s.
    let n = place_words q.place in
    let us = point_uses k q in
    flat-each (Lies labels) (ear_columns n) us (each-from (λ u. Each (Lies labels) (ear_columns n u)) us (λ u j.
    let fs = role_beginnings n u.role in
    let at = point-of u k 0 q.uses (place_roles q.place) j in
    let inside = slice_get_within (points labels) i q s in
    mapped-each (Lies labels) (λ f. (EarlyWrite u.point u.operand f, 1)) fs (each-any (λ f. Lies labels (EarlyWrite u.point u.operand f, 1)) fs (λ f. omega (arith, at, inside, e))))))

firsts-lie : (labels : List Label) → Each (Lies labels) (flat_map first_columns (accesses labels))
firsts-lie labels = flat-each (Lies labels) first_columns (accesses labels)
    (each-weaker (λ a. a.point < length (points labels)) (λ a. Each (Lies labels) (first_columns a)) (accesses labels)
    (λ a h.
    let fs = beginnings a.mem a.words in
    mapped-each (Lies labels) (λ f. (First a.point f, 0)) fs (each-any (λ f. Lies labels (First a.point f, 0)) fs (λ f. h)))
    (accesses-below (length (points labels)) 0 (points labels) (omega arith)))

services-lie : (labels : List Label) → Each (Lies labels) (flat_map (srv_columns labels) (uses labels))
services-lie labels = flat-each (Lies labels) (srv_columns labels) (uses labels)
    (each-weaker (λ u. u.point < length (points labels)) (λ u. Each (Lies labels) (srv_columns labels u)) (uses labels)
    (λ u h.
    let ss = filter (λ (s : Service). has_bank (is_fetched (origin_of labels u.value)) s.from) (services u.role) in
    mapped-each (Lies labels) (λ (s : Service). (Serve u.point u.operand s.from s.at, s.cost)) ss (each-any (λ s. Lies labels (Serve u.point u.operand s.from s.at, s.cost)) ss (λ s. h)))
    (uses_within (length (points labels)) 0 (points labels) (omega arith)))

pas-l-lie : (labels : List Label) → Each (Lies labels) (all_pas_l labels)
pas-l-lie labels = points-each (Lies labels) pas_l_columns 0 (points labels) (λ i k q e s.
    let inside = slice_get_within (points labels) i q s in
    eight-lie labels _ (ReadVia k) (λ r. omega (arith, inside, e)))

pas-s-lie : (labels : List Label) → Each (Lies labels) (all_pas_s labels)
pas-s-lie labels = points-each (Lies labels) (pas_s_columns labels) 0 (points labels) (λ i k q e s.
    let inside = slice_get_within (points labels) i q s in
    eight-lie labels _ (WriteVia k) (λ r. omega (arith, inside, e)))

columns-lie : (labels : List Label) → Each (Lies labels) (priced labels)
columns-lie labels =
    let defs = flat_map def_columns (values labels) in
    let fills = flat_map (fill_columns labels) (values labels) in
    let firsts = flat_map first_columns (accesses labels) in
    let srvs = flat_map (srv_columns labels) (uses labels) in
    let t8 = all_pas_l labels ++ all_pas_s labels in
    let t7 = srvs ++ t8 in
    let t6 = firsts ++ t7 in
    let t5 = all_ears labels ++ t6 in
    let t4 = all_stays labels ++ t5 in
    let t3 = fills ++ t4 in
    let t2 = all_dirs labels ++ t3 in
    each-append (Lies labels) defs t2 (flat-each (Lies labels) def_columns (values labels) (each-value labels (λ v. Each (Lies labels) (def_columns v)) (λ v h. defs-lie labels v.var v.origin h)))
    (each-append (Lies labels) (all_dirs labels) t3 (dirs-lie labels)
    (each-append (Lies labels) fills t4 (flat-each (Lies labels) (fill_columns labels) (values labels) (each-value labels (λ v. Each (Lies labels) (fill_columns labels v)) (λ v h.
    if-each (Lies labels) (is_used labels v.var) ((Fill v.var A, 1) ∷ (Fill v.var B, 1) ∷ (Fill v.var M, 17) ∷ []) (λ _. (h, (h, (h, tt)))))))
    (each-append (Lies labels) (all_stays labels) t5 (stays-lie labels)
    (each-append (Lies labels) (all_ears labels) t6 (ears-lie labels)
    (each-append (Lies labels) firsts t7 (firsts-lie labels)
    (each-append (Lies labels) srvs t8 (services-lie labels)
    (each-append (Lies labels) (all_pas_l labels) (all_pas_s labels) (pas-l-lie labels) (pas-s-lie labels))))))))

-- ---- costs

pub weighted-length : (labels : List Label) (ws : List ℕ) → length (weighted_costs labels ws) ≡ length (columns labels)
weighted-length labels ws = length-map (weighted labels ws) (λ c. c.1) ∙ length-map (priced labels) (weigh labels ws) ∙ sym (length-map (priced labels) (λ c. c.0))

place-cost : (labels : List Label) (ws : List ℕ) (m : ℕ) (cs : List Priced) → Each (λ c. (weigh labels ws c).1 ≤ c.1 * m) cs → (i : ℕ) → slice_index (map (λ c. c.1) (map (weigh labels ws) cs)) i ≤ slice_index (map (λ c. c.1) cs) i * m
place-cost labels ws m [] h i = omega arith
place-cost labels ws m (c ∷ cs) h zero = h.0
place-cost labels ws m (c ∷ cs) h (suc i) = place-cost labels ws m cs h.1 i

one-cost : (b : Bool) (c d m : ℕ) → c ≤ d * m → cost_where b c ≤ cost_where b d * m
one-cost true c d m h = h
one-cost false c d m h = omega arith

below-cost : (n m : ℕ) (as' bs : List ℕ) (x : ℕ → Bool) → ((i : ℕ) → slice_index as' i ≤ slice_index bs i * m) → cost_below n as' x ≤ cost_below n bs x * m
below-cost zero m as' bs x h = omega arith
below-cost (suc n) m as' bs x h =
    let a = below-cost n m as' bs x h in
    let b = one-cost (x n) (slice_index as' n) (slice_index bs n) m (h n) in
    let d : (cost_below n bs x + cost_where (x n) (slice_index bs n)) * m ≡ cost_below n bs x * m + cost_where (x n) (slice_index bs n) * m = omega arith in
    omega (arith, a, b, d)

pub weighted-cost : (labels : List Label) (ws : List ℕ) (most : ℕ) (x : ℕ → Bool) → WeighAtMost labels ws most → costs_of (weighted_costs labels ws) x ≤ costs_of (costs labels) x * most
weighted-cost labels ws most x h =
    let ps = priced labels in
    let each : Each (λ (c : Priced). (weigh labels ws c).1 ≤ c.1 * most) ps = each-weaker (Lies labels) (λ (c : Priced). (weigh labels ws c).1 ≤ c.1 * most) ps
    (λ c lies. mul-le-mul_left c.1 (h (label_from 0 0 labels (column_point labels c.0)) (of_label labels (column_point labels c.0) lies))) (columns-lie labels) in
    let below = below-cost (length (weighted_costs labels ws)) most (weighted_costs labels ws) (costs labels) x (place-cost labels ws most ps each) in
    let same : length (weighted_costs labels ws) ≡ length (costs labels) = length-map (weighted labels ws) (λ c. c.1) ∙ length-map ps (weigh labels ws) ∙ sym (length-map ps (λ c. c.1)) in
    subst (λ n. costs_of (weighted_costs labels ws) x ≤ cost_below n (costs labels) x * most) same below
