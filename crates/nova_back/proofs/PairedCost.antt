-- What the paired choice costs: at most two copies of each value, and one for each use.
use Rattle.std.proofs.Common.{◌≡◌, ℕ, zero, suc, ◌+◌, ◌*◌, ◌≤◌, Bool, true, false, if◌then◌else◌, List, [], ◌∷◌, ◌++◌, length, map, filter, refl, ap, arith}
use Rattle.std.specs.List.{flat_map}
use Rattle.ssu_ir.specs.Points.{points}
use Rattle.ssu_ir.specs.Tree.{Label}
use Rattle.place_plan.specs.Fits.{is_result}
use Rattle.place_plan.specs.Uses.{Access, accesses, ValueOrigin, Parameter, Result, Fetched, Value, values, place_values, Role, Operand, Address, Written, Argument, Ending, Use, uses, is_used}
use Rattle.place_plan.proofs.Sound.{Each}
use Rattle.place_plan.proofs.Slotted.{each-any}
use Rattle.zo_model.specs.Program.{cost_where}
use Rattle.bank_prog_form.specs.declared.column.Bank.TheVariants.{A, B, M, T, L, A15, W}
use Rattle.bank_prog_form.specs.declared.column.Column.{Column}
use Rattle.bank_prog_form.specs.declared.column.Column.TheVariants.{Def, DirectWrite, Fill, Stay, EarlyWrite, First, Serve, ReadVia, WriteVia}
use Rattle.bank_prog_form.specs.declared.column.Service.{Service}
use Rattle.bank_prog_form.specs.Columns.{origin_of, is_fetched, eight, beginnings, role_beginnings, origin_beginnings, place_words, point_uses, Priced, origin_defs, def_columns, dir_columns, point_dirs, fill_columns, stay_columns, point_stays, ear_columns, point_ears, first_columns, services, has_bank, srv_columns, for_eight, pas_l_columns, pas_s_columns, all_dirs, all_stays, all_ears, all_pas_l, all_pas_s, priced}
use Rattle.bank_prog.specs.Meaning.{Chosen, named_cost}
use Rattle.bank_prog_form.specs.Program.{number_of}
use Rattle.bank_prog_rows.proofs.PlainLines.{mapped-each, each-kept}
use Rattle.nova_back.specs.inner.Paired.{paired}
use Rattle.nova_back.proofs.PairedOn.{IsPaired, off}
use Rattle.reg_assign_reading.proofs.ChosenHolds.{flat-each, if-each, points-each}
use Rattle.reg_assign_reading.proofs.CostSums.{cost-append}

-- ---- columns that cost nothing

abbrev IsFree : Chosen → Priced → Type 0
IsFree on c = cost_where (on c.0) c.1 ≡ 0

free-zero : (on : Chosen) (c : Column) → IsFree on (c, 0)
free-zero on c = by (on c)
  where
    by : (b : Bool) → cost_where b 0 ≡ 0
    by true = refl
    by false = refl

free-off : (on : Chosen) (c : Column) (n : ℕ) → on c ≡ false → IsFree on (c, n)
free-off on c n e = ap (λ b. cost_where b n) e

paid : (labels : List Label) (on : Chosen) (c : Column) (n : ℕ) → IsPaired labels on → paired (number_of labels) c ≡ false → IsFree on (c, n)
paid labels on c n g e = free-off on c n (off labels on g c e)

free-cost : (on : Chosen) (cs : List Priced) → Each (IsFree on) cs → named_cost on cs ≡ 0
free-cost on [] h = refl
free-cost on (c ∷ cs) h = let a = h.0 in let b = free-cost on cs h.1 in omega (arith, a, b)

one-cost : (on : Chosen) (c : Column) (n : ℕ) → cost_where (on c) n ≤ n
one-cost on c n = by (on c)
  where
    by : (b : Bool) → cost_where b n ≤ n
    by true = omega arith
    by false = omega arith

-- at most so much for each
flat-cost : {X : Type 0} (on : Chosen) (f : X → List Priced) (n : ℕ) (xs : List X) → ((x : X) → named_cost on (f x) ≤ n) → named_cost on (flat_map f xs) ≤ n * length xs
flat-cost on f n [] h = omega arith
flat-cost on f n (x ∷ xs) h =
    let a = h x in
    let b = flat-cost on f n xs h in
    let c = cost-append on (f x) (flat_map f xs) in
    let m : n * length (x ∷ xs) ≡ n + n * length xs = omega arith in
    omega (arith, a, b, c, m)

-- ---- family by family

defs-free : (labels : List Label) (on : Chosen) (x : ℕ) (s : ValueOrigin) → IsPaired labels on → Each (IsFree on) (origin_defs x s)
defs-free labels on x (Parameter zero i) g = (free-zero on (Def x A), (paid labels on (Def x B) 1 g refl, (paid labels on (Def x M) 17 g refl, tt)))
defs-free labels on x (Parameter (suc l) i) g = (free-zero on (Def x A), (free-zero on (Def x B), (free-zero on (Def x M), tt)))
defs-free labels on x Result g = (free-zero on (Def x A), (free-zero on (Def x B), (paid labels on (Def x M) 16 g refl, tt)))
defs-free labels on x (Fetched m i) g = tt

dirs-free : (labels : List Label) (on : Chosen) → IsPaired labels on → Each (IsFree on) (all_dirs labels)
dirs-free labels on g = points-each (IsFree on) (point_dirs labels) 0 (points labels) (λ i k q e s.
    let n = place_words q.place in
    let us = point_uses k q in
    flat-each (IsFree on) (dir_columns labels n) us (each-any (λ u. Each (IsFree on) (dir_columns labels n u)) us (λ u.
    let fs = role_beginnings n u.role in
    if-each (IsFree on) (is_result (origin_of labels u.value)) (map (λ f. (DirectWrite u.point u.operand f, 0)) fs) (λ t.
    mapped-each (IsFree on) (λ f. (DirectWrite u.point u.operand f, 0)) fs (each-any (λ f. IsFree on (DirectWrite u.point u.operand f, 0)) fs (λ f. free-zero on (DirectWrite u.point u.operand f)))))))

fill-cost : (labels : List Label) (on : Chosen) (v : Value) → IsPaired labels on → named_cost on (fill_columns labels v) ≤ 2
fill-cost labels on v g = by (is_used labels v.var)
  where
    by : (b : Bool) → named_cost on (if b then (Fill v.var A, 1) ∷ (Fill v.var B, 1) ∷ (Fill v.var M, 17) ∷ [] else []) ≤ 2
    by true =
        let a = one-cost on (Fill v.var A) 1 in
        let b = one-cost on (Fill v.var B) 1 in
        let m = paid labels on (Fill v.var M) 17 g refl in
        omega (arith, a, b, m)
    by false = omega arith

stays-free : (labels : List Label) (on : Chosen) → IsPaired labels on → Each (IsFree on) (all_stays labels)
stays-free labels on g = points-each (IsFree on) (point_stays labels) 0 (points labels) (λ i k q e s.
    let n = place_words q.place in
    let vs = place_values k q.place in
    flat-each (IsFree on) (stay_columns labels n) vs (each-any (λ v. Each (IsFree on) (stay_columns labels n v)) vs (λ v.
    let fs = origin_beginnings n v.origin in
    if-each (IsFree on) (is_used labels v.var) (map (λ f. (Stay v.var f, 0)) fs) (λ t.
    mapped-each (IsFree on) (λ f. (Stay v.var f, 0)) fs (each-any (λ f. IsFree on (Stay v.var f, 0)) fs (λ f. free-zero on (Stay v.var f)))))))

ears-free : (labels : List Label) (on : Chosen) → IsPaired labels on → Each (IsFree on) (all_ears labels)
ears-free labels on g = points-each (IsFree on) point_ears 0 (points labels) (λ i k q e s.
    let n = place_words q.place in
    let us = point_uses k q in
    flat-each (IsFree on) (ear_columns n) us (each-any (λ u. Each (IsFree on) (ear_columns n u)) us (λ u.
    let fs = role_beginnings n u.role in
    mapped-each (IsFree on) (λ f. (EarlyWrite u.point u.operand f, 1)) fs (each-any (λ f. IsFree on (EarlyWrite u.point u.operand f, 1)) fs (λ f. paid labels on (EarlyWrite u.point u.operand f) 1 g refl)))))

firsts-free : (on : Chosen) (as' : List Access) → Each (IsFree on) (flat_map first_columns as')
firsts-free on as' = flat-each (IsFree on) first_columns as' (each-any (λ a. Each (IsFree on) (first_columns a)) as' (λ (a : Access).
    let fs = beginnings a.mem a.words in
    mapped-each (IsFree on) (λ f. (First a.point f, 0)) fs (each-any (λ f. IsFree on (First a.point f, 0)) fs (λ f. free-zero on (First a.point f)))))

eight-free : (on : Chosen) (b : Bool) (column : ℕ → Column) → Each (IsFree on) (for_eight b column)
eight-free on true column = mapped-each (IsFree on) (λ r. (column r, 0)) eight (each-any (λ r. IsFree on (column r, 0)) eight (λ r. free-zero on (column r)))
eight-free on false column = tt

pas-l-free : (labels : List Label) (on : Chosen) → Each (IsFree on) (all_pas_l labels)
pas-l-free labels on = points-each (IsFree on) pas_l_columns 0 (points labels) (λ i k q e s. eight-free on _ (ReadVia k))

pas-s-free : (labels : List Label) (on : Chosen) → Each (IsFree on) (all_pas_s labels)
pas-s-free labels on = points-each (IsFree on) (pas_s_columns labels) 0 (points labels) (λ i k q e s. eight-free on _ (WriteVia k))

-- ---- services

abbrev IsFreeWay : Chosen → ℕ → ℕ → Service → Type 0
IsFreeWay on k i s = IsFree on (Serve k i s.from s.at, s.cost)

-- the ways of a role cost nothing, where they are free one by one
free-ways : (on : Chosen) (k i : ℕ) (fetched : Bool) (ss : List Service) → Each (IsFreeWay on k i) ss → named_cost on (map (λ s. (Serve k i s.from s.at, s.cost)) (filter (λ s. has_bank fetched s.from) ss)) ≤ 1
free-ways on k i fetched ss h =
    let kept = filter (λ (s : Service). has_bank fetched s.from) ss in
    let z = free-cost on (map (λ (s : Service). (Serve k i s.from s.at, s.cost)) kept)
    (mapped-each (IsFree on) (λ (s : Service). (Serve k i s.from s.at, s.cost)) kept (each-kept (IsFreeWay on k i) (λ (s : Service). has_bank fetched s.from) ss h)) in
    omega (arith, z)

role-cost : (labels : List Label) (on : Chosen) (fetched : Bool) (k i : ℕ) (r : Role) → IsPaired labels on → named_cost on (map (λ s. (Serve k i s.from s.at, s.cost)) (filter (λ s. has_bank fetched s.from) (services r))) ≤ 1
role-cost labels on fetched k i Operand g = free-ways on k i fetched (services Operand) (free-zero on (Serve k i A A), (free-zero on (Serve k i B B), (free-zero on (Serve k i T T), (paid labels on (Serve k i M L) 16 g refl, (paid labels on (Serve k i M A15) 16 g refl, (paid labels on (Serve k i B A15) 1 g refl, (paid labels on (Serve k i T A15) 1 g refl, tt)))))))
role-cost labels on fetched k i Address g = free-ways on k i fetched (services Address) (free-zero on (Serve k i A A), (free-zero on (Serve k i B B), (paid labels on (Serve k i T A15) 1 g refl, (paid labels on (Serve k i M A15) 16 g refl, tt))))
role-cost labels on fetched k i (Written m j) g = by fetched
  where
    by : (b : Bool) → named_cost on (map (λ s. (Serve k i s.from s.at, s.cost)) (filter (λ s. has_bank b s.from) (services (Written m j)))) ≤ 1
    by true =
        let a = one-cost on (Serve k i A W) 1 in
        let b = paid labels on (Serve k i B W) 1 g refl in
        let c = paid labels on (Serve k i T W) 1 g refl in
        let d = paid labels on (Serve k i M W) 17 g refl in
        omega (arith, a, b, c, d)
    by false =
        let a = one-cost on (Serve k i A W) 1 in
        let b = paid labels on (Serve k i B W) 1 g refl in
        let d = paid labels on (Serve k i M W) 17 g refl in
        omega (arith, a, b, d)
role-cost labels on fetched k i (Argument l j) g = free-ways on k i fetched (services (Argument l j)) (free-zero on (Serve k i A A), (paid labels on (Serve k i A B) 1 g refl, (paid labels on (Serve k i A M) 17 g refl, (paid labels on (Serve k i B A) 1 g refl, (free-zero on (Serve k i B B), (paid labels on (Serve k i B M) 17 g refl, (paid labels on (Serve k i T A) 1 g refl, (paid labels on (Serve k i T B) 1 g refl, (paid labels on (Serve k i T M) 17 g refl, (paid labels on (Serve k i M A) 17 g refl, (paid labels on (Serve k i M B) 17 g refl, (paid labels on (Serve k i M M) 33 g refl, tt))))))))))))
role-cost labels on fetched k i (Ending j) g = free-ways on k i fetched (services (Ending j)) (free-zero on (Serve k i A A), (paid labels on (Serve k i B A) 1 g refl, (paid labels on (Serve k i T A) 1 g refl, (paid labels on (Serve k i M A) 17 g refl, tt))))

srv-cost : (labels : List Label) (on : Chosen) (u : Use) → IsPaired labels on → named_cost on (srv_columns labels u) ≤ 1
srv-cost labels on u g = role-cost labels on (is_fetched (origin_of labels u.value)) u.point u.operand u.role g

-- ---- the whole

pub paired-cost : (labels : List Label) (on : Chosen) → IsPaired labels on → named_cost on (priced labels) ≤ 2 * length (values labels) + length (uses labels)
paired-cost labels on g =
    let vs = values labels in
    let us = uses labels in
    let defs = flat_map def_columns vs in
    let fills = flat_map (fill_columns labels) vs in
    let firsts = flat_map first_columns (accesses labels) in
    let srvs = flat_map (srv_columns labels) us in
    let t8 = all_pas_l labels ++ all_pas_s labels in
    let t7 = srvs ++ t8 in
    let t6 = firsts ++ t7 in
    let t5 = all_ears labels ++ t6 in
    let t4 = all_stays labels ++ t5 in
    let t3 = fills ++ t4 in
    let t2 = all_dirs labels ++ t3 in
    let a1 = free-cost on defs (flat-each (IsFree on) def_columns vs (each-any (λ v. Each (IsFree on) (def_columns v)) vs (λ v. defs-free labels on v.var v.origin g))) in
    let a2 = free-cost on (all_dirs labels) (dirs-free labels on g) in
    let a3 = flat-cost on (fill_columns labels) 2 vs (λ v. fill-cost labels on v g) in
    let a4 = free-cost on (all_stays labels) (stays-free labels on g) in
    let a5 = free-cost on (all_ears labels) (ears-free labels on g) in
    let a6 = free-cost on firsts (firsts-free on (accesses labels)) in
    let a7 = flat-cost on (srv_columns labels) 1 us (λ u. srv-cost labels on u g) in
    let a8 = free-cost on (all_pas_l labels) (pas-l-free labels on) in
    let a9 = free-cost on (all_pas_s labels) (pas-s-free labels on) in
    let s1 = cost-append on defs t2 in
    let s2 = cost-append on (all_dirs labels) t3 in
    let s3 = cost-append on fills t4 in
    let s4 = cost-append on (all_stays labels) t5 in
    let s5 = cost-append on (all_ears labels) t6 in
    let s6 = cost-append on firsts t7 in
    let s7 = cost-append on srvs t8 in
    let s8 = cost-append on (all_pas_l labels) (all_pas_s labels) in
    omega (arith, a1, a2, a3, a4, a5, a6, a7, a8, a9, s1, s2, s3, s4, s5, s6, s7, s8)
