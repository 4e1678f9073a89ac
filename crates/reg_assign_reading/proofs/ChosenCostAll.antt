-- The columns that a placement stands for cost what it does.
use Rattle.std.proofs.Common.{◌≡◌, ℕ, zero, suc, ◌+◌, nat_eq, nat_le, Bool, true, false, not, ◌&&◌, Some, List, [], ◌∷◌, ◌++◌, length, map, refl, sym, ap, subst, inl, inr, ⊎_elim, ◌∙◌, arith}
use Rattle.std.specs.Prelude.{slice_get}
use Rattle.std.specs.List.{flat_map}
use Rattle.std.proofs.lemmas.Bool.{false≢true, and_parts, and_from, or_cases, not-true}
use Rattle.std.proofs.lemmas.List.Elements.{All-contains}
use Rattle.nv_base.specs.Sets.{is_in, all_different}
use Rattle.nv_base.proofs.Sets.{same-number}
use Rattle.ssu_ir.specs.Tree.{Label}
use Rattle.ssu_ir.specs.Points.{Point, points}
use Rattle.ssu_ir.specs.Single.{single}
use Rattle.place_plan.specs.Costs.{cost}
use Rattle.place_plan.specs.Plan.{Plan, first}
use Rattle.place_plan.specs.Uses.{Access, accesses, Value, values, Use, uses, uses_from}
use Rattle.place_plan.specs.Fits.{IsFirst, is_early, Fits}
use Rattle.ssu_liveness.proofs.Scoped.{in-itself}
use Rattle.place_plan.proofs.Sound.{Each}
use Rattle.place_plan.proofs.Joined.{values-different}
use Rattle.zo_model.specs.Program.{cost_where}
use Rattle.bank_prog_form.specs.declared.column.Column.{Column}
use Rattle.bank_prog_form.specs.declared.column.Column.TheVariants.{DirectWrite, Stay, EarlyWrite, First, ReadVia, WriteVia}
use Rattle.bank_prog_form.specs.Columns.{Priced, each_point, eight, point_uses, place_words, beginnings, role_beginnings, origin_beginnings, def_columns, fill_columns, dir_columns, point_dirs, stay_columns, point_stays, ear_columns, first_columns, srv_columns, for_eight, pas_l_columns, pas_s_columns, all_dirs, all_stays, all_ears, all_pas_l, all_pas_s, priced, columns}
use Rattle.bank_prog.specs.Meaning.{Chosen, named_cost}
use Rattle.bank_prog_rows.proofs.Families.{role-beginnings}
use Rattle.reg_assign_reading.specs.inner.Facts.{count}
use Rattle.reg_assign_reading.specs.inner.Chosen.{waits, goes_there, chosen, IsChosen}
use Rattle.reg_assign_reading.proofs.Counts.{In, contained-in, map-in, some-counted, each-from}
use Rattle.bank_prog.proofs.UseSums.{sum_of, sum-append, by_value, one-more, none-more}
use Rattle.reg_assign_reading.proofs.CostSums.{cost-append}
use Rattle.reg_assign_reading.proofs.ChosenHolds.{flat-each, if-each, points-each, in-test, only-most, counted-one}
use Rattle.reg_assign_reading.proofs.ChosenForm.{early-written, use-there}
use Rattle.reg_assign_reading.proofs.ChosenCostValues.{early_price, values-priced}
use Rattle.reg_assign_reading.proofs.ChosenThere.{use-among, use-stands, place_access, word-access, access-words, first-begins}
use Rattle.reg_assign_reading.proofs.ChosenSource.{use-value}
use Rattle.reg_assign_reading.proofs.ChosenCostUses.{uses-priced}

-- ---- columns without a cost

abbrev IsFree : Priced → Type 0
IsFree c = c.1 ≡ 0

free : (on : Chosen) (cs : List Priced) → Each IsFree cs → named_cost on cs ≡ 0
free on [] h = refl
free on (c ∷ cs) h = by (on c.0) (free on cs h.1)
  where
    by : (b : Bool) → named_cost on cs ≡ 0 → cost_where b c.1 + named_cost on cs ≡ 0
    by true z = let a = h.0 in omega (arith, a, z)
    by false z = omega (arith, z)

free-map : (column : ℕ → Column) (rs : List ℕ) → Each IsFree (map (λ r. (column r, 0)) rs)
free-map column [] = tt
free-map column (r ∷ rs) = (refl, free-map column rs)

dirs-free : (labels : List Label) → Each IsFree (all_dirs labels)
dirs-free labels = points-each IsFree (point_dirs labels) 0 (points labels) (λ i k q e at.
    flat-each IsFree (dir_columns labels (place_words q.place)) (point_uses k q) (each-from (λ u. Each IsFree (dir_columns labels (place_words q.place) u)) (point_uses k q) (λ u j.
    if-each IsFree _ (map (λ f. (DirectWrite u.point u.operand f, 0)) (role_beginnings (place_words q.place) u.role)) (λ r. free-map (DirectWrite u.point u.operand) (role_beginnings (place_words q.place) u.role)))))

stays-free : (labels : List Label) → Each IsFree (all_stays labels)
stays-free labels = points-each IsFree (point_stays labels) 0 (points labels) (λ i k q e at.
    flat-each IsFree (stay_columns labels (place_words q.place)) _ (each-from (λ v. Each IsFree (stay_columns labels (place_words q.place) v)) _ (λ v j.
    if-each IsFree _ (map (λ f. (Stay v.var f, 0)) (origin_beginnings (place_words q.place) v.origin)) (λ r. free-map (Stay v.var) (origin_beginnings (place_words q.place) v.origin)))))

firsts-free : (labels : List Label) → Each IsFree (flat_map first_columns (accesses labels))
firsts-free labels = flat-each IsFree first_columns (accesses labels) (each-from (λ a. Each IsFree (first_columns a)) (accesses labels) (λ a i. free-map (First a.point) (beginnings a.mem a.words)))

eight-free : (b : Bool) (column : ℕ → Column) → Each IsFree (for_eight b column)
eight-free true column = free-map column eight
eight-free false column = tt

pas-l-free : (labels : List Label) → Each IsFree (all_pas_l labels)
pas-l-free labels = points-each IsFree pas_l_columns 0 (points labels) (λ i k q e at. eight-free (nat_le 1 (length q.uses)) (ReadVia k))

pas-s-free : (labels : List Label) → Each IsFree (all_pas_s labels)
pas-s-free labels = points-each IsFree (pas_s_columns labels) 0 (points labels) (λ i k q e at. eight-free _ (WriteVia k))

-- the columns of four families alone
pub families-cost : (on : Chosen) (labels : List Label)
    → named_cost on (priced labels) ≡ named_cost on (flat_map def_columns (values labels)) + (named_cost on (flat_map (fill_columns labels) (values labels)) + (named_cost on (all_ears labels) + named_cost on (flat_map (srv_columns labels) (uses labels))))
families-cost on labels =
    nine-parts (flat_map def_columns (values labels)) (all_dirs labels) (flat_map (fill_columns labels) (values labels)) (all_stays labels) (all_ears labels) (flat_map first_columns (accesses labels)) (flat_map (srv_columns labels) (uses labels)) (all_pas_l labels) (all_pas_s labels)
    (free on (all_dirs labels) (dirs-free labels)) (free on (all_stays labels) (stays-free labels)) (free on (flat_map first_columns (accesses labels)) (firsts-free labels)) (free on (all_pas_l labels) (pas-l-free labels)) (free on (all_pas_s labels) (pas-s-free labels))
  where
    nine-parts : (a b c d e f g h i : List Priced) → named_cost on b ≡ 0 → named_cost on d ≡ 0 → named_cost on f ≡ 0 → named_cost on h ≡ 0 → named_cost on i ≡ 0
        → named_cost on (a ++ (b ++ (c ++ (d ++ (e ++ (f ++ (g ++ (h ++ i)))))))) ≡ named_cost on a + (named_cost on c + (named_cost on e + named_cost on g))
    nine-parts a b c d e f g h i zb zd zf zh zi =
        let p1 = cost-append on a (b ++ (c ++ (d ++ (e ++ (f ++ (g ++ (h ++ i))))))) in
        let p2 = cost-append on b (c ++ (d ++ (e ++ (f ++ (g ++ (h ++ i)))))) in
        let p3 = cost-append on c (d ++ (e ++ (f ++ (g ++ (h ++ i))))) in
        let p4 = cost-append on d (e ++ (f ++ (g ++ (h ++ i)))) in
        let p5 = cost-append on e (f ++ (g ++ (h ++ i))) in
        let p6 = cost-append on f (g ++ (h ++ i)) in
        let p7 = cost-append on g (h ++ i) in
        let p8 = cost-append on h i in
        omega (arith, p1, p2, p3, p4, p5, p6, p7, p8, zb, zd, zf, zh, zi)

-- ---- words that are copied early

unit-count : (on : Chosen) (c : ℕ → Column) (rs : List ℕ) → named_cost on (map (λ f. (c f, 1)) rs) ≡ count on (map c rs)
unit-count on c [] = refl
unit-count on c (r ∷ rs) = ap (λ n. cost_where (on (c r)) 1 + n) (unit-count on c rs)

-- of numbered columns that with one number is on, if any
one-of : (on : Chosen) (c : ℕ → Column) (g : ℕ) (b : Bool) (rs : List ℕ) → ((f : ℕ) → on (c f) ≡ (nat_eq g f && b)) → all_different rs ≡ true → (b ≡ true → In g rs) → count on (map c rs) ≡ cost_where b 1
one-of on c g true rs h d i =
    let most = only-most on c g rs (λ f e. sym (same-number g f (and_parts (nat_eq g f) true (sym (h f) ∙ e)).0)) d in
    let one = some-counted on (c g) (map c rs) (map-in c g rs (i refl)) (h g ∙ and_from (nat_eq g g) true (in-itself g) refl) in
    omega (arith, most, one)
one-of on c g false rs h d i = by (count on (map c rs)) refl
  where
    by : (n : ℕ) → count on (map c rs) ≡ n → count on (map c rs) ≡ 0
    by zero e = e
    by (suc n) e = let w = counted-one on c rs (omega (arith, e)) in absurd (false≢true (and_parts (nat_eq g w.0) false (sym (h w.0) ∙ w.2)).1)

-- the write of a word begins at one of the registers where it may
begins-among : (labels : List Label) (p : Plan) (k : ℕ) (q : Point) (u : Use) → single labels ≡ true → Fits labels p → slice_get (points labels) k ≡ Some q → In u (point_uses k q) → is_early p u ≡ true → In (first p u.point) (role_beginnings (place_words q.place) u.role)
begins-among labels p k q u s f at i e =
    let n = place_words q.place in
    let w = early-written labels p u f (use-among labels k q u at i) e in
    let a = place_access u.point w.0 q.place in
    let there = word-access labels u w.0 w.1 (use-stands labels k q u at i) w.2 in
    let fits = All-contains (λ (a : Access). IsFirst a.mem a.words (first p a.point)) (accesses labels) a f.registers (contained-in a (accesses labels) there) in
    subst (λ r. In (first p u.point) (role_beginnings n r)) (sym w.2) (first-begins w.0 n (first p u.point) (access-words labels a s there) fits)

pub ear-cost : (labels : List Label) (p : Plan) (k : ℕ) (q : Point) (u : Use) → single labels ≡ true → Fits labels p → slice_get (points labels) k ≡ Some q → In u (point_uses k q) → named_cost (chosen labels p) (ear_columns (place_words q.place) u) ≡ early_price p u
ear-cost labels p k q u s f at i =
    let rs = role_beginnings (place_words q.place) u.role in
    let b = waits p u.point u.operand && not (goes_there p u.value) in
    let there = use-there labels u (use-among labels k q u at i) in
    unit-count (chosen labels p) (EarlyWrite u.point u.operand) rs
    ∙ one-of (chosen labels p) (EarlyWrite u.point u.operand) (first p u.point) b rs
    (λ r. ap (λ (w : Use). nat_eq (first p u.point) r && (waits p u.point u.operand && not (goes_there p w.value))) there)
    (role-beginnings (place_words q.place) u.role)
    (λ e. begins-among labels p k q u s f at i (and_parts (waits p u.point u.operand) (not (goes_there p u.value)) e).0)

flat-cost : (on : Chosen) (f : Use → List Priced) (g : Use → ℕ) (us : List Use) → ((u : Use) → In u us → named_cost on (f u) ≡ g u) → named_cost on (flat_map f us) ≡ sum_of g us
flat-cost on f g [] h = refl
flat-cost on f g (u ∷ us) h =
    let a = h u (inl refl) in
    let b = flat-cost on f g us (λ w i. h w (inr i)) in
    let c = cost-append on (f u) (flat_map f us) in
    omega (arith, a, b, c)

pub points-cost : (on : Chosen) (f : ℕ → Point → Use → List Priced) (g : Use → ℕ) (j : ℕ) (ps : List Point) → ((i k : ℕ) (q : Point) → k ≡ j + i → slice_get ps i ≡ Some q → (u : Use) → In u (point_uses k q) → named_cost on (f k q u) ≡ g u)
    → named_cost on (each_point (λ k q. flat_map (f k q) (point_uses k q)) j ps) ≡ sum_of g (uses_from j ps)
points-cost on f g j [] h = refl
points-cost on f g j (p ∷ ps) h =
    let a = flat-cost on (f j p) g (point_uses j p) (h 0 j p (omega arith) refl) in
    let b = points-cost on f g (suc j) ps (λ i k q e s u m. h (suc i) k q (omega (arith, e)) s u m) in
    let c = cost-append on (flat_map (f j p) (point_uses j p)) (each_point (λ k q. flat_map (f k q) (point_uses k q)) (suc j) ps) in
    let d = sum-append g (point_uses j p) (uses_from (suc j) ps) in
    omega (arith, a, b, c, d)

ears-cost : (labels : List Label) (p : Plan) → single labels ≡ true → Fits labels p → named_cost (chosen labels p) (all_ears labels) ≡ sum_of (early_price p) (uses labels)
ears-cost labels p s f = points-cost (chosen labels p) (λ k q u. ear_columns (place_words q.place) u) (early_price p) 0 (points labels) (λ i k q e at u j.
    ear-cost labels p k q u s f (subst (λ n. slice_get (points labels) n ≡ Some q) (let n : i ≡ k = omega (arith, e) in n) at) j)

-- ---- the uses of the values are all uses

found-once : (g : Use → ℕ) (u : Use) (us : List Use) (vs : List Value) → all_different (map (λ v. v.var) vs) ≡ true → is_in u.value (map (λ v. v.var) vs) ≡ true → by_value g (u ∷ us) vs ≡ g u + by_value g us vs
found-once g u us [] d i = absurd (false≢true i)
found-once g u us (v ∷ vs) d i =
    let w = and_parts (not (is_in v.var (map (λ v. v.var) vs))) (all_different (map (λ v. v.var) vs)) d in
    by (nat_eq u.value v.var) refl w.0 (λ n. none-more g u us vs n) (λ j. found-once g u us vs w.1 j)
  where
    by : (b : Bool) → nat_eq u.value v.var ≡ b → not (is_in v.var (map (λ v. v.var) vs)) ≡ true
        → (is_in u.value (map (λ v. v.var) vs) ≡ false → by_value g (u ∷ us) vs ≡ by_value g us vs)
        → (is_in u.value (map (λ v. v.var) vs) ≡ true → by_value g (u ∷ us) vs ≡ g u + by_value g us vs)
        → by_value g (u ∷ us) (v ∷ vs) ≡ g u + by_value g us (v ∷ vs)
    by true e n f h =
        let s = f (subst (λ x. is_in x (map (λ v. v.var) vs) ≡ false) (sym (same-number u.value v.var e)) (not-true (is_in v.var (map (λ v. v.var) vs)) n)) in
        let c = one-more g u us v.var true e in
        omega (arith, s, c)
    by false e n f h =
        let s = h (⊎_elim (λ (a : nat_eq u.value v.var ≡ true). absurd (false≢true (sym e ∙ a))) (λ (a : is_in u.value (map (λ v. v.var) vs) ≡ true). a) (or_cases (nat_eq u.value v.var) (is_in u.value (map (λ v. v.var) vs)) i)) in
        let c = one-more g u us v.var false e in
        omega (arith, s, c)

all-found : (g : Use → ℕ) (us : List Use) (vs : List Value) → all_different (map (λ v. v.var) vs) ≡ true → Each (λ u. is_in u.value (map (λ v. v.var) vs) ≡ true) us → by_value g us vs ≡ sum_of g us
all-found g [] vs d h = nothing vs
  where
    nothing : (vs : List Value) → by_value g [] vs ≡ 0
    nothing [] = refl
    nothing (v ∷ vs) = let ih = nothing vs in omega (arith, ih)
all-found g (u ∷ us) vs d h =
    let a = found-once g u us vs d h.0 in
    let b = all-found g us vs d h.1 in
    omega (arith, a, b)

pub by-values : (labels : List Label) (g : Use → ℕ) → single labels ≡ true → by_value g (uses labels) (values labels) ≡ sum_of g (uses labels)
by-values labels g s = all-found g (uses labels) (values labels) (values-different labels s) (each-from (λ u. is_in u.value (map (λ v. v.var) (values labels)) ≡ true) (uses labels) (λ u i.
    let w = use-value labels u s i in
    subst (λ x. is_in x (map (λ v. v.var) (values labels)) ≡ true) w.var (in-test w.value.var (map (λ v. v.var) (values labels)) (map-in (λ (v : Value). v.var) w.value (values labels) w.there))))

-- ---- the whole

pub same-cost : (on other : Chosen) (cs : List Priced) → Each (λ c. on c.0 ≡ other c.0) cs → named_cost on cs ≡ named_cost other cs
same-cost on other [] h = refl
same-cost on other (c ∷ cs) h = ap (λ b. cost_where b c.1 + named_cost on cs) h.0 ∙ ap (λ n. cost_where (other c.0) c.1 + n) (same-cost on other cs h.1)

pub cost-same : (labels : List Label) (p : Plan) (on : Chosen) → single labels ≡ true → Fits labels p → IsChosen labels p on → named_cost on (priced labels) ≡ cost labels p
cost-same labels p on s f c =
    let same = same-cost on (chosen labels p) (priced labels) (each-from (λ d. on d.0 ≡ chosen labels p d.0) (priced labels) (λ d i. c.same d.0 (contained-in d.0 (columns labels) (map-in (λ (d : Priced). d.0) d (priced labels) i)))) in
    let families = families-cost (chosen labels p) labels in
    let vs = values-priced labels p (values labels) s f (λ v i. i) in
    let each = by-values labels (early_price p) s in
    let ears = ears-cost labels p s f in
    let us = uses-priced labels p s f in
    omega (arith, same, families, vs, each, ears, us)
