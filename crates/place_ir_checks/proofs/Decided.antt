-- The tests of a placement tell whether it fits.
use Rattle.std.proofs.Common.{◌≡◌, ℕ, zero, suc, ◌+◌, ◌<◌, ◌≤◌, Bool, true, false, ◌&&◌, ◌||◌, nat_eq, ⊎_elim, List, [], ◌∷◌, Some, None, length, map, refl, sym, ap, ◌∙◌, arith}
use Rattle.std.specs.Prelude.{slice_get, slice_index_or, nat_le}
use Rattle.std.specs.List.{list_all}
use Rattle.std.proofs.lemmas.Bool.{and_parts, and_from, and_left, and_right, or_cases, or_left, or_right, cases_lt, false≢true, lt-ltb, ltb-true, le-leb, leb-true}
use Rattle.std.proofs.lemmas.Option.{slice_get_within, slice_get-get_or}
use Rattle.nv_base.specs.Sets.{is_in, Within}
use Rattle.nv_base.proofs.Sets.{same-number}
use Rattle.ssu_ir.specs.Tree.{Label}
use Rattle.ssu_ir.specs.Points as pure
use Rattle.ssu_ir.specs.Points.{Point, points, IsLive}
use Rattle.ssu_ir.specs.Single.{single}
use Rattle.ssu_ir.proofs.Liveness.{points_held}
use Rattle.place_plan.specs.declared.place.Pass.{Pass}
use Rattle.place_plan.specs.Plan.{Home, Plan}
use Rattle.place_plan.specs.Uses.{accesses, Value, place_values, values, reads_at, place_accesses, uses}
use Rattle.place_plan.specs.Fits.{IsHoused, wants_home, IsServed, KeepsRead, FitsAt, at_operand, use_operand, Fits}
use Rattle.ssu_liveness.specs.inner.Numbers.{values_among}
use Rattle.place_ir_checks.specs.inner.NodeLookups.{nowhere, place_at, place_node, value_in}
use Rattle.place_plan.specs.Order.{IsInOrder}
use Rattle.place_plan.proofs.Ordered.{lists-in-order}
use Rattle.place_ir_checks.specs.inner.Checks.{all_below, has_home, value_fits, access_fits, live_fits, keeps_read, word_fits, operands_fit, passes_fit, point_fits, rise, is_wanted, firsts_fit, serves_fit, is_there, lists_fit, use_fits, does_fit, found}
use Rattle.ssu_liveness.proofs.Scoped.{in-itself, in-either}
use Rattle.place_plan.proofs.Sound.{Each, entry_params, Sound, uses_among, sound-points}
use Rattle.place_plan.proofs.Spilled.{each-all, all-each, each-at, each-weaker, used-wanted, param_vars, params-wanted}
use Rattle.place_plan.proofs.Fitting.{uses-are, values-are, entries-in, each-values, values-part, each-accesses, accesses-part}
use Rattle.place_ir_checks.proofs.Recovered.{named-points, serves-listed, listed-serves, found-uses}
use Rattle.place_ir_checks.proofs.Valued.{each-of, of-each, IsPlaced, placed-from, placed-to}
use Rattle.place_ir_checks.proofs.Ruled.{rise-from, rise-to, wanting, wanted-from, wanted-to, firsts-from, firsts-to, HasFirst, access-from, access-to, served-from, served-to}
use Rattle.place_ir_checks.proofs.Pointed.{Known, at-home, held-from, held-to, reads-from, reads-to, waiting-from, waiting-to, operands-from, operands-to, passes-from, passes-to, place-is}

-- ---- numbers below a bound

pub all-below-at : (f : ℕ → Bool) (n i : ℕ) → all_below f n ≡ true → i < n → f i ≡ true
all-below-at f zero i h l = absurd (omega arith)
all-below-at f (suc n) i h l =
    let a = and_parts (all_below f n) (f n) h in
    ⊎_elim
    (λ (b : i < n). all-below-at f n i a.0 b)
    (λ (b : n ≤ i). let same : n ≡ i = omega arith in ap f (sym same) ∙ a.1)
    (cases_lt i n)

pub all-below-from : (f : ℕ → Bool) (n : ℕ) → ((i : ℕ) → i < n → f i ≡ true) → all_below f n ≡ true
all-below-from f zero h = refl
all-below-from f (suc n) h = and_from (all_below f n) (f n) (all-below-from f n (λ i l. h i (omega arith))) (h n (omega arith))

pub all-below-miss : (f : ℕ → Bool) (n i : ℕ) → i < n → f i ≡ false → all_below f n ≡ false
all-below-miss f zero i l e = absurd (omega arith)
all-below-miss f (suc n) i l e = ⊎_elim
    (λ (b : i < n). and_left (all_below f n) (f n) (all-below-miss f n i b e))
    (λ (b : n ≤ i). let same : n ≡ i = omega arith in and_right (all_below f n) (f n) (ap f same ∙ e))
    (cases_lt i n)

pub all-below-more : (f : ℕ → Bool) (n : ℕ) → all_below f n ≡ true → f n ≡ true → all_below f (n + 1) ≡ true
all-below-more f n h e = let next : n + 1 ≡ suc n = omega arith in ap (all_below f) next ∙ and_from (all_below f n) (f n) h e

-- ---- values that want homes

wanting-home : (labels : List Label) (p : Plan) (vs : List Value) (x : ℕ) → Each (IsPlaced labels p) vs → is_in x (wanting labels vs) ≡ true → has_home p x ≡ true
wanting-home labels p [] x h e = absurd (false≢true e)
wanting-home labels p (v ∷ vs) x h e = pick (wants_home labels v) refl (wanting-home labels p vs x h.1)
  where
    pick : (b : Bool) → wants_home labels v ≡ b → (is_in x (wanting labels vs) ≡ true → has_home p x ≡ true) → has_home p x ≡ true
    pick true f rest =
        let g : (nat_eq x v.var || is_in x (wanting labels vs)) ≡ true = grind (arith, e, f) in
        ⊎_elim (λ (a : nat_eq x v.var ≡ true). ap (has_home p) (same-number x v.var a) ∙ h.0.has f) rest (or_cases (nat_eq x v.var) (is_in x (wanting labels vs)) g)
    pick false f rest = rest (grind (arith, e, f))

in-wanting : (labels : List Label) (v : Value) (vs : List Value) (x : ℕ) → is_in x (wanting labels vs) ≡ true → is_in x (wanting labels (v ∷ vs)) ≡ true
in-wanting labels v vs x e = pick (wants_home labels v) refl
  where
    pick : (b : Bool) → wants_home labels v ≡ b → is_in x (wanting labels (v ∷ vs)) ≡ true
    pick true f = let g = or_right (nat_eq x v.var) (is_in x (wanting labels vs)) e in grind (arith, f, g)
    pick false f = grind (arith, e, f)

wanting-first : (labels : List Label) (v : Value) (vs : List Value) → wants_home labels v ≡ true → is_in v.var (wanting labels (v ∷ vs)) ≡ true
wanting-first labels v vs f = let g = or_left (nat_eq v.var v.var) (is_in v.var (wanting labels vs)) (in-itself v.var) in grind (arith, f, g)

placed-each : (labels : List Label) (p : Plan) (vs : List Value) → ((x : ℕ) → is_in x (wanting labels vs) ≡ true → has_home p x ≡ true) → Each (IsHoused labels p) vs → Each (IsPlaced labels p) vs
placed-each labels p [] h g = tt
placed-each labels p (v ∷ vs) h g = (record { has = λ f. h v.var (wanting-first labels v vs f); housed = g.0 }, placed-each labels p vs (λ x e. h x (in-wanting labels v vs x e)) g.1)

-- a value that is live at a point wants a home
before-wanted : (labels : List Label) (k : ℕ) (q : Point) (x : ℕ) → single labels ≡ true → slice_get (points labels) k ≡ Some q → is_in x q.before ≡ true → is_in x (wanting labels (values labels)) ≡ true
before-wanted labels k q x h e b =
    let ps = points labels in
    let vs = values_among (map (λ (z : Point). z.place) ps) in
    let us = uses_among ps in
    let sound : Each (Sound labels vs us) ps = sound-points labels h in
    let entries : Each (λ (z : Point). Within (entry_params z.place) (param_vars (values labels))) ps = entries-in 0 ps in
    ⊎_elim
    (λ (g : is_in x (entry_params q.place) ≡ true). params-wanted labels (values labels) x (each-at (λ (z : Point). Within (entry_params z.place) (param_vars (values labels))) ps k q entries e x g))
    (λ (g : (is_in x vs ≡ true) × (is_in x us ≡ true)). used-wanted labels (values labels) x (ap (λ l. is_in x l) (values-are 0 ps) ∙ g.0) (ap (λ l. is_in x l) (uses-are labels vs us 0 ps sound) ∙ g.1))
    ((each-at (Sound labels vs us) ps k q sound e).from x b)

after-wanted : (labels : List Label) (k : ℕ) (q : Point) (x : ℕ) → single labels ≡ true → slice_get (points labels) k ≡ Some q → is_in x q.after ≡ true → is_in x (pure.place_values q.place) ≡ false → is_in x (wanting labels (values labels)) ≡ true
after-wanted labels k q x h e b n =
    let held = each-at IsLive (points labels) k q (all-each IsLive (points labels) (points_held labels h)) e in
    before-wanted labels k q x h e (⊎_elim
    (λ (g : is_in x q.before ≡ true). g)
    (λ (g : is_in x (pure.place_values q.place) ≡ true). absurd (false≢true (sym n ∙ g)))
    (in-either x q.before (pure.place_values q.place) (held.later x b)))

-- ---- one point

-- the tests of a point, apart from its values and accesses
record PointTests (labels : List Label) (p : Plan) (k : ℕ) : Type 0 where
  values_ : list_all (value_fits (found labels p) p) (place_values k (place_at labels k)) ≡ true
  access : access_fits p k (place_node (place_at labels k)) ≡ true
  held : list_all (λ h. live_fits labels p k h.var) p.homes ≡ true
  reads : keeps_read labels p k (place_node (place_at labels k)) ≡ true
  words : list_all (word_fits labels p k) (found labels p) ≡ true
  operands : operands_fit p k (place_node (place_at labels k)) ≡ true
  passes : passes_fit labels p k ≡ true

point-parts : (labels : List Label) (p : Plan) (k : ℕ) → point_fits labels p k ≡ true → PointTests labels p k
point-parts labels p k h =
    let t1 = list_all (value_fits (found labels p) p) (place_values k (place_at labels k)) in
    let t2 = access_fits p k (place_node (place_at labels k)) in
    let t3 = list_all (λ h. live_fits labels p k h.var) p.homes in
    let t4 = keeps_read labels p k (place_node (place_at labels k)) in
    let t5 = list_all (word_fits labels p k) (found labels p) in
    let t6 = operands_fit p k (place_node (place_at labels k)) in
    let t7 = passes_fit labels p k in
    let a = and_parts t1 (t2 && (t3 && (t4 && (t5 && (t6 && t7))))) h in
    let b = and_parts t2 (t3 && (t4 && (t5 && (t6 && t7)))) a.1 in
    let c = and_parts t3 (t4 && (t5 && (t6 && t7))) b.1 in
    let d = and_parts t4 (t5 && (t6 && t7)) c.1 in
    let e = and_parts t5 (t6 && t7) d.1 in
    let f = and_parts t6 t7 e.1 in
    record { values_ = a.0; access = b.0; held = c.0; reads = d.0; words = e.0; operands = f.0; passes = f.1 }

point-whole : (labels : List Label) (p : Plan) (k : ℕ) → PointTests labels p k → point_fits labels p k ≡ true
point-whole labels p k h =
    let t1 = list_all (value_fits (found labels p) p) (place_values k (place_at labels k)) in
    let t2 = access_fits p k (place_node (place_at labels k)) in
    let t3 = list_all (λ h. live_fits labels p k h.var) p.homes in
    let t4 = keeps_read labels p k (place_node (place_at labels k)) in
    let t5 = list_all (word_fits labels p k) (found labels p) in
    let t6 = operands_fit p k (place_node (place_at labels k)) in
    let t7 = passes_fit labels p k in
    and_from t1 (t2 && (t3 && (t4 && (t5 && (t6 && t7))))) h.values_
    (and_from t2 (t3 && (t4 && (t5 && (t6 && t7)))) h.access
    (and_from t3 (t4 && (t5 && (t6 && t7))) h.held
    (and_from t4 (t5 && (t6 && t7)) h.reads
    (and_from t5 (t6 && t7) h.words
    (and_from t6 t7 h.operands h.passes)))))

placed-at-point : (labels : List Label) (p : Plan) (k : ℕ) (q : Point) → found labels p ≡ uses labels → slice_get (points labels) k ≡ Some q → list_all (value_fits (found labels p) p) (place_values k (place_at labels k)) ≡ true → Each (IsPlaced labels p) (place_values k q.place)
placed-at-point labels p k q f e h =
    each-weaker (λ v. value_fits (uses labels) p v ≡ true) (IsPlaced labels p) (place_values k q.place) (placed-from labels p)
    (each-of (value_fits (uses labels) p) (place_values k q.place)
    (ap (λ us. list_all (value_fits us p) (place_values k q.place)) (sym f) ∙ ap (λ z. list_all (value_fits (found labels p) p) (place_values k z)) (sym (place-is labels k q e)) ∙ h))

point-fits-from : (labels : List Label) (p : Plan) (k : ℕ) (q : Point) → Known labels p → slice_get (points labels) k ≡ Some q → ((x : ℕ) → is_in x (wanting labels (values labels)) ≡ true → has_home p x ≡ true) → PointTests labels p k → FitsAt labels p k q
point-fits-from labels p k q w e homed t = record {
  held = held-from labels p k q w e (λ x b. homed x (before-wanted labels k q x w.single_ e b)) t.held;
  reads = each-all (KeepsRead labels p q) (reads_at k q.place)
      (reads-from labels p k q q.place refl w e (λ x b n. homed x (after-wanted labels k q x w.single_ e b n)) (ap (λ z. keeps_read labels p k (place_node z)) (sym (place-is labels k q e)) ∙ t.reads));
  waiting = waiting-from labels p k q w e t.words;
  operands = operands-from p k q.place (ap (λ z. operands_fit p k (place_node z)) (sym (place-is labels k q e)) ∙ t.operands);
  passes = passes-from labels p k q w e t.passes;
}

point-fits-to : (labels : List Label) (p : Plan) (k : ℕ) (q : Point) → Known labels p → slice_get (points labels) k ≡ Some q → Each (IsPlaced labels p) (place_values k q.place) → Each (HasFirst p) (place_accesses k q.place) → FitsAt labels p k q → PointTests labels p k
point-fits-to labels p k q w e placed firsts f =
    let same = place-is labels k q e in
    record {
      values_ =
          ap (λ us. list_all (value_fits us p) (place_values k (place_at labels k))) w.found_
          ∙ ap (λ z. list_all (value_fits (uses labels) p) (place_values k z)) same
          ∙ of-each (value_fits (uses labels) p) (place_values k q.place) (each-weaker (IsPlaced labels p) (λ v. value_fits (uses labels) p v ≡ true) (place_values k q.place) (placed-to labels p) placed);
      access = ap (λ z. access_fits p k (place_node z)) same ∙ access-to p k q.place firsts;
      held = held-to labels p k q w e f.held;
      reads = ap (λ z. keeps_read labels p k (place_node z)) same ∙ reads-to labels p k q q.place refl w e (all-each (KeepsRead labels p q) (reads_at k q.place) f.reads);
      words = waiting-to labels p k q w e f.waiting;
      operands = ap (λ z. operands_fit p k (place_node z)) same ∙ operands-to p k q.place f.operands;
      passes = passes-to labels p k q w e f.passes;
    }

-- ---- the whole

record ListTests (labels : List Label) (p : Plan) : Type 0 where
  slots : p.slots ≤ 128
  rises : rise None (map (λ h. h.var) p.homes) ≡ true
  wanted : list_all (λ h. is_wanted labels p h.var) p.homes ≡ true
  firsts : firsts_fit (map (λ f. f.point) p.firsts) 0 (points labels) ≡ true
  serves : serves_fit p.serves 0 (points labels) ≡ true
  passes_rise : rise None (map (λ q. q.point) p.passes) ≡ true
  there : list_all (is_there labels) p.passes ≡ true

list-parts : (labels : List Label) (p : Plan) → lists_fit labels p ≡ true → ListTests labels p
list-parts labels p h =
    let t1 = nat_le p.slots 128 in
    let u1 = rise None (map (λ h. h.var) p.homes) in
    let u2 = list_all (λ h. is_wanted labels p h.var) p.homes in
    let t3 = firsts_fit (map (λ f. f.point) p.firsts) 0 (points labels) in
    let t4 = serves_fit p.serves 0 (points labels) in
    let v1 = rise None (map (λ q. q.point) p.passes) in
    let v2 = list_all (is_there labels) p.passes in
    let a = and_parts t1 ((u1 && u2) && (t3 && (t4 && (v1 && v2)))) h in
    let b = and_parts (u1 && u2) (t3 && (t4 && (v1 && v2))) a.1 in
    let c = and_parts t3 (t4 && (v1 && v2)) b.1 in
    let d = and_parts t4 (v1 && v2) c.1 in
    let u = and_parts u1 u2 b.0 in
    let v = and_parts v1 v2 d.1 in
    record { slots = leb-true p.slots 128 a.0; rises = u.0; wanted = u.1; firsts = c.0; serves = d.0; passes_rise = v.0; there = v.1 }

list-whole : (labels : List Label) (p : Plan) → ListTests labels p → lists_fit labels p ≡ true
list-whole labels p h =
    let t1 = nat_le p.slots 128 in
    let u1 = rise None (map (λ h. h.var) p.homes) in
    let u2 = list_all (λ h. is_wanted labels p h.var) p.homes in
    let t3 = firsts_fit (map (λ f. f.point) p.firsts) 0 (points labels) in
    let t4 = serves_fit p.serves 0 (points labels) in
    let v1 = rise None (map (λ q. q.point) p.passes) in
    let v2 = list_all (is_there labels) p.passes in
    and_from t1 ((u1 && u2) && (t3 && (t4 && (v1 && v2)))) (le-leb p.slots 128 h.slots)
    (and_from (u1 && u2) (t3 && (t4 && (v1 && v2))) (and_from u1 u2 h.rises h.wanted)
    (and_from t3 (t4 && (v1 && v2)) h.firsts
    (and_from t4 (v1 && v2) h.serves (and_from v1 v2 h.passes_rise h.there))))

there-each : (labels : List Label) (qs : List Pass) → list_all (is_there labels) qs ≡ true → Each (λ q. q.point < length (points labels)) qs
there-each labels qs h = each-weaker (λ q. is_there labels q ≡ true) (λ q. q.point < length (points labels)) qs (λ q e. ltb-true q.point (length (points labels)) e) (each-of (is_there labels) qs h)

each-there : (labels : List Label) (qs : List Pass) → Each (λ q. q.point < length (points labels)) qs → list_all (is_there labels) qs ≡ true
each-there labels qs h = of-each (is_there labels) qs (each-weaker (λ q. q.point < length (points labels)) (λ q. is_there labels q ≡ true) qs (λ q e. lt-ltb q.point (length (points labels)) e) h)

wanted-homes : (labels : List Label) (p : Plan) (hs : List Home) → ((x : ℕ) → is_in x (map (λ h. h.var) hs) ≡ true → is_wanted labels p x ≡ true) → list_all (λ h. is_wanted labels p h.var) hs ≡ true
wanted-homes labels p [] h = refl
wanted-homes labels p (w ∷ hs) h =
    and_from (is_wanted labels p w.var) (list_all (λ z. is_wanted labels p z.var) hs) (h w.var (or_left (nat_eq w.var w.var) (is_in w.var (map (λ z. z.var) hs)) (in-itself w.var)))
    (wanted-homes labels p hs (λ x e. h x (or_right (nat_eq x w.var) (is_in x (map (λ z. z.var) hs)) e)))

-- where the lists are as they should, they are in order
pub lists-ordered : (labels : List Label) (p : Plan) → single labels ≡ true → lists_fit labels p ≡ true → IsInOrder p
lists-ordered labels p h e =
    let ps = points labels in
    let l = list-parts labels p e in
    lists-in-order labels p (rise-from (map (λ h. h.var) p.homes) l.rises) (firsts-from (map (λ f. f.point) p.firsts) 0 ps l.firsts)
    (serves-listed (value_in labels) 0 ps p.serves (named-points labels h) l.serves) (rise-from (map (λ q. q.point) p.passes) l.passes_rise)

pub fits-from : (labels : List Label) (p : Plan) → single labels ≡ true → does_fit labels p ≡ true → Fits labels p
fits-from labels p h d =
    let ps = points labels in
    let a = and_parts (lists_fit labels p) (list_all (use_fits labels p) (found labels p) && all_below (point_fits labels p) (length ps)) d in
    let b = and_parts (list_all (use_fits labels p) (found labels p)) (all_below (point_fits labels p) (length ps)) a.1 in
    let l = list-parts labels p a.0 in
    let serves : map at_operand p.serves ≡ map use_operand (uses labels) = serves-listed (value_in labels) 0 ps p.serves (named-points labels h) l.serves in
    let w : Known labels p = record { single_ = h; found_ = found-uses labels p h serves } in
    let tests : (k : ℕ) (q : Point) → slice_get ps k ≡ Some q → PointTests labels p k = λ k q e. point-parts labels p k (all-below-at (point_fits labels p) (length ps) k b.1 (slice_get_within ps k q e)) in
    let placed : Each (IsPlaced labels p) (values labels) = each-values (IsPlaced labels p) ps 0
    (λ i m q e f. let same : i ≡ m = omega arith in let g = ap (slice_get ps) (sym same) ∙ f in placed-at-point labels p m q w.found_ g (tests m q g).values_) in
    let homed : (x : ℕ) → is_in x (wanting labels (values labels)) ≡ true → has_home p x ≡ true = λ x e. wanting-home labels p (values labels) x placed e in
    record {
      slots = l.slots;
      homes = record { rise = rise-from (map (λ h. h.var) p.homes) l.rises; each = homed; only = λ x e. wanted-from labels p x w.found_ (at-home (is_wanted labels p) p.homes x l.wanted e) };
      firsts = firsts-from (map (λ f. f.point) p.firsts) 0 ps l.firsts;
      serves = serves;
      passes = record { rise = rise-from (map (λ q. q.point) p.passes) l.passes_rise; there = each-all (λ (q : Pass). q.point < length ps) p.passes (there-each labels p.passes l.there) };
      registers = each-all (HasFirst p) (accesses labels) (each-accesses (HasFirst p) ps 0
          (λ i m q e f. let same : i ≡ m = omega arith in let g = ap (slice_get ps) (sym same) ∙ f in access-from p m q.place (ap (λ z. access_fits p m (place_node z)) (sym (place-is labels m q g)) ∙ (tests m q g).access)));
      values = each-all (IsHoused labels p) (values labels) (each-weaker (IsPlaced labels p) (IsHoused labels p) (values labels) (λ v g. g.housed) placed);
      uses = each-all (IsServed labels p) (uses labels) (each-weaker (λ u. use_fits labels p u ≡ true) (IsServed labels p) (uses labels) (served-from labels p) (each-of (use_fits labels p) (uses labels) (ap (list_all (use_fits labels p)) (sym w.found_) ∙ b.0)));
      points = λ k q e. point-fits-from labels p k q w e homed (tests k q e);
    }

pub fits-to : (labels : List Label) (p : Plan) → single labels ≡ true → Fits labels p → does_fit labels p ≡ true
fits-to labels p h f =
    let ps = points labels in
    let w : Known labels p = record { single_ = h; found_ = found-uses labels p h f.serves } in
    let placed : Each (IsPlaced labels p) (values labels) = placed-each labels p (values labels) f.homes.each (all-each (IsHoused labels p) (values labels) f.values) in
    let firsts : Each (HasFirst p) (accesses labels) = all-each (HasFirst p) (accesses labels) f.registers in
    let at : (k : ℕ) → k < length ps → point_fits labels p k ≡ true = λ k l.
    let q = slice_index_or ps k nowhere in
    let e = slice_get-get_or ps k nowhere l in
    point-whole labels p k (point-fits-to labels p k q w e (values-part (IsPlaced labels p) ps 0 k k q (omega arith) e placed) (accesses-part (HasFirst p) ps 0 k k q (omega arith) e firsts) (f.points k q e)) in
    and_from (lists_fit labels p) (list_all (use_fits labels p) (found labels p) && all_below (point_fits labels p) (length ps))
    (list-whole labels p (record {
      slots = f.slots;
      rises = rise-to (map (λ h. h.var) p.homes) f.homes.rise;
      wanted = wanted-homes labels p p.homes (λ x e. wanted-to labels p x w.found_ (f.homes.only x e));
      firsts = firsts-to (map (λ a. a.point) p.firsts) 0 ps f.firsts;
      serves = listed-serves (value_in labels) 0 ps p.serves (named-points labels h) f.serves;
      passes_rise = rise-to (map (λ q. q.point) p.passes) f.passes.rise;
      there = each-there labels p.passes (all-each (λ (q : Pass). q.point < length ps) p.passes f.passes.there);
    }))
    (and_from (list_all (use_fits labels p) (found labels p)) (all_below (point_fits labels p) (length ps))
    (ap (list_all (use_fits labels p)) w.found_ ∙ of-each (use_fits labels p) (uses labels) (each-weaker (IsServed labels p) (λ u. use_fits labels p u ≡ true) (uses labels) (served-to labels p) (all-each (IsServed labels p) (uses labels) f.uses)))
    (all-below-from (point_fits labels p) (length ps) at))
