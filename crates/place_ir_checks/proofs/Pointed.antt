-- What is asked at one point, as it is tested and as the rules say it.
use Rattle.std.proofs.Common.{◌≡◌, ◌≢◌, ℕ, zero, suc, ◌+◌, ◌-◌, ◌<◌, ◌≤◌, Bool, true, false, not, ◌&&◌, ◌||◌, nat_eq, ◌⊎◌, inl, inr, ⊎_elim, List, [], ◌∷◌, ◌++◌, Option, Some, None, length, map, filter, refl, sym, ap, subst, ◌∙◌, arith}
use Rattle.std.proofs.Math.Bool.{and_comm, and-true}
use Rattle.std.specs.Prelude.{slice_get, is_some, nat_le, nat_lt}
use Rattle.std.specs.List.{list_all, list_any}
use Rattle.std.proofs.lemmas.Bool.{and_parts, and_from, or_cases, or_left, or_right, false≢true, false_from_ne_true, lt-ltb, ltb-true, le-ltb, le-leb, leb-true, eqb-false, not-true, not_from_false, cases_Bool}
use Rattle.nv_base.specs.declared.term.Mem.{Mem}
use Rattle.nv_base.specs.declared.term.Mem.TheVariants.{Sram, Sdram, Scratch}
use Rattle.nv_base.specs.Sets.{is_in}
use Rattle.nv_base.proofs.Sets.{same-number, in-append}
use Rattle.ssu_ir.proofs.Lists.{same_tests}
use Rattle.ssu_ir.proofs.Searches.{or-false}
use Rattle.ssu_ir.specs.Tree.{Lit, Una, Bin, Clone, Read, Write, Jump, Halt, Label, Does, Forks, Ends}
use Rattle.ssu_ir.specs.Points as pure
use Rattle.ssu_ir.specs.Points.{PointKind as Spot, Entry, At, Point, points}
use Rattle.ssu_ir.specs.Single.{single}
use Rattle.place_plan.specs.declared.place.Place.{Place}
use Rattle.place_plan.specs.declared.place.Place.TheVariants.{A, B, L, LD, S, SD, Slot}
use Rattle.place_plan.specs.Places.{same_place}
use Rattle.place_plan.specs.Plan.{Home, Plan, home, first, serve, pass}
use Rattle.place_plan.specs.Uses.{ValueOrigin, Parameter, Fetched, Value, numbered, place_values, reads_at, writes_at, Role, Argument, Ending, roles, place_roles, Use, uses_at, uses, is_used}
use Rattle.place_plan.specs.Fits as rules
use Rattle.place_plan.specs.Fits.{read_place, write_place, is_general, is_slot, is_read_register, served, word_register, is_early, has_place, none_shared, general_places, read_places, kept_register, maybe, run_of, is_waiting, same_use, IsEighth, KeepsHeld, point_values, KeepsRead, Waits, KeepsWaiting, AreApart, comes_to_slot, PassesSlots}
use Rattle.place_ir_checks.specs.inner.NodeLookups.{place_at, below_at, place_node}
use Rattle.place_ir_checks.specs.inner.Checks as checks
use Rattle.place_ir_checks.specs.inner.Checks.{is_within, in_read_run, in_write_run, used, is_known, is_before, is_after, has_home, general_apart, values_apart, may_meet, goes_through, passes_by, live_fits, spares, keeps_read, waits, is_written, is_free, is_other, word_fits, operands_fit, has_use, any_from_slot, reads_slot, reads_fit, is_result, to_slot, writes_fit, passes_fit, found}
use Rattle.place_plan.proofs.Places.{same_place-true, same_place-from, same_place-false}
use Rattle.ssu_liveness.proofs.Scoped.{in-itself}
use Rattle.place_plan.proofs.Sound.{Each, length-of-map}
use Rattle.place_plan.proofs.Spilled.{each-all, all-each, none-with-nothing}
use Rattle.place_plan.proofs.Fitting.{vars-of-place}
use Rattle.place_ir_checks.proofs.Recovered.{Named, names_of, many-names, made, made-point, point-there, named-at, named-points}
use Rattle.place_ir_checks.proofs.Seen.{and-nothing, before-is, after-is, known-is, below-at, below-from}
use Rattle.place_ir_checks.proofs.Valued.{any-filter, used-is}

-- ---- values that have homes

pub at-home : (f : ℕ → Bool) (hs : List Home) (x : ℕ) → list_all (λ h. f h.var) hs ≡ true → is_in x (map (λ h. h.var) hs) ≡ true → f x ≡ true
at-home f [] x e g = absurd (false≢true g)
at-home f (h ∷ hs) x e g =
    let a = and_parts (f h.var) (list_all (λ w. f w.var) hs) e in
    ⊎_elim (λ (b : nat_eq x h.var ≡ true). ap f (same-number x h.var b) ∙ a.0) (λ (b : is_in x (map (λ w. w.var) hs) ≡ true). at-home f hs x a.1 b) (or_cases (nat_eq x h.var) (is_in x (map (λ w. w.var) hs)) g)

pub of-homes : (f : ℕ → Bool) (hs : List Home) → ((x : ℕ) → f x ≡ true) → list_all (λ h. f h.var) hs ≡ true
of-homes f [] h = refl
of-homes f (w ∷ hs) h = and_from (f w.var) (list_all (λ z. f z.var) hs) (h w.var) (of-homes f hs h)

-- ---- places that are shared

has-general : (q : Place) (rs : List Place) → has_place q (filter is_general rs) ≡ (is_general q && has_place q rs)
has-general q [] = and-nothing (is_general q)
has-general q (r ∷ rs) = pick (cases_Bool (same_place q r)) (is_general r) refl (has-general q rs)
  where
    pick : (same_place q r ≡ true) ⊎ (same_place q r ≡ false) → (b : Bool) → is_general r ≡ b → has_place q (filter is_general rs) ≡ (is_general q && has_place q rs) → has_place q (filter is_general (r ∷ rs)) ≡ (is_general q && (same_place q r || has_place q rs))
    pick (inl e) true f h = let g : is_general q ≡ true = ap is_general (same_place-true q r e) ∙ f in grind (arith, e, f, g)
    pick (inl e) false f h = let g : is_general q ≡ false = ap is_general (same_place-true q r e) ∙ f in grind (arith, e, f, g, h)
    pick (inr e) true f h = grind (arith, e, f, h)
    pick (inr e) false f h = grind (arith, e, f, h)

none-general : (qs rs : List Place) → none_shared (filter is_general qs) (filter is_general rs) ≡ list_all (λ q. not (is_general q && has_place q rs)) qs
none-general [] rs = refl
none-general (q ∷ qs) rs = pick (is_general q) refl (none-general qs rs) (has-general q rs)
  where
    pick : (b : Bool) → is_general q ≡ b → none_shared (filter is_general qs) (filter is_general rs) ≡ list_all (λ z. not (is_general z && has_place z rs)) qs → has_place q (filter is_general rs) ≡ (is_general q && has_place q rs)
        → none_shared (filter is_general (q ∷ qs)) (filter is_general rs) ≡ (not (is_general q && has_place q rs) && list_all (λ z. not (is_general z && has_place z rs)) qs)
    pick true e h g = grind (arith, e, h, g)
    pick false e h g = grind (arith, e, h)

apart-general : (p : Plan) (x y : ℕ) → general_apart p x y ≡ none_shared (general_places p x) (general_places p y)
apart-general p x y = sym (none-general ((home p x).defined ∷ (home p x).copied) ((home p y).defined ∷ (home p y).copied))

stays-is : (labels : List Label) (p : Plan) (x : ℕ) → checks.stays (uses labels) p x ≡ rules.stays labels p x
stays-is labels p x = any-filter (λ u. nat_eq u.value x) (λ u. is_read_register (served p u).from) (uses labels)

apart-kept : (labels : List Label) (p : Plan) (x y : ℕ) (a b : Bool) → not (same_place (home p x).defined (home p y).defined && (a && b)) ≡ none_shared (kept_register labels p x a) (kept_register labels p y b)
apart-kept labels p x y false b = ap not (sym (and-nothing (same_place (home p x).defined (home p y).defined)))
apart-kept labels p x y true false = ap not (sym (and-nothing (same_place (home p x).defined (home p y).defined)))
apart-kept labels p x y true true =
    ap not (and-true (same_place (home p x).defined (home p y).defined) ∙ or-false (same_place (home p x).defined (home p y).defined)) ∙ sym (and-true (not (same_place (home p x).defined (home p y).defined || false)))

apart-read : (labels : List Label) (p : Plan) (x y : ℕ) → not (same_place (home p x).defined (home p y).defined && (checks.stays (uses labels) p x && checks.stays (uses labels) p y)) ≡ none_shared (read_places labels p x) (read_places labels p y)
apart-read labels p x y =
    ap (λ a. not (same_place (home p x).defined (home p y).defined && (a && checks.stays (uses labels) p y))) (stays-is labels p x)
    ∙ ap (λ b. not (same_place (home p x).defined (home p y).defined && (rules.stays labels p x && b))) (stays-is labels p y)
    ∙ apart-kept labels p x y (rules.stays labels p x) (rules.stays labels p y)

through-kept : (labels : List Label) (p : Plan) (x : ℕ) (l : Option ℕ) (b : Bool) → checks.stays (uses labels) p x ≡ b → not (goes_through (uses labels) p x l) ≡ none_shared (maybe L l) (kept_register labels p x b)
through-kept labels p x None b e = refl
through-kept labels p x (Some r) true e =
    ap (λ c. not (same_place (L r) (home p x).defined && c)) e
    ∙ ap not (and-true (same_place (L r) (home p x).defined) ∙ or-false (same_place (L r) (home p x).defined)) ∙ sym (and-true (not (same_place (L r) (home p x).defined || false)))
through-kept labels p x (Some r) false e = ap (λ c. not (same_place (L r) (home p x).defined && c)) e ∙ ap not (sym (and-nothing (same_place (L r) (home p x).defined)))

through-is : (labels : List Label) (p : Plan) (x : ℕ) (l : Option ℕ) → not (goes_through (uses labels) p x l) ≡ none_shared (maybe L l) (read_places labels p x)
through-is labels p x l = through-kept labels p x l (rules.stays labels p x) (stays-is labels p x)

-- what is known where a placement is tested
pub record Known (labels : List Label) (p : Plan) : Type 0 where
  pub single_ : single labels ≡ true
  pub found_ : found labels p ≡ uses labels

-- ---- live values

pub held-from : (labels : List Label) (p : Plan) (k : ℕ) (q : Point) → Known labels p → slice_get (points labels) k ≡ Some q → ((x : ℕ) → is_in x q.before ≡ true → has_home p x ≡ true)
    → list_all (λ h. live_fits labels p k h.var) p.homes ≡ true → KeepsHeld labels p k q
held-from labels p k q w e homed h =
    let us = found labels p in
    let fits : (x : ℕ) → is_in x q.before ≡ true → (passes_by labels p k x && list_all (λ h. may_meet labels p k x h.var) p.homes) ≡ true = λ x b.
    let f = at-home (live_fits labels p k) p.homes x h (homed x b) in
    ⊎_elim
    (λ (c : not (is_before labels p k x) ≡ true). absurd (false≢true (sym (not-true (is_before labels p k x) c) ∙ before-is labels p k q x w.single_ w.found_ e ∙ b)))
    (λ (c : (passes_by labels p k x && list_all (λ h. may_meet labels p k x h.var) p.homes) ≡ true). c)
    (or_cases (not (is_before labels p k x)) (passes_by labels p k x && list_all (λ h. may_meet labels p k x h.var) p.homes) f) in
    let apart : (x y : ℕ) → is_in x q.before ≡ true → is_in y q.before ≡ true → x ≢ y → values_apart labels p x y ≡ true = λ x y a b n.
    let f = at-home (may_meet labels p k x) p.homes y (and_parts (passes_by labels p k x) (list_all (λ h. may_meet labels p k x h.var) p.homes) (fits x a)).1 (homed y b) in
    ⊎_elim
    (λ (c : nat_eq x y ≡ true). absurd (n (same-number x y c)))
    (λ (c : (values_apart labels p x y || not (is_before labels p k y)) ≡ true). ⊎_elim
    (λ (d : values_apart labels p x y ≡ true). d)
    (λ (d : not (is_before labels p k y) ≡ true). absurd (false≢true (sym (not-true (is_before labels p k y) d) ∙ before-is labels p k q y w.single_ w.found_ e ∙ b)))
    (or_cases (values_apart labels p x y) (not (is_before labels p k y)) c))
    (or_cases (nat_eq x y) (values_apart labels p x y || not (is_before labels p k y)) f) in
    let kept : (x y : ℕ) → Bool = λ x y. not (same_place (home p x).defined (home p y).defined && (checks.stays us p x && checks.stays us p y)) in
    record {
      general = λ x y a b n. sym (apart-general p x y) ∙ (and_parts (general_apart p x y) (kept x y) (apart x y a b n)).0;
      read = λ x y a b n.
          sym (apart-read labels p x y)
          ∙ ap (λ vs. not (same_place (home p x).defined (home p y).defined && (checks.stays vs p x && checks.stays vs p y))) (sym w.found_)
          ∙ (and_parts (general_apart p x y) (kept x y) (apart x y a b n)).1;
      read_through = λ x a.
          sym (through-is labels p x (pass p k).l)
          ∙ ap (λ vs. not (goes_through vs p x (pass p k).l)) (sym w.found_)
          ∙ (and_parts (passes_by labels p k x) (list_all (λ h. may_meet labels p k x h.var) p.homes) (fits x a)).0;
    }

pub held-to : (labels : List Label) (p : Plan) (k : ℕ) (q : Point) → Known labels p → slice_get (points labels) k ≡ Some q → KeepsHeld labels p k q → list_all (λ h. live_fits labels p k h.var) p.homes ≡ true
held-to labels p k q w e h =
    let us = found labels p in
    let kept : (x y : ℕ) → Bool = λ x y. not (same_place (home p x).defined (home p y).defined && (checks.stays us p x && checks.stays us p y)) in
    let was : (x : ℕ) → is_before labels p k x ≡ true → is_in x q.before ≡ true = λ x b. sym (before-is labels p k q x w.single_ w.found_ e) ∙ b in
    let meets : (x : ℕ) → is_before labels p k x ≡ true → (y : ℕ) → may_meet labels p k x y ≡ true = λ x a y.
    ⊎_elim
    (λ (c : nat_eq x y ≡ true). or_left (nat_eq x y) (values_apart labels p x y || not (is_before labels p k y)) c)
    (λ (c : nat_eq x y ≡ false). or_right (nat_eq x y) (values_apart labels p x y || not (is_before labels p k y)) (⊎_elim
    (λ (b : is_before labels p k y ≡ true).
    let n : x ≢ y = λ s. false≢true (sym c ∙ ap (nat_eq x) (sym s) ∙ in-itself x) in
    or_left (values_apart labels p x y) (not (is_before labels p k y))
    (and_from (general_apart p x y) (kept x y)
    (apart-general p x y ∙ h.general x y (was x a) (was y b) n)
    (ap (λ vs. not (same_place (home p x).defined (home p y).defined && (checks.stays vs p x && checks.stays vs p y))) w.found_ ∙ apart-read labels p x y ∙ h.read x y (was x a) (was y b) n)))
    (λ (b : is_before labels p k y ≡ false). or_right (values_apart labels p x y) (not (is_before labels p k y)) (not_from_false (is_before labels p k y) b))
    (cases_Bool (is_before labels p k y))))
    (cases_Bool (nat_eq x y)) in
    of-homes (live_fits labels p k) p.homes
    (λ x. ⊎_elim
    (λ (a : is_before labels p k x ≡ true). or_right (not (is_before labels p k x)) (passes_by labels p k x && list_all (λ h. may_meet labels p k x h.var) p.homes)
    (and_from (passes_by labels p k x) (list_all (λ h. may_meet labels p k x h.var) p.homes)
    (ap (λ vs. not (goes_through vs p x (pass p k).l)) w.found_ ∙ through-is labels p x (pass p k).l ∙ h.read_through x (was x a))
    (of-homes (may_meet labels p k x) p.homes (meets x a))))
    (λ (a : is_before labels p k x ≡ false). or_left (not (is_before labels p k x)) (passes_by labels p k x && list_all (λ h. may_meet labels p k x h.var) p.homes) (not_from_false (is_before labels p k x) a))
    (cases_Bool (is_before labels p k x)))

-- ---- runs of registers

within-none : (j f : ℕ) → false ≡ is_within j f 0
within-none j f = and-nothing (nat_le f j) ∙ ap (λ b. nat_le f j && b) (sym (le-ltb (j - f) 0 (omega arith)))

within-next : (j f n : ℕ) → (nat_eq j f || is_within j (suc f) n) ≡ is_within j f (suc n)
within-next j f n = same_tests (nat_eq j f || is_within j (suc f) n) (is_within j f (suc n))
    (λ e. ⊎_elim
    (λ (a : nat_eq j f ≡ true). let s = same-number j f a in and_from (nat_le f j) (nat_lt (j - f) (suc n)) (le-leb f j (omega arith)) (lt-ltb (j - f) (suc n) (omega arith)))
    (λ (a : is_within j (suc f) n ≡ true).
    let b = and_parts (nat_le (suc f) j) (nat_lt (j - suc f) n) a in
    let l = leb-true (suc f) j b.0 in
    let r = ltb-true (j - suc f) n b.1 in
    and_from (nat_le f j) (nat_lt (j - f) (suc n)) (le-leb f j (omega arith)) (lt-ltb (j - f) (suc n) (omega arith)))
    (or_cases (nat_eq j f) (is_within j (suc f) n) e))
    (λ e.
    let b = and_parts (nat_le f j) (nat_lt (j - f) (suc n)) e in
    let l = leb-true f j b.0 in
    let r = ltb-true (j - f) (suc n) b.1 in
    ⊎_elim
    (λ (a : nat_eq j f ≡ true). or_left (nat_eq j f) (is_within j (suc f) n) a)
    (λ (a : nat_eq j f ≡ false).
    let d = eqb-false j f a in
    let s : suc f ≤ j = omega (arith, d) in
    or_right (nat_eq j f) (is_within j (suc f) n) (and_from (nat_le (suc f) j) (nat_lt (j - suc f) n) (le-leb (suc f) j s) (lt-ltb (j - suc f) n (omega arith))))
    (cases_Bool (nat_eq j f)))

-- a place that is in no run of this bank
never : (bank : ℕ → Place) (q : Place) (f n : ℕ) → ((k : ℕ) → same_place q (bank k) ≡ false) → has_place q (run_of bank f n) ≡ false
never bank q f zero h = refl
never bank q f (suc n) h = ap (λ b. b || has_place q (run_of bank (suc f) n)) (h f) ∙ never bank q (suc f) n h

within-run : (bank : ℕ → Place) (j f n : ℕ) (q : Place) → ((k : ℕ) → same_place q (bank k) ≡ nat_eq j k) → has_place q (run_of bank f n) ≡ is_within j f n
within-run bank j f zero q h = within-none j f
within-run bank j f (suc n) q h = ap (λ b. b || has_place q (run_of bank (suc f) n)) (h f) ∙ ap (λ b. nat_eq j f || b) (within-run bank j (suc f) n q h) ∙ within-next j f n

read-run : (m : Mem) (q : Place) (f n : ℕ) → has_place q (run_of (read_place m) f n) ≡ in_read_run m q f n
read-run Sram (L j) f n = within-run (read_place Sram) j f n (L j) (λ k. refl)
read-run Sram (A j) f n = never (read_place Sram) (A j) f n (λ k. refl)
read-run Sram (B j) f n = never (read_place Sram) (B j) f n (λ k. refl)
read-run Sram (LD j) f n = never (read_place Sram) (LD j) f n (λ k. refl)
read-run Sram (S j) f n = never (read_place Sram) (S j) f n (λ k. refl)
read-run Sram (SD j) f n = never (read_place Sram) (SD j) f n (λ k. refl)
read-run Sram (Slot j) f n = never (read_place Sram) (Slot j) f n (λ k. refl)
read-run Sdram (LD j) f n = within-run (read_place Sdram) j f n (LD j) (λ k. refl)
read-run Sdram (A j) f n = never (read_place Sdram) (A j) f n (λ k. refl)
read-run Sdram (B j) f n = never (read_place Sdram) (B j) f n (λ k. refl)
read-run Sdram (L j) f n = never (read_place Sdram) (L j) f n (λ k. refl)
read-run Sdram (S j) f n = never (read_place Sdram) (S j) f n (λ k. refl)
read-run Sdram (SD j) f n = never (read_place Sdram) (SD j) f n (λ k. refl)
read-run Sdram (Slot j) f n = never (read_place Sdram) (Slot j) f n (λ k. refl)
read-run Scratch (L j) f n = within-run (read_place Scratch) j f n (L j) (λ k. refl)
read-run Scratch (A j) f n = never (read_place Scratch) (A j) f n (λ k. refl)
read-run Scratch (B j) f n = never (read_place Scratch) (B j) f n (λ k. refl)
read-run Scratch (LD j) f n = never (read_place Scratch) (LD j) f n (λ k. refl)
read-run Scratch (S j) f n = never (read_place Scratch) (S j) f n (λ k. refl)
read-run Scratch (SD j) f n = never (read_place Scratch) (SD j) f n (λ k. refl)
read-run Scratch (Slot j) f n = never (read_place Scratch) (Slot j) f n (λ k. refl)

write-run : (m : Mem) (q : Place) (f n : ℕ) → has_place q (run_of (write_place m) f n) ≡ in_write_run m q f n
write-run Sram (S j) f n = within-run (write_place Sram) j f n (S j) (λ k. refl)
write-run Sram (A j) f n = never (write_place Sram) (A j) f n (λ k. refl)
write-run Sram (B j) f n = never (write_place Sram) (B j) f n (λ k. refl)
write-run Sram (L j) f n = never (write_place Sram) (L j) f n (λ k. refl)
write-run Sram (LD j) f n = never (write_place Sram) (LD j) f n (λ k. refl)
write-run Sram (SD j) f n = never (write_place Sram) (SD j) f n (λ k. refl)
write-run Sram (Slot j) f n = never (write_place Sram) (Slot j) f n (λ k. refl)
write-run Sdram (SD j) f n = within-run (write_place Sdram) j f n (SD j) (λ k. refl)
write-run Sdram (A j) f n = never (write_place Sdram) (A j) f n (λ k. refl)
write-run Sdram (B j) f n = never (write_place Sdram) (B j) f n (λ k. refl)
write-run Sdram (L j) f n = never (write_place Sdram) (L j) f n (λ k. refl)
write-run Sdram (LD j) f n = never (write_place Sdram) (LD j) f n (λ k. refl)
write-run Sdram (S j) f n = never (write_place Sdram) (S j) f n (λ k. refl)
write-run Sdram (Slot j) f n = never (write_place Sdram) (Slot j) f n (λ k. refl)
write-run Scratch (S j) f n = within-run (write_place Scratch) j f n (S j) (λ k. refl)
write-run Scratch (A j) f n = never (write_place Scratch) (A j) f n (λ k. refl)
write-run Scratch (B j) f n = never (write_place Scratch) (B j) f n (λ k. refl)
write-run Scratch (L j) f n = never (write_place Scratch) (L j) f n (λ k. refl)
write-run Scratch (LD j) f n = never (write_place Scratch) (LD j) f n (λ k. refl)
write-run Scratch (SD j) f n = never (write_place Scratch) (SD j) f n (λ k. refl)
write-run Scratch (Slot j) f n = never (write_place Scratch) (Slot j) f n (λ k. refl)

-- ---- reads

place-order : (q r : Place) → same_place q r ≡ same_place r q
place-order q r = same_tests (same_place q r) (same_place r q) (λ e. same_place-from r q (sym (same_place-true q r e))) (λ e. same_place-from q r (sym (same_place-true r q e)))

none-one : (qs : List Place) (r : Place) → none_shared qs (r ∷ []) ≡ not (has_place r qs)
none-one [] r = refl
none-one (q ∷ qs) r = ap (λ b. not b && none_shared qs (r ∷ [])) (sym (or-false (same_place q r)) ∙ place-order q r) ∙ ap (λ b. not (same_place r q) && b) (none-one qs r) ∙ not-or (same_place r q) (has_place r qs)
  where
    not-or : (a b : Bool) → (not a && not b) ≡ not (a || b)
    not-or true b = refl
    not-or false b = refl

run-kept : (labels : List Label) (p : Plan) (x f n : ℕ) (m : Mem) (b : Bool) → none_shared (run_of (read_place m) f n) (kept_register labels p x b) ≡ (not (in_read_run m (home p x).defined f n) || not b)
run-kept labels p x f n m true = none-one (run_of (read_place m) f n) (home p x).defined ∙ ap not (read-run m (home p x).defined f n) ∙ or-false (not (in_read_run m (home p x).defined f n))
run-kept labels p x f n m false = none-with-nothing (run_of (read_place m) f n) ∙ or-true (not (in_read_run m (home p x).defined f n))
  where
    or-true : (a : Bool) → true ≡ (a || true)
    or-true true = refl
    or-true false = refl

-- a read of these words at this point
abbrev ReadAt : List Label → Plan → Point → ℕ → Mem → List ℕ → Type 0
ReadAt labels p q k m xs = (x : ℕ) → is_in x q.after ≡ true → is_in x xs ≡ false → none_shared (run_of (read_place m) (first p k) (length xs)) (read_places labels p x) ≡ true

spares-from : (labels : List Label) (p : Plan) (k : ℕ) (q : Point) (m : Mem) (xs : List ℕ) → Known labels p → slice_get (points labels) k ≡ Some q → ((x : ℕ) → is_in x q.after ≡ true → is_in x xs ≡ false → has_home p x ≡ true)
    → list_all (λ h. spares labels p k m xs h.var) p.homes ≡ true → ReadAt labels p q k m xs
spares-from labels p k q m xs w e homed h x a n =
    let f = at-home (spares labels p k m xs) p.homes x h (homed x a n) in
    let d = (home p x).defined in
    run-kept labels p x (first p k) (length xs) m (rules.stays labels p x)
    ∙ ⊎_elim
    (λ (c : is_in x xs ≡ true). absurd (false≢true (sym n ∙ c)))
    (λ (c : (not (in_read_run m d (first p k) (length xs)) || not (checks.stays (found labels p) p x && is_after labels p k x)) ≡ true). ⊎_elim
    (λ (g : not (in_read_run m d (first p k) (length xs)) ≡ true). or_left (not (in_read_run m d (first p k) (length xs))) (not (rules.stays labels p x)) g)
    (λ (g : not (checks.stays (found labels p) p x && is_after labels p k x) ≡ true). or_right (not (in_read_run m d (first p k) (length xs))) (not (rules.stays labels p x))
    (ap not (sym (ap (λ b. checks.stays (found labels p) p x && b) (after-is labels p k q x w.single_ w.found_ e ∙ a) ∙ and-true (checks.stays (found labels p) p x) ∙ ap (λ us. checks.stays us p x) w.found_ ∙ stays-is labels p x)) ∙ g))
    (or_cases (not (in_read_run m d (first p k) (length xs))) (not (checks.stays (found labels p) p x && is_after labels p k x)) c))
    (or_cases (is_in x xs) (not (in_read_run m d (first p k) (length xs)) || not (checks.stays (found labels p) p x && is_after labels p k x)) f)

spares-to : (labels : List Label) (p : Plan) (k : ℕ) (q : Point) (m : Mem) (xs : List ℕ) → Known labels p → slice_get (points labels) k ≡ Some q → ReadAt labels p q k m xs → list_all (λ h. spares labels p k m xs h.var) p.homes ≡ true
spares-to labels p k q m xs w e h = of-homes (spares labels p k m xs) p.homes
    (λ x.
    let d = (home p x).defined in
    let run = not (in_read_run m d (first p k) (length xs)) in
    let stay = checks.stays (found labels p) p x in
    ⊎_elim
    (λ (c : is_in x xs ≡ true). or_left (is_in x xs) (run || not (stay && is_after labels p k x)) c)
    (λ (c : is_in x xs ≡ false). or_right (is_in x xs) (run || not (stay && is_after labels p k x)) (⊎_elim
    (λ (a : is_after labels p k x ≡ true).
    ap (λ b. run || not b) (ap (λ b. stay && b) a ∙ and-true stay ∙ ap (λ us. checks.stays us p x) w.found_ ∙ stays-is labels p x)
    ∙ sym (run-kept labels p x (first p k) (length xs) m (rules.stays labels p x)) ∙ h x (sym (after-is labels p k q x w.single_ w.found_ e) ∙ a) c)
    (λ (a : is_after labels p k x ≡ false). or_right run (not (stay && is_after labels p k x)) (ap not (ap (λ b. stay && b) a ∙ sym (and-nothing stay))))
    (cases_Bool (is_after labels p k x))))
    (cases_Bool (is_in x xs)))

values-of-read : (q : Point) (k : ℕ) (m : Mem) (xs : List ℕ) (y : ℕ) → q.place ≡ At (Does (Read m xs y)) → point_values k q ≡ xs
values-of-read q k m xs y e = vars-of-place k q.place ∙ ap (λ z. pure.place_values z) e

pub reads-from : (labels : List Label) (p : Plan) (k : ℕ) (q : Point) (place : Spot) → q.place ≡ place → Known labels p → slice_get (points labels) k ≡ Some q
    → ((x : ℕ) → is_in x q.after ≡ true → is_in x (pure.place_values place) ≡ false → has_home p x ≡ true) → keeps_read labels p k (place_node place) ≡ true → Each (KeepsRead labels p q) (reads_at k place)
reads-from labels p k q (Entry l ps) s w e homed h = tt
reads-from labels p k q (At (Does (Lit y v))) s w e homed h = tt
reads-from labels p k q (At (Does (Una y op z))) s w e homed h = tt
reads-from labels p k q (At (Does (Bin y op z v))) s w e homed h = tt
reads-from labels p k q (At (Does (Clone xs y))) s w e homed h = tt
reads-from labels p k q (At (Does (Read m xs y))) s w e homed h = (λ x a n. spares-from labels p k q m xs w e homed h x a (ap (is_in x) (sym (values-of-read q k m xs y s)) ∙ n), tt)
reads-from labels p k q (At (Does (Write m y xs))) s w e homed h = tt
reads-from labels p k q (At (Forks c y z)) s w e homed h = tt
reads-from labels p k q (At (Ends l)) s w e homed h = tt

pub reads-to : (labels : List Label) (p : Plan) (k : ℕ) (q : Point) (place : Spot) → q.place ≡ place → Known labels p → slice_get (points labels) k ≡ Some q → Each (KeepsRead labels p q) (reads_at k place) → keeps_read labels p k (place_node place) ≡ true
reads-to labels p k q (Entry l ps) s w e h = refl
reads-to labels p k q (At (Does (Lit y v))) s w e h = refl
reads-to labels p k q (At (Does (Una y op z))) s w e h = refl
reads-to labels p k q (At (Does (Bin y op z v))) s w e h = refl
reads-to labels p k q (At (Does (Clone xs y))) s w e h = refl
reads-to labels p k q (At (Does (Read m xs y))) s w e h = spares-to labels p k q m xs w e (λ x a n. h.0 x a (ap (is_in x) (values-of-read q k m xs y s) ∙ n))
reads-to labels p k q (At (Does (Write m y xs))) s w e h = refl
reads-to labels p k q (At (Forks c y z)) s w e h = refl
reads-to labels p k q (At (Ends l)) s w e h = refl

-- ---- words that wait

and-turned : (a b c d : Bool) → (a && ((b && c) && d)) ≡ (a && (d && (b && c)))
and-turned false b c d = refl
and-turned true true true true = refl
and-turned true true true false = refl
and-turned true true false true = refl
and-turned true true false false = refl
and-turned true false c true = refl
and-turned true false c false = refl

waits-is : (labels : List Label) (p : Plan) (k : ℕ) (q : Point) (u : Use) → slice_get (points labels) k ≡ Some q → waits labels p k u ≡ is_waiting (q.above ++ point_values k q) k q.below p u
waits-is labels p k q u e =
    and-turned (is_early p u) (nat_lt k u.point) (nat_le u.point (k + below_at labels k)) (is_known labels k u.value)
    ∙ ap (λ b. is_early p u && (b && (nat_lt k u.point && nat_le u.point (k + below_at labels k)))) (known-is labels k q u.value e ∙ ap (λ vs. is_in u.value q.above || is_in u.value vs) (sym (vars-of-place k q.place)) ∙ sym (in-append u.value q.above (point_values k q)))
    ∙ ap (λ (z : Point). is_early p u && (is_in u.value (q.above ++ point_values k q) && (nat_lt k u.point && nat_le u.point (k + z.below)))) (point-there labels k q e)

pub use-passes : (f : Use → Bool) (us : List Use) (i : ℕ) (u : Use) → list_all f us ≡ true → slice_get us i ≡ Some u → f u ≡ true
use-passes f [] i u h e = absurd (cc)
use-passes f (v ∷ us) zero u h e = let same : v ≡ u = cc in ap f (sym same) ∙ (and_parts (f v) (list_all f us) h).0
use-passes f (v ∷ us) (suc i) u h e = use-passes f us i u (and_parts (f v) (list_all f us) h).1 e

pub uses-pass : (f : Use → Bool) (us : List Use) → ((i : ℕ) (u : Use) → slice_get us i ≡ Some u → f u ≡ true) → list_all f us ≡ true
uses-pass f [] h = refl
uses-pass f (v ∷ us) h = and_from (f v) (list_all f us) (h 0 v refl) (uses-pass f us (λ i u e. h (suc i) u e))

-- no write at this place uses a register
abbrev Unwritten : Plan → ℕ → Place → Spot → Type 0
Unwritten p k w q = Each (λ a. has_place w (run_of (write_place a.mem) (first p k) a.words) ≡ false) (writes_at k q)

unwritten-from : (p : Plan) (k : ℕ) (w : Place) (q : Spot) → is_written p k (place_node q) w ≡ false → Unwritten p k w q
unwritten-from p k w (Entry l ps) h = tt
unwritten-from p k w (At (Does (Lit y v))) h = tt
unwritten-from p k w (At (Does (Una y op z))) h = tt
unwritten-from p k w (At (Does (Bin y op z v))) h = tt
unwritten-from p k w (At (Does (Clone xs y))) h = tt
unwritten-from p k w (At (Does (Read m xs y))) h = tt
unwritten-from p k w (At (Does (Write m y xs))) h = (write-run m w (first p k) (length xs) ∙ h, tt)
unwritten-from p k w (At (Forks c y z)) h = tt
unwritten-from p k w (At (Ends l)) h = tt

unwritten-to : (p : Plan) (k : ℕ) (w : Place) (q : Spot) → Unwritten p k w q → is_written p k (place_node q) w ≡ false
unwritten-to p k w (Entry l ps) h = refl
unwritten-to p k w (At (Does (Lit y v))) h = refl
unwritten-to p k w (At (Does (Una y op z))) h = refl
unwritten-to p k w (At (Does (Bin y op z v))) h = refl
unwritten-to p k w (At (Does (Clone xs y))) h = refl
unwritten-to p k w (At (Does (Read m xs y))) h = refl
unwritten-to p k w (At (Does (Write m y xs))) h = sym (write-run m w (first p k) (length xs)) ∙ h.0
unwritten-to p k w (At (Forks c y z)) h = refl
unwritten-to p k w (At (Ends l)) h = refl

pub waiting-from : (labels : List Label) (p : Plan) (k : ℕ) (q : Point) → Known labels p → slice_get (points labels) k ≡ Some q → list_all (word_fits labels p k) (found labels p) ≡ true → KeepsWaiting labels p k q
waiting-from labels p k q w e h =
    let node = place_node (place_at labels k) in
    let h' : list_all (word_fits labels p k) (uses labels) ≡ true = ap (list_all (word_fits labels p k)) (sym w.found_) ∙ h in
    let fits : (u : Use) → Waits labels p k q u → (is_free p k node (word_register p u) && list_all (is_other labels p k u) (found labels p)) ≡ true = λ u v.
    let f = use-passes (word_fits labels p k) (uses labels) v.there.0 u h' v.there.1 in
    ⊎_elim
    (λ (c : not (waits labels p k u) ≡ true). absurd (false≢true (sym (not-true (waits labels p k u) c) ∙ waits-is labels p k q u e ∙ v.waiting)))
    (λ (c : (is_free p k node (word_register p u) && list_all (is_other labels p k u) (found labels p)) ≡ true). c)
    (or_cases (not (waits labels p k u)) (is_free p k node (word_register p u) && list_all (is_other labels p k u) (found labels p)) f) in
    let free : (u : Use) → Waits labels p k q u → is_free p k node (word_register p u) ≡ true = λ u v. (and_parts (is_free p k node (word_register p u)) (list_all (is_other labels p k u) (found labels p)) (fits u v)).0 in
    record {
      apart = λ u v a b n s.
          let o = use-passes (is_other labels p k u) (uses labels) b.there.0 v (ap (list_all (is_other labels p k u)) (sym w.found_) ∙ (and_parts (is_free p k node (word_register p u)) (list_all (is_other labels p k u) (found labels p)) (fits u a)).1) b.there.1 in
          ⊎_elim
          (λ (c : same_use u v ≡ true). absurd (false≢true (sym n ∙ c)))
          (λ (c : (not (same_place (word_register p u) (word_register p v)) || not (waits labels p k v)) ≡ true). ⊎_elim
          (λ (d : not (same_place (word_register p u) (word_register p v)) ≡ true). absurd (false≢true (sym (not-true (same_place (word_register p u) (word_register p v)) d) ∙ same_place-from (word_register p u) (word_register p v) s)))
          (λ (d : not (waits labels p k v) ≡ true). absurd (false≢true (sym (not-true (waits labels p k v) d) ∙ waits-is labels p k q v e ∙ b.waiting)))
          (or_cases (not (same_place (word_register p u) (word_register p v))) (not (waits labels p k v)) c))
          (or_cases (same_use u v) (not (same_place (word_register p u) (word_register p v)) || not (waits labels p k v)) o);
      read_through = λ u v. not-true (has_place (word_register p u) (maybe S (pass p k).s)) (and_parts (not (has_place (word_register p u) (maybe S (pass p k).s))) (not (is_written p k node (word_register p u))) (free u v)).0;
      written = λ u v.
          each-all _ _
          (subst (λ (z : Point). Unwritten p k (word_register p u) z.place) (point-there labels k q e)
          (unwritten-from p k (word_register p u) (place_at labels k)
          (not-true (is_written p k node (word_register p u)) (and_parts (not (has_place (word_register p u) (maybe S (pass p k).s))) (not (is_written p k node (word_register p u))) (free u v)).1)));
    }

pub waiting-to : (labels : List Label) (p : Plan) (k : ℕ) (q : Point) → Known labels p → slice_get (points labels) k ≡ Some q → KeepsWaiting labels p k q → list_all (word_fits labels p k) (found labels p) ≡ true
waiting-to labels p k q w e h =
    let node = place_node (place_at labels k) in
    let wait : (i : ℕ) (u : Use) → slice_get (uses labels) i ≡ Some u → waits labels p k u ≡ true → Waits labels p k q u = λ i u g a. record { there = (i, g); waiting = sym (waits-is labels p k q u e) ∙ a } in
    let other : (i j : ℕ) (u v : Use) → slice_get (uses labels) i ≡ Some u → slice_get (uses labels) j ≡ Some v → waits labels p k u ≡ true → is_other labels p k u v ≡ true = λ i j u v g f a.
    ⊎_elim
    (λ (c : same_use u v ≡ true). or_left (same_use u v) (not (same_place (word_register p u) (word_register p v)) || not (waits labels p k v)) c)
    (λ (c : same_use u v ≡ false). or_right (same_use u v) (not (same_place (word_register p u) (word_register p v)) || not (waits labels p k v)) (⊎_elim
    (λ (b : waits labels p k v ≡ true). or_left (not (same_place (word_register p u) (word_register p v))) (not (waits labels p k v))
    (not_from_false (same_place (word_register p u) (word_register p v)) (same_place-false (word_register p u) (word_register p v) (h.apart u v (wait i u g a) (wait j v f b) c))))
    (λ (b : waits labels p k v ≡ false). or_right (not (same_place (word_register p u) (word_register p v))) (not (waits labels p k v)) (not_from_false (waits labels p k v) b))
    (cases_Bool (waits labels p k v))))
    (cases_Bool (same_use u v)) in
    ap (list_all (word_fits labels p k)) w.found_
    ∙ uses-pass (word_fits labels p k) (uses labels)
    (λ i u g. ⊎_elim
    (λ (a : waits labels p k u ≡ true). or_right (not (waits labels p k u)) (is_free p k node (word_register p u) && list_all (is_other labels p k u) (found labels p))
    (and_from (is_free p k node (word_register p u)) (list_all (is_other labels p k u) (found labels p))
    (and_from (not (has_place (word_register p u) (maybe S (pass p k).s))) (not (is_written p k node (word_register p u)))
    (not_from_false (has_place (word_register p u) (maybe S (pass p k).s)) (h.read_through u (wait i u g a)))
    (not_from_false (is_written p k node (word_register p u))
    (unwritten-to p k (word_register p u) (place_at labels k)
    (subst (λ (z : Point). Unwritten p k (word_register p u) z.place) (sym (point-there labels k q e)) (all-each _ _ (h.written u (wait i u g a)))))))
    (ap (list_all (is_other labels p k u)) w.found_ ∙ uses-pass (is_other labels p k u) (uses labels) (λ j v f. other i j u v g f a))))
    (λ (a : waits labels p k u ≡ false). or_left (not (waits labels p k u)) (is_free p k node (word_register p u) && list_all (is_other labels p k u) (found labels p)) (not_from_false (waits labels p k u) a))
    (cases_Bool (waits labels p k u)))

-- ---- operands

apart-arguments : (p : Plan) (k l i : ℕ) (xs : List ℕ) → AreApart (roles (Argument l) i xs) p k
apart-arguments p k l i [] = tt
apart-arguments p k l i (x ∷ xs) = tt

apart-endings : (p : Plan) (k i : ℕ) (xs : List ℕ) → AreApart (roles Ending i xs) p k
apart-endings p k i [] = tt
apart-endings p k i (x ∷ xs) = tt

pub operands-from : (p : Plan) (k : ℕ) (q : Spot) → operands_fit p k (place_node q) ≡ true → AreApart (place_roles q) p k
operands-from p k (Entry l ps) h = tt
operands-from p k (At (Does (Lit y v))) h = tt
operands-from p k (At (Does (Una y op z))) h = tt
operands-from p k (At (Does (Bin y op z v))) h = h
operands-from p k (At (Does (Clone xs y))) h = tt
operands-from p k (At (Does (Read m xs y))) h = tt
operands-from p k (At (Does (Write m y xs))) h = tt
operands-from p k (At (Forks c y z)) h = h
operands-from p k (At (Ends (Jump l xs))) h = apart-arguments p k l 0 xs
operands-from p k (At (Ends (Halt c xs))) h = apart-endings p k 0 xs

pub operands-to : (p : Plan) (k : ℕ) (q : Spot) → AreApart (place_roles q) p k → operands_fit p k (place_node q) ≡ true
operands-to p k (Entry l ps) h = refl
operands-to p k (At (Does (Lit y v))) h = refl
operands-to p k (At (Does (Una y op z))) h = refl
operands-to p k (At (Does (Bin y op z v))) h = h
operands-to p k (At (Does (Clone xs y))) h = refl
operands-to p k (At (Does (Read m xs y))) h = refl
operands-to p k (At (Does (Write m y xs))) h = refl
operands-to p k (At (Forks c y z)) h = h
operands-to p k (At (Ends l)) h = refl

-- ---- slots

any-below-made : (p : Plan) (k i : ℕ) (value : ℕ → ℕ) (role : ℕ → Role) (xs : List ℕ) → list_any (λ u. is_slot (served p u).from) (made k i value role xs) ≡ true → (j : ℕ) × (j < length xs) × (is_slot (serve p k (i + j)).from ≡ true)
any-below-made p k i value role [] e = absurd (false≢true e)
any-below-made p k i value role (x ∷ xs) e = ⊎_elim
    (λ (a : is_slot (serve p k i).from ≡ true). let s : i + 0 ≡ i = omega arith in (0, omega arith, ap (λ n. is_slot (serve p k n).from) s ∙ a))
    (λ (b : list_any (λ u. is_slot (served p u).from) (made k (suc i) value role xs) ≡ true).
    let w = any-below-made p k (suc i) value role xs b in
    let s : i + suc w.0 ≡ suc i + w.0 = omega arith in
    let l = w.1 in
    (suc w.0, omega arith, ap (λ n. is_slot (serve p k n).from) s ∙ w.2))
    (or_cases (is_slot (serve p k i).from) (list_any (λ u. is_slot (served p u).from) (made k (suc i) value role xs)) e)

any-made-below : (p : Plan) (k i j : ℕ) (value : ℕ → ℕ) (role : ℕ → Role) (xs : List ℕ) → j < length xs → is_slot (serve p k (i + j)).from ≡ true → list_any (λ u. is_slot (served p u).from) (made k i value role xs) ≡ true
any-made-below p k i j value role [] l e = absurd (omega arith)
any-made-below p k i zero value role (x ∷ xs) l e = let s : i ≡ i + 0 = omega arith in or_left (is_slot (serve p k i).from) (list_any (λ u. is_slot (served p u).from) (made k (suc i) value role xs)) (ap (λ n. is_slot (serve p k n).from) s ∙ e)
any-made-below p k i (suc j) value role (x ∷ xs) l e =
    let s : suc i + j ≡ i + suc j = omega arith in
    or_right (is_slot (serve p k i).from) (list_any (λ u. is_slot (served p u).from) (made k (suc i) value role xs)) (any-made-below p k (suc i) j value role xs (omega arith) (ap (λ n. is_slot (serve p k n).from) s ∙ e))

slots-made : (p : Plan) (k : ℕ) (value : ℕ → ℕ) (role : ℕ → Role) (xs : List ℕ) → list_any (λ u. is_slot (served p u).from) (made k 0 value role xs) ≡ any_from_slot p k (length xs)
slots-made p k value role xs = same_tests (list_any (λ u. is_slot (served p u).from) (made k 0 value role xs)) (any_from_slot p k (length xs))
    (λ e. let w = any-below-made p k 0 value role xs e in below-from (λ i. is_slot (serve p k i).from) (length xs) w.0 w.1 (let s : w.0 ≡ 0 + w.0 = omega arith in ap (λ n. is_slot (serve p k n).from) s ∙ w.2))
    (λ e. let w = below-at (λ i. is_slot (serve p k i).from) (length xs) e in any-made-below p k 0 w.it value role xs w.below (let s : 0 + w.it ≡ w.it = omega arith in ap (λ n. is_slot (serve p k n).from) s ∙ w.passes))

-- whether a use of a point is served from a slot
reads-slot-is : (p : Plan) (k : ℕ) (value : ℕ → ℕ) (q : Point) → Named value q → list_any (λ u. is_slot (served p u).from) (uses_at k 0 q.uses (place_roles q.place)) ≡ reads_slot p k (place_node q.place)
reads-slot-is p k value q h =
    ap (list_any (λ u. is_slot (served p u).from)) (made-point k value q h) ∙ slots-made p k value _ (names_of q.place) ∙ ap (any_from_slot p k) (sym (many-names q.place))

many-uses : (value : ℕ → ℕ) (q : Point) → Named value q → length q.uses ≡ checks.uses_at (place_node q.place)
many-uses value q h = ap length h ∙ length-of-map value (names_of q.place) ∙ sym (many-names q.place)

any-vars : (g : ℕ → Bool) (vs : List Value) → list_any (λ v. g v.var) vs ≡ list_any g (map (λ v. v.var) vs)
any-vars g [] = refl
any-vars g (v ∷ vs) = ap (λ b. g v.var || b) (any-vars g vs)

any-same : (f g : ℕ → Bool) (xs : List ℕ) → ((x : ℕ) → f x ≡ g x) → list_any f xs ≡ list_any g xs
any-same f g [] h = refl
any-same f g (x ∷ xs) h = ap (λ b. b || list_any f xs) (h x) ∙ ap (λ b. g x || b) (any-same f g xs h)

used-values : (labels : List Label) (k : ℕ) (q : Spot) → list_any (λ v. is_used labels v.var) (place_values k q) ≡ list_any (used (uses labels)) (pure.place_values q)
used-values labels k q = any-vars (is_used labels) (place_values k q) ∙ ap (list_any (is_used labels)) (vars-of-place k q) ∙ any-same (is_used labels) (used (uses labels)) (pure.place_values q) (λ x. sym (used-is (uses labels) x))

-- a value that comes to a slot, or, where that is asked, is made in one
abbrev slot-value : List Label → Plan → Bool → ℕ → Bool
slot-value labels p r x = is_used labels x && (list_any is_slot (home p x).copied || (r && is_slot (home p x).defined))

slots-numbered : (labels : List Label) (p : Plan) (k i : ℕ) (origin : ℕ → ValueOrigin) (xs : List ℕ) → ((j : ℕ) → rules.is_result (origin j) ≡ false) → list_any (comes_to_slot labels p) (numbered k origin i xs) ≡ list_any (slot-value labels p false) xs
slots-numbered labels p k i origin [] h = refl
slots-numbered labels p k i origin (x ∷ xs) h =
    ap (λ b. (is_used labels x && (list_any is_slot (home p x).copied || (b && is_slot (home p x).defined))) || list_any (comes_to_slot labels p) (numbered k origin (suc i) xs)) (h i)
    ∙ ap (λ b. slot-value labels p false x || b) (slots-numbered labels p k (suc i) origin xs h)

slots-place : (labels : List Label) (p : Plan) (k : ℕ) (q : Spot) → list_any (comes_to_slot labels p) (place_values k q) ≡ list_any (slot-value labels p (is_result (place_node q))) (pure.place_values q)
slots-place labels p k (Entry l ps) = slots-numbered labels p k 0 (Parameter l) ps (λ j. refl)
slots-place labels p k (At (Does (Lit y v))) = refl
slots-place labels p k (At (Does (Una y op z))) = refl
slots-place labels p k (At (Does (Bin y op z v))) = refl
slots-place labels p k (At (Does (Clone xs y))) = refl
slots-place labels p k (At (Does (Read m xs y))) = slots-numbered labels p k 0 (Fetched m) xs (λ j. refl)
slots-place labels p k (At (Does (Write m y xs))) = refl
slots-place labels p k (At (Forks c y z)) = refl
slots-place labels p k (At (Ends l)) = refl

slot-value-is : (labels : List Label) (p : Plan) (r : Bool) (x : ℕ) → found labels p ≡ uses labels → slot-value labels p r x ≡ to_slot labels p r x
slot-value-is labels p r x e =
    and_comm (is_used labels x) (list_any is_slot (home p x).copied || (r && is_slot (home p x).defined))
    ∙ ap (λ b. (list_any is_slot (home p x).copied || (r && is_slot (home p x).defined)) && b) (sym (used-is (uses labels) x) ∙ ap (λ us. used us x) (sym e))

writes-slot-is : (labels : List Label) (p : Plan) (k : ℕ) (q : Spot) → found labels p ≡ uses labels → list_any (comes_to_slot labels p) (place_values k q) ≡ list_any (to_slot labels p (is_result (place_node q))) (pure.place_values q)
writes-slot-is labels p k q e = slots-place labels p k q ∙ any-same (slot-value labels p (is_result (place_node q))) (to_slot labels p (is_result (place_node q))) (pure.place_values q) (λ x. slot-value-is labels p (is_result (place_node q)) x e)

-- the registers that slots go through at a point
record ReadsFit (p : Plan) (k : ℕ) (q : Point) (l : Option ℕ) : Type 0 where
  read : IsEighth l
  reads : list_any (λ u. is_slot (served p u).from) (uses_at k 0 q.uses (place_roles q.place)) ≡ true → is_some l ≡ true
  reads_only : is_some l ≡ true → 1 ≤ length q.uses

record WritesFit (labels : List Label) (p : Plan) (k : ℕ) (q : Point) (s : Option ℕ) : Type 0 where
  written : IsEighth s
  writes : list_any (comes_to_slot labels p) (place_values k q.place) ≡ true → is_some s ≡ true
  writes_only : is_some s ≡ true → list_any (λ v. is_used labels v.var) (place_values k q.place) ≡ true

pub place-is : (labels : List Label) (k : ℕ) (q : Point) → slice_get (points labels) k ≡ Some q → place_at labels k ≡ q.place
place-is labels k q e = ap (λ (z : Point). z.place) (point-there labels k q e)

reads-pass-from : (labels : List Label) (p : Plan) (k : ℕ) (q : Point) (value : ℕ → ℕ) (l : Option ℕ) → Named value q → slice_get (points labels) k ≡ Some q → reads_fit labels p k l ≡ true → ReadsFit p k q l
reads-pass-from labels p k q value (Some r) n e h =
    let a = and_parts (nat_lt r 8) (has_use (place_node (place_at labels k))) h in
    let b = ltb-true 0 (checks.uses_at (place_node q.place)) (ap (λ z. has_use (place_node z)) (sym (place-is labels k q e)) ∙ a.1) in
    let m = many-uses value q n in
    record { read = ltb-true r 8 a.0; reads = λ z. refl; reads_only = λ z. omega arith }
reads-pass-from labels p k q value None n e h = record {
  read = tt;
  reads = λ z. absurd (false≢true (sym (not-true (reads_slot p k (place_node (place_at labels k))) h) ∙ ap (λ w. reads_slot p k (place_node w)) (place-is labels k q e) ∙ sym (reads-slot-is p k value q n) ∙ z));
  reads_only = λ z. absurd (false≢true z);
}

reads-pass-to : (labels : List Label) (p : Plan) (k : ℕ) (q : Point) (value : ℕ → ℕ) (l : Option ℕ) → Named value q → slice_get (points labels) k ≡ Some q → ReadsFit p k q l → reads_fit labels p k l ≡ true
reads-pass-to labels p k q value (Some r) n e h =
    let m = many-uses value q n in
    let o = h.reads_only refl in
    and_from (nat_lt r 8) (has_use (place_node (place_at labels k))) (lt-ltb r 8 h.read) (ap (λ z. has_use (place_node z)) (place-is labels k q e) ∙ lt-ltb 0 (checks.uses_at (place_node q.place)) (omega arith))
reads-pass-to labels p k q value None n e h =
    not_from_false (reads_slot p k (place_node (place_at labels k)))
    (false_from_ne_true (reads_slot p k (place_node (place_at labels k))) (λ z. false≢true (h.reads (reads-slot-is p k value q n ∙ ap (λ w. reads_slot p k (place_node w)) (sym (place-is labels k q e)) ∙ z))))

writes-pass-from : (labels : List Label) (p : Plan) (k : ℕ) (q : Point) (s : Option ℕ) → found labels p ≡ uses labels → slice_get (points labels) k ≡ Some q → writes_fit labels p k s ≡ true → WritesFit labels p k q s
writes-pass-from labels p k q (Some r) f e h =
    let a = and_parts (nat_lt r 8) (list_any (used (found labels p)) (pure.place_values (place_at labels k))) h in
    record {
      written = ltb-true r 8 a.0;
      writes = λ z. refl;
      writes_only = λ z. used-values labels k q.place ∙ ap (λ us. list_any (used us) (pure.place_values q.place)) (sym f) ∙ ap (λ w. list_any (used (found labels p)) (pure.place_values w)) (sym (place-is labels k q e)) ∙ a.1;
    }
writes-pass-from labels p k q None f e h =
    let slots : Spot → Bool = λ w. list_any (to_slot labels p (is_result (place_node w))) (pure.place_values w) in
    record {
      written = tt;
      writes = λ z. absurd (false≢true (sym (not-true (slots (place_at labels k)) h) ∙ ap slots (place-is labels k q e) ∙ sym (writes-slot-is labels p k q.place f) ∙ z));
      writes_only = λ z. absurd (false≢true z);
    }

writes-pass-to : (labels : List Label) (p : Plan) (k : ℕ) (q : Point) (s : Option ℕ) → found labels p ≡ uses labels → slice_get (points labels) k ≡ Some q → WritesFit labels p k q s → writes_fit labels p k s ≡ true
writes-pass-to labels p k q (Some r) f e h =
    and_from (nat_lt r 8) (list_any (used (found labels p)) (pure.place_values (place_at labels k))) (lt-ltb r 8 h.written)
    (ap (λ w. list_any (used (found labels p)) (pure.place_values w)) (place-is labels k q e) ∙ ap (λ us. list_any (used us) (pure.place_values q.place)) f ∙ sym (used-values labels k q.place) ∙ h.writes_only refl)
writes-pass-to labels p k q None f e h =
    let slots : Spot → Bool = λ w. list_any (to_slot labels p (is_result (place_node w))) (pure.place_values w) in
    not_from_false (slots (place_at labels k)) (false_from_ne_true (slots (place_at labels k)) (λ z. false≢true (h.writes (writes-slot-is labels p k q.place f ∙ ap slots (sym (place-is labels k q e)) ∙ z))))

pub passes-from : (labels : List Label) (p : Plan) (k : ℕ) (q : Point) → Known labels p → slice_get (points labels) k ≡ Some q → passes_fit labels p k ≡ true → PassesSlots labels p k q
passes-from labels p k q w e h =
    let a = and_parts (reads_fit labels p k (pass p k).l) (writes_fit labels p k (pass p k).s) h in
    let r = reads-pass-from labels p k q _ (pass p k).l (named-at _ (points labels) k q (named-points labels w.single_) e) e a.0 in
    let s = writes-pass-from labels p k q (pass p k).s w.found_ e a.1 in
    record { read = r.read; written = s.written; reads = r.reads; reads_only = r.reads_only; writes = s.writes; writes_only = s.writes_only }

pub passes-to : (labels : List Label) (p : Plan) (k : ℕ) (q : Point) → Known labels p → slice_get (points labels) k ≡ Some q → PassesSlots labels p k q → passes_fit labels p k ≡ true
passes-to labels p k q w e h =
    and_from (reads_fit labels p k (pass p k).l) (writes_fit labels p k (pass p k).s)
    (reads-pass-to labels p k q _ (pass p k).l (named-at _ (points labels) k q (named-points labels w.single_) e) e (record { read = h.read; reads = h.reads; reads_only = h.reads_only }))
    (writes-pass-to labels p k q (pass p k).s w.found_ e (record { written = h.written; writes = h.writes; writes_only = h.writes_only }))
