-- The homes of values: what kinds of places they have, and where their copies go.
use Rattle.std.proofs.Common.{◌≡◌, ℕ, zero, suc, ◌+◌, ◌⊎◌, nat_eq, Bool, true, false, not, ◌||◌, List, [], ◌∷◌, ◌++◌, map, filter, Some, if◌then◌else◌, refl, sym, ap, ◌∙◌, subst, inl, inr, ⊎_elim, slice_get}
use Rattle.std.specs.List.{AllByRecursion, list_any}
use Rattle.std.proofs.lemmas.Bool.{and_parts, or_cases, or_left, or_right, or_parts, not-true, false≢true, cases_Bool, eq-eqb, false_from_ne_true}
use Rattle.std.proofs.lemmas.List.Elements.{recursion_from_All}
use Rattle.std.proofs.lemmas.List.Folds.{list_any-append}
use Rattle.std.proofs.lemmas.Option.{none-some, same_Some}
use Rattle.nv_base.specs.declared.term.Mem.{Mem}
use Rattle.nv_base.specs.declared.term.Mem.TheVariants.{Sram, Sdram, Scratch}
use Rattle.nv_base.specs.Sets.{is_in}
use Rattle.nv_base.proofs.Sets.{same-number}
use Rattle.ssu_ir.specs.Tree.{Label}
use Rattle.ssu_ir.specs.Points.{Point, points, place_values}
use Rattle.place_plan.specs.declared.place.Place.{Place}
use Rattle.place_plan.specs.declared.place.Place.TheVariants.{A, B, L, LD, S, SD, Slot}
use Rattle.place_plan.specs.declared.place.Serve.{Serve}
use Rattle.place_plan.specs.Places.{same_place}
use Rattle.place_plan.specs.Plan.{Home, Plan, home, home_in, first}
use Rattle.place_plan.specs.Uses.{Value, ValueOrigin, Parameter, Result, Fetched, values, place_values as values_at, Role, Operand, Address, Written, Argument, Ending, Use, uses, uses_of, is_used}
use Rattle.place_plan.specs.Fits.{read_place, write_place, IsGeneral, is_general, is_write_register, is_read_register, served, role_register, word_register, is_early, early_uses, AreCopies, IsPutEarly, IsHome, IsHoused, is_sort_homed, wants_home, is_home, IsServedAt, IsServed, stays, general_places, kept_register, read_places, has_place, none_shared}
use Rattle.place_plan.proofs.Places.{same_place-true, same_place-from}
use Rattle.place_plan.proofs.Fitting.{vars-of-place}
use Rattle.ucode_emit.specs.inner.Ready.{lasting}
use Rattle.ucode_emit.specs.inner.Layers.{Placed}
use Rattle.ucode_emit.proofs.PointsEach.{EachFrom, each_map, each_here, all_get, all_of}
use Rattle.ucode_emit.proofs.PointsLabels.{labels_above}
use Rattle.ucode_emit.proofs.PointsUses.{values_each, used_by}

-- ---- kinds of places

pub general_is : (p : Plan) (r : Place) → IsGeneral p r → is_general r ≡ true
general_is p (A k) h = refl
general_is p (B k) h = refl
general_is p (Slot k) h = refl
general_is p (L k) h = absurd h
general_is p (LD k) h = absurd h
general_is p (S k) h = absurd h
general_is p (SD k) h = absurd h

pub general_not_written : (r : Place) → is_general r ≡ true → is_write_register r ≡ true → ⊥
general_not_written (A k) h g = false≢true g
general_not_written (B k) h g = false≢true g
general_not_written (Slot k) h g = false≢true g
general_not_written (L k) h g = false≢true h
general_not_written (LD k) h g = false≢true h
general_not_written (S k) h g = false≢true h
general_not_written (SD k) h g = false≢true h

pub general_not_read : (r : Place) → is_general r ≡ true → is_read_register r ≡ true → ⊥
general_not_read (A k) h g = false≢true g
general_not_read (B k) h g = false≢true g
general_not_read (Slot k) h g = false≢true g
general_not_read (L k) h g = false≢true h
general_not_read (LD k) h g = false≢true h
general_not_read (S k) h g = false≢true h
general_not_read (SD k) h g = false≢true h

pub read_not_written : (r : Place) → is_read_register r ≡ true → is_write_register r ≡ true → ⊥
read_not_written (A k) h g = false≢true g
read_not_written (B k) h g = false≢true g
read_not_written (Slot k) h g = false≢true g
read_not_written (L k) h g = false≢true g
read_not_written (LD k) h g = false≢true g
read_not_written (S k) h g = false≢true h
read_not_written (SD k) h g = false≢true h

pub read_place_is : (m : Mem) (k : ℕ) → is_read_register (read_place m k) ≡ true
read_place_is Sram k = refl
read_place_is Sdram k = refl
read_place_is Scratch k = refl

pub write_place_is : (m : Mem) (k : ℕ) → is_write_register (write_place m k) ≡ true
write_place_is Sram k = refl
write_place_is Sdram k = refl
write_place_is Scratch k = refl

-- ---- lists of places

pub place_append : (r : Place) (a b : List Place) → has_place r (a ++ b) ≡ true → (has_place r a ≡ true) ⊎ (has_place r b ≡ true)
place_append r a b h = or_cases (has_place r a) (has_place r b) (sym (list_any-append (same_place r) a b) ∙ h)

pub place_right : (r : Place) (a b : List Place) → has_place r b ≡ true → has_place r (a ++ b) ≡ true
place_right r a b h = list_any-append (same_place r) a b ∙ or_right (has_place r a) (has_place r b) h

pub place_all : (P : Place → Type 0) (r : Place) (qs : List Place) → AllByRecursion P qs → has_place r qs ≡ true → P r
place_all P r [] a h = absurd (false≢true h)
place_all P r (q ∷ qs) a h =
    ⊎_elim (λ (e : same_place r q ≡ true). subst P (sym (same_place-true r q e)) a.0) (λ (e : has_place r qs ≡ true). place_all P r qs a.1 e) (or_cases (same_place r q) (has_place r qs) h)

pub place_one : (r q : Place) → has_place r (q ∷ []) ≡ true → r ≡ q
place_one r q h = ⊎_elim (λ (e : same_place r q ≡ true). same_place-true r q e) (λ (e : false ≡ true). absurd (false≢true e)) (or_cases (same_place r q) false h)

keep-place : (b : Bool) (f : Place → Bool) (r q : Place) (qs : List Place) → f q ≡ b → f r ≡ true → (same_place r q || has_place r qs) ≡ true → (has_place r qs ≡ true → has_place r (filter f qs) ≡ true)
    → has_place r (if b then q ∷ filter f qs else filter f qs) ≡ true
keep-place true f r q qs e k h g =
    ⊎_elim (λ (s : same_place r q ≡ true). or_left (same_place r q) (has_place r (filter f qs)) s) (λ (s : has_place r qs ≡ true). or_right (same_place r q) (has_place r (filter f qs)) (g s)) (or_cases (same_place r q) (has_place r qs) h)
keep-place false f r q qs e k h g =
    ⊎_elim (λ (s : same_place r q ≡ true). absurd (false≢true (sym e ∙ (ap f (sym (same_place-true r q s)) ∙ k)))) (λ (s : has_place r qs ≡ true). g s) (or_cases (same_place r q) (has_place r qs) h)

pub place_filter : (f : Place → Bool) (r : Place) (qs : List Place) → has_place r qs ≡ true → f r ≡ true → has_place r (filter f qs) ≡ true
place_filter f r [] h k = absurd (false≢true h)
place_filter f r (q ∷ qs) h k = keep-place (f q) f r q qs refl k h (λ g. place_filter f r qs g k)

split-place : (b : Bool) (f : Place → Bool) (r q : Place) (qs : List Place) → f q ≡ b → has_place r (if b then q ∷ filter f qs else filter f qs) ≡ true → (has_place r (filter f qs) ≡ true → (has_place r qs ≡ true) × (f r ≡ true))
    → ((same_place r q || has_place r qs) ≡ true) × (f r ≡ true)
split-place true f r q qs e h g =
    ⊎_elim
    (λ (s : same_place r q ≡ true). (or_left (same_place r q) (has_place r qs) s, ap f (same_place-true r q s) ∙ e))
    (λ (s : has_place r (filter f qs) ≡ true). (or_right (same_place r q) (has_place r qs) ((g s).0), (g s).1))
    (or_cases (same_place r q) (has_place r (filter f qs)) h)
split-place false f r q qs e h g = (or_right (same_place r q) (has_place r qs) ((g h).0), (g h).1)

pub filter_place : (f : Place → Bool) (r : Place) (qs : List Place) → has_place r (filter f qs) ≡ true → (has_place r qs ≡ true) × (f r ≡ true)
filter_place f r [] h = absurd (false≢true h)
filter_place f r (q ∷ qs) h = split-place (f q) f r q qs refl h (λ g. filter_place f r qs g)

pub none_both : (r : Place) (qs rs : List Place) → none_shared qs rs ≡ true → has_place r qs ≡ true → has_place r rs ≡ true → ⊥
none_both r [] rs n h g = false≢true h
none_both r (q ∷ qs) rs n h g =
    let p = and_parts (not (has_place q rs)) (none_shared qs rs) n in
    ⊎_elim
    (λ (e : same_place r q ≡ true). false≢true (sym (not-true (has_place q rs) p.0) ∙ subst (λ z. has_place z rs ≡ true) (same_place-true r q e) g))
    (λ (e : has_place r qs ≡ true). none_both r qs rs p.1 e g)
    (or_cases (same_place r q) (has_place r qs) h)

-- ---- early words

-- a use of a value whose word is put early
pub record Early (labels : List Label) (p : Plan) (x : ℕ) (u : Use) : Type 0 where
  pub place : ℕ
  pub there : slice_get (uses labels) place ≡ Some u
  pub early : is_early p u ≡ true
  pub value : u.value ≡ x

home_no_write : (p : Plan) (x : ℕ) (q : Place) → is_home p x q ≡ true → is_write_register q ≡ true → ⊥
home_no_write p x q h g =
    let d = and_parts (not (is_write_register q)) (same_place q (home p x).defined || list_any (same_place q) (home p x).copied) h in
    false≢true (sym (not-true (is_write_register q) d.0) ∙ g)

role_written : (labels : List Label) (p : Plan) (u : Use) (s : Serve) (r : Role) → IsServedAt labels p u s r → is_write_register s.from ≡ true → is_write_register (role_register p u.point r) ≡ true
role_written labels p u s Operand h g = absurd (home_no_write p u.value s.from h.0 g)
role_written labels p u s Address h g = absurd (home_no_write p u.value s.from h.0 g)
role_written labels p u s (Written m i) h g = write_place_is m (first p u.point + i)
role_written labels p u s (Argument l i) h g = absurd (home_no_write p u.value s.from h.0 g)
role_written labels p u s (Ending i) h g = absurd (home_no_write p u.value s.from h.0 g)

pub served_at : (labels : List Label) (p : Plan) (i : ℕ) (u : Use) → Placed labels p → slice_get (uses labels) i ≡ Some u → IsServed labels p u
served_at labels p i u h e = all_get (IsServed labels p) (uses labels) i u (recursion_from_All (IsServed labels p) (uses labels) h.fits.uses) e

-- it is put into a write register
pub early_register : (labels : List Label) (p : Plan) (i : ℕ) (u : Use) → Placed labels p → slice_get (uses labels) i ≡ Some u → is_early p u ≡ true → is_write_register (word_register p u) ≡ true
early_register labels p i u h e g = role_written labels p u (served p u) u.role (served_at labels p i u h e) g

-- ---- lists of uses

filter_get_if : (b : Bool) (f : Use → Bool) (v u : Use) (us : List Use) → f v ≡ b → f u ≡ true → (Some v ≡ Some u) → (j : ℕ) × (slice_get (if b then v ∷ filter f us else filter f us) j ≡ Some u)
filter_get_if true f v u us b k e = (0, e)
filter_get_if false f v u us b k e = absurd (false≢true (sym b ∙ (ap f (same_Some v u e) ∙ k)))

filter_get_later : (b : Bool) (f : Use → Bool) (v u : Use) (us : List Use) → (j : ℕ) × (slice_get (filter f us) j ≡ Some u) → (j : ℕ) × (slice_get (if b then v ∷ filter f us else filter f us) j ≡ Some u)
filter_get_later true f v u us h = (suc h.0, h.1)
filter_get_later false f v u us h = h

pub filter_get : (f : Use → Bool) (us : List Use) (i : ℕ) (u : Use) → slice_get us i ≡ Some u → f u ≡ true → (j : ℕ) × (slice_get (filter f us) j ≡ Some u)
filter_get f [] i u e k = absurd (none-some u e)
filter_get f (v ∷ us) zero u e k = filter_get_if (f v) f v u us refl k e
filter_get f (v ∷ us) (suc i) u e k = filter_get_later (f v) f v u us (filter_get f us i u e k)

all_filter_if : (b : Bool) (P : Use → Type 0) (f : Use → Bool) (v : Use) (us : List Use) → f v ≡ b → P v → AllByRecursion (λ u. P u × (f u ≡ true)) (filter f us) → AllByRecursion (λ u. P u × (f u ≡ true)) (if b then v ∷ filter f us else filter f us)
all_filter_if true P f v us e h g = ((h, e), g)
all_filter_if false P f v us e h g = g

pub all_filter : (P : Use → Type 0) (f : Use → Bool) (us : List Use) → AllByRecursion P us → AllByRecursion (λ u. P u × (f u ≡ true)) (filter f us)
all_filter P f [] h = tt
all_filter P f (v ∷ us) h = all_filter_if (f v) P f v us refl h.0 (all_filter P f us h.1)

pub place_map : (P : Use → Type 0) (g : Use → Place) (r : Place) (us : List Use) → AllByRecursion P us → has_place r (map g us) ≡ true → (u : Use) × P u × (r ≡ g u)
place_map P g r [] a h = absurd (false≢true h)
place_map P g r (u ∷ us) a h =
    ⊎_elim (λ (e : same_place r (g u) ≡ true). (u, a.0, same_place-true r (g u) e)) (λ (e : has_place r (map g us) ≡ true). place_map P g r us a.1 e) (or_cases (same_place r (g u)) (has_place r (map g us)) h)

pub map_place : (g : Use → Place) (us : List Use) (i : ℕ) (u : Use) → slice_get us i ≡ Some u → has_place (g u) (map g us) ≡ true
map_place g [] i u e = absurd (none-some u e)
map_place g (v ∷ us) zero u e = or_left (same_place (g u) (g v)) (has_place (g u) (map g us)) (same_place-from (g u) (g v) (ap g (sym (same_Some v u e))))
map_place g (v ∷ us) (suc i) u e = or_right (same_place (g u) (g v)) (has_place (g u) (map g us)) (map_place g us i u e)

-- a use that is there
abbrev pub ThereIn : List Use → Use → Type 0
ThereIn us u = (i : ℕ) × (slice_get us i ≡ Some u)

pub each_use : (us : List Use) → AllByRecursion (ThereIn us) us
each_use us = all_of (ThereIn us) us (λ i u e. (i, e))

pub uses_of_each : (labels : List Label) (x : ℕ) → AllByRecursion (λ u. ThereIn (uses labels) u × (nat_eq u.value x ≡ true)) (uses_of labels x)
uses_of_each labels x = all_filter (ThereIn (uses labels)) (λ u. nat_eq u.value x) (uses labels) (each_use (uses labels))

pub early_each : (labels : List Label) (p : Plan) (x : ℕ) → AllByRecursion (λ u. (ThereIn (uses labels) u × (nat_eq u.value x ≡ true)) × (is_early p u ≡ true)) (early_uses labels p x)
early_each labels p x = all_filter (λ u. ThereIn (uses labels) u × (nat_eq u.value x ≡ true)) (is_early p) (uses_of labels x) (uses_of_each labels x)

any_use : (P : Use → Type 0) (f : Use → Bool) (us : List Use) → AllByRecursion P us → list_any f us ≡ true → (u : Use) × P u × (f u ≡ true)
any_use P f [] a h = absurd (false≢true h)
any_use P f (u ∷ us) a h = ⊎_elim (λ (e : f u ≡ true). (u, a.0, e)) (λ (e : list_any f us ≡ true). any_use P f us a.1 e) (or_cases (f u) (list_any f us) h)

-- ---- homes of values that are used

pub data Settled (labels : List Label) (p : Plan) (x : ℕ) : Type 0 where
  in_general : IsGeneral p (home p x).defined → AreCopies labels p x (home p x) → Settled labels p x
  put_early : IsPutEarly labels p x (home p x) → Settled labels p x
  fetched_to : (m : Mem) (r : ℕ) → (home p x).defined ≡ read_place m r → AreCopies labels p x (home p x) → Settled labels p x

settled_sort : (labels : List Label) (p : Plan) (v : Value) (s : ValueOrigin) → IsHome labels p v (home p v.var) s → is_used labels v.var ≡ true → Settled labels p v.var
settled_sort labels p v (Parameter l i) h u = in_general h.0 h.1
settled_sort labels p v Result h u =
    ⊎_elim (λ (g : IsGeneral p (home p v.var).defined × AreCopies labels p v.var (home p v.var)). in_general g.0 g.1) (λ (g : IsPutEarly labels p v.var (home p v.var)). put_early g) h
settled_sort labels p v (Fetched m i) h u = let g = h u in fetched_to m (first p v.point + i) g.0 g.1

pub value_of : (P : Value → Type 0) (vs : List Value) (x : ℕ) → AllByRecursion P vs → is_in x (map (λ v. v.var) vs) ≡ true → (v : Value) × P v × (v.var ≡ x)
value_of P [] x a h = absurd (false≢true h)
value_of P (v ∷ vs) x a h =
    ⊎_elim (λ (e : nat_eq x v.var ≡ true). (v, a.0, sym (same-number x v.var e))) (λ (e : is_in x (map (λ v. v.var) vs) ≡ true). value_of P vs x a.1 e)
    (or_cases (nat_eq x v.var) (is_in x (map (λ v. v.var) vs)) h)

pub housed_each : (labels : List Label) (p : Plan) → Placed labels p → EachFrom (λ k q. AllByRecursion (IsHoused labels p) (values_at k q.place)) 0 (points labels)
housed_each labels p h = values_each (IsHoused labels p) 0 (points labels) (recursion_from_All (IsHoused labels p) (values labels) h.fits.values)

abbrev pub SettledIfUsed : List Label → Plan → ℕ → Type 0
SettledIfUsed labels p x = is_used labels x ≡ true → Settled labels p x

settled_here : (labels : List Label) (p : Plan) (k : ℕ) (q : Point) → AllByRecursion (IsHoused labels p) (values_at k q.place) → (x : ℕ) → is_in x (place_values q.place) ≡ true → SettledIfUsed labels p x
settled_here labels p k q a x i =
    let v = value_of (IsHoused labels p) (values_at k q.place) x a (ap (is_in x) (vars-of-place k q.place) ∙ i) in
    subst (SettledIfUsed labels p) v.2 (settled_sort labels p v.0 v.0.origin v.1)

pub settled_values : (labels : List Label) (p : Plan) → Placed labels p → EachFrom (λ k q. (x : ℕ) → is_in x (place_values q.place) ≡ true → SettledIfUsed labels p x) 0 (points labels)
settled_values labels p h =
    each_map (λ k q. AllByRecursion (IsHoused labels p) (values_at k q.place)) (λ k q. (x : ℕ) → is_in x (place_values q.place) ≡ true → SettledIfUsed labels p x) 0 (points labels)
    (settled_here labels p) (housed_each labels p h)

pub settled_at : (labels : List Label) (p : Plan) (k : ℕ) (q : Point) (x : ℕ) → Placed labels p → slice_get (points labels) k ≡ Some q → is_in x (place_values q.place) ≡ true → SettledIfUsed labels p x
settled_at labels p k q x h e = each_here (λ k q. (x : ℕ) → is_in x (place_values q.place) ≡ true → SettledIfUsed labels p x) (points labels) k q (settled_values labels p h) e x

pub settled_above : (labels : List Label) (p : Plan) (k : ℕ) (q : Point) (x : ℕ) → Placed labels p → slice_get (points labels) k ≡ Some q → is_in x q.above ≡ true → SettledIfUsed labels p x
settled_above labels p k q x h e =
    each_here (λ k q. (x : ℕ) → is_in x q.above ≡ true → SettledIfUsed labels p x) (points labels) k q (labels_above (SettledIfUsed labels p) 0 0 labels (settled_values labels p h)) e x

-- ---- where copies go

pub data Target (labels : List Label) (p : Plan) (y : ℕ) (r : Place) : Type 0 where
  fill : IsGeneral p r → Target labels p y r
  word : (u : Use) → Early labels p y u → r ≡ word_register p u → Target labels p y r

copies_targets : (labels : List Label) (p : Plan) (y : ℕ) (r : Place) → AreCopies labels p y (home p y) → has_place r (home p y).copied ≡ true → Target labels p y r
copies_targets labels p y r c h =
    ⊎_elim
    (λ (e : has_place r c.fills ≡ true). fill (place_all (IsGeneral p) r c.fills (recursion_from_All (IsGeneral p) c.fills c.are.general) e))
    (λ (e : has_place r (map (word_register p) (early_uses labels p y)) ≡ true).
    let d = place_map (λ u. (ThereIn (uses labels) u × (nat_eq u.value y ≡ true)) × (is_early p u ≡ true)) (word_register p) r (early_uses labels p y) (early_each labels p y) e in
    word d.0 (record { place = d.1.0.0.0; there = d.1.0.0.1; early = d.1.1; value = same-number d.0.value y d.1.0.1 }) d.2)
    (place_append r c.fills (map (word_register p) (early_uses labels p y)) (sym (ap (has_place r) c.copied) ∙ h))

no_copies : (r : Place) (qs : List Place) → qs ≡ [] → has_place r qs ≡ true → ⊥
no_copies r qs e h = false≢true (sym (ap (has_place r) e) ∙ h)

pub targets : (labels : List Label) (p : Plan) (y : ℕ) (r : Place) → Settled labels p y → has_place r (home p y).copied ≡ true → Target labels p y r
targets labels p y r (in_general g c) h = copies_targets labels p y r c h
targets labels p y r (put_early g) h = absurd (no_copies r (home p y).copied g.copied h)
targets labels p y r (fetched_to m i e c) h = copies_targets labels p y r c h

-- an early word is copied to its register
pub early_copied : (labels : List Label) (p : Plan) (y : ℕ) (u : Use) → AreCopies labels p y (home p y) → Early labels p y u → has_place (word_register p u) (home p y).copied ≡ true
early_copied labels p y u c h =
    let a = filter_get (λ u. nat_eq u.value y) (uses labels) h.place u h.there (eq-eqb u.value y h.value) in
    let b = filter_get (is_early p) (uses_of labels y) a.0 u a.1 h.early in
    ap (has_place (word_register p u)) c.copied
    ∙ place_right (word_register p u) c.fills (map (word_register p) (early_uses labels p y)) (map_place (word_register p) (early_uses labels p y) b.0 u b.1)

-- a value without uses has no copies
absent_bare : (hs : List Home) (x : ℕ) → is_in x (map (λ h. h.var) hs) ≡ false → (home_in hs x).copied ≡ []
absent_bare [] x e = refl
absent_bare (h ∷ hs) x e =
    let p = or_parts (nat_eq x h.var) (is_in x (map (λ h. h.var) hs)) e in
    let other : nat_eq h.var x ≡ false = false_from_ne_true (nat_eq h.var x) (λ k. false≢true (sym p.0 ∙ eq-eqb x h.var (sym (same-number h.var x k)))) in
    ap (λ b. (if b then h else home_in hs x).copied) other ∙ absent_bare hs x p.1

bare_sort : (labels : List Label) (p : Plan) (v : Value) (s : ValueOrigin) → IsHome labels p v (home p v.var) s → is_sort_homed (is_used labels v.var) s ≡ true → is_used labels v.var ≡ false → (home p v.var).copied ≡ []
bare_sort labels p v (Parameter l i) h w u = h.1.unused u
bare_sort labels p v Result h w u =
    ⊎_elim (λ (g : IsGeneral p (home p v.var).defined × AreCopies labels p v.var (home p v.var)). g.1.unused u) (λ (g : IsPutEarly labels p v.var (home p v.var)). g.copied) h
bare_sort labels p v (Fetched m i) h w u = absurd (false≢true (sym u ∙ w))

wanted_if : (b : Bool) (P : Value → Type 0) (f : Value → Bool) (v : Value) (vs : List Value) → f v ≡ b → P v → AllByRecursion (λ u. P u × (f u ≡ true)) (filter f vs) → AllByRecursion (λ u. P u × (f u ≡ true)) (if b then v ∷ filter f vs else filter f vs)
wanted_if true P f v vs e h g = ((h, e), g)
wanted_if false P f v vs e h g = g

wanted : (P : Value → Type 0) (f : Value → Bool) (vs : List Value) → AllByRecursion P vs → AllByRecursion (λ u. P u × (f u ≡ true)) (filter f vs)
wanted P f [] h = tt
wanted P f (v ∷ vs) h = wanted_if (f v) P f v vs refl h.0 (wanted P f vs h.1)

bare_kept : (labels : List Label) (p : Plan) (x : ℕ) → Placed labels p → is_used labels x ≡ false → is_in x (map (λ h. h.var) p.homes) ≡ true → (home p x).copied ≡ []
bare_kept labels p x h u i =
    let all = wanted (IsHoused labels p) (wants_home labels) (values labels) (recursion_from_All (IsHoused labels p) (values labels) h.fits.values) in
    let v = value_of (λ w. IsHoused labels p w × (wants_home labels w ≡ true)) (filter (wants_home labels) (values labels)) x all (h.fits.homes.only x i) in
    subst (λ z. is_used labels z ≡ false → (home p z).copied ≡ []) v.2 (bare_sort labels p v.0 v.0.origin v.1.0 v.1.1) u

pub unused_bare : (labels : List Label) (p : Plan) (x : ℕ) → Placed labels p → is_used labels x ≡ false → (home p x).copied ≡ []
unused_bare labels p x h u =
    ⊎_elim (λ (e : is_in x (map (λ h. h.var) p.homes) ≡ true). bare_kept labels p x h u e) (λ (e : is_in x (map (λ h. h.var) p.homes) ≡ false). absent_bare p.homes x e)
    (cases_Bool (is_in x (map (λ h. h.var) p.homes)))

-- ---- places in which a value lasts

pub data Lasts (labels : List Label) (p : Plan) (x : ℕ) (r : Place) : Type 0 where
  in_place : is_general r ≡ true → has_place r (general_places p x) ≡ true → Lasts labels p x r
  in_read : is_read_register r ≡ true → has_place r (read_places labels p x) ≡ true → Lasts labels p x r

-- the place where it is defined, or one that it is copied to
abbrev pub IsOwn : Plan → ℕ → Place → Type 0
IsOwn p x r = (r ≡ (home p x).defined) ⊎ (has_place r (home p x).copied ≡ true)

own_from : (p : Plan) (x : ℕ) (r : Place) → has_place r ((home p x).defined ∷ (home p x).copied) ≡ true → IsOwn p x r
own_from p x r h =
    ⊎_elim (λ (e : same_place r (home p x).defined ≡ true). inl (same_place-true r (home p x).defined e)) (λ (e : has_place r (home p x).copied ≡ true). inr e)
    (or_cases (same_place r (home p x).defined) (has_place r (home p x).copied) h)

kept_is : (labels : List Label) (p : Plan) (x : ℕ) (r : Place) (b : Bool) → has_place r (kept_register labels p x b) ≡ true → (b ≡ true) × (r ≡ (home p x).defined)
kept_is labels p x r true h = (refl, place_one r (home p x).defined h)
kept_is labels p x r false h = absurd (false≢true h)

one_stays : (p : Plan) (us : List Use) (u : Use) → us ≡ u ∷ [] → is_early p u ≡ true → list_any (λ w. is_read_register (served p w).from) us ≡ true → ⊥
one_stays p us u e k h =
    ⊎_elim (λ (s : is_read_register (served p u).from ≡ true). read_not_written (served p u).from s k) (λ (s : false ≡ true). false≢true s)
    (or_cases (is_read_register (served p u).from) false (sym (ap (list_any (λ w. is_read_register (served p w).from)) e) ∙ h))

general_last : (labels : List Label) (p : Plan) (x : ℕ) (r : Place) → is_general r ≡ true → has_place r ((home p x).defined ∷ (home p x).copied) ≡ true → Lasts labels p x r
general_last labels p x r g h = in_place g (place_filter is_general r ((home p x).defined ∷ (home p x).copied) h g)

defined_lasts : (labels : List Label) (p : Plan) (x : ℕ) (r : Place) → Settled labels p x → stays labels p x ≡ true → r ≡ (home p x).defined → has_place r (read_places labels p x) ≡ true → Lasts labels p x r
defined_lasts labels p x r (in_general g c) s e h =
    let k : is_general r ≡ true = ap is_general e ∙ general_is p (home p x).defined g in
    general_last labels p x r k (or_left (same_place r (home p x).defined) (has_place r (home p x).copied) (same_place-from r (home p x).defined e))
defined_lasts labels p x r (put_early g) s e h = absurd (one_stays p (uses_of labels x) g.use_ g.one g.early s)
defined_lasts labels p x r (fetched_to m i d c) s e h = in_read (ap is_read_register (e ∙ d) ∙ read_place_is m i) h

pub stays_used : (labels : List Label) (p : Plan) (x : ℕ) → stays labels p x ≡ true → is_used labels x ≡ true
stays_used labels p x s =
    let d = any_use (λ u. ThereIn (uses labels) u × (nat_eq u.value x ≡ true)) (λ u. is_read_register (served p u).from) (uses_of labels x) (uses_of_each labels x) s in
    subst (λ z. is_used labels z ≡ true) (same-number d.0.value x d.1.1) (used_by (uses labels) d.1.0.0 d.0 d.1.0.1)

pub lasts_from : (labels : List Label) (p : Plan) (x : ℕ) (r : Place) → SettledIfUsed labels p x → has_place r (lasting labels p x) ≡ true → Lasts labels p x r × IsOwn p x r
lasts_from labels p x r s h =
    ⊎_elim
    (λ (e : has_place r (general_places p x) ≡ true).
    let d = filter_place is_general r ((home p x).defined ∷ (home p x).copied) e in
    (in_place d.1 e, own_from p x r d.0))
    (λ (e : has_place r (read_places labels p x) ≡ true).
    let d = kept_is labels p x r (stays labels p x) e in
    (defined_lasts labels p x r (s (stays_used labels p x d.0)) d.0 d.1 e, inl d.1))
    (place_append r (general_places p x) (read_places labels p x) h)
