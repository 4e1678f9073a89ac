-- The banks have room for the live values: a placement that fits gives them different registers and slots.
use Rattle.std.proofs.Common.{◌≡◌, ◌≢◌, ℕ, zero, suc, ◌+◌, ◌<◌, ◌≤◌, nat_eq, Bool, true, false, not, ◌||◌, if◌then◌else◌, inl, inr, ⊎_elim, Some, List, [], ◌∷◌, length, map, filter, refl, sym, ap, subst, ◌∙◌, arith}
use Rattle.std.specs.Prelude.{slice_get}
use Rattle.std.specs.List.{list_any}
use Rattle.std.proofs.lemmas.Bool.{false≢true, or_cases, or_left, or_right, cases_lt}
use Rattle.std.proofs.lemmas.List.{length-map}
use Rattle.nv_base.proofs.Sets.{same-number}
use Rattle.ssu_ir.specs.Tree.{Label}
use Rattle.ssu_ir.specs.Points.{Point, points}
use Rattle.place_plan.specs.declared.place.Place.{Place}
use Rattle.place_plan.specs.declared.place.Place.TheVariants as place
use Rattle.place_plan.specs.Places.{same_place}
use Rattle.place_plan.specs.Plan.{Home, Plan, home as value_home, first}
use Rattle.place_plan.specs.Uses.{Value, values, is_used}
use Rattle.place_plan.specs.Fits.{IsGeneral, is_general, is_write_register, same_bank, general_places, read_place, Fits}
use Rattle.ssu_ir.specs.Single.{single}
use Rattle.ssu_liveness.proofs.Scoped.{in-itself, different-filter}
use Rattle.place_plan.proofs.Sound.{Each}
use Rattle.place_plan.proofs.Joined.{values-different}
use Rattle.nv_base.specs.declared.term.Mem.{Mem}
use Rattle.nv_base.specs.declared.term.Mem.TheVariants.{Sram, Sdram, Scratch}
use Rattle.zo_model.specs.Program.{cost_where}
use Rattle.bank_prog_form.specs.declared.column.Bank.{Bank}
use Rattle.bank_prog_form.specs.declared.column.Bank.TheVariants.{A, B, M, T, L, A15, W}
use Rattle.bank_prog_form.specs.declared.column.Column.TheVariants.{Def, Fill}
use Rattle.bank_prog_form.specs.Columns.{is_fetched}
use Rattle.bank_prog_form.specs.Rows.{home, live_in, room_lines, capacity}
use Rattle.bank_prog.specs.Meaning.{Chosen, Holds}
use Rattle.bank_prog_rows.proofs.PlainLines.{mapped-each, Pairs}
use Rattle.reg_assign_reading.specs.inner.Facts.{count, in_bank}
use Rattle.reg_assign_reading.specs.ReadOff.{room}
use Rattle.reg_assign_reading.specs.inner.Chosen.{is_in_bank, IsChosen}
use Rattle.reg_assign_reading.proofs.Counts.{In, count-append, in-kept, kept-in, each-in, each-from}
use Rattle.reg_assign_reading.proofs.FactsThere.{there}
use Rattle.reg_assign_reading.proofs.FactsValues.{same-value}
use Rattle.reg_assign_reading.proofs.FitHomes.{is_home_bank}
use Rattle.reg_assign_reading.proofs.ChosenHolds.{most-holds, points-each, in-test, pairs-different, pairs-map}
use Rattle.reg_assign_reading.proofs.ChosenSource.{in-any-place}
use Rattle.reg_assign_reading.proofs.ChosenForm.{Placed, chosen-on, held-value, point-held, Housing, put_general, put_read, put_early, put-writes, housing, IsCopy, copy_general, copy_word, copies-are, shared}

-- ---- different numbers below n are at most n

abbrev Other : ℕ → ℕ → Bool
Other n k = not (nat_eq k n)

apart-kept : (n : ℕ) (k : ℕ) (ks : List ℕ) → Each (λ j. k ≢ j) ks → Each (λ j. k ≢ j) (filter (Other n) ks)
apart-kept n k [] h = tt
apart-kept n k (j ∷ ks) h = by (nat_eq j n) (apart-kept n k ks h.1)
  where
    by : (b : Bool) → Each (λ j. k ≢ j) (filter (Other n) ks) → Each (λ j. k ≢ j) (if not b then j ∷ filter (Other n) ks else filter (Other n) ks)
    by true r = r
    by false r = (h.0, r)

pairs-kept : (n : ℕ) (ks : List ℕ) → Pairs (λ i j. i ≢ j) ks → Pairs (λ i j. i ≢ j) (filter (Other n) ks)
pairs-kept n [] h = tt
pairs-kept n (k ∷ ks) h = by (nat_eq k n) (pairs-kept n ks h.1)
  where
    by : (b : Bool) → Pairs (λ i j. i ≢ j) (filter (Other n) ks) → Pairs (λ i j. i ≢ j) (if not b then k ∷ filter (Other n) ks else filter (Other n) ks)
    by true r = r
    by false r = (apart-kept n k ks h.0, r)

below-other : (k n : ℕ) → k < suc n → (k ≡ n → ⊥) → k < n
below-other k n l f = ⊎_elim (λ (a : k < n). a) (λ (b : n ≤ k). absurd (f (omega (arith, l, b)))) (cases_lt k n)

below-kept : (n : ℕ) (ks : List ℕ) → Each (λ k. k < suc n) ks → Each (λ k. k < n) (filter (Other n) ks)
below-kept n [] h = tt
below-kept n (k ∷ ks) h = by (nat_eq k n) refl (below-kept n ks h.1)
  where
    by : (b : Bool) → nat_eq k n ≡ b → Each (λ k. k < n) (filter (Other n) ks) → Each (λ k. k < n) (if not b then k ∷ filter (Other n) ks else filter (Other n) ks)
    by true e r = r
    by false e r = (below-other k n h.0 (λ s. false≢true (sym e ∙ subst (λ z. nat_eq k z ≡ true) s (in-itself k))), r)

none-gone : (n : ℕ) (ks : List ℕ) → Each (λ j. n ≢ j) ks → length (filter (Other n) ks) ≡ length ks
none-gone n [] h = refl
none-gone n (k ∷ ks) h = by (nat_eq k n) refl (none-gone n ks h.1)
  where
    by : (b : Bool) → nat_eq k n ≡ b → length (filter (Other n) ks) ≡ length ks → length (if not b then k ∷ filter (Other n) ks else filter (Other n) ks) ≡ suc (length ks)
    by true e r = absurd (h.0 (sym (same-number k n e)))
    by false e r = ap suc r

one-gone : (n : ℕ) (ks : List ℕ) → Pairs (λ i j. i ≢ j) ks → length ks ≤ suc (length (filter (Other n) ks))
one-gone n [] h = omega arith
one-gone n (k ∷ ks) h = by (nat_eq k n) refl (one-gone n ks h.1)
  where
    by : (b : Bool) → nat_eq k n ≡ b → length ks ≤ suc (length (filter (Other n) ks)) → suc (length ks) ≤ suc (length (if not b then k ∷ filter (Other n) ks else filter (Other n) ks))
    by true e r = let z = none-gone n ks (subst (λ m. Each (λ j. m ≢ j) ks) (same-number k n e) h.0) in omega (arith, z)
    by false e r = omega (arith, r)

few : (n : ℕ) (ks : List ℕ) → Pairs (λ i j. i ≢ j) ks → Each (λ k. k < n) ks → length ks ≤ n
few zero [] h l = omega arith
few zero (k ∷ ks) h l = let a = l.0 in absurd (omega (arith, a))
few (suc n) ks h l =
    let a = few n (filter (Other n) ks) (pairs-kept n ks h) (below-kept n ks l) in
    let b = one-gone n ks h in
    omega (arith, a, b)

-- ---- the first place of a bank

abbrev place_number : Place → ℕ
place_number (place.A k) = k
place_number (place.B k) = k
place_number (place.L k) = k
place_number (place.LD k) = k
place_number (place.S k) = k
place_number (place.SD k) = k
place_number (place.Slot k) = k

abbrev bank_number : Bank → List Place → ℕ
bank_number h [] = 0
bank_number h (q ∷ qs) = if is_in_bank h q then place_number q else bank_number h qs

-- the place of a bank that has this number
record FirstIn (h : Bank) (qs : List Place) : Type 0 where
  place_ : Place
  among : In place_ qs
  bank : is_in_bank h place_ ≡ true
  number : bank_number h qs ≡ place_number place_

first-in : (h : Bank) (qs : List Place) → list_any (is_in_bank h) qs ≡ true → FirstIn h qs
first-in h [] e = absurd (false≢true e)
first-in h (q ∷ qs) e = by (is_in_bank h q) refl e (first-in h qs)
  where
    by : (b : Bool) → is_in_bank h q ≡ b → (b || list_any (is_in_bank h) qs) ≡ true → (list_any (is_in_bank h) qs ≡ true → FirstIn h qs) → FirstIn h (q ∷ qs)
    by true f g r = record { place_ = q; among = inl refl; bank = f; number = ap (λ c. if c then place_number q else bank_number h qs) f }
    by false f g r = let w = r g in record { place_ = w.place_; among = inr w.among; bank = w.bank; number = ap (λ c. if c then place_number q else bank_number h qs) f ∙ w.number }

place-any : (h : Bank) (qs : List Place) → list_any (is_in_bank h) qs ≡ true → (q : Place) × In q qs × (is_in_bank h q ≡ true)
place-any h qs e = let w = first-in h qs e in (w.place_, w.among, w.bank)

bank-general : (h : Bank) (q : Place) → is_home_bank h ≡ true → is_in_bank h q ≡ true → is_general q ≡ true
bank-general h (place.A k) i e = refl
bank-general h (place.B k) i e = refl
bank-general h (place.Slot k) i e = refl
bank-general A (place.L k) i e = absurd (false≢true e)
bank-general B (place.L k) i e = absurd (false≢true e)
bank-general M (place.L k) i e = absurd (false≢true e)
bank-general A (place.LD k) i e = absurd (false≢true e)
bank-general B (place.LD k) i e = absurd (false≢true e)
bank-general M (place.LD k) i e = absurd (false≢true e)
bank-general A (place.S k) i e = absurd (false≢true e)
bank-general B (place.S k) i e = absurd (false≢true e)
bank-general M (place.S k) i e = absurd (false≢true e)
bank-general A (place.SD k) i e = absurd (false≢true e)
bank-general B (place.SD k) i e = absurd (false≢true e)
bank-general M (place.SD k) i e = absurd (false≢true e)
bank-general T q i e = absurd (false≢true i)
bank-general L q i e = absurd (false≢true i)
bank-general A15 q i e = absurd (false≢true i)
bank-general W q i e = absurd (false≢true i)

-- two general places of one bank
general-same : (h : Bank) (p : Plan) (q r : Place) → IsGeneral p q → is_in_bank h q ≡ true → is_in_bank h r ≡ true → same_bank q r ≡ true
general-same A p (place.A i) (place.A j) g e f = refl
general-same B p (place.B i) (place.B j) g e f = refl
general-same M p (place.Slot i) (place.Slot j) g e f = refl
general-same A p (place.A i) (place.B j) g e f = absurd (false≢true f)
general-same A p (place.A i) (place.Slot j) g e f = absurd (false≢true f)
general-same A p (place.A i) (place.L j) g e f = absurd (false≢true f)
general-same A p (place.A i) (place.LD j) g e f = absurd (false≢true f)
general-same A p (place.A i) (place.S j) g e f = absurd (false≢true f)
general-same A p (place.A i) (place.SD j) g e f = absurd (false≢true f)
general-same B p (place.B i) (place.A j) g e f = absurd (false≢true f)
general-same B p (place.B i) (place.Slot j) g e f = absurd (false≢true f)
general-same B p (place.B i) (place.L j) g e f = absurd (false≢true f)
general-same B p (place.B i) (place.LD j) g e f = absurd (false≢true f)
general-same B p (place.B i) (place.S j) g e f = absurd (false≢true f)
general-same B p (place.B i) (place.SD j) g e f = absurd (false≢true f)
general-same M p (place.Slot i) (place.A j) g e f = absurd (false≢true f)
general-same M p (place.Slot i) (place.B j) g e f = absurd (false≢true f)
general-same M p (place.Slot i) (place.L j) g e f = absurd (false≢true f)
general-same M p (place.Slot i) (place.LD j) g e f = absurd (false≢true f)
general-same M p (place.Slot i) (place.S j) g e f = absurd (false≢true f)
general-same M p (place.Slot i) (place.SD j) g e f = absurd (false≢true f)
general-same B p (place.A i) r g e f = absurd (false≢true e)
general-same M p (place.A i) r g e f = absurd (false≢true e)
general-same T p (place.A i) r g e f = absurd (false≢true e)
general-same L p (place.A i) r g e f = absurd (false≢true e)
general-same A15 p (place.A i) r g e f = absurd (false≢true e)
general-same W p (place.A i) r g e f = absurd (false≢true e)
general-same A p (place.B i) r g e f = absurd (false≢true e)
general-same M p (place.B i) r g e f = absurd (false≢true e)
general-same T p (place.B i) r g e f = absurd (false≢true e)
general-same L p (place.B i) r g e f = absurd (false≢true e)
general-same A15 p (place.B i) r g e f = absurd (false≢true e)
general-same W p (place.B i) r g e f = absurd (false≢true e)
general-same A p (place.Slot i) r g e f = absurd (false≢true e)
general-same B p (place.Slot i) r g e f = absurd (false≢true e)
general-same T p (place.Slot i) r g e f = absurd (false≢true e)
general-same L p (place.Slot i) r g e f = absurd (false≢true e)
general-same A15 p (place.Slot i) r g e f = absurd (false≢true e)
general-same W p (place.Slot i) r g e f = absurd (false≢true e)
general-same h p (place.L i) r g e f = absurd g
general-same h p (place.LD i) r g e f = absurd g
general-same h p (place.S i) r g e f = absurd g
general-same h p (place.SD i) r g e f = absurd g

-- places of one bank with one number are one
one-place : (q r : Place) → is_general q ≡ true → same_bank q r ≡ true → place_number q ≡ place_number r → same_place q r ≡ true
one-place (place.A i) (place.A j) g e n = subst (λ z. nat_eq i z ≡ true) n (in-itself i)
one-place (place.B i) (place.B j) g e n = subst (λ z. nat_eq i z ≡ true) n (in-itself i)
one-place (place.Slot i) (place.Slot j) g e n = subst (λ z. nat_eq i z ≡ true) n (in-itself i)
one-place (place.A i) (place.B j) g e n = absurd (false≢true e)
one-place (place.A i) (place.L j) g e n = absurd (false≢true e)
one-place (place.A i) (place.LD j) g e n = absurd (false≢true e)
one-place (place.A i) (place.S j) g e n = absurd (false≢true e)
one-place (place.A i) (place.SD j) g e n = absurd (false≢true e)
one-place (place.A i) (place.Slot j) g e n = absurd (false≢true e)
one-place (place.B i) (place.A j) g e n = absurd (false≢true e)
one-place (place.B i) (place.L j) g e n = absurd (false≢true e)
one-place (place.B i) (place.LD j) g e n = absurd (false≢true e)
one-place (place.B i) (place.S j) g e n = absurd (false≢true e)
one-place (place.B i) (place.SD j) g e n = absurd (false≢true e)
one-place (place.B i) (place.Slot j) g e n = absurd (false≢true e)
one-place (place.Slot i) (place.A j) g e n = absurd (false≢true e)
one-place (place.Slot i) (place.B j) g e n = absurd (false≢true e)
one-place (place.Slot i) (place.L j) g e n = absurd (false≢true e)
one-place (place.Slot i) (place.LD j) g e n = absurd (false≢true e)
one-place (place.Slot i) (place.S j) g e n = absurd (false≢true e)
one-place (place.Slot i) (place.SD j) g e n = absurd (false≢true e)
one-place (place.L i) r g e n = absurd (false≢true g)
one-place (place.LD i) r g e n = absurd (false≢true g)
one-place (place.S i) r g e n = absurd (false≢true g)
one-place (place.SD i) r g e n = absurd (false≢true g)

write-not-general : (q : Place) → is_write_register q ≡ true → is_general q ≡ true → ⊥
write-not-general (place.A k) w g = false≢true w
write-not-general (place.B k) w g = false≢true w
write-not-general (place.L k) w g = false≢true w
write-not-general (place.LD k) w g = false≢true w
write-not-general (place.S k) w g = false≢true g
write-not-general (place.SD k) w g = false≢true g
write-not-general (place.Slot k) w g = false≢true w

read-not-general : (m : Mem) (n : ℕ) → is_general (read_place m n) ≡ true → ⊥
read-not-general Sram n g = false≢true g
read-not-general Sdram n g = false≢true g
read-not-general Scratch n g = false≢true g

number-below : (h : Bank) (p : Plan) (q : Place) → IsGeneral p q → is_home_bank h ≡ true → is_in_bank h q ≡ true → place_number q < room p.slots h
number-below A p (place.A k) g i e = g
number-below B p (place.B k) g i e = g
number-below M p (place.Slot k) g i e = g
number-below B p (place.A k) g i e = absurd (false≢true e)
number-below M p (place.A k) g i e = absurd (false≢true e)
number-below A p (place.B k) g i e = absurd (false≢true e)
number-below M p (place.B k) g i e = absurd (false≢true e)
number-below A p (place.Slot k) g i e = absurd (false≢true e)
number-below B p (place.Slot k) g i e = absurd (false≢true e)
number-below h p (place.L k) g i e = absurd g
number-below h p (place.LD k) g i e = absurd g
number-below h p (place.S k) g i e = absurd g
number-below h p (place.SD k) g i e = absurd g
number-below T p q g i e = absurd (false≢true i)
number-below L p q g i e = absurd (false≢true i)
number-below A15 p q g i e = absurd (false≢true i)
number-below W p q g i e = absurd (false≢true i)

-- ---- a value that is chosen to be in a bank

-- the general places of a value are general registers and slots that can be homes, and its copies are elsewhere than its first place
record IsHoming (p : Plan) (h : Home) : Type 0 where
  general : (q : Place) → In q (h.defined ∷ h.copied) → is_general q ≡ true → IsGeneral p q
  elsewhere : (b : Bank) → is_home_bank b ≡ true → is_in_bank b h.defined ≡ true → list_any (is_in_bank b) h.copied ≡ true → ⊥

copy-general : (p : Plan) (defined q : Place) → IsCopy p defined q → is_general q ≡ true → IsGeneral p q
copy-general p defined q (copy_general g e) f = g
copy-general p defined q (copy_word w) f = absurd (write-not-general q w f)

copy-elsewhere : (p : Plan) (b : Bank) (defined q : Place) → IsCopy p defined q → is_home_bank b ≡ true → is_in_bank b defined ≡ true → is_in_bank b q ≡ true → ⊥
copy-elsewhere p b defined q (copy_general g e) i f h = false≢true (sym e ∙ general-same b p q defined g h f)
copy-elsewhere p b defined q (copy_word w) i f h = write-not-general q w (bank-general b q i h)

copies-homing : (p : Plan) (h : Home) → Each (IsCopy p h.defined) h.copied → (is_general h.defined ≡ true → IsGeneral p h.defined) → IsHoming p h
copies-homing p h c g = record {
  general = λ q i e. ⊎_elim
      (λ (s : h.defined ≡ q). subst (IsGeneral p) s (g (ap is_general s ∙ e)))
      (λ (j : In q h.copied). copy-general p h.defined q (each-in (IsCopy p h.defined) q h.copied c j) e)
      i;
  elsewhere = λ b i e f. let w = place-any b h.copied f in copy-elsewhere p b h.defined w.0 (each-in (IsCopy p h.defined) w.0 h.copied c w.1) i e w.2;
}

homing : (labels : List Label) (p : Plan) (v : Value) → Fits labels p → Housing labels p v → IsHoming p (value_home p v.var)
homing labels p v f (put_general u g c) = copies-homing p (value_home p v.var) (copies-are labels p v.var (value_home p v.var) f c) (λ e. g)
homing labels p v f (put_read m i s d c) = copies-homing p (value_home p v.var) (copies-are labels p v.var (value_home p v.var) f c) (λ e. absurd (read-not-general m (first p v.point + i) (ap is_general (sym d) ∙ e)))
homing labels p v f (put_early s e) = copies-homing p (value_home p v.var) (subst (Each (IsCopy p (value_home p v.var).defined)) (sym e.copied) tt) (λ g. absurd (write-not-general (value_home p v.var).defined (put-writes labels p v.var (value_home p v.var) f e) g))

-- the first place for a definition, some copy for a fill
def-place : (labels : List Label) (p : Plan) (on : Chosen) (x : ℕ) (h : Bank) → Placed labels p on → on (Def x h) ≡ true → is_in_bank h (value_home p x).defined ≡ true
def-place labels p on x h g e = chosen-on labels p on g (Def x h) e

fill-place : (labels : List Label) (p : Plan) (on : Chosen) (x : ℕ) (h : Bank) → Placed labels p on → on (Fill x h) ≡ true → list_any (is_in_bank h) (value_home p x).copied ≡ true
fill-place labels p on x h g e = chosen-on labels p on g (Fill x h) e

bank-place : (labels : List Label) (p : Plan) (on : Chosen) (x : ℕ) (h : Bank) → Placed labels p on → in_bank on h x ≡ true → list_any (is_in_bank h) ((value_home p x).defined ∷ (value_home p x).copied) ≡ true
bank-place labels p on x h g e = ⊎_elim
    (λ (d : on (Def x h) ≡ true). or_left (is_in_bank h (value_home p x).defined) (list_any (is_in_bank h) (value_home p x).copied) (def-place labels p on x h g d))
    (λ (d : on (Fill x h) ≡ true). or_right (is_in_bank h (value_home p x).defined) (list_any (is_in_bank h) (value_home p x).copied) (fill-place labels p on x h g d))
    (or_cases (on (Def x h)) (on (Fill x h)) e)

-- a value in a bank is used, or isn't read
used-or : (labels : List Label) (p : Plan) (on : Chosen) (v : Value) (h : Bank) → Placed labels p on → In v (values labels) → in_bank on h v.var ≡ true → is_fetched v.origin ≡ true → is_used labels v.var ≡ true
used-or labels p on v h g i e f = ⊎_elim
    (λ (d : on (Def v.var h) ≡ true).
    let t = there labels on (Def v.var h) g.is.only d in
    let same : t.0 ≡ v = same-value (values labels) v t.0 (values-different labels g.form) i t.1 t.2 in
    absurd (false≢true (sym (subst (λ (z : Value). is_fetched z.origin ≡ false) same t.3) ∙ f)))
    (λ (d : on (Fill v.var h) ≡ true). (there labels on (Fill v.var h) g.is.only d).0)
    (or_cases (on (Def v.var h)) (on (Fill v.var h)) e)

homing-of : (labels : List Label) (p : Plan) (on : Chosen) (v : Value) (h : Bank) → Placed labels p on → In v (values labels) → in_bank on h v.var ≡ true → IsHoming p (value_home p v.var)
homing-of labels p on v h g i e = homing labels p v g.fits (housing labels p v g.fits i (used-or labels p on v h g i e))

two-most : (on : Chosen) (x : ℕ) (h : Bank) → (on (Def x h) ≡ true → on (Fill x h) ≡ true → ⊥) → count on (home x h) ≤ 1
two-most on x h n = by (on (Def x h)) (on (Fill x h)) n
  where
    by : (a b : Bool) → (a ≡ true → b ≡ true → ⊥) → cost_where a 1 + (cost_where b 1 + 0) ≤ 1
    by true true n = absurd (n refl refl)
    by true false n = omega arith
    by false true n = omega arith
    by false false n = omega arith

-- a value is in a bank once
once-in : (labels : List Label) (p : Plan) (on : Chosen) (v : Value) (h : Bank) → Placed labels p on → In v (values labels) → is_home_bank h ≡ true → count on (home v.var h) ≤ 1
once-in labels p on v h g i b = two-most on v.var h (λ d f.
    (homing-of labels p on v h g i (or_left (on (Def v.var h)) (on (Fill v.var h)) d)).elsewhere h b (def-place labels p on v.var h g d) (fill-place labels p on v.var h g f))

-- its place there
record PlaceIn (p : Plan) (x : ℕ) (h : Bank) : Type 0 where
  place_ : Place
  among : In place_ (general_places p x)
  bank : is_in_bank h place_ ≡ true
  general : IsGeneral p place_
  is_general_ : is_general place_ ≡ true
  number : bank_number h (general_places p x) ≡ place_number place_

place-in : (labels : List Label) (p : Plan) (on : Chosen) (v : Value) (h : Bank) → Placed labels p on → In v (values labels) → is_home_bank h ≡ true → in_bank on h v.var ≡ true → PlaceIn p v.var h
place-in labels p on v h g i b e =
    let it = value_home p v.var in
    let all : List Place = it.defined ∷ it.copied in
    let homed = homing-of labels p on v h g i e in
    let w = place-any h all (bank-place labels p on v.var h g e) in
    let gen = bank-general h w.0 b w.2 in
    let f = first-in h (general_places p v.var) (in-any-place (is_in_bank h) w.0 (general_places p v.var) (kept-in is_general w.0 all w.1 gen) w.2) in
    let k = in-kept is_general f.place_ all f.among in
    record { place_ = f.place_; among = f.among; bank = f.bank; general = homed.general f.place_ k.0 k.1; is_general_ = k.1; number = f.number }

-- ---- a point

counted : (on : Chosen) (h : Bank) (xs : List ℕ) → Each (λ x. count on (home x h) ≤ 1) xs → count on (live_in xs h) ≤ length (filter (in_bank on h) xs)
counted on h [] c = omega arith
counted on h (x ∷ xs) c = by (on (Def x h)) (on (Fill x h)) refl refl (counted on h xs c.1) c.0
  where
    by : (a b : Bool) → on (Def x h) ≡ a → on (Fill x h) ≡ b → count on (live_in xs h) ≤ length (filter (in_bank on h) xs) → count on (home x h) ≤ 1 → count on (live_in (x ∷ xs) h) ≤ length (filter (in_bank on h) (x ∷ xs))
    by true b e f ih l =
        let a = count-append on (home x h) (live_in xs h) in
        let k : length (filter (in_bank on h) (x ∷ xs)) ≡ suc (length (filter (in_bank on h) xs)) = ap (λ c. length (if c || on (Fill x h) then x ∷ filter (in_bank on h) xs else filter (in_bank on h) xs)) e in
        omega (arith, a, k, ih, l)
    by false true e f ih l =
        let a = count-append on (home x h) (live_in xs h) in
        let k : length (filter (in_bank on h) (x ∷ xs)) ≡ suc (length (filter (in_bank on h) xs)) = ap (λ c. length (if c || on (Fill x h) then x ∷ filter (in_bank on h) xs else filter (in_bank on h) xs)) e ∙ ap (λ c. length (if false || c then x ∷ filter (in_bank on h) xs else filter (in_bank on h) xs)) f in
        omega (arith, a, k, ih, l)
    by false false e f ih l =
        let a = count-append on (home x h) (live_in xs h) in
        let k : length (filter (in_bank on h) (x ∷ xs)) ≡ length (filter (in_bank on h) xs) = ap (λ c. length (if c || on (Fill x h) then x ∷ filter (in_bank on h) xs else filter (in_bank on h) xs)) e ∙ ap (λ c. length (if false || c then x ∷ filter (in_bank on h) xs else filter (in_bank on h) xs)) f in
        let m : count on (home x h) ≡ 0 = ap (λ c. cost_where c 1 + (cost_where (on (Fill x h)) 1 + 0)) e ∙ ap (λ c. 0 + (cost_where c 1 + 0)) f in
        omega (arith, a, k, m, ih)

-- the numbers of the live values in a bank
abbrev numbers_in : Plan → Chosen → Bank → List ℕ → List ℕ
numbers_in p on h xs = map (λ x. bank_number h (general_places p x)) (filter (in_bank on h) xs)

place-held : (labels : List Label) (p : Plan) (on : Chosen) (k : ℕ) (q : Point) (h : Bank) → Placed labels p on → slice_get (points labels) k ≡ Some q → is_home_bank h ≡ true → (x : ℕ) → In x (filter (in_bank on h) q.before) → PlaceIn p x h
place-held labels p on k q h g at b x i =
    let w = in-kept (in_bank on h) x q.before i in
    let v = held-value labels k q x g.form at (in-test x q.before w.0) in
    subst (λ y. PlaceIn p y h) v.2 (place-in labels p on v.0 h g v.1 b (subst (λ y. in_bank on h y ≡ true) (sym v.2) w.1))

numbers-apart : (labels : List Label) (p : Plan) (on : Chosen) (k : ℕ) (q : Point) (h : Bank) → Placed labels p on → slice_get (points labels) k ≡ Some q → is_home_bank h ≡ true → Pairs (λ i j. i ≢ j) (numbers_in p on h q.before)
numbers-apart labels p on k q h g at b =
    let xs = filter (in_bank on h) q.before in
    pairs-map (λ x. bank_number h (general_places p x)) (λ i j. i ≢ j) xs
    (pairs-different (λ x y. bank_number h (general_places p x) ≢ bank_number h (general_places p y)) xs (different-filter (in_bank on h) q.before (point-held labels k q g.form at).different) (λ x y i j n e.
    let a = place-held labels p on k q h g at b x i in
    let c = place-held labels p on k q h g at b y j in
    let same = general-same h p a.place_ c.place_ a.general a.bank c.bank in
    let number : place_number a.place_ ≡ place_number c.place_ = sym a.number ∙ e ∙ c.number in
    let s = (in-kept (in_bank on h) x q.before i).0 in
    let t = (in-kept (in_bank on h) y q.before j).0 in
    shared (general_places p x) (general_places p y) a.place_ c.place_
    ((g.fits.points k q at).held.general x y (in-test x q.before s) (in-test y q.before t) n) a.among c.among
    (one-place a.place_ c.place_ a.is_general_ same number)))

numbers-below : (labels : List Label) (p : Plan) (on : Chosen) (k : ℕ) (q : Point) (h : Bank) → Placed labels p on → slice_get (points labels) k ≡ Some q → is_home_bank h ≡ true → Each (λ n. n < room p.slots h) (numbers_in p on h q.before)
numbers-below labels p on k q h g at b =
    let xs = filter (in_bank on h) q.before in
    mapped-each (λ n. n < room p.slots h) (λ x. bank_number h (general_places p x)) xs (each-from (λ x. bank_number h (general_places p x) < room p.slots h) xs (λ x i.
    let a = place-held labels p on k q h g at b x i in
    let l = number-below h p a.place_ a.general b a.bank in
    let e = a.number in
    omega (arith, l, e)))

room-at : (labels : List Label) (p : Plan) (on : Chosen) (k : ℕ) (q : Point) (h : Bank) → Placed labels p on → slice_get (points labels) k ≡ Some q → is_home_bank h ≡ true → count on (live_in q.before h) ≤ room p.slots h
room-at labels p on k q h g at b =
    let once = counted on h q.before (each-from (λ x. count on (home x h) ≤ 1) q.before (λ x i.
    let v = held-value labels k q x g.form at (in-test x q.before i) in
    subst (λ y. count on (home y h) ≤ 1) v.2 (once-in labels p on v.0 h g v.1 b))) in
    let most = few (room p.slots h) (numbers_in p on h q.before) (numbers-apart labels p on k q h g at b) (numbers-below labels p on k q h g at b) in
    let same = length-map (filter (in_bank on h) q.before) (λ x. bank_number h (general_places p x)) in
    omega (arith, once, most, same)

pub capacity-holds : (labels : List Label) (p : Plan) (on : Chosen) → single labels ≡ true → Fits labels p → IsChosen labels p on → Each (Holds on) (capacity labels p.slots)
capacity-holds labels p on s f c =
    let g : Placed labels p on = record { form = s; fits = f; is = c } in
    points-each (Holds on) (λ k (q : Point). room_lines p.slots q.before) 0 (points labels) (λ i k q e at.
    let there : slice_get (points labels) k ≡ Some q = subst (λ n. slice_get (points labels) n ≡ Some q) (let n : i ≡ k = omega (arith, e) in n) at in (
      most-holds on 15 (live_in q.before A) (room-at labels p on k q A g there refl),
      (
        most-holds on 15 (live_in q.before B) (room-at labels p on k q B g there refl),
        (most-holds on p.slots (live_in q.before M) (room-at labels p on k q M g there refl), tt),
      ),
    ))
