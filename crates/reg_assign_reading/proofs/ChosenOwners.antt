-- Each transfer register belongs to one: the columns of a placement that fits take none twice.
use Rattle.std.proofs.Common.{◌≡◌, ◌≢◌, ℕ, zero, suc, ◌+◌, ◌-◌, ◌<◌, ◌≤◌, nat_eq, nat_lt, nat_le, Bool, true, false, not, ◌&&◌, if◌then◌else◌, ◌⊎◌, inl, inr, ⊎_elim, Option, Some, None, List, [], ◌∷◌, ◌++◌, map, filter, refl, sym, ap, subst, ◌∙◌, arith}
use Rattle.std.specs.Prelude.{slice_get}
use Rattle.std.specs.List.{flat_map, list_any}
use Rattle.std.proofs.lemmas.Bool.{false≢true, and_parts, and_from, or_left, or_right, cases_lt, ltb-true, leb-true}
use Rattle.std.proofs.lemmas.List.Elements.{All-contains}
use Rattle.nv_base.specs.Sets.{is_in, without, all_different}
use Rattle.nv_base.proofs.Sets.{same-number}
use Rattle.nv_base.specs.declared.term.Mem.{Mem}
use Rattle.nv_base.specs.declared.term.Mem.TheVariants.{Sram, Sdram, Scratch}
use Rattle.ssu_ir.specs.Tree.{Label, Lit, Una, Bin, Clone, Read, Write, Does, Forks, Ends}
use Rattle.ssu_ir.specs.Points.{PointKind as Spot, Entry, At, Point, points}
use Rattle.ssu_ir.specs.Points as pure
use Rattle.ssu_ir.specs.Single.{single}
use Rattle.place_plan.specs.declared.place.Place.{Place}
use Rattle.place_plan.specs.declared.place.Place.TheVariants as place
use Rattle.place_plan.specs.Places.{same_place}
use Rattle.place_plan.specs.Plan.{Plan, home, first, pass}
use Rattle.place_plan.specs.Uses.{Access, reads_at, writes_at, ValueOrigin, Parameter, Result, Fetched, Value, values, place_values, Role, Operand, Address, Written, Argument, Ending, Use, uses, is_used}
use Rattle.place_plan.specs.Fits.{read_place, write_place, is_early, word_register, stays, kept_register, read_places, has_place, none_shared, maybe, same_use, run_of, point_values, Waits, KeepsRead, IsHome, IsHoused, Fits}
use Rattle.place_plan.proofs.Fitting.{apart-from, vars-of-place}
use Rattle.ssu_liveness.proofs.Scoped.{in-itself, in-either, different-filter, different-without}
use Rattle.place_plan.proofs.Sound.{Each, each-append}
use Rattle.place_plan.proofs.Spilled.{Apart}
use Rattle.place_plan.proofs.Joined.{values-different}
use Rattle.bank_prog_form.specs.declared.column.Column.{Column}
use Rattle.bank_prog_form.specs.declared.column.Column.TheVariants.{DirectWrite, Stay, EarlyWrite, First, ReadVia, WriteVia}
use Rattle.bank_prog_form.specs.Columns.{each_point, origin_of, eight}
use Rattle.bank_prog_form.specs.Rows.{Line, at_most, is_sdram, same_side, run_at, origin_stays, stays_at, role_early, early_at, covering, side_covering, waiting, read_owners, access_owners, fill_owners, side_owners, write_owners, owners}
use Rattle.bank_prog.specs.Meaning.{Chosen, Holds}
use Rattle.bank_prog_rows.proofs.PlainLines.{mapped-each, each-kept, Pairs}
use Rattle.reg_assign_reading.specs.inner.Facts.{count, waits_at}
use Rattle.reg_assign_reading.specs.inner.Chosen.{names, value_at, waits, goes_there, use_at, IsChosen}
use Rattle.reg_assign_reading.proofs.Counts.{In, contained-in, count-append, counted-some, some-counted, in-either as in-parts, in-flat, in-map, in-kept, in-if, each-in, each-from}
use Rattle.reg_assign_reading.proofs.FactsThere.{there}
use Rattle.reg_assign_reading.proofs.FactsValues.{origin-found, on-one}
use Rattle.reg_assign_reading.proofs.FactsPoints.{in-is}
use Rattle.reg_assign_reading.proofs.ChosenHolds.{most-holds, flat-each, points-each, in-test, pairs-different, most-one, both-most, only-most, one-most, counted-one}
use Rattle.reg_assign_reading.proofs.ChosenForm.{Placed, chosen-on, value-there, point-held, word-is, shared}
use Rattle.reg_assign_reading.proofs.ChosenAfter.{after-different}
use Rattle.reg_assign_reading.proofs.FitWaiting.{same-itself}

-- ---- numbers and sides

run-in : (r i f : ℕ) → In f (run_at r i) → r ≡ f + i
run-in r i f h = by (nat_le i r) refl h
  where
    by : (b : Bool) → nat_le i r ≡ b → In f (if b then (r - i) ∷ [] else []) → r ≡ f + i
    by true e j = let l = leb-true i r e in ⊎_elim (λ (s : r - i ≡ f). omega (arith, l, s)) (λ z. absurd z) j
    by false e j = absurd j

run-most : (on : Chosen) (c : ℕ → Column) (r i : ℕ) → count on (map c (run_at r i)) ≤ 1
run-most on c r i = by (nat_le i r)
  where
    by : (b : Bool) → count on (map c (if b then (r - i) ∷ [] else [])) ≤ 1
    by true = one-most on (c (r - i))
    by false = omega arith

if-most : (on : Chosen) (b : Bool) (cs : List Column) → count on cs ≤ 1 → count on (if b then cs else []) ≤ 1
if-most on true cs h = h
if-most on false cs h = omega arith

side-of : (b d : Bool) → same_side b d ≡ true → d ≡ b
side-of true true e = refl
side-of true false e = absurd (false≢true e)
side-of false true e = absurd (false≢true e)
side-of false false e = refl

read-same : (m n : Mem) (r : ℕ) → is_sdram m ≡ is_sdram n → same_place (read_place m r) (read_place n r) ≡ true
read-same Sram Sram r e = in-itself r
read-same Sram Sdram r e = absurd (false≢true e)
read-same Sram Scratch r e = in-itself r
read-same Sdram Sram r e = absurd (false≢true (sym e))
read-same Sdram Sdram r e = in-itself r
read-same Sdram Scratch r e = absurd (false≢true (sym e))
read-same Scratch Sram r e = in-itself r
read-same Scratch Sdram r e = absurd (false≢true e)
read-same Scratch Scratch r e = in-itself r

write-same : (m n : Mem) (r : ℕ) → is_sdram m ≡ is_sdram n → write_place m r ≡ write_place n r
write-same Sram Sram r e = refl
write-same Sram Sdram r e = absurd (false≢true e)
write-same Sram Scratch r e = refl
write-same Sdram Sram r e = absurd (false≢true (sym e))
write-same Sdram Sdram r e = refl
write-same Sdram Scratch r e = absurd (false≢true (sym e))
write-same Scratch Sram r e = refl
write-same Scratch Sdram r e = absurd (false≢true e)
write-same Scratch Scratch r e = refl

run-has : (place : ℕ → Place) (f n r : ℕ) → f ≤ r → r < f + n → In (place r) (run_of place f n)
run-has place f zero r l h = absurd (omega (arith, l, h))
run-has place f (suc n) r l h = ⊎_elim
    (λ (a : f < r). inr (run-has place (suc f) n r (omega (arith, a)) (omega (arith, h))))
    (λ (a : r ≤ f). inl (ap place (omega (arith, a, l))))
    (cases_lt f r)

place-there : (w q : Place) (qs : List Place) → In q qs → same_place w q ≡ true → has_place w qs ≡ true
place-there w q [] i e = absurd i
place-there w q (r ∷ qs) i e = ⊎_elim
    (λ (a : r ≡ q). or_left (same_place w r) (has_place w qs) (subst (λ z. same_place w z ≡ true) (sym a) e))
    (λ (j : In q qs). or_right (same_place w r) (has_place w qs) (place-there w q qs j e))
    i

named : (o : Option ℕ) (r : ℕ) → names o r ≡ true → o ≡ Some r
named (Some n) r e = ap Some (same-number n r e)
named None r e = absurd (false≢true e)

-- ---- values that stay in read registers

record StaysAt (labels : List Label) (p : Plan) (x : ℕ) (sdram : Bool) (r : ℕ) : Type 0 where
  stays_ : stays labels p x ≡ true
  mem : Mem
  side : is_sdram mem ≡ sdram
  is : (home p x).defined ≡ read_place mem r

stay-at : (labels : List Label) (p : Plan) (on : Chosen) (x : ℕ) (m : Mem) (i f : ℕ) (sdram : Bool) (r : ℕ) → Placed labels p on → origin_of labels x ≡ Fetched m i → on (Stay x f) ≡ true → r ≡ f + i → is_sdram m ≡ sdram → StaysAt labels p x sdram r
stay-at labels p on x m i f sdram r g s e n d =
    let t = there labels on (Stay x f) g.is.only e in
    let at = t.0 in
    let v = at.value in
    let w = and_parts (nat_eq (first p (value_at labels x).point) f) (stays labels p x) (chosen-on labels p on g (Stay x f) e) in
    let same : value_at labels x ≡ v = ap (value_at labels) (sym at.var) ∙ value-there labels v g.form at.there in
    let begins : first p v.point ≡ f = ap (λ (z : Value). first p z.point) (sym same) ∙ same-number (first p (value_at labels x).point) f w.0 in
    let origin : v.origin ≡ Fetched m i = sym (origin-found (values labels) v (values-different labels g.form) at.there) ∙ ap (origin_of labels) at.var ∙ s in
    let used : is_used labels v.var ≡ true = subst (λ y. is_used labels y ≡ true) (sym at.var) t.1 in
    let housed = subst (λ z. IsHome labels p v (home p v.var) z) origin (All-contains (IsHoused labels p) (values labels) v g.fits.values (contained-in v (values labels) at.there)) in
    record {
      stays_ = w.1;
      mem = m;
      side = d;
      is = ap (λ y. (home p y).defined) (sym at.var) ∙ (housed used).0 ∙ ap (λ z. read_place m (z + i)) begins ∙ ap (read_place m) (sym n);
    }

stay-counts : (labels : List Label) (p : Plan) (on : Chosen) (x : ℕ) (sdram : Bool) (r : ℕ) (s : ValueOrigin) → Placed labels p on → origin_of labels x ≡ s → 1 ≤ count on (origin_stays sdram r x s) → StaysAt labels p x sdram r
stay-counts labels p on x sdram r (Parameter l i) g e h = absurd (omega (arith, h))
stay-counts labels p on x sdram r Result g e h = absurd (omega (arith, h))
stay-counts labels p on x sdram r (Fetched m i) g e h =
    let w = counted-some on (origin_stays sdram r x (Fetched m i)) h in
    let a = in-if w.0 (same_side sdram (is_sdram m)) (map (Stay x) (run_at r i)) w.1 in
    let b = in-map w.0 (Stay x) (run_at r i) a.1 in
    stay-at labels p on x m i b.0 sdram r g e (ap on b.2 ∙ w.2) (run-in r i b.0 b.1) (side-of sdram (is_sdram m) a.0)

stay-most : (on : Chosen) (x : ℕ) (sdram : Bool) (r : ℕ) (s : ValueOrigin) → count on (origin_stays sdram r x s) ≤ 1
stay-most on x sdram r (Parameter l i) = omega arith
stay-most on x sdram r Result = omega arith
stay-most on x sdram r (Fetched m i) = if-most on (same_side sdram (is_sdram m)) (map (Stay x) (run_at r i)) (run-most on (Stay x) r i)

places-are : (labels : List Label) (p : Plan) (x : ℕ) (sdram : Bool) (r : ℕ) → (s : StaysAt labels p x sdram r) → read_places labels p x ≡ read_place s.mem r ∷ []
places-are labels p x sdram r s = ap (kept_register labels p x) s.stays_ ∙ ap (λ q. q ∷ []) s.is

in-places : (labels : List Label) (p : Plan) (x : ℕ) (sdram : Bool) (r : ℕ) → (s : StaysAt labels p x sdram r) → In (read_place s.mem r) (read_places labels p x)
in-places labels p x sdram r s = subst (In (read_place s.mem r)) (sym (places-are labels p x sdram r s)) (inl refl)

-- values of which no two share a read register
abbrev SpareEach : List Label → Plan → List ℕ → Type 0
SpareEach labels p xs = (x y : ℕ) → In x xs → In y xs → x ≢ y → none_shared (read_places labels p x) (read_places labels p y) ≡ true

stays-most : (labels : List Label) (p : Plan) (on : Chosen) (sdram : Bool) (r : ℕ) (xs : List ℕ) → Placed labels p on → all_different xs ≡ true → SpareEach labels p xs → count on (stays_at labels sdram r xs) ≤ 1
stays-most labels p on sdram r xs g d h =
    let f : ℕ → List Column = λ x. origin_stays sdram r x (origin_of labels x) in
    most-one on f xs (each-from (λ x. count on (f x) ≤ 1) xs (λ x i. stay-most on x sdram r (origin_of labels x)))
    (pairs-different (λ x y. 1 ≤ count on (f x) → 1 ≤ count on (f y) → ⊥) xs d (λ x y i j n a b.
    let s = stay-counts labels p on x sdram r (origin_of labels x) g refl a in
    let t = stay-counts labels p on y sdram r (origin_of labels y) g refl b in
    shared (read_places labels p x) (read_places labels p y) (read_place s.mem r) (read_place t.mem r) (h x y i j n)
    (in-places labels p x sdram r s) (in-places labels p y sdram r t) (read-same s.mem t.mem r (s.side ∙ sym t.side))))

some-stays : (labels : List Label) (p : Plan) (on : Chosen) (sdram : Bool) (r : ℕ) (xs : List ℕ) → Placed labels p on → 1 ≤ count on (stays_at labels sdram r xs) → (x : ℕ) × In x xs × StaysAt labels p x sdram r
some-stays labels p on sdram r xs g h =
    let f : ℕ → List Column = λ x. origin_stays sdram r x (origin_of labels x) in
    let w = counted-some on (stays_at labels sdram r xs) h in
    let m = in-flat w.0 f xs w.1 in
    (m.0, m.1, stay-counts labels p on m.0 sdram r (origin_of labels m.0) g refl (some-counted on w.0 (f m.0) m.2 w.2))

-- ---- a point

abbrev IsThere : List Label → ℕ → Point → Type 0
IsThere labels k q = slice_get (points labels) k ≡ Some q

held-spare : (labels : List Label) (p : Plan) (on : Chosen) (k : ℕ) (q : Point) → Placed labels p on → IsThere labels k q → SpareEach labels p q.before
held-spare labels p on k q g at x y i j n = (g.fits.points k q at).held.read x y (in-test x q.before i) (in-test y q.before j) n

before-most : (labels : List Label) (p : Plan) (on : Chosen) (k : ℕ) (q : Point) (sdram : Bool) (r : ℕ) → Placed labels p on → IsThere labels k q → count on (stays_at labels sdram r q.before) ≤ 1
before-most labels p on k q sdram r g at = stays-most labels p on sdram r q.before g (point-held labels k q g.form at).different (held-spare labels p on k q g at)

pass-read : (labels : List Label) (p : Plan) (on : Chosen) (k : ℕ) (q : Point) (r : ℕ) → Placed labels p on → IsThere labels k q → count on (stays_at labels false r q.before ++ ReadVia k r ∷ []) ≤ 1
pass-read labels p on k q r g at =
    both-most on (stays_at labels false r q.before) (ReadVia k r ∷ []) (before-most labels p on k q false r g at) (one-most on (ReadVia k r)) (λ a b.
    let s = some-stays labels p on false r q.before g a in
    let l : (pass p k).l ≡ Some r = named (pass p k).l r (chosen-on labels p on g (ReadVia k r) (on-one on (ReadVia k r) b)) in
    let apart = (g.fits.points k q at).held.read_through s.0 (in-test s.0 q.before s.1) in
    shared (maybe place.L (pass p k).l) (read_places labels p s.0) (place.L r) (read_place s.2.mem r) apart
    (subst (λ o. In (place.L r) (maybe place.L o)) (sym l) (inl refl)) (in-places labels p s.0 false r s.2) (read-same Sram s.2.mem r (sym s.2.side)))

read-owners : (labels : List Label) (p : Plan) (on : Chosen) (k : ℕ) (q : Point) → Placed labels p on → IsThere labels k q → Each (Holds on) (read_owners labels k q)
read-owners labels p on k q g at =
    let f : ℕ → Line = λ r. at_most 1 (stays_at labels false r q.before ++ ReadVia k r ∷ []) in
    let h : ℕ → Line = λ r. at_most 1 (stays_at labels true r q.before) in
    each-append (Holds on) (map f eight) (map h eight)
    (mapped-each (Holds on) f eight (each-from (λ r. Holds on (f r)) eight (λ r i. most-holds on 1 (stays_at labels false r q.before ++ ReadVia k r ∷ []) (pass-read labels p on k q r g at))))
    (mapped-each (Holds on) h eight (each-from (λ r. Holds on (h r)) eight (λ r i. most-holds on 1 (stays_at labels true r q.before) (before-most labels p on k q true r g at))))

-- ---- runs

-- the run of an access has this register
record RunsOver (p : Plan) (a : Access) (r : ℕ) : Type 0 where
  low : first p a.point ≤ r
  high : r < first p a.point + a.words

covering-most : (labels : List Label) (p : Plan) (on : Chosen) (a : Access) (r : ℕ) → Placed labels p on → count on (covering r a) ≤ 1
covering-most labels p on a r g =
    only-most on (First a.point) (first p a.point) (filter (λ f. nat_le f r && nat_lt r (f + a.words)) eight)
    (λ f e. sym (same-number (first p a.point) f (chosen-on labels p on g (First a.point f) e)))
    (different-filter (λ f. nat_le f r && nat_lt r (f + a.words)) eight refl)

covering-runs : (labels : List Label) (p : Plan) (on : Chosen) (a : Access) (r : ℕ) → Placed labels p on → 1 ≤ count on (covering r a) → RunsOver p a r
covering-runs labels p on a r g h =
    let w = counted-one on (First a.point) (filter (λ f. nat_le f r && nat_lt r (f + a.words)) eight) h in
    let k = in-kept (λ f. nat_le f r && nat_lt r (f + a.words)) w.0 eight w.1 in
    let t = and_parts (nat_le w.0 r) (nat_lt r (w.0 + a.words)) k.1 in
    let e = same-number (first p a.point) w.0 (chosen-on labels p on g (First a.point w.0) w.2) in
    let l = leb-true w.0 r t.0 in
    let m = ltb-true r (w.0 + a.words) t.1 in
    record { low = omega (arith, e, l); high = omega (arith, e, m) }

in-run : (p : Plan) (a : Access) (r : ℕ) (place : ℕ → Place) → RunsOver p a r → In (place r) (run_of place (first p a.point) a.words)
in-run p a r place c = run-has place (first p a.point) a.words r c.low c.high

-- ---- registers that a read fills

without-in : (x : ℕ) (xs gone : List ℕ) → In x (without xs gone) → In x xs × (is_in x gone ≡ false)
without-in x [] gone i = absurd i
without-in x (y ∷ ys) gone i = by (is_in y gone) refl i (λ j. without-in x ys gone j)
  where
    by : (b : Bool) → is_in y gone ≡ b → In x (if b then without ys gone else y ∷ without ys gone) → (In x (without ys gone) → In x ys × (is_in x gone ≡ false)) → In x (y ∷ ys) × (is_in x gone ≡ false)
    by true e j f = let w = f j in (inr w.0, w.1)
    by false e j f = ⊎_elim
        (λ (s : y ≡ x). (inl s, subst (λ n. is_in n gone ≡ false) s e))
        (λ (k : In x (without ys gone)). let w = f k in (inr w.0, w.1))
        j

-- what is held after a point and isn't defined there is live at it
after-before : (labels : List Label) (k : ℕ) (q : Point) (x : ℕ) → single labels ≡ true → IsThere labels k q → In x (without q.after (point_values k q)) → (is_in x q.after ≡ true) × (is_in x (point_values k q) ≡ false) × In x q.before
after-before labels k q x s at i =
    let w = without-in x q.after (point_values k q) i in
    let a = in-test x q.after w.0 in
    let b : is_in x q.before ≡ true = ⊎_elim
    (λ (e : is_in x q.before ≡ true). e)
    (λ (e : is_in x (pure.place_values q.place) ≡ true). absurd (false≢true (sym w.1 ∙ ap (λ l. is_in x l) (vars-of-place k q.place) ∙ e)))
    (in-either x q.before (pure.place_values q.place) ((point-held labels k q s at).later x a)) in
    (a, w.1, in-is x q.before b)

fill-line : (labels : List Label) (p : Plan) (on : Chosen) (k : ℕ) (q : Point) (a : Access) (r : ℕ) → Placed labels p on → IsThere labels k q → In a (reads_at k q.place)
    → count on (stays_at labels (is_sdram a.mem) r (without q.after (point_values k q)) ++ covering r a) ≤ 1
fill-line labels p on k q a r g at i =
    let xs = without q.after (point_values k q) in
    let d = is_sdram a.mem in
    both-most on (stays_at labels d r xs) (covering r a)
    (stays-most labels p on d r xs g (different-without q.after (point_values k q) (after-different labels k q a g.form at i)) (λ x y j l n.
    held-spare labels p on k q g at x y (after-before labels k q x g.form at j).2 (after-before labels k q y g.form at l).2 n))
    (covering-most labels p on a r g) (λ h c.
    let s = some-stays labels p on d r xs g h in
    let w = after-before labels k q s.0 g.form at s.1 in
    let runs = covering-runs labels p on a r g c in
    let out : is_in s.0 (point_values a.point q) ≡ false = ap (λ l. is_in s.0 l) (vars-of-place a.point q.place) ∙ ap (λ l. is_in s.0 l) (sym (vars-of-place k q.place)) ∙ w.1 in
    let spare = All-contains (KeepsRead labels p q) (reads_at k q.place) a (g.fits.points k q at).reads (contained-in a (reads_at k q.place) i) s.0 w.0 out in
    shared (run_of (read_place a.mem) (first p a.point) a.words) (read_places labels p s.0) (read_place a.mem r) (read_place s.2.mem r) spare
    (in-run p a r (read_place a.mem) runs) (in-places labels p s.0 d r s.2) (read-same a.mem s.2.mem r (sym s.2.side)))

fill-owners : (labels : List Label) (p : Plan) (on : Chosen) (k : ℕ) (q : Point) → Placed labels p on → IsThere labels k q → Each (Holds on) (fill_owners labels k q)
fill-owners labels p on k q g at =
    let xs = without q.after (point_values k q) in
    flat-each (Holds on) (access_owners labels xs) (reads_at k q.place) (each-from (λ a. Each (Holds on) (access_owners labels xs a)) (reads_at k q.place) (λ a i.
    let f : ℕ → Line = λ r. at_most 1 (stays_at labels (is_sdram a.mem) r xs ++ covering r a) in
    mapped-each (Holds on) f eight (each-from (λ r. Holds on (f r)) eight (λ r j. most-holds on 1 (stays_at labels (is_sdram a.mem) r xs ++ covering r a) (fill-line labels p on k q a r g at i)))))

-- ---- words that wait in write registers

record WaitsAt (p : Plan) (u : Use) (sdram : Bool) (r : ℕ) : Type 0 where
  early : is_early p u ≡ true
  mem : Mem
  side : is_sdram mem ≡ sdram
  is : word_register p u ≡ write_place mem r

wait-at : (p : Plan) (u : Use) (m : Mem) (j f : ℕ) (sdram : Bool) (r : ℕ) (b : Bool) → u.role ≡ Written m j → (nat_eq (first p u.point) f && (waits p u.point u.operand && b)) ≡ true → r ≡ f + j → is_sdram m ≡ sdram → WaitsAt p u sdram r
wait-at p u m j f sdram r b e c n d =
    let w = and_parts (nat_eq (first p u.point) f) (waits p u.point u.operand && b) c in
    let v = and_parts (waits p u.point u.operand) b w.1 in
    let begins = same-number (first p u.point) f w.0 in
    record { early = v.0; mem = m; side = d; is = word-is p u m j e ∙ ap (λ z. write_place m (z + j)) begins ∙ ap (write_place m) (sym n) }

wait-counts : (labels : List Label) (p : Plan) (on : Chosen) (u : Use) (sdram : Bool) (r : ℕ) (s : Role) → Placed labels p on → u.role ≡ s → 1 ≤ count on (role_early sdram r u.point u.operand s) → WaitsAt p u sdram r
wait-counts labels p on u sdram r Operand g e h = absurd (omega (arith, h))
wait-counts labels p on u sdram r Address g e h = absurd (omega (arith, h))
wait-counts labels p on u sdram r (Argument l i) g e h = absurd (omega (arith, h))
wait-counts labels p on u sdram r (Ending i) g e h = absurd (omega (arith, h))
wait-counts labels p on u sdram r (Written m j) g e h =
    let k = u.point in
    let i = u.operand in
    let run = run_at r j in
    let w = counted-some on (role_early sdram r k i (Written m j)) h in
    let a = in-if w.0 (same_side sdram (is_sdram m)) (map (DirectWrite k i) run ++ map (EarlyWrite k i) run) w.1 in
    let d = side-of sdram (is_sdram m) a.0 in
    ⊎_elim
    (λ (b : In w.0 (map (DirectWrite k i) run)).
    let c = in-map w.0 (DirectWrite k i) run b in
    wait-at p u m j c.0 sdram r (goes_there p (use_at labels k i).value) e (chosen-on labels p on g (DirectWrite k i c.0) (ap on c.2 ∙ w.2)) (run-in r j c.0 c.1) d)
    (λ (b : In w.0 (map (EarlyWrite k i) run)).
    let c = in-map w.0 (EarlyWrite k i) run b in
    wait-at p u m j c.0 sdram r (not (goes_there p (use_at labels k i).value)) e (chosen-on labels p on g (EarlyWrite k i c.0) (ap on c.2 ∙ w.2)) (run-in r j c.0 c.1) d)
    (in-parts w.0 (map (DirectWrite k i) run) (map (EarlyWrite k i) run) a.1)

either-way : (a b c d : Bool) → (a && (b && d)) ≡ true → (c && (b && not d)) ≡ true → ⊥
either-way a b c true e f = let v = and_parts b false (and_parts c (b && false) f).1 in false≢true v.1
either-way a b c false e f = let v = and_parts b false (and_parts a (b && false) e).1 in false≢true v.1

wait-most : (labels : List Label) (p : Plan) (on : Chosen) (u : Use) (sdram : Bool) (r : ℕ) (s : Role) → Placed labels p on → count on (role_early sdram r u.point u.operand s) ≤ 1
wait-most labels p on u sdram r Operand g = omega arith
wait-most labels p on u sdram r Address g = omega arith
wait-most labels p on u sdram r (Argument l i) g = omega arith
wait-most labels p on u sdram r (Ending i) g = omega arith
wait-most labels p on u sdram r (Written m j) g =
    let k = u.point in
    let i = u.operand in
    let run = run_at r j in
    if-most on (same_side sdram (is_sdram m)) (map (DirectWrite k i) run ++ map (EarlyWrite k i) run)
    (both-most on (map (DirectWrite k i) run) (map (EarlyWrite k i) run) (run-most on (DirectWrite k i) r j) (run-most on (EarlyWrite k i) r j) (λ a b.
    let v = counted-one on (DirectWrite k i) run a in
    let w = counted-one on (EarlyWrite k i) run b in
    either-way (nat_eq (first p k) v.0) (waits p k i) (nat_eq (first p k) w.0) (goes_there p (use_at labels k i).value)
    (chosen-on labels p on g (DirectWrite k i v.0) v.2) (chosen-on labels p on g (EarlyWrite k i w.0) w.2)))

-- a use's place in the list
in-at : (u : Use) (us : List Use) → In u us → (i : ℕ) × (slice_get us i ≡ Some u)
in-at u [] i = absurd i
in-at u (w ∷ us) i = ⊎_elim
    (λ (e : w ≡ u). (zero, ap Some e))
    (λ (j : In u us). let a = in-at u us j in (suc a.0, a.1))
    i

waits-there : (labels : List Label) (p : Plan) (k : ℕ) (q : Point) (u : Use) (sdram : Bool) (r : ℕ) → In u (waiting labels k q) → WaitsAt p u sdram r → Waits labels p k q u
waits-there labels p k q u sdram r i w =
    let m = in-kept (waits_at k q) u (uses labels) i in
    record { there = in-at u (uses labels) m.0; waiting = and_from (is_early p u) (waits_at k q u) w.early m.1 }

apart-filtered : (f : Use → Bool) (us : List Use) → Apart us → Apart (filter f us)
apart-filtered f [] h = tt
apart-filtered f (u ∷ us) h = by (f u) (apart-filtered f us h.1)
  where
    by : (b : Bool) → Apart (filter f us) → Apart (if b then u ∷ filter f us else filter f us)
    by true r = (each-kept (λ v. same_use u v ≡ false) f us h.0, r)
    by false r = r

pairs-apart : (R : Use → Use → Type 0) (us : List Use) → Apart us → ((u v : Use) → In u us → In v us → same_use u v ≡ false → R u v) → Pairs R us
pairs-apart R [] d h = tt
pairs-apart R (u ∷ us) d h = (each-from (R u) us (λ v j. h u v (inl refl) (inr j) (each-in (λ v. same_use u v ≡ false) v us d.0 j)), pairs-apart R us d.1 (λ v w i j e. h v w (inr i) (inr j) e))

abbrev early_of : Bool → ℕ → Use → List Column
early_of sdram r u = role_early sdram r u.point u.operand u.role

waiting-most : (labels : List Label) (p : Plan) (on : Chosen) (k : ℕ) (q : Point) (sdram : Bool) (r : ℕ) → Placed labels p on → IsThere labels k q → count on (early_at sdram r (waiting labels k q)) ≤ 1
waiting-most labels p on k q sdram r g at =
    let us = waiting labels k q in
    most-one on (early_of sdram r) us (each-from (λ u. count on (early_of sdram r u) ≤ 1) us (λ u i. wait-most labels p on u sdram r u.role g))
    (pairs-apart (λ u v. 1 ≤ count on (early_of sdram r u) → 1 ≤ count on (early_of sdram r v) → ⊥) us (apart-filtered (waits_at k q) (uses labels) (apart-from 0 (points labels))) (λ u v i j e a b.
    let s = wait-counts labels p on u sdram r u.role g refl a in
    let t = wait-counts labels p on v sdram r v.role g refl b in
    (g.fits.points k q at).waiting.apart u v (waits-there labels p k q u sdram r i s) (waits-there labels p k q v sdram r j t) e
    (s.is ∙ write-same s.mem t.mem r (s.side ∙ sym t.side) ∙ sym t.is)))

some-waits : (labels : List Label) (p : Plan) (on : Chosen) (k : ℕ) (q : Point) (sdram : Bool) (r : ℕ) → Placed labels p on → 1 ≤ count on (early_at sdram r (waiting labels k q)) → (u : Use) × In u (waiting labels k q) × WaitsAt p u sdram r
some-waits labels p on k q sdram r g h =
    let us = waiting labels k q in
    let w = counted-some on (early_at sdram r us) h in
    let m = in-flat w.0 (early_of sdram r) us w.1 in
    (m.0, m.1, wait-counts labels p on m.0 sdram r m.0.role g refl (some-counted on w.0 (early_of sdram r m.0) m.2 w.2))

-- ---- the write at a point

-- a point writes nothing, or has one write and defines nothing
data Writing (k : ℕ) (q : Spot) : Type 0 where
  writes_none : writes_at k q ≡ [] → Writing k q
  writes_one : (a : Access) → writes_at k q ≡ a ∷ [] → a.point ≡ k → place_values k q ≡ [] → Writing k q

writing : (k : ℕ) (q : Spot) → Writing k q
writing k (Entry l ps) = writes_none refl
writing k (At (Does (Lit x v))) = writes_none refl
writing k (At (Does (Una x op y))) = writes_none refl
writing k (At (Does (Bin x op y z))) = writes_none refl
writing k (At (Does (Clone xs y))) = writes_none refl
writing k (At (Does (Read m xs y))) = writes_none refl
writing k (At (Does (Write m y xs))) = writes_one _ refl refl refl
writing k (At (Forks c x y)) = writes_none refl
writing k (At (Ends l)) = writes_none refl

abbrev written_at : Bool → ℕ → ℕ → Spot → List Column
written_at sdram r k q = flat_map (side_covering sdram r) (writes_at k q)

-- the write whose run has this register
record WritesOver (p : Plan) (sdram : Bool) (k : ℕ) (q : Spot) (r : ℕ) : Type 0 where
  access : Access
  among : In access (writes_at k q)
  point : access.point ≡ k
  side : is_sdram access.mem ≡ sdram
  runs : RunsOver p access r
  nothing : place_values k q ≡ []

side-most : (labels : List Label) (p : Plan) (on : Chosen) (sdram : Bool) (r : ℕ) (a : Access) → Placed labels p on → count on (side_covering sdram r a) ≤ 1
side-most labels p on sdram r a g = if-most on (same_side sdram (is_sdram a.mem)) (covering r a) (covering-most labels p on a r g)

written-most : (labels : List Label) (p : Plan) (on : Chosen) (sdram : Bool) (r k : ℕ) (q : Spot) → Placed labels p on → Writing k q → count on (written_at sdram r k q) ≤ 1
written-most labels p on sdram r k q g (writes_none e) = let s = ap (λ as'. count on (flat_map (side_covering sdram r) as')) e in omega (arith, s)
written-most labels p on sdram r k q g (writes_one a e n v) =
    let s = ap (λ as'. count on (flat_map (side_covering sdram r) as')) e in
    let t = count-append on (side_covering sdram r a) [] in
    let l = side-most labels p on sdram r a g in
    omega (arith, s, t, l)

side-runs : (labels : List Label) (p : Plan) (on : Chosen) (sdram : Bool) (r : ℕ) (a : Access) → Placed labels p on → 1 ≤ count on (side_covering sdram r a) → (is_sdram a.mem ≡ sdram) × RunsOver p a r
side-runs labels p on sdram r a g h = by (same_side sdram (is_sdram a.mem)) refl h
  where
    by : (b : Bool) → same_side sdram (is_sdram a.mem) ≡ b → 1 ≤ count on (if b then covering r a else []) → (is_sdram a.mem ≡ sdram) × RunsOver p a r
    by true e l = (side-of sdram (is_sdram a.mem) e, covering-runs labels p on a r g l)
    by false e l = absurd (omega (arith, l))

written-over : (labels : List Label) (p : Plan) (on : Chosen) (sdram : Bool) (r k : ℕ) (q : Spot) → Placed labels p on → Writing k q → 1 ≤ count on (written_at sdram r k q) → WritesOver p sdram k q r
written-over labels p on sdram r k q g (writes_none e) h = let s = ap (λ as'. count on (flat_map (side_covering sdram r) as')) e in absurd (omega (arith, s, h))
written-over labels p on sdram r k q g (writes_one a e n v) h =
    let s = ap (λ as'. count on (flat_map (side_covering sdram r) as')) e in
    let t = count-append on (side_covering sdram r a) [] in
    let w = side-runs labels p on sdram r a g (omega (arith, s, t, h)) in
    record { access = a; among = subst (In a) (sym e) (inl refl); point = n; side = w.0; runs = w.1; nothing = v }

-- ---- write registers

-- a word that waits, and the write
wait-written : (labels : List Label) (p : Plan) (on : Chosen) (k : ℕ) (q : Point) (sdram : Bool) (r : ℕ) (u : Use) → Placed labels p on → IsThere labels k q → In u (waiting labels k q) → WaitsAt p u sdram r → WritesOver p sdram k q.place r → ⊥
wait-written labels p on k q sdram r u g at i s w =
    let a = w.access in
    let all = (g.fits.points k q at).waiting.written u (waits-there labels p k q u sdram r i s) in
    let off = All-contains (λ (a : Access). has_place (word_register p u) (run_of (write_place a.mem) (first p k) a.words) ≡ false) (writes_at k q.place) a all (contained-in a (writes_at k q.place) w.among) in
    let among : In (write_place a.mem r) (run_of (write_place a.mem) (first p k) a.words) = subst (λ n. In (write_place a.mem r) (run_of (write_place a.mem) (first p n) a.words)) w.point (in-run p a r (write_place a.mem) w.runs) in
    let same : word_register p u ≡ write_place a.mem r = s.is ∙ write-same s.mem a.mem r (s.side ∙ sym w.side) in
    false≢true (sym off ∙ place-there (word_register p u) (write_place a.mem r) (run_of (write_place a.mem) (first p k) a.words) among
    (subst (λ z. same_place z (write_place a.mem r) ≡ true) (sym same) (same-itself a.mem r)))

-- a word that waits, and a slot that is written
wait-passed : (labels : List Label) (p : Plan) (on : Chosen) (k : ℕ) (q : Point) (r : ℕ) (u : Use) → Placed labels p on → IsThere labels k q → In u (waiting labels k q) → WaitsAt p u false r → on (WriteVia k r) ≡ true → ⊥
wait-passed labels p on k q r u g at i s e =
    let o : (pass p k).s ≡ Some r = named (pass p k).s r (chosen-on labels p on g (WriteVia k r) e) in
    let off = (g.fits.points k q at).waiting.read_through u (waits-there labels p k q u false r i s) in
    let same : word_register p u ≡ place.S r = s.is ∙ write-same s.mem Sram r s.side in
    false≢true (sym off ∙ place-there (word_register p u) (place.S r) (maybe place.S (pass p k).s) (subst (λ z. In (place.S r) (maybe place.S z)) (sym o) (inl refl))
    (subst (λ z. same_place z (place.S r) ≡ true) (sym same) (in-itself r)))

-- a slot that is written, and the write
passed-written : (labels : List Label) (p : Plan) (on : Chosen) (k : ℕ) (q : Point) (sdram : Bool) (r : ℕ) → Placed labels p on → IsThere labels k q → on (WriteVia k r) ≡ true → WritesOver p sdram k q.place r → ⊥
passed-written labels p on k q sdram r g at e w =
    let t = there labels on (WriteVia k r) g.is.only e in
    let same : t.0 ≡ q = let a = t.1 in cc in
    let some = subst (λ (z : Point). list_any (λ v. is_used labels v.var) (place_values k z.place) ≡ true) same t.2 in
    false≢true (ap (list_any (λ (v : Value). is_used labels v.var)) (sym w.nothing) ∙ some)

-- through a write register of SDRAM no slot is written
abbrev passed : Bool → ℕ → ℕ → List Column
passed true k r = []
passed false k r = WriteVia k r ∷ []

passed-most : (on : Chosen) (sdram : Bool) (k r : ℕ) → count on (passed sdram k r) ≤ 1
passed-most on true k r = omega arith
passed-most on false k r = one-most on (WriteVia k r)

record Passing (on : Chosen) (sdram : Bool) (k r : ℕ) : Type 0 where
  side : sdram ≡ false
  is_on : on (WriteVia k r) ≡ true

passing : (on : Chosen) (sdram : Bool) (k r : ℕ) → 1 ≤ count on (passed sdram k r) → Passing on sdram k r
passing on true k r h = absurd (omega (arith, h))
passing on false k r h = record { side = refl; is_on = on-one on (WriteVia k r) h }

either-part : (on : Chosen) (cs ds : List Column) → 1 ≤ count on (cs ++ ds) → (1 ≤ count on cs) ⊎ (1 ≤ count on ds)
either-part on cs ds h = by (count on cs) refl
  where
    by : (n : ℕ) → count on cs ≡ n → (1 ≤ count on cs) ⊎ (1 ≤ count on ds)
    by zero e = let s = count-append on cs ds in inr (omega (arith, s, e, h))
    by (suc n) e = inl (omega (arith, e))

side-line : (labels : List Label) (p : Plan) (on : Chosen) (k : ℕ) (q : Point) (sdram : Bool) (r : ℕ) → Placed labels p on → IsThere labels k q
    → count on (early_at sdram r (waiting labels k q) ++ (passed sdram k r ++ written_at sdram r k q.place)) ≤ 1
side-line labels p on k q sdram r g at =
    let early = early_at sdram r (waiting labels k q) in
    let pass = passed sdram k r in
    let write = written_at sdram r k q.place in
    both-most on early (pass ++ write) (waiting-most labels p on k q sdram r g at)
    (both-most on pass write (passed-most on sdram k r) (written-most labels p on sdram r k q.place g (writing k q.place)) (λ a b.
    passed-written labels p on k q sdram r g at (passing on sdram k r a).is_on (written-over labels p on sdram r k q.place g (writing k q.place) b)))
    (λ a b.
    let s = some-waits labels p on k q sdram r g a in
    ⊎_elim
    (λ (c : 1 ≤ count on pass).
    let t = passing on sdram k r c in
    wait-passed labels p on k q r s.0 g at s.1 (subst (λ d. WaitsAt p s.0 d r) t.side s.2) t.is_on)
    (λ (c : 1 ≤ count on write). wait-written labels p on k q sdram r s.0 g at s.1 s.2 (written-over labels p on sdram r k q.place g (writing k q.place) c))
    (either-part on pass write b))

write-owners : (labels : List Label) (p : Plan) (on : Chosen) (k : ℕ) (q : Point) → Placed labels p on → IsThere labels k q → Each (Holds on) (write_owners labels k q)
write-owners labels p on k q g at =
    each-append (Holds on) (side_owners labels k q false (λ r. WriteVia k r ∷ [])) (side_owners labels k q true (λ r. [])) (side-owners false) (side-owners true)
  where
    line : Bool → ℕ → Line
    line sdram r = at_most 1 (early_at sdram r (waiting labels k q) ++ (passed sdram k r ++ written_at sdram r k q.place))

    side-owners : (sdram : Bool) → Each (Holds on) (map (line sdram) eight)
    side-owners sdram = mapped-each (Holds on) (line sdram) eight (each-from (λ r. Holds on (line sdram r)) eight (λ r i.
        most-holds on 1 (early_at sdram r (waiting labels k q) ++ (passed sdram k r ++ written_at sdram r k q.place)) (side-line labels p on k q sdram r g at)))

-- ---- all

each-there : (labels : List Label) (i k : ℕ) (q : Point) → k ≡ 0 + i → slice_get (points labels) i ≡ Some q → IsThere labels k q
each-there labels i k q e at = subst (λ n. slice_get (points labels) n ≡ Some q) (let n : i ≡ k = omega (arith, e) in n) at

pub owners-hold : (labels : List Label) (p : Plan) (on : Chosen) → single labels ≡ true → Fits labels p → IsChosen labels p on → Each (Holds on) (owners labels)
owners-hold labels p on s f c =
    let g : Placed labels p on = record { form = s; fits = f; is = c } in
    let ps = points labels in
    each-append (Holds on) (each_point (read_owners labels) 0 ps) (each_point (fill_owners labels) 0 ps ++ each_point (write_owners labels) 0 ps)
    (points-each (Holds on) (read_owners labels) 0 ps (λ i k q e at. read-owners labels p on k q g (each-there labels i k q e at)))
    (each-append (Holds on) (each_point (fill_owners labels) 0 ps) (each_point (write_owners labels) 0 ps)
    (points-each (Holds on) (fill_owners labels) 0 ps (λ i k q e at. fill-owners labels p on k q g (each-there labels i k q e at)))
    (points-each (Holds on) (write_owners labels) 0 ps (λ i k q e at. write-owners labels p on k q g (each-there labels i k q e at))))
