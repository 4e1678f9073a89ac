-- The placement that has every value in a slot fits: values, accesses and points, and the whole.
use Rattle.std.proofs.Common.{◌≡◌, ℕ, suc, ◌+◌, ◌<◌, ◌≤◌, Bool, true, false, nat_eq, ◌||◌, inl, ⊎_elim, Some, None, List, [], ◌∷◌, length, map, unwrap_or, refl, sym, ap, subst, ◌∙◌, arith}
use Rattle.std.specs.Prelude.{◌==◌, slice_get, All, is_some, nat_le}
use Rattle.std.specs.List.{list_any}
use Rattle.std.proofs.lemmas.List.Elements.{All-nil, All-cons}
use Rattle.std.proofs.lemmas.Bool.{and_parts, or_cases, or_left, or_right, false≢true, leb-true}
use Rattle.nv_base.specs.Access.{can_move}
use Rattle.nv_base.specs.Sets.{is_in, Within}
use Rattle.nv_base.proofs.Sets.{same-number}
use Rattle.nv_base.specs.declared.term.Mem.{Mem}
use Rattle.nv_base.specs.declared.term.Mem.TheVariants.{Sram, Sdram, Scratch}
use Rattle.ssu_ir.specs.Tree.{Lit, Una, Bin, Clone, Read, Write, Label, Does, Forks, Ends}
use Rattle.ssu_ir.specs.Points.{PointKind as Spot, Entry, At, Point, points}
use Rattle.ssu_ir.specs.Single.{single}
use Rattle.place_plan.specs.declared.place.Place.TheVariants.{Slot}
use Rattle.place_plan.specs.declared.place.Pass.{Pass}
use Rattle.place_plan.specs.Plan.{Home, Plan, home_in, first, pass}
use Rattle.place_plan.specs.Uses.{Access, place_accesses, reads_at, accesses_from, accesses, ValueOrigin, Parameter, Result, Fetched, Value, numbered, place_values, values_from, values, Role, place_roles, Use, uses_at, uses, is_used}
use Rattle.place_plan.specs.Fits.{read_place, IsGeneral, is_slot, same_bank, IsFirst, served, word_register, AreCopies, IsHome, IsHoused, is_sort_homed, wants_home, IsServed, IsEighth, comes_to_slot, PassesSlots, KeepsRead, Fits}
use Rattle.ssu_liveness.specs.inner.Numbers.{Numbers, HasBelow, values_among}
use Rattle.place_plan.specs.inner.Spilled.{slot_number, origin_home, IsAtHome, AreSpilled, read_pass, write_pass, point_pass, spilled, Covered, IsNumbered}
use Rattle.ssu_liveness.proofs.Scoped.{in-itself, in-either}
use Rattle.place_plan.proofs.Sound.{Each, each-append, entry_params, place_results, place_ok, Sound, uses_among, sound-points, in-self}
use Rattle.place_plan.proofs.Spilled.{each-all, all-each, each-at, first-zero, firsts-points, serves-operands, none-early-of, IsFound, serves-found, pass-at, passes-rise, passes-below, Found, found, homed, used-wanted, param_vars, params-wanted, param-home, keeps-held, keeps-waiting, shares-nothing}
use Rattle.place_plan.proofs.Fitting.{each-uses, uses-part, apart-from, uses-are, values-are, entries-in, label-entry, roles-at, served-point, operands-apart}

pub each-any : {X : Type 0} (P : X → Type 0) (xs : List X) → ((x : X) → P x) → Each P xs
each-any P [] h = tt
each-any P (x ∷ xs) h = (h x, each-any P xs h)

-- ---- numbers of the values that want a home

abbrev pub IsBelow : List Label → Numbers → ℕ → Value → Type 0
IsBelow labels number n v = wants_home labels v ≡ true → HasBelow number v.var n

below-numbered : (labels : List Label) (number : Numbers) (n k : ℕ) (origin : ℕ → ValueOrigin) (i : ℕ) (xs : List ℕ) → ((x j : ℕ) → is_in x xs ≡ true → is_sort_homed (is_used labels x) (origin j) ≡ true → HasBelow number x n) → Each (IsBelow labels number n) (numbered k origin i xs)
below-numbered labels number n k origin i [] h = tt
below-numbered labels number n k origin i (x ∷ xs) h = (
  λ e. h x i (or_left (nat_eq x x) (is_in x xs) (in-itself x)) e,
  below-numbered labels number n k origin (suc i) xs (λ y j e f. h y j (or_right (nat_eq y x) (is_in y xs) e) f),
)

below-place : (labels : List Label) (number : Numbers) (n k : ℕ) (us : List ℕ) (q : Spot) → Covered number n (entry_params q) → Within (place_results q) us → ((x : ℕ) → is_in x us ≡ true → HasBelow number x n) → ((x : ℕ) → is_used labels x ≡ true → is_in x us ≡ true) → Each (IsBelow labels number n) (place_values k q)
below-place labels number n k us (Entry l ps) c r b u = below-numbered labels number n k (Parameter l) 0 ps (λ x j e f. c.given x e)
below-place labels number n k us (At (Does (Lit x v))) c r b u = (λ e. b x (r x (in-self x)), tt)
below-place labels number n k us (At (Does (Una x op y))) c r b u = (λ e. b x (r x (in-self x)), tt)
below-place labels number n k us (At (Does (Bin x op y z))) c r b u = (λ e. b x (r x (in-self x)), tt)
below-place labels number n k us (At (Does (Clone xs y))) c r b u = tt
below-place labels number n k us (At (Does (Read m xs y))) c r b u = below-numbered labels number n k (Fetched m) 0 xs (λ x j e f. b x (u x f))
below-place labels number n k us (At (Does (Write m y xs))) c r b u = tt
below-place labels number n k us (At (Forks d x y)) c r b u = tt
below-place labels number n k us (At (Ends l)) c r b u = tt

below-values : (labels : List Label) (number : Numbers) (n : ℕ) (vs us : List ℕ) (k : ℕ) (ps : List Point) → Each (Sound labels vs us) ps → Each (IsNumbered number n) ps → ((x : ℕ) → is_in x us ≡ true → HasBelow number x n) → ((x : ℕ) → is_used labels x ≡ true → is_in x us ≡ true)
    → Each (IsBelow labels number n) (values_from k ps)
below-values labels number n vs us k [] s d b u = tt
below-values labels number n vs us k (q ∷ ps) s d b u =
    each-append (IsBelow labels number n) (place_values k q.place) (values_from (suc k) ps)
    (below-place labels number n k us q.place (record { given = λ x e. d.0.covered.given x (s.0.entry x e) }) s.0.results b u)
    (below-values labels number n vs us (suc k) ps s.1 d.1 b u)

used-below : (labels : List Label) (number : Numbers) (n : ℕ) (vs us : List ℕ) (ps : List Point) → Each (Sound labels vs us) ps → Each (IsNumbered number n) ps → (x : ℕ) → is_in x (uses_among ps) ≡ true → HasBelow number x n
used-below labels number n vs us [] s d x e = absurd (false≢true e)
used-below labels number n vs us (q ∷ ps) s d x e = ⊎_elim
    (λ (a : is_in x q.uses ≡ true). d.0.covered.given x (s.0.uses_held x a))
    (λ (b : is_in x (uses_among ps) ≡ true). used-below labels number n vs us ps s.1 d.1 x b)
    (in-either x q.uses (uses_among ps) e)

-- ---- homes of values

slot-below : (number : Numbers) (x n : ℕ) → HasBelow number x n → slot_number number x < n
slot-below number x n b =
    let e : slot_number number x ≡ b.it = ap (λ o. unwrap_or o 0) b.has in
    let l : b.it < n = b.below in
    omega arith

no-copies : (labels : List Label) (number : Numbers) (slots : ℕ) (homes : List Home) (n x z : ℕ) → AreCopies labels (spilled labels number slots homes) x (record { var = z; defined = Slot n; copied = [] })
no-copies labels number slots homes n x z =
    let p = spilled labels number slots homes in record {
      fills = [];
      are = record { a = None; b = None; slot = None; in_order = refl; general = All-nil (IsGeneral p); elsewhere = All-nil (λ q. same_bank q (Slot n) ≡ false) };
      copied = sym (ap (map (word_register p)) (none-early-of labels number slots homes x));
      unused = λ e. refl;
      from_slot = λ e. refl;
    }

other-bank : (n : ℕ) (m : Mem) (i : ℕ) → same_bank (Slot n) (read_place m i) ≡ false
other-bank n Sram i = refl
other-bank n Sdram i = refl
other-bank n Scratch i = refl

pub read-no-slot : (m : Mem) (i : ℕ) → is_slot (read_place m i) ≡ false
read-no-slot Sram i = refl
read-no-slot Sdram i = refl
read-no-slot Scratch i = refl

one-copy : (labels : List Label) (number : Numbers) (slots : ℕ) (homes : List Home) (n x z : ℕ) (m : Mem) (i : ℕ) → n < slots → is_used labels x ≡ true → AreCopies labels (spilled labels number slots homes) x (record { var = z; defined = read_place m i; copied = Slot n ∷ [] })
one-copy labels number slots homes n x z m i l u =
    let p = spilled labels number slots homes in record {
      fills = Slot n ∷ [];
      are = record {
        a = None;
        b = None;
        slot = Some n;
        in_order = refl;
        general = All-cons (IsGeneral p) (Slot n) [] l (All-nil (IsGeneral p));
        elsewhere = All-cons (λ q. same_bank q (read_place m i) ≡ false) (Slot n) [] (other-bank n m i) (All-nil (λ q. same_bank q (read_place m i) ≡ false));
      };
      copied = sym (ap (λ us. Slot n ∷ map (word_register p) us) (none-early-of labels number slots homes x));
      unused = λ e. absurd (false≢true (sym e ∙ u));
      from_slot = λ e. absurd (false≢true (sym (read-no-slot m i) ∙ e));
    }

housed-by : (labels : List Label) (number : Numbers) (slots : ℕ) (homes : List Home) (v : Value) (origin : ValueOrigin) → (is_sort_homed (is_used labels v.var) origin ≡ true → home_in homes v.var ≡ origin_home (slot_number number v.var) v.var origin)
    → (is_sort_homed (is_used labels v.var) origin ≡ true → HasBelow number v.var slots) → IsHome labels (spilled labels number slots homes) v (home_in homes v.var) origin
housed-by labels number slots homes v (Parameter l i) h b =
    subst (λ (w : Home). IsHome labels (spilled labels number slots homes) v w (Parameter l i)) (sym (h refl))
    (slot-below number v.var slots (b refl), no-copies labels number slots homes (slot_number number v.var) v.var v.var)
housed-by labels number slots homes v Result h b =
    subst (λ (w : Home). IsHome labels (spilled labels number slots homes) v w Result) (sym (h refl))
    (inl (slot-below number v.var slots (b refl), no-copies labels number slots homes (slot_number number v.var) v.var v.var))
housed-by labels number slots homes v (Fetched m i) h b = λ u.
    let p = spilled labels number slots homes in
    let same : i ≡ first p v.point + i = (let z = first-zero (accesses labels) v.point in omega arith) in
    subst (λ (w : Home). (w.defined ≡ read_place m (first p v.point + i)) × AreCopies labels p v.var w) (sym (h u))
    (ap (read_place m) same, one-copy labels number slots homes (slot_number number v.var) v.var v.var m i (slot-below number v.var slots (b u)) u)

housed : (labels : List Label) (number : Numbers) (slots : ℕ) (homes : List Home) (vs : List Value) → Each (IsAtHome labels number homes) vs → Each (IsBelow labels number slots) vs → Each (IsHoused labels (spilled labels number slots homes)) vs
housed labels number slots homes [] h b = tt
housed labels number slots homes (v ∷ vs) h b = (housed-by labels number slots homes v v.origin (λ e. (h.0 e).0) b.0, housed labels number slots homes vs h.1 b.1)

-- ---- accesses

pub first-fits : (m : Mem) (n f : ℕ) → f ≡ 0 → can_move m n ≡ true → IsFirst m n f
first-fits Sram n f e h = let l = leb-true n 8 (and_parts (nat_le 1 n) (nat_le n 8) h).1 in omega arith
first-fits Scratch n f e h = let l = leb-true n 8 (and_parts (nat_le 1 n) (nat_le n 8) h).1 in omega arith
first-fits Sdram n f e h = (
  ⊎_elim
      (λ (a : (n == 2) ≡ true). let s = same-number n 2 a in omega arith)
      (λ (b : ((n == 4) || ((n == 6) || (n == 8))) ≡ true). ⊎_elim
      (λ (a : (n == 4) ≡ true). let s = same-number n 4 a in omega arith)
      (λ (c : ((n == 6) || (n == 8)) ≡ true). ⊎_elim
      (λ (a : (n == 6) ≡ true). let s = same-number n 6 a in omega arith)
      (λ (a : (n == 8) ≡ true). let s = same-number n 8 a in omega arith)
      (or_cases (n == 6) (n == 8) c))
      (or_cases (n == 4) ((n == 6) || (n == 8)) b))
      (or_cases (n == 2) ((n == 4) || ((n == 6) || (n == 8))) h),
  (0, omega arith),
)

abbrev pub IsFirstOf : Plan → Access → Type 0
IsFirstOf p a = IsFirst a.mem a.words (first p a.point)

first-place : (labels : List Label) (number : Numbers) (slots : ℕ) (homes : List Home) (k : ℕ) (q : Spot) → place_ok labels q ≡ true → Each (IsFirstOf (spilled labels number slots homes)) (place_accesses k q)
first-place labels number slots homes k (Entry l ps) e = tt
first-place labels number slots homes k (At (Does (Lit x v))) e = tt
first-place labels number slots homes k (At (Does (Una x op y))) e = tt
first-place labels number slots homes k (At (Does (Bin x op y z))) e = tt
first-place labels number slots homes k (At (Does (Clone xs y))) e = tt
first-place labels number slots homes k (At (Does (Read m xs y))) e = (first-fits m (length xs) (first (spilled labels number slots homes) k) (first-zero (accesses labels) k) e, tt)
first-place labels number slots homes k (At (Does (Write m y xs))) e = (first-fits m (length xs) (first (spilled labels number slots homes) k) (first-zero (accesses labels) k) e, tt)
first-place labels number slots homes k (At (Forks d x y)) e = tt
first-place labels number slots homes k (At (Ends l)) e = tt

first-points : (labels : List Label) (number : Numbers) (slots : ℕ) (homes : List Home) (vs us : List ℕ) (k : ℕ) (ps : List Point) → Each (Sound labels vs us) ps → Each (IsFirstOf (spilled labels number slots homes)) (accesses_from k ps)
first-points labels number slots homes vs us k [] s = tt
first-points labels number slots homes vs us k (q ∷ ps) s =
    each-append (IsFirstOf (spilled labels number slots homes)) (place_accesses k q.place) (accesses_from (suc k) ps) (first-place labels number slots homes k q.place s.0.node)
    (first-points labels number slots homes vs us (suc k) ps s.1)

-- ---- through which registers slots pass

eighth-read : (xs : List ℕ) → IsEighth (read_pass xs)
eighth-read [] = tt
eighth-read (x ∷ xs) = omega arith

eighth-write : (b : Bool) → IsEighth (write_pass b)
eighth-write true = omega arith
eighth-write false = tt

reads-some : (f : Use → Bool) (k : ℕ) (xs : List ℕ) (rs : List Role) → list_any f (uses_at k 0 xs rs) ≡ true → is_some (read_pass xs) ≡ true
reads-some f k [] rs e = absurd (false≢true e)
reads-some f k (x ∷ xs) rs e = refl

some-reads : (xs : List ℕ) → is_some (read_pass xs) ≡ true → 1 ≤ length xs
some-reads [] e = absurd (false≢true e)
some-reads (x ∷ xs) e = omega arith

write-some : (b : Bool) → b ≡ true → is_some (write_pass b) ≡ true
write-some true e = refl
write-some false e = absurd (false≢true e)

some-write : (b : Bool) → is_some (write_pass b) ≡ true → b ≡ true
some-write true e = refl
some-write false e = absurd (false≢true e)

any-more : (f g : Value → Bool) (vs : List Value) → ((v : Value) → f v ≡ true → g v ≡ true) → list_any f vs ≡ true → list_any g vs ≡ true
any-more f g [] h e = e
any-more f g (v ∷ vs) h e = ⊎_elim
    (λ (a : f v ≡ true). or_left (g v) (list_any g vs) (h v a))
    (λ (b : list_any f vs ≡ true). or_right (g v) (list_any g vs) (any-more f g vs h b))
    (or_cases (f v) (list_any f vs) e)

passes-slots : (labels : List Label) (number : Numbers) (slots : ℕ) (homes : List Home) (k : ℕ) (q : Point) → pass (spilled labels number slots homes) k ≡ point_pass labels k q → PassesSlots labels (spilled labels number slots homes) k q
passes-slots labels number slots homes k q e =
    let p = spilled labels number slots homes in
    let vs = place_values k q.place in
    let some = list_any (λ (v : Value). is_used labels v.var) vs in record {
      read = subst (λ (w : Pass). IsEighth w.l) (sym e) (eighth-read q.uses);
      written = subst (λ (w : Pass). IsEighth w.s) (sym e) (eighth-write some);
      reads = λ h. ap (λ (w : Pass). is_some w.l) e ∙ reads-some (λ u. is_slot (served p u).from) k q.uses (place_roles q.place) h;
      reads_only = λ h. some-reads q.uses (ap (λ (w : Pass). is_some w.l) (sym e) ∙ h);
      writes = λ h. ap (λ (w : Pass). is_some w.s) e ∙ write-some some (any-more (comes_to_slot labels p) (λ v. is_used labels v.var) vs (λ v g. (and_parts (is_used labels v.var) _ g).0) h);
      writes_only = λ h. some-write some (ap (λ (w : Pass). is_some w.s) (sym e) ∙ h);
    }

-- ---- the whole

pub spilled-fits : (labels : List Label) (number : Numbers) (slots : ℕ) (homes : List Home) → single labels ≡ true → slots ≤ 128 → All (IsNumbered number slots) (points labels) → AreSpilled labels number homes → Fits labels (spilled labels number slots homes)
spilled-fits labels number slots homes single-form few numbers a =
    let p = spilled labels number slots homes in
    let ps = points labels in
    let vs = values_among (map (λ (q : Point). q.place) ps) in
    let us = uses_among ps in
    let sound : Each (Sound labels vs us) ps = sound-points labels single-form in
    let numbered-points : Each (IsNumbered number slots) ps = all-each (IsNumbered number slots) ps numbers in
    let at-home : Each (IsAtHome labels number homes) (values labels) = all-each (IsAtHome labels number homes) (values labels) a.each in
    let same-uses : map (λ (u : Use). u.value) (uses labels) ≡ us = uses-are labels vs us 0 ps sound in
    let used : (x : ℕ) → is_in x us ≡ true → is_used labels x ≡ true = λ x e. ap (λ l. is_in x l) same-uses ∙ e in
    let used' : (x : ℕ) → is_used labels x ≡ true → is_in x us ≡ true = λ x e. ap (λ l. is_in x l) (sym same-uses) ∙ e in
    let entries : Each (λ (q : Point). Within (entry_params q.place) (param_vars (values labels))) ps = entries-in 0 ps in
    let served-there : Each (IsFound labels number (uses labels)) (uses labels) = serves-found labels number (uses labels) (apart-from 0 ps) in
    let wanted-at : (k : ℕ) (q : Point) → slice_get ps k ≡ Some q → (x : ℕ) → is_in x q.before ≡ true → Found number homes x = λ k q e x b.
    found labels number homes (values labels) x at-home (⊎_elim
    (λ (h : is_in x (entry_params q.place) ≡ true). params-wanted labels (values labels) x (each-at (λ (w : Point). Within (entry_params w.place) (param_vars (values labels))) ps k q entries e x h))
    (λ (h : (is_in x vs ≡ true) × (is_in x us ≡ true)). used-wanted labels (values labels) x (ap (λ l. is_in x l) (values-are 0 ps) ∙ h.0) (used x h.1))
    ((each-at (Sound labels vs us) ps k q sound e).from x b)) in
    let pass-there : (k : ℕ) (q : Point) → slice_get ps k ≡ Some q → pass p k ≡ point_pass labels k q = λ k q e. pass-at labels ps 0 k k q (omega arith) e in
    let found-at : (k : ℕ) (q : Point) → slice_get ps k ≡ Some q → Each (IsFound labels number (uses labels)) (uses_at k 0 q.uses (place_roles q.place)) = λ k q e. uses-part (IsFound labels number (uses labels)) ps 0 k k q (omega arith) e served-there in
    let params : (x : ℕ) → is_in x (param_vars (values labels)) ≡ true → (home_in homes x).defined ≡ Slot (slot_number number x) = λ x e. param-home labels number homes (values labels) x at-home e in
    let below : (x : ℕ) → is_in x us ≡ true → HasBelow number x slots = λ x e. used-below labels number slots vs us ps sound numbered-points x e in
    let served-at-point : (k : ℕ) (q : Point) → slice_get ps k ≡ Some q → Each (IsServed labels p) (uses_at k 0 q.uses (place_roles q.place)) = λ k q e.
    let s = each-at (Sound labels vs us) ps k q sound e in
    served-point labels number slots homes k q.uses (place_roles q.place) (λ x h. wanted-at k q e x (s.uses_held x h)) (ap (λ (w : Pass). w.l) (pass-there k q e))
    (roles-at labels number homes (param_vars (values labels)) q.place params (λ l m f. label-entry (param_vars (values labels)) 0 labels entries l m f) s.node)
    (found-at k q e) in record {
      slots = few;
      homes = record { rise = a.rise; each = λ x e. homed labels number homes (values labels) x at-home e; only = a.only };
      firsts = firsts-points (accesses labels);
      serves = serves-operands labels number (uses labels);
      passes = record { rise = passes-rise labels 0 ps; there = each-all (λ (q : Pass). q.point < length ps) p.passes (passes-below labels 0 (length ps) ps (omega arith)) };
      registers = each-all (IsFirstOf p) (accesses labels) (first-points labels number slots homes vs us 0 ps sound);
      values = each-all (IsHoused labels p) (values labels) (housed labels number slots homes (values labels) at-home (below-values labels number slots vs us 0 ps sound numbered-points below used'));
      uses = each-all (IsServed labels p) (uses labels) (each-uses (IsServed labels p) ps 0 (λ i m q e f.
          let same : i ≡ m = omega arith in
          served-at-point m q (ap (slice_get ps) (sym same) ∙ f)));
      points = λ k q e. record {
        held = keeps-held labels number slots homes k q (each-at (IsNumbered number slots) ps k q numbered-points e) (wanted-at k q e);
        reads = each-all (KeepsRead labels p q) (reads_at k q.place) (each-any (KeepsRead labels p q) (reads_at k q.place) (λ b x h g. shares-nothing labels number slots homes _ x));
        waiting = keeps-waiting labels number slots homes k q;
        operands = operands-apart labels number slots homes k q.place q.uses (each-at (Sound labels vs us) ps k q sound e).many (found-at k q e);
        passes = passes-slots labels number slots homes k q (pass-there k q e);
      };
    }
