-- Which columns there are: the columns that each value, use, access and point of a form has.
use Rattle.std.proofs.Common.{◌≡◌, ℕ, zero, suc, ◌+◌, ◌*◌, ◌<◌, ◌≤◌, true, false, ◌||◌, nat_eq, Some, List, [], ◌∷◌, length, map, sym, ap, subst, ◌∙◌, inl, ⊎_elim, arith}
use Rattle.std.specs.Prelude.{◌%◌, ◌==◌, nat_le, slice_get, Contains}
use Rattle.std.specs.List.{list_any}
use Rattle.std.proofs.lemmas.Bool.{and_parts, and_from, or_cases, le-leb, leb-true, eq-eqb}
use Rattle.nv_base.specs.Access.{can_move}
use Rattle.nv_base.specs.declared.term.Mem.{Mem}
use Rattle.nv_base.specs.declared.term.Mem.TheVariants.{Sram, Sdram, Scratch}
use Rattle.nv_base.proofs.Sets.{same-number}
use Rattle.ssu_ir.specs.Tree.{Lit, Una, Bin, Clone, Read, Write, Jump, Halt, Label, Does, Forks, Ends}
use Rattle.ssu_ir.specs.Points.{PointKind, Entry, At, Point, points}
use Rattle.ssu_ir.specs.Single.{single}
use Rattle.place_plan.specs.Uses.{Access, accesses, reads_at, writes_at, place_accesses, ValueOrigin, Parameter, Result, Fetched, Value, values, numbered, result, place_values, Role, Operand, Address, Written, Argument, Ending, Use, uses, roles, place_roles, is_used}
use Rattle.place_plan.specs.Fits.{IsFirst, is_result}
use Rattle.ssu_liveness.specs.inner.Numbers.{values_among}
use Rattle.place_plan.proofs.Sound.{place_ok, Sound, sound-points, uses_among}
use Rattle.place_plan.proofs.Spilled.{each-at}
use Rattle.bank_prog_form.specs.declared.column.Bank.{Bank}
use Rattle.bank_prog_form.specs.declared.column.Column.TheVariants.{Def, DirectWrite, Fill, Stay, EarlyWrite, First, Serve, ReadVia, WriteVia}
use Rattle.bank_prog_form.specs.declared.column.Service.{Service}
use Rattle.bank_prog_form.specs.Columns.{each_point, may_begin, origin_of, is_fetched, point_uses, place_words, eight, beginnings, role_beginnings, origin_beginnings, services, has_bank, columns}
use Rattle.bank_prog_form.specs.Rows.{homes}
use Rattle.bank_prog_rows.proofs.Present as present
use Rattle.bank_prog_form.proofs.Tabled.{uses-each, accesses-each, values-each}
use Rattle.reg_assign_reading.proofs.Counts.{In, in-contained, contained-in, in-left, in-right, kept-in}
use Rattle.reg_assign_reading.proofs.FactsThere.{point-of}
use Rattle.reg_assign_reading.proofs.FactsPoints.{below-eight, role-among}
use Rattle.reg_assign_reading.proofs.FitPasses.{value-point as value-here}

-- ---- elements of a list that is made piece by piece

points-in : {X : Type 0} (x : X) (f : ℕ → Point → List X) (j i k : ℕ) (ps : List Point) (q : Point) → k ≡ j + i → slice_get ps i ≡ Some q → In x (f k q) → In x (each_point f j ps)
points-in x f j i k [] q e g h = absurd (cc)
points-in x f j zero k (p ∷ ps) q e g h =
    let same : q ≡ p = cc in
    let at : k ≡ j = omega (arith, e) in
    in-left x (f j p) (each_point f (suc j) ps) (subst (λ z. In x (f j z)) same (subst (λ n. In x (f n q)) at h))
points-in x f j (suc i) k (p ∷ ps) q e g h =
    in-right x (f j p) (each_point f (suc j) ps) (points-in x f (suc j) i k ps q (omega (arith, e)) g h)

point-in : {X : Type 0} (x : X) (f : ℕ → Point → List X) (k : ℕ) (ps : List Point) (q : Point) → slice_get ps k ≡ Some q → In x (f k q) → In x (each_point f 0 ps)
point-in x f k ps q g h = points-in x f 0 k k ps q (omega arith) g h

-- ---- how a use, a value and an access stand at a point

pub record UsePoint (labels : List Label) (u : Use) : Type 0 where
  pub point : Point
  pub at : slice_get (points labels) u.point ≡ Some point
  pub here : In u (point_uses u.point point)

pub record ValuePoint (labels : List Label) (v : Value) : Type 0 where
  pub point : Point
  pub at : slice_get (points labels) v.point ≡ Some point
  pub here : In v (place_values v.point point.place)

pub use-point : (labels : List Label) (u : Use) → In u (uses labels) → UsePoint labels u
use-point labels u i =
    let w = present.use-place labels u (contained-in u (uses labels) i) in
    record { point = w.0; at = w.1; here = in-contained u (point_uses u.point w.0) w.2 }

pub value-point : (labels : List Label) (v : Value) → In v (values labels) → ValuePoint labels v
value-point labels v i =
    let w = present.value-place labels v (contained-in v (values labels) i) in
    record { point = w.0; at = w.1; here = in-contained v (place_values v.point w.0.place) w.2 }

numbered-origin : (v : Value) (k : ℕ) (origin : ℕ → ValueOrigin) (i : ℕ) (xs : List ℕ) → In v (numbered k origin i xs) → (j : ℕ) × (v.origin ≡ origin j)
numbered-origin v k origin i [] h = absurd h
numbered-origin v k origin i (x ∷ xs) h = ⊎_elim
    (λ (e : ◌≡◌ {A = Value} (record { point = k; var = x; origin = origin i }) v). (i, ap (λ (w : Value). w.origin) (sym e)))
    (λ (j : In v (numbered k origin (suc i) xs)). numbered-origin v k origin (suc i) xs j)
    h

one-origin : (v : Value) (k x : ℕ) → In v (result k x) → v.origin ≡ Result
one-origin v k x h = ⊎_elim
    (λ (e : ◌≡◌ {A = Value} (record { point = k; var = x; origin = Result }) v). ap (λ (w : Value). w.origin) (sym e))
    (λ z. absurd z)
    h

-- a value or use of a point is one of the form, and stands there
pub value-among : (labels : List Label) (k : ℕ) (q : Point) (v : Value) → slice_get (points labels) k ≡ Some q → In v (place_values k q.place) → In v (values labels)
value-among labels k q v g h = subst (In v) (values-each 0 (points labels)) (point-in v (λ k (q : Point). place_values k q.place) k (points labels) q g h)

pub use-among : (labels : List Label) (k : ℕ) (q : Point) (u : Use) → slice_get (points labels) k ≡ Some q → In u (point_uses k q) → In u (uses labels)
use-among labels k q u g h = subst (In u) (uses-each 0 (points labels)) (point-in u point_uses k (points labels) q g h)

abbrev pub value-stands : (labels : List Label) (k : ℕ) (q : Point) (v : Value) → slice_get (points labels) k ≡ Some q → In v (place_values k q.place) → ValuePoint labels v
value-stands labels k q v g h = record {
  point = q;
  at = subst (λ n. slice_get (points labels) n ≡ Some q) (sym (value-here v k q.place h)) g;
  here = subst (λ n. In v (place_values n q.place)) (sym (value-here v k q.place h)) h;
}

abbrev pub use-stands : (labels : List Label) (k : ℕ) (q : Point) (u : Use) → slice_get (points labels) k ≡ Some q → In u (point_uses k q) → UsePoint labels u
use-stands labels k q u g h = record {
  point = q;
  at = subst (λ n. slice_get (points labels) n ≡ Some q) (sym (point-of u k 0 q.uses (place_roles q.place) h)) g;
  here = subst (λ n. In u (point_uses n q)) (sym (point-of u k 0 q.uses (place_roles q.place) h)) h;
}

-- ---- the access of a read value, and that of a written word

abbrev pub place_access : ℕ → Mem → PointKind → Access
place_access k m q = record { point = k; mem = m; words = place_words q }

origin-not : (s : ValueOrigin) (m : Mem) (i : ℕ) {P : Type 0} → s ≡ Result → s ≡ Fetched m i → P
origin-not s m i e f = absurd (cc)

not-parameter : (s : ValueOrigin) (l j : ℕ) (m : Mem) (i : ℕ) {P : Type 0} → s ≡ Parameter l j → s ≡ Fetched m i → P
not-parameter s l j m i e f = absurd (cc)

same-fetched : (m n : Mem) (i j : ℕ) → Fetched m i ≡ Fetched n j → m ≡ n
same-fetched m n i j e = cc

value-read : (v : Value) (m : Mem) (i k : ℕ) (q : PointKind) → In v (place_values k q) → v.origin ≡ Fetched m i → In (place_access k m q) (reads_at k q)
value-read v m i k (Entry l ps) h e = let w = numbered-origin v k (Parameter l) 0 ps h in not-parameter v.origin l w.0 m i w.1 e
value-read v m i k (At (Does (Lit x n))) h e = origin-not v.origin m i (one-origin v k x h) e
value-read v m i k (At (Does (Una x op y))) h e = origin-not v.origin m i (one-origin v k x h) e
value-read v m i k (At (Does (Bin x op y z))) h e = origin-not v.origin m i (one-origin v k x h) e
value-read v m i k (At (Does (Clone xs y))) h e = absurd h
value-read v m i k (At (Does (Read n xs y))) h e =
    let w = numbered-origin v k (Fetched n) 0 xs h in
    inl (ap (λ a. place_access k a (At (Does (Read n xs y)))) (same-fetched n m w.0 i (sym w.1 ∙ e)))
value-read v m i k (At (Does (Write n y xs))) h e = absurd h
value-read v m i k (At (Forks c x y)) h e = absurd h
value-read v m i k (At (Ends l)) h e = absurd h

roles-at : (r : Role) (role : ℕ → Role) (i : ℕ) (xs : List ℕ) → In r (roles role i xs) → (j : ℕ) × (role j ≡ r)
roles-at r role i [] h = absurd h
roles-at r role i (x ∷ xs) h = ⊎_elim (λ (e : role i ≡ r). (i, e)) (λ (j : In r (roles role (suc i) xs)). roles-at r role (suc i) xs j) h

same-written : (m n : Mem) (i j : ℕ) → Written m i ≡ Written n j → m ≡ n
same-written m n i j e = cc

no-operand : (m : Mem) (i : ℕ) {P : Type 0} → In (Written m i) (Operand ∷ []) → P
no-operand m i h = absurd (⊎_elim (λ (e : Operand ≡ Written m i). cc) (λ z. z) h)

no-operands : (m : Mem) (i : ℕ) {P : Type 0} → In (Written m i) (Operand ∷ Operand ∷ []) → P
no-operands m i h = absurd (⊎_elim (λ (e : Operand ≡ Written m i). cc) (λ z. no-operand m i z) h)

no-address : (m : Mem) (i : ℕ) {P : Type 0} → In (Written m i) (Address ∷ []) → P
no-address m i h = absurd (⊎_elim (λ (e : Address ≡ Written m i). cc) (λ z. z) h)

not-argument : (l j : ℕ) (m : Mem) (i : ℕ) {P : Type 0} → Argument l j ≡ Written m i → P
not-argument l j m i e = absurd (cc)

not-ending : (j : ℕ) (m : Mem) (i : ℕ) {P : Type 0} → Ending j ≡ Written m i → P
not-ending j m i e = absurd (cc)

role-written : (m : Mem) (i k : ℕ) (q : PointKind) → In (Written m i) (place_roles q) → In (place_access k m q) (writes_at k q)
role-written m i k (Entry l ps) h = absurd h
role-written m i k (At (Does (Lit x v))) h = absurd h
role-written m i k (At (Does (Una x op y))) h = no-operand m i h
role-written m i k (At (Does (Bin x op y z))) h = no-operands m i h
role-written m i k (At (Does (Clone xs y))) h = absurd h
role-written m i k (At (Does (Read n xs y))) h = no-address m i h
role-written m i k (At (Does (Write n y xs))) h = ⊎_elim
    (λ (e : Address ≡ Written m i). no-address m i (inl e))
    (λ (j : In (Written m i) (roles (Written n) 0 xs)).
    let w = roles-at (Written m i) (Written n) 0 xs j in
    inl (ap (λ a. place_access k a (At (Does (Write n y xs)))) (same-written n m w.0 i w.1)))
    h
role-written m i k (At (Forks c x y)) h = no-operands m i h
role-written m i k (At (Ends (Jump l xs))) h = let w = roles-at (Written m i) (Argument l) 0 xs h in not-argument l w.0 m i w.1
role-written m i k (At (Ends (Halt e xs))) h = let w = roles-at (Written m i) Ending 0 xs h in not-ending w.0 m i w.1

-- an access of a point is one of the form, and has a word
access-among : (labels : List Label) (k : ℕ) (q : Point) (a : Access) → slice_get (points labels) k ≡ Some q → In a (place_accesses k q.place) → In a (accesses labels)
access-among labels k q a g h = subst (In a) (accesses-each 0 (points labels)) (point-in a (λ k (q : Point). place_accesses k q.place) k (points labels) q g h)

pub value-access : (labels : List Label) (v : Value) (m : Mem) (i : ℕ) (w : ValuePoint labels v) → v.origin ≡ Fetched m i → In (place_access v.point m w.point.place) (accesses labels)
value-access labels v m i w e =
    access-among labels v.point w.point (place_access v.point m w.point.place) w.at
    (in-left (place_access v.point m w.point.place) (reads_at v.point w.point.place) (writes_at v.point w.point.place) (value-read v m i v.point w.point.place w.here e))

pub word-access : (labels : List Label) (u : Use) (m : Mem) (i : ℕ) (w : UsePoint labels u) → u.role ≡ Written m i → In (place_access u.point m w.point.place) (accesses labels)
word-access labels u m i w e =
    access-among labels u.point w.point (place_access u.point m w.point.place) w.at
    (in-right (place_access u.point m w.point.place) (reads_at u.point w.point.place) (writes_at u.point w.point.place)
    (role-written m i u.point w.point.place (subst (λ r. In r (place_roles w.point.place)) e (role-among u.point 0 w.point.uses (place_roles w.point.place) u w.here))))

moves-some : (m : Mem) (n : ℕ) → can_move m n ≡ true → 1 ≤ n
moves-some Sram n e = leb-true 1 n (and_parts (nat_le 1 n) (nat_le n 8) e).0
moves-some Scratch n e = leb-true 1 n (and_parts (nat_le 1 n) (nat_le n 8) e).0
moves-some Sdram n e = ⊎_elim
    (λ (a : (n == 2) ≡ true). let s = same-number n 2 a in omega (arith, s))
    (λ (b : ((n == 4) || ((n == 6) || (n == 8))) ≡ true). ⊎_elim
    (λ (a : (n == 4) ≡ true). let s = same-number n 4 a in omega (arith, s))
    (λ (c : ((n == 6) || (n == 8)) ≡ true). ⊎_elim
    (λ (a : (n == 6) ≡ true). let s = same-number n 6 a in omega (arith, s))
    (λ (a : (n == 8) ≡ true). let s = same-number n 8 a in omega (arith, s))
    (or_cases (n == 6) (n == 8) c))
    (or_cases (n == 4) ((n == 6) || (n == 8)) b))
    (or_cases (n == 2) ((n == 4) || ((n == 6) || (n == 8))) e)

some-word : (labels : List Label) (k : ℕ) (q : PointKind) (a : Access) → place_ok labels q ≡ true → In a (place_accesses k q) → 1 ≤ a.words
some-word labels k (Entry l ps) a e h = absurd h
some-word labels k (At (Does (Lit x v))) a e h = absurd h
some-word labels k (At (Does (Una x op y))) a e h = absurd h
some-word labels k (At (Does (Bin x op y z))) a e h = absurd h
some-word labels k (At (Does (Clone xs y))) a e h = absurd h
some-word labels k (At (Does (Read m xs y))) a e h = ⊎_elim (λ f. subst (λ (b : Access). 1 ≤ b.words) f (moves-some m (length xs) e)) (λ z. absurd z) h
some-word labels k (At (Does (Write m y xs))) a e h = ⊎_elim (λ f. subst (λ (b : Access). 1 ≤ b.words) f (moves-some m (length xs) e)) (λ z. absurd z) h
some-word labels k (At (Forks c x y)) a e h = absurd h
some-word labels k (At (Ends l)) a e h = absurd h

pub access-words : (labels : List Label) (a : Access) → single labels ≡ true → In a (accesses labels) → 1 ≤ a.words
access-words labels a s i =
    let ps = points labels in
    let w = present.access-place labels a (contained-in a (accesses labels) i) in
    let sound = each-at (Sound labels (values_among (map (λ (p : Point). p.place) ps)) (uses_among ps)) ps a.point w.0 (sound-points labels s) w.1 in
    some-word labels a.point w.0.place a sound.node (in-contained a (place_accesses a.point w.0.place) w.2)

-- ---- where a run may begin

even-first : (f half : ℕ) → f ≡ 2 * half → (f % 2) ≡ 0
even-first f half e = omega arith

may-begin : (m : Mem) (n f : ℕ) → IsFirst m n f → may_begin m n f ≡ true
may-begin Sram n f h = le-leb (f + n) 8 h
may-begin Scratch n f h = le-leb (f + n) 8 h
may-begin Sdram n f h = and_from (nat_le (f + n) 8) (nat_eq (f % 2) 0) (le-leb (f + n) 8 h.0) (eq-eqb (f % 2) 0 (even-first f h.1.0 h.1.1))

first-low : (m : Mem) (n f : ℕ) → IsFirst m n f → f + n ≤ 8
first-low Sram n f h = h
first-low Scratch n f h = h
first-low Sdram n f h = h.0

pub first-begins : (m : Mem) (n f : ℕ) → 1 ≤ n → IsFirst m n f → In f (beginnings m n)
first-begins m n f l h =
    let low = first-low m n f h in
    kept-in (may_begin m n) f eight (below-eight f (omega arith)) (may-begin m n f h)

-- ---- columns

pub def-there : (labels : List Label) (v : Value) (h : Bank) → In v (values labels) → is_fetched v.origin ≡ false → In h homes → Contains (columns labels) (Def v.var h)
def-there labels v h i e j = present.def-there labels v h (contained-in v (values labels) i) e (contained-in h homes j)

pub dir-there : (labels : List Label) (u : Use) (f : ℕ) (w : UsePoint labels u) → is_result (origin_of labels u.value) ≡ true → In f (role_beginnings (place_words w.point.place) u.role) → Contains (columns labels) (DirectWrite u.point u.operand f)
dir-there labels u f w e i =
    present.dir-there labels u.point w.point u f w.at (contained-in u (point_uses u.point w.point) w.here) e (contained-in f (role_beginnings (place_words w.point.place) u.role) i)

pub fill-there : (labels : List Label) (v : Value) (h : Bank) → In v (values labels) → is_used labels v.var ≡ true → In h homes → Contains (columns labels) (Fill v.var h)
fill-there labels v h i e j = present.fill-there labels v h (contained-in v (values labels) i) e (contained-in h homes j)

pub stay-there : (labels : List Label) (v : Value) (f : ℕ) (w : ValuePoint labels v) → is_used labels v.var ≡ true → In f (origin_beginnings (place_words w.point.place) v.origin) → Contains (columns labels) (Stay v.var f)
stay-there labels v f w e i =
    present.stay-there labels v.point w.point v f w.at (contained-in v (place_values v.point w.point.place) w.here) e (contained-in f (origin_beginnings (place_words w.point.place) v.origin) i)

pub ear-there : (labels : List Label) (u : Use) (f : ℕ) (w : UsePoint labels u) → In f (role_beginnings (place_words w.point.place) u.role) → Contains (columns labels) (EarlyWrite u.point u.operand f)
ear-there labels u f w i =
    present.ear-there labels u.point w.point u f w.at (contained-in u (point_uses u.point w.point) w.here) (contained-in f (role_beginnings (place_words w.point.place) u.role) i)

pub first-there : (labels : List Label) (a : Access) (f : ℕ) → In a (accesses labels) → In f (beginnings a.mem a.words) → Contains (columns labels) (First a.point f)
first-there labels a f i j = present.first-there labels a f (contained-in a (accesses labels) i) (contained-in f (beginnings a.mem a.words) j)

pub srv-there : (labels : List Label) (u : Use) (s : Service) → In u (uses labels) → In s (services u.role) → has_bank (is_fetched (origin_of labels u.value)) s.from ≡ true → Contains (columns labels) (Serve u.point u.operand s.from s.at)
srv-there labels u s i j e = present.srv-there labels u s (contained-in u (uses labels) i) (contained-in s (services u.role) j) e

pub pas-l-there : (labels : List Label) (k : ℕ) (q : Point) (r : ℕ) → slice_get (points labels) k ≡ Some q → 1 ≤ length q.uses → r < 8 → Contains (columns labels) (ReadVia k r)
pas-l-there labels k q r g e l = present.pas-l-there labels k q r g (le-leb 1 (length q.uses) e) (present.contains-eight r l)

pub pas-s-there : (labels : List Label) (k : ℕ) (q : Point) (r : ℕ) → slice_get (points labels) k ≡ Some q → list_any (λ v. is_used labels v.var) (place_values k q.place) ≡ true → r < 8 → Contains (columns labels) (WriteVia k r)
pas-s-there labels k q r g e l = present.pas-s-there labels k q r g e (present.contains-eight r l)
