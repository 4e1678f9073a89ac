-- The paired choice: two operands come from two banks, each bank has room, and no register has two owners.
use Rattle.std.proofs.Common.{◌≡◌, ℕ, zero, suc, ◌+◌, ◌≤◌, Bool, true, false, not, ◌&&◌, if◌then◌else◌, ⊎_elim, Some, List, [], ◌∷◌, ◌++◌, length, map, filter, refl, sym, ap, subst, ◌∙◌, arith}
use Rattle.std.specs.Prelude.{slice_get, nat_le, nat_lt, Contains}
use Rattle.std.specs.List.{flat_map}
use Rattle.std.proofs.lemmas.Bool.{false≢true, false_from_ne_true}
use Rattle.nv_base.specs.Sets.{without}
use Rattle.nv_base.proofs.Sets.{same-number}
use Rattle.ssu_ir.specs.Measures.{most_held, peak}
use Rattle.ssu_ir.specs.Points.{PointKind, Entry, At, Point, points}
use Rattle.ssu_ir.specs.Tree.{Label, Lit, Una, Bin, Clone, Read, Write, Does, Forks, Ends}
use Rattle.place_plan.specs.Fits.{is_result, point_values}
use Rattle.place_plan.specs.Uses.{Access, reads_at, writes_at, ValueOrigin, Parameter, Result, Fetched, Value, values, place_values, Role, Operand, Address, Written, Argument, Ending, Use, uses_at, uses, place_roles, is_used}
use Rattle.ssu_liveness.proofs.Scoped.{different-filter}
use Rattle.place_plan.proofs.Sound.{Each, each-append}
use Rattle.place_plan.proofs.Slotted.{each-any}
use Rattle.bank_prog_form.specs.declared.column.Bank.{Bank}
use Rattle.bank_prog_form.specs.declared.column.Bank.TheVariants.{A, B, M, T, L, A15, W}
use Rattle.bank_prog_form.specs.declared.column.Column.{Column}
use Rattle.bank_prog_form.specs.declared.column.Column.TheVariants.{Def, DirectWrite, Fill, Stay, EarlyWrite, First, Serve, ReadVia, WriteVia}
use Rattle.bank_prog_form.specs.declared.column.Service.{Service}
use Rattle.bank_prog_form.specs.Columns.{each_point, origin_of, eight, place_words, point_uses, role_beginnings, origin_beginnings, services}
use Rattle.bank_prog.specs.Meaning.{Chosen, Holds}
use Rattle.bank_prog_form.specs.Program.{number_of}
use Rattle.bank_prog_form.specs.Rows.{at_most, covers, home, srv_at, two_operands, both_at, pair_lines, operand_lines, operand_banks, live_in, room_lines, capacity, is_sdram, same_side, run_at, origin_stays, stays_at, role_early, early_at, covering, side_covering, waiting, read_owners, access_owners, fill_owners, side_owners, write_owners, owners, stay_begins, word_begins, begins_at, adjacency, is_slot, slot_read, slot_written, result_written, value_written, passes}
use Rattle.bank_prog_rows.proofs.Present.{srv-there}
use Rattle.bank_prog_rows.proofs.PlainLines.{mapped-each}
use Rattle.nova_back.specs.inner.Paired.{is_there, is_second, serves_a, serves_b}
use Rattle.nova_back.proofs.PairedOn.{IsPaired, on-paired, off, contained-there, count-off, count-none, first-most, use-at, home-most, home-b-most, home-m-none}
use Rattle.nova_back.proofs.PairedRows.{AreOff, zero-most, zero-covers, numbered-off, at-a, at-off, serves-none}
use Rattle.reg_assign_reading.specs.inner.Facts.{count}
use Rattle.reg_assign_reading.proofs.ChosenHolds.{most-holds, flat-each, if-each, points-each, only-most}
use Rattle.reg_assign_reading.proofs.Counts.{In, contained-in, in-kept, each-from, count-append}
use Rattle.reg_assign_reading.proofs.FactsThere.{there}

-- ---- two operands

operand-from : (u : Use) (k i : ℕ) (xs : List ℕ) (rs : List Role) → In u (uses_at k i xs rs) → i ≤ u.operand
operand-from u k i [] rs h = absurd h
operand-from u k i (x ∷ xs) [] h = absurd h
operand-from u k i (x ∷ xs) (r ∷ rs) h = ⊎_elim
    (λ (e : ◌≡◌ {A = Use} (record { point = k; operand = i; value = x; role = r }) u). let o : i ≡ u.operand = ap (λ (z : Use). z.operand) e in omega (arith, o))
    (λ (j : In u (uses_at k (suc i) xs rs)). let l = operand-from u k (suc i) xs rs j in omega (arith, l))
    h

both-operands : (r s : Role) (rs : List Role) → two_operands (r ∷ s ∷ rs) ≡ true → s ≡ Operand
both-operands Operand Operand rs e = refl
both-operands Operand Address rs e = absurd (false≢true e)
both-operands Operand (Written m i) rs e = absurd (false≢true e)
both-operands Operand (Argument l i) rs e = absurd (false≢true e)
both-operands Operand (Ending i) rs e = absurd (false≢true e)
both-operands Address s rs e = absurd (false≢true e)
both-operands (Written m i) s rs e = absurd (false≢true e)
both-operands (Argument l i) s rs e = absurd (false≢true e)
both-operands (Ending i) s rs e = absurd (false≢true e)

-- the use of this number, of those of a point
operand-one : (u : Use) (k : ℕ) (xs : List ℕ) (rs : List Role) → two_operands rs ≡ true → In u (uses_at k 0 xs rs) → u.operand ≡ 1 → u.role ≡ Operand
operand-one u k [] rs t h o = absurd h
operand-one u k (x ∷ xs) [] t h o = absurd h
operand-one u k (x ∷ []) (r ∷ rs) t h o = ⊎_elim
    (λ (e : ◌≡◌ {A = Use} (record { point = k; operand = 0; value = x; role = r }) u). let z : 0 ≡ u.operand = ap (λ (w : Use). w.operand) e in absurd (omega (arith, z, o)))
    (λ j. absurd j)
    h
operand-one u k (x ∷ y ∷ xs) (r ∷ []) t h o = ⊎_elim
    (λ (e : ◌≡◌ {A = Use} (record { point = k; operand = 0; value = x; role = r }) u). let z : 0 ≡ u.operand = ap (λ (w : Use). w.operand) e in absurd (omega (arith, z, o)))
    (λ j. absurd j)
    h
operand-one u k (x ∷ y ∷ xs) (r ∷ s ∷ rs) t h o = ⊎_elim
    (λ (e : ◌≡◌ {A = Use} (record { point = k; operand = 0; value = x; role = r }) u). let z : 0 ≡ u.operand = ap (λ (w : Use). w.operand) e in absurd (omega (arith, z, o)))
    (λ (j : In u (uses_at k 1 (y ∷ xs) (s ∷ rs))). ⊎_elim
    (λ (e : ◌≡◌ {A = Use} (record { point = k; operand = 1; value = y; role = s }) u). ap (λ (w : Use). w.role) (sym e) ∙ both-operands r s rs t)
    (λ (m : In u (uses_at k 2 xs rs)). let l = operand-from u k 2 xs rs m in absurd (omega (arith, l, o)))
    j)
    h

-- the second of two operands isn't served from A
second-off : (labels : List Label) (on : Chosen) (k : ℕ) (q : Point) → IsPaired labels on → slice_get (points labels) k ≡ Some q → two_operands (place_roles q.place) ≡ true → on (Serve k 1 A A) ≡ false
second-off labels on k q g at t = false_from_ne_true (on (Serve k 1 A A)) (λ f.
    let w = there labels on (Serve k 1 A A) g.only f in
    let u = w.use_ in
    let m = use-at labels u w.there in
    let found : slice_get (points labels) k ≡ Some m.0 = subst (λ n. slice_get (points labels) n ≡ Some m.0) w.point m.1 in
    let same : m.0 ≡ q = let both : Some m.0 ≡ Some q = sym found ∙ at in cc in
    let role : u.role ≡ Operand = operand-one u u.point m.0.uses (place_roles m.0.place) (subst (λ (z : Point). two_operands (place_roles z.place) ≡ true) (sym same) t) m.2 w.operand in
    let through : Service = record { from = M; at = L; cost = 16 } in
    let there' = contained-there labels (Serve u.point u.operand M L) (srv-there labels u through (contained-in u (uses labels) w.there) (subst (λ r. Contains (services r) through) (sym role) (3, omega arith, refl)) refl) in
    let moved : is_there (number_of labels) (Serve k 1 M L) ≡ true = subst (λ n. is_there (number_of labels) (Serve n 1 M L) ≡ true) w.point (subst (λ i. is_there (number_of labels) (Serve u.point i M L) ≡ true) w.operand there') in
    false≢true (sym (ap not moved) ∙ on-paired labels on g (Serve k 1 A A) f))

two-flat : {X : Type 0} (on : Chosen) (f : X → List Column) (x y : X) → count on (flat_map f (x ∷ y ∷ [])) ≡ count on (f x) + count on (f y)
two-flat on f x y =
    let a = count-append on (f x) (f y ++ []) in
    let b = count-append on (f y) [] in
    omega (arith, a, b)

one-flat : {X : Type 0} (on : Chosen) (f : X → List Column) (x : X) → count on (flat_map f (x ∷ [])) ≡ count on (f x)
one-flat on f x = let b = count-append on (f x) [] in omega (arith, b)

-- no use is served at these
at-none : (labels : List Label) (on : Chosen) (k i : ℕ) (p : Bank) → IsPaired labels on → serves_a (is_second (number_of labels) k i) p ≡ false → serves_b (is_second (number_of labels) k i) p ≡ false → count on (srv_at k i p) ≡ 0
at-none labels on k i p g a b = count-none on (srv_at k i p) (at-off labels on k i p g (serves-none (is_second (number_of labels) k i) p a b))

at-b : (labels : List Label) (on : Chosen) (k i : ℕ) → IsPaired labels on → count on (srv_at k i B) ≤ 1
at-b labels on k i g =
    let c0 = count-off on (Serve k i A B) (map (λ h. Serve k i h B) (B ∷ M ∷ T ∷ L ∷ A15 ∷ W ∷ [])) (off labels on g (Serve k i A B) refl) in
    subst (λ n. n ≤ 1) (sym c0)
    (first-most on (Serve k i B B) (map (λ h. Serve k i h B) (M ∷ T ∷ L ∷ A15 ∷ W ∷ []))
    (off labels on g (Serve k i M B) refl, (off labels on g (Serve k i T B) refl, (off labels on g (Serve k i L B) refl, (off labels on g (Serve k i A15 B) refl, (off labels on g (Serve k i W B) refl, tt))))))

second-none : (labels : List Label) (on : Chosen) (k : ℕ) → IsPaired labels on → on (Serve k 1 A A) ≡ false → count on (srv_at k 1 A) ≡ 0
second-none labels on k g e =
    count-none on (srv_at k 1 A)
    (e, (off labels on g (Serve k 1 B A) refl, (off labels on g (Serve k 1 M A) refl, (off labels on g (Serve k 1 T A) refl, (off labels on g (Serve k 1 L A) refl, (off labels on g (Serve k 1 A15 A) refl, (off labels on g (Serve k 1 W A) refl, tt)))))))

pairs-lines : (labels : List Label) (on : Chosen) (k : ℕ) (q : Point) → IsPaired labels on → slice_get (points labels) k ≡ Some q → two_operands (place_roles q.place) ≡ true → Each (Holds on) (pair_lines k)
pairs-lines labels on k q g at t =
    let a1 = at-a labels on k 0 g in
    let a2 = at-none labels on k 0 A15 g refl refl in
    let a3 = second-none labels on k g (second-off labels on k q g at t) in
    let a4 = at-none labels on k 1 A15 g refl refl in
    let a5 = two-flat on (srv_at k 0) A A15 in
    let a6 = two-flat on (srv_at k 1) A A15 in
    let a7 = count-append on (flat_map (srv_at k 0) (A ∷ A15 ∷ [])) (flat_map (srv_at k 1) (A ∷ A15 ∷ [])) in
    let b1 = at-none labels on k 0 B g refl refl in
    let b2 = at-b labels on k 1 g in
    let b3 = one-flat on (srv_at k 0) B in
    let b4 = one-flat on (srv_at k 1) B in
    let b5 = count-append on (flat_map (srv_at k 0) (B ∷ [])) (flat_map (srv_at k 1) (B ∷ [])) in
    let c1 = at-none labels on k 0 L g refl refl in
    let c2 = at-none labels on k 0 T g refl refl in
    let c3 = at-none labels on k 1 L g refl refl in
    let c4 = at-none labels on k 1 T g refl refl in
    let c5 = two-flat on (srv_at k 0) L T in
    let c6 = two-flat on (srv_at k 1) L T in
    let c7 = count-append on (flat_map (srv_at k 0) (L ∷ T ∷ [])) (flat_map (srv_at k 1) (L ∷ T ∷ [])) in (
      most-holds on 1 (both_at k (A ∷ A15 ∷ [])) (omega (arith, a1, a2, a3, a4, a5, a6, a7)),
      (
        most-holds on 1 (both_at k (B ∷ [])) (omega (arith, b1, b2, b3, b4, b5)),
        (most-holds on 1 (both_at k (L ∷ T ∷ [])) (omega (arith, c1, c2, c3, c4, c5, c6, c7)), tt),
      ),
    )

from-zero : (i k : ℕ) → k ≡ 0 + i → i ≡ k
from-zero i k e = omega (arith, e)

at-point : (labels : List Label) (i k : ℕ) (q : Point) → k ≡ 0 + i → slice_get (points labels) i ≡ Some q → slice_get (points labels) k ≡ Some q
at-point labels i k q e s = subst (λ n. slice_get (points labels) n ≡ Some q) (from-zero i k e) s

pub operands-lines : (labels : List Label) (on : Chosen) → IsPaired labels on → Each (Holds on) (operand_banks labels)
operands-lines labels on g = points-each (Holds on) operand_lines 0 (points labels) (λ i k q e s.
    if-each (Holds on) (two_operands (place_roles q.place)) (pair_lines k) (λ t. pairs-lines labels on k q g (at-point labels i k q e s) t))

-- ---- capacity

few-homes : (on : Chosen) (h : Bank) (xs : List ℕ) → ((x : ℕ) → count on (home x h) ≤ 1) → count on (live_in xs h) ≤ length xs
few-homes on h [] f = omega arith
few-homes on h (x ∷ xs) f =
    let a = f x in
    let b = few-homes on h xs f in
    let c = count-append on (home x h) (live_in xs h) in
    omega (arith, a, b, c)

held-most : (ps : List Point) (k : ℕ) (q : Point) → slice_get ps k ≡ Some q → length q.before ≤ most_held ps
held-most [] k q e = absurd (cc)
held-most (p ∷ ps) zero q e = let same : length p.before ≡ length q.before = (let s : p ≡ q = cc in ap (λ (z : Point). length z.before) s) in omega (arith, same)
held-most (p ∷ ps) (suc k) q e = let l = held-most ps k q e in omega (arith, l)

none-in-m : (labels : List Label) (on : Chosen) (xs : List ℕ) → IsPaired labels on → count on (live_in xs M) ≡ 0
none-in-m labels on [] g = refl
none-in-m labels on (x ∷ xs) g =
    let a = home-m-none labels on x g in
    let b = none-in-m labels on xs g in
    let c = count-append on (home x M) (live_in xs M) in
    omega (arith, a, b, c)

rooms-lines : (labels : List Label) (on : Chosen) (slots : ℕ) (xs : List ℕ) → IsPaired labels on → length xs ≤ 15 → Each (Holds on) (room_lines slots xs)
rooms-lines labels on slots xs g l =
    let a = few-homes on A xs (λ x. home-most labels on x g) in
    let b = few-homes on B xs (λ x. home-b-most labels on x g) in
    let m = none-in-m labels on xs g in
    (most-holds on 15 (live_in xs A) (omega (arith, a, l)), (most-holds on 15 (live_in xs B) (omega (arith, b, l)), (most-holds on slots (live_in xs M) (omega (arith, m)), tt)))

pub capacity-lines : (labels : List Label) (on : Chosen) (slots : ℕ) → IsPaired labels on → peak labels ≤ 15 → Each (Holds on) (capacity labels slots)
capacity-lines labels on slots g l = points-each (Holds on) (λ k (q : Point). room_lines slots q.before) 0 (points labels) (λ i k q e s.
    let few = held-most (points labels) i q s in
    rooms-lines labels on slots q.before g (omega (arith, few, l)))

-- ---- owners

origin-off : (labels : List Label) (on : Chosen) (sdram : Bool) (r x : ℕ) (s : ValueOrigin) → IsPaired labels on → AreOff on (origin_stays sdram r x s)
origin-off labels on sdram r x (Parameter l i) g = tt
origin-off labels on sdram r x Result g = tt
origin-off labels on sdram r x (Fetched m i) g = if-each (λ c. on c ≡ false) (same_side sdram (is_sdram m)) (map (Stay x) (run_at r i)) (λ e. numbered-off labels on (Stay x) (run_at r i) g (λ f. refl))

stays-off : (labels : List Label) (on : Chosen) (sdram : Bool) (r : ℕ) (xs : List ℕ) → IsPaired labels on → AreOff on (stays_at labels sdram r xs)
stays-off labels on sdram r xs g =
    flat-each (λ c. on c ≡ false) (λ x. origin_stays sdram r x (origin_of labels x)) xs (each-any (λ x. AreOff on (origin_stays sdram r x (origin_of labels x))) xs (λ x. origin-off labels on sdram r x (origin_of labels x) g))

role-off : (labels : List Label) (on : Chosen) (sdram : Bool) (r k i : ℕ) (role : Role) → IsPaired labels on → AreOff on (role_early sdram r k i role)
role-off labels on sdram r k i Operand g = tt
role-off labels on sdram r k i Address g = tt
role-off labels on sdram r k i (Written m j) g =
    if-each (λ c. on c ≡ false) (same_side sdram (is_sdram m)) (map (DirectWrite k i) (run_at r j) ++ map (EarlyWrite k i) (run_at r j)) (λ e.
    each-append (λ c. on c ≡ false) (map (DirectWrite k i) (run_at r j)) (map (EarlyWrite k i) (run_at r j)) (numbered-off labels on (DirectWrite k i) (run_at r j) g (λ f. refl)) (numbered-off labels on (EarlyWrite k i) (run_at r j) g (λ f. refl)))
role-off labels on sdram r k i (Argument l j) g = tt
role-off labels on sdram r k i (Ending j) g = tt

waits-off : (labels : List Label) (on : Chosen) (sdram : Bool) (r : ℕ) (us : List Use) → IsPaired labels on → AreOff on (early_at sdram r us)
waits-off labels on sdram r us g =
    flat-each (λ c. on c ≡ false) (λ (u : Use). role_early sdram r u.point u.operand u.role) us
    (each-any (λ (u : Use). AreOff on (role_early sdram r u.point u.operand u.role)) us (λ (u : Use). role-off labels on sdram r u.point u.operand u.role g))

-- a run begins at the first register only
covered-once : (labels : List Label) (on : Chosen) (r : ℕ) (a : Access) → IsPaired labels on → count on (covering r a) ≤ 1
covered-once labels on r a g =
    only-most on (First a.point) 0 (filter (λ f. nat_le f r && nat_lt r (f + a.words)) eight)
    (λ f e. same-number f 0 (on-paired labels on g (First a.point f) e))
    (different-filter (λ f. nat_le f r && nat_lt r (f + a.words)) eight refl)

side-once : (labels : List Label) (on : Chosen) (sdram : Bool) (r : ℕ) (a : Access) → IsPaired labels on → count on (side_covering sdram r a) ≤ 1
side-once labels on sdram r a g = by (same_side sdram (is_sdram a.mem))
  where
    by : (b : Bool) → count on (if b then covering r a else []) ≤ 1
    by true = covered-once labels on r a g
    by false = omega arith

writes-once : (labels : List Label) (on : Chosen) (sdram : Bool) (r k : ℕ) (q : PointKind) → IsPaired labels on → count on (flat_map (side_covering sdram r) (writes_at k q)) ≤ 1
writes-once labels on sdram r k (Entry l ps) g = omega arith
writes-once labels on sdram r k (At (Does (Lit x v))) g = omega arith
writes-once labels on sdram r k (At (Does (Una x op y))) g = omega arith
writes-once labels on sdram r k (At (Does (Bin x op y z))) g = omega arith
writes-once labels on sdram r k (At (Does (Clone xs y))) g = omega arith
writes-once labels on sdram r k (At (Does (Read m xs y))) g = omega arith
writes-once labels on sdram r k (At (Does (Write m y xs))) g =
    let a : Access = record { point = k; mem = m; words = length xs } in
    let b = one-flat on (side_covering sdram r) a in
    let c = side-once labels on sdram r a g in
    omega (arith, b, c)
writes-once labels on sdram r k (At (Forks c x y)) g = omega arith
writes-once labels on sdram r k (At (Ends l)) g = omega arith

reads-own : (labels : List Label) (on : Chosen) (k : ℕ) (q : Point) → IsPaired labels on → Each (Holds on) (read_owners labels k q)
reads-own labels on k q g =
    each-append (Holds on) (map (λ r. at_most 1 (stays_at labels false r q.before ++ ReadVia k r ∷ [])) eight) (map (λ r. at_most 1 (stays_at labels true r q.before)) eight)
    (mapped-each (Holds on) (λ r. at_most 1 (stays_at labels false r q.before ++ ReadVia k r ∷ [])) eight
    (each-any (λ r. Holds on (at_most 1 (stays_at labels false r q.before ++ ReadVia k r ∷ []))) eight (λ r.
    zero-most on 1 (stays_at labels false r q.before ++ ReadVia k r ∷ [])
    (each-append (λ c. on c ≡ false) (stays_at labels false r q.before) (ReadVia k r ∷ []) (stays-off labels on false r q.before g) (off labels on g (ReadVia k r) refl, tt)))))
    (mapped-each (Holds on) (λ r. at_most 1 (stays_at labels true r q.before)) eight
    (each-any (λ r. Holds on (at_most 1 (stays_at labels true r q.before))) eight (λ r. zero-most on 1 (stays_at labels true r q.before) (stays-off labels on true r q.before g))))

access-owns : (labels : List Label) (on : Chosen) (xs : List ℕ) (a : Access) → IsPaired labels on → Each (Holds on) (access_owners labels xs a)
access-owns labels on xs a g =
    mapped-each (Holds on) (λ r. at_most 1 (stays_at labels (is_sdram a.mem) r xs ++ covering r a)) eight
    (each-any (λ r. Holds on (at_most 1 (stays_at labels (is_sdram a.mem) r xs ++ covering r a))) eight (λ r.
    let stays = stays_at labels (is_sdram a.mem) r xs in
    let z = count-none on stays (stays-off labels on (is_sdram a.mem) r xs g) in
    let c = covered-once labels on r a g in
    let s = count-append on stays (covering r a) in
    most-holds on 1 (stays ++ covering r a) (omega (arith, z, c, s))))

side-owns : (labels : List Label) (on : Chosen) (k : ℕ) (q : Point) (sdram : Bool) (pass : ℕ → List Column) → IsPaired labels on → ((r : ℕ) → AreOff on (pass r)) → Each (Holds on) (side_owners labels k q sdram pass)
side-owns labels on k q sdram pass g h =
    let owned : ℕ → List Column = λ r. early_at sdram r (waiting labels k q) ++ (pass r ++ flat_map (side_covering sdram r) (writes_at k q.place)) in
    mapped-each (Holds on) (λ r. at_most 1 (owned r)) eight (each-any (λ r. Holds on (at_most 1 (owned r))) eight (λ r.
    let early = early_at sdram r (waiting labels k q) in
    let writes = flat_map (side_covering sdram r) (writes_at k q.place) in
    let a = count-none on early (waits-off labels on sdram r (waiting labels k q) g) in
    let b = count-none on (pass r) (h r) in
    let c = writes-once labels on sdram r k q.place g in
    let d = count-append on early (pass r ++ writes) in
    let e = count-append on (pass r) writes in
    most-holds on 1 (owned r) (omega (arith, a, b, c, d, e))))

writes-own : (labels : List Label) (on : Chosen) (k : ℕ) (q : Point) → IsPaired labels on → Each (Holds on) (write_owners labels k q)
writes-own labels on k q g =
    each-append (Holds on) (side_owners labels k q false (λ r. WriteVia k r ∷ [])) (side_owners labels k q true (λ r. []))
    (side-owns labels on k q false (λ r. WriteVia k r ∷ []) g (λ r. (off labels on g (WriteVia k r) refl, tt)))
    (side-owns labels on k q true (λ r. []) g (λ r. tt))

pub owners-lines : (labels : List Label) (on : Chosen) → IsPaired labels on → Each (Holds on) (owners labels)
owners-lines labels on g =
    let ps = points labels in
    each-append (Holds on) (each_point (read_owners labels) 0 ps) _
    (points-each (Holds on) (read_owners labels) 0 ps (λ i k q e s. reads-own labels on k q g))
    (each-append (Holds on) (each_point (fill_owners labels) 0 ps) (each_point (write_owners labels) 0 ps)
    (points-each (Holds on) (fill_owners labels) 0 ps (λ i k q e s.
    let xs = without q.after (point_values k q) in
    flat-each (Holds on) (access_owners labels xs) (reads_at k q.place) (each-any (λ a. Each (Holds on) (access_owners labels xs a)) (reads_at k q.place) (λ a. access-owns labels on xs a g))))
    (points-each (Holds on) (write_owners labels) 0 ps (λ i k q e s. writes-own labels on k q g)))

-- ---- adjacency

stay-lines : (labels : List Label) (on : Chosen) (n : ℕ) (v : Value) → IsPaired labels on → Each (Holds on) (stay_begins labels n v)
stay-lines labels on n v g =
    let line = λ (f : ℕ). covers (First v.point f ∷ []) (Stay v.var f ∷ []) in
    let fs = origin_beginnings n v.origin in
    if-each (Holds on) (is_used labels v.var) (map line fs) (λ e. mapped-each (Holds on) line fs (each-any (λ f. Holds on (line f)) fs (λ f.
    zero-covers on (First v.point f ∷ []) (Stay v.var f ∷ []) (off labels on g (Stay v.var f) refl, tt))))

word-lines : (labels : List Label) (on : Chosen) (n : ℕ) (u : Use) → IsPaired labels on → Each (Holds on) (word_begins n u)
word-lines labels on n u g =
    let line = λ (f : ℕ). covers (First u.point f ∷ []) (DirectWrite u.point u.operand f ∷ EarlyWrite u.point u.operand f ∷ []) in
    let fs = role_beginnings n u.role in
    mapped-each (Holds on) line fs (each-any (λ f. Holds on (line f)) fs (λ f.
    zero-covers on (First u.point f ∷ []) (DirectWrite u.point u.operand f ∷ EarlyWrite u.point u.operand f ∷ []) (off labels on g (DirectWrite u.point u.operand f) refl, (off labels on g (EarlyWrite u.point u.operand f) refl, tt))))

pub adjacency-lines : (labels : List Label) (on : Chosen) → IsPaired labels on → Each (Holds on) (adjacency labels)
adjacency-lines labels on g = points-each (Holds on) (begins_at labels) 0 (points labels) (λ i k q e s.
    let n = place_words q.place in
    let vs = place_values k q.place in
    let us = point_uses k q in
    each-append (Holds on) (flat_map (stay_begins labels n) vs) (flat_map (word_begins n) us)
    (flat-each (Holds on) (stay_begins labels n) vs (each-any (λ v. Each (Holds on) (stay_begins labels n v)) vs (λ v. stay-lines labels on n v g)))
    (flat-each (Holds on) (word_begins n) us (each-any (λ u. Each (Holds on) (word_begins n u)) us (λ u. word-lines labels on n u g))))

-- ---- passes

slot-off : (labels : List Label) (on : Chosen) (k i : ℕ) (h p : Bank) → IsPaired labels on → is_slot h ≡ true → on (Serve k i h p) ≡ false
slot-off labels on k i A p g e = absurd (false≢true e)
slot-off labels on k i B p g e = absurd (false≢true e)
slot-off labels on k i M p g e = off labels on g (Serve k i M p) refl
slot-off labels on k i T p g e = absurd (false≢true e)
slot-off labels on k i L p g e = absurd (false≢true e)
slot-off labels on k i A15 p g e = absurd (false≢true e)
slot-off labels on k i W p g e = absurd (false≢true e)

reads-slot : (labels : List Label) (on : Chosen) (u : Use) → IsPaired labels on → Each (Holds on) (slot_read u)
reads-slot labels on u g =
    let from-slot = filter (λ (s : Service). is_slot s.from) (services u.role) in
    mapped-each (Holds on) (λ (s : Service). covers (map (ReadVia u.point) eight) (Serve u.point u.operand s.from s.at ∷ [])) from-slot
    (each-from (λ (s : Service). Holds on (covers (map (ReadVia u.point) eight) (Serve u.point u.operand s.from s.at ∷ []))) from-slot (λ s i.
    zero-covers on (map (ReadVia u.point) eight) (Serve u.point u.operand s.from s.at ∷ [])
    (slot-off labels on u.point u.operand s.from s.at g (in-kept (λ (t : Service). is_slot t.from) s (services u.role) i).1, tt)))

writes-slot : (labels : List Label) (on : Chosen) (v : Value) → IsPaired labels on → Each (Holds on) (value_written labels v)
writes-slot labels on v g =
    if-each (Holds on) (is_used labels v.var) (slot_written v.point (Fill v.var M) ∷ result_written v) (λ e. (
      zero-covers on (map (WriteVia v.point) eight) (Fill v.var M ∷ []) (off labels on g (Fill v.var M) refl, tt),
      if-each (Holds on) (is_result v.origin) (slot_written v.point (Def v.var M) ∷ []) (λ f. (zero-covers on (map (WriteVia v.point) eight) (Def v.var M ∷ []) (off labels on g (Def v.var M) refl, tt), tt)),
    ))

pub passes-lines : (labels : List Label) (on : Chosen) → IsPaired labels on → Each (Holds on) (passes labels)
passes-lines labels on g =
    each-append (Holds on) (flat_map slot_read (uses labels)) (flat_map (value_written labels) (values labels))
    (flat-each (Holds on) slot_read (uses labels) (each-any (λ u. Each (Holds on) (slot_read u)) (uses labels) (λ u. reads-slot labels on u g)))
    (flat-each (Holds on) (value_written labels) (values labels) (each-any (λ v. Each (Holds on) (value_written labels v)) (values labels) (λ v. writes-slot labels on v g)))
