-- What the lines say of a point.
use Rattle.std.proofs.Common.{◌≡◌, ℕ, zero, suc, ◌+◌, ◌-◌, ◌%◌, ◌<◌, ◌≤◌, nat_eq, nat_lt, nat_le, Bool, true, false, ◌&&◌, if◌then◌else◌, Some, List, [], ◌∷◌, ◌++◌, length, map, filter, refl, sym, ap, subst, inl, inr, ⊎_elim, ◌∙◌, arith}
use Rattle.std.specs.Prelude.{slice_get}
use Rattle.std.specs.List.{flat_map, list_any}
use Rattle.std.proofs.lemmas.Bool.{false≢true, false_from_ne_true, and_from, and_parts, or_cases, leb-true, le-leb, lt-ltb}
use Rattle.nv_base.specs.Sets.{is_in, without}
use Rattle.nv_base.specs.declared.term.Mem.{Mem}
use Rattle.nv_base.specs.declared.term.Mem.TheVariants.{Sram, Sdram, Scratch}
use Rattle.nv_base.proofs.Sets.{same-number}
use Rattle.ssu_ir.specs.Tree.{Label, Lit, Una, Bin, Clone, Read, Write, Jump, Halt, Does, Forks, Ends}
use Rattle.ssu_ir.specs.Points.{PointKind, Entry, At, Point, points}
use Rattle.place_plan.specs.Uses.{Access, reads_at, writes_at, Parameter, Result, Fetched, Value, values, numbered, place_values, Role, Operand, Address, Written, Argument, Ending, Use, uses, uses_at, roles, place_roles, is_used}
use Rattle.place_plan.specs.Fits.{point_values, same_use}
use Rattle.ssu_liveness.proofs.Scoped.{in-itself}
use Rattle.place_plan.proofs.Sound.{Each}
use Rattle.place_plan.proofs.Spilled.{each-left, each-right}
use Rattle.bank_prog_form.specs.declared.column.Bank.{Bank}
use Rattle.bank_prog_form.specs.declared.column.Bank.TheVariants.{A, B, M, T, L, A15, W}
use Rattle.bank_prog_form.specs.declared.column.Column.{Column}
use Rattle.bank_prog_form.specs.declared.column.Column.TheVariants.{Def, DirectWrite, Fill, Stay, EarlyWrite, First, Serve, ReadVia, WriteVia}
use Rattle.bank_prog_form.specs.Columns.{origin_of, eight, may_begin, beginnings, role_beginnings, origin_beginnings, place_words}
use Rattle.bank_prog_form.specs.Rows.{Line, at_most, banks, srv_at, two_operands, both_at, pair_lines, operand_lines, live_in, home, room_lines, is_sdram, same_side, run_at, origin_stays, stays_at, role_early, early_at, covering, side_covering, waiting, read_owners, access_owners, fill_owners, side_owners, write_owners}
use Rattle.bank_prog.specs.Meaning.{Chosen, Holds}
use Rattle.reg_assign_reading.specs.inner.Facts.{count, in_bank, StaysIn, WaitsIn, Covers, waits_at, same_group, PointFacts}
use Rattle.reg_assign_reading.proofs.Counts.{In, in-contained, in-left, in-right, in-kept, kept-in, map-in, each-in, each-flat, each-map, if-there, at-most, count-append, some-counted, both-counted, part-counted, parts-counted}
use Rattle.reg_assign_reading.proofs.FactsThere.{there}
use Rattle.reg_assign_reading.proofs.FactsValues.{Known, origin-found}
use Rattle.reg_assign_reading.proofs.FactsUses.{either-counted, in-banks, early-there}

-- ---- elements

pub flat-in : {X Y : Type 0} (f : X → List Y) (x : X) (y : Y) (xs : List X) → In x xs → In y (f x) → In y (flat_map f xs)
flat-in f x y [] i j = absurd i
flat-in f x y (z ∷ xs) i j = ⊎_elim
    (λ (e : z ≡ x). in-left y (f z) (flat_map f xs) (subst (λ w. In y (f w)) (sym e) j))
    (λ (k : In x xs). in-right y (f z) (flat_map f xs) (flat-in f x y xs k j))
    i

pub in-is : (x : ℕ) (xs : List ℕ) → is_in x xs ≡ true → In x xs
in-is x [] e = absurd (false≢true e)
in-is x (y ∷ ys) e = ⊎_elim
    (λ (f : nat_eq x y ≡ true). inl (sym (same-number x y f)))
    (λ (f : is_in x ys ≡ true). inr (in-is x ys f))
    (or_cases (nat_eq x y) (is_in x ys) e)

in-without : (x : ℕ) (xs gone : List ℕ) → In x xs → is_in x gone ≡ false → In x (without xs gone)
in-without x [] gone i e = absurd i
in-without x (y ∷ ys) gone i e = by (λ j. in-without x ys gone j e) (is_in y gone) refl i
  where
    by : (In x ys → In x (without ys gone)) → (b : Bool) → is_in y gone ≡ b → In x (y ∷ ys) → In x (if b then without ys gone else y ∷ without ys gone)
    by f true g j = ⊎_elim
        (λ (s : y ≡ x). absurd (false≢true (sym e ∙ subst (λ n. is_in n gone ≡ true) s g)))
        (λ (k : In x ys). f k)
        j
    by f false g j = ⊎_elim (λ (s : y ≡ x). inl s) (λ (k : In x ys). inr (f k)) j

pub below-eight : (r : ℕ) → r < 8 → In r eight
below-eight zero l = inl refl
below-eight (suc zero) l = inr (inl refl)
below-eight (suc (suc zero)) l = inr (inr (inl refl))
below-eight (suc (suc (suc zero))) l = inr (inr (inr (inl refl)))
below-eight (suc (suc (suc (suc zero)))) l = inr (inr (inr (inr (inl refl))))
below-eight (suc (suc (suc (suc (suc zero))))) l = inr (inr (inr (inr (inr (inl refl)))))
below-eight (suc (suc (suc (suc (suc (suc zero)))))) l = inr (inr (inr (inr (inr (inr (inl refl))))))
below-eight (suc (suc (suc (suc (suc (suc (suc zero))))))) l = inr (inr (inr (inr (inr (inr (inr (inl refl)))))))
below-eight (suc (suc (suc (suc (suc (suc (suc (suc r)))))))) l = absurd (omega (arith, l))

run-ends : (m : Mem) (n f : ℕ) → may_begin m n f ≡ true → f + n ≤ 8
run-ends Sram n f e = leb-true (f + n) 8 e
run-ends Sdram n f e = let p = and_parts (nat_le (f + n) 8) (nat_eq (f % 2) 0) e in leb-true (f + n) 8 p.0
run-ends Scratch n f e = leb-true (f + n) 8 e

pub begun : (m : Mem) (n f : ℕ) → In f (beginnings m n) → In f eight × (f + n ≤ 8)
begun m n f i = let w = in-kept (may_begin m n) f eight i in (w.0, run-ends m n f w.1)

-- ---- words are numbered below their number

fetched-word : (k : ℕ) (m : Mem) (i : ℕ) (xs : List ℕ) (v : Value) (n : Mem) (j : ℕ) → In v (numbered k (Fetched m) i xs) → v.origin ≡ Fetched n j → j < i + length xs
fetched-word k m i [] v n j h e = absurd h
fetched-word k m i (x ∷ xs) v n j h e = ⊎_elim
    (λ (f : ◌≡◌ {A = Value} (record { point = k; var = x; origin = Fetched m i }) v).
    let s : Fetched m i ≡ Fetched n j = ap (λ (w : Value). w.origin) f ∙ e in
    let same : i ≡ j = cc in
    omega (arith, same))
    (λ (r : In v (numbered k (Fetched m) (suc i) xs)). let l = fetched-word k m (suc i) xs v n j r e in omega (arith, l))
    h

no-parameter : (k l i : ℕ) (xs : List ℕ) (v : Value) (n : Mem) (j : ℕ) → In v (numbered k (Parameter l) i xs) → v.origin ≡ Fetched n j → ⊥
no-parameter k l i [] v n j h e = absurd h
no-parameter k l i (x ∷ xs) v n j h e = ⊎_elim
    (λ (f : ◌≡◌ {A = Value} (record { point = k; var = x; origin = Parameter l i }) v).
    let s : Parameter l i ≡ Fetched n j = ap (λ (w : Value). w.origin) f ∙ e in
    absurd (cc))
    (λ (r : In v (numbered k (Parameter l) (suc i) xs)). no-parameter k l (suc i) xs v n j r e)
    h

no-result : (k x : ℕ) (v : Value) (n : Mem) (j : ℕ) → In v (record { point = k; var = x; origin = Result } ∷ []) → v.origin ≡ Fetched n j → ⊥
no-result k x v n j h e = ⊎_elim
    (λ (f : ◌≡◌ {A = Value} (record { point = k; var = x; origin = Result }) v).
    let s : Result ≡ Fetched n j = ap (λ (w : Value). w.origin) f ∙ e in
    absurd (cc))
    (λ z. absurd z)
    h

pub value-word : (k : ℕ) (q : PointKind) (v : Value) (n : Mem) (j : ℕ) → In v (place_values k q) → v.origin ≡ Fetched n j → j < place_words q
value-word k (Entry l ps) v n j h e = absurd (no-parameter k l 0 ps v n j h e)
value-word k (At (Does (Lit x w))) v n j h e = absurd (no-result k x v n j h e)
value-word k (At (Does (Una x op y))) v n j h e = absurd (no-result k x v n j h e)
value-word k (At (Does (Bin x op y z))) v n j h e = absurd (no-result k x v n j h e)
value-word k (At (Does (Clone xs y))) v n j h e = absurd h
value-word k (At (Does (Read m xs y))) v n j h e = let l = fetched-word k m 0 xs v n j h e in omega (arith, l)
value-word k (At (Does (Write m y xs))) v n j h e = absurd h
value-word k (At (Forks c x y)) v n j h e = absurd h
value-word k (At (Ends l)) v n j h e = absurd h

pub role-among : (k i : ℕ) (xs : List ℕ) (rs : List Role) (u : Use) → In u (uses_at k i xs rs) → In u.role rs
role-among k i [] rs u h = absurd h
role-among k i (x ∷ xs) [] u h = absurd h
role-among k i (x ∷ xs) (r ∷ rs) u h = ⊎_elim
    (λ (f : ◌≡◌ {A = Use} (record { point = k; operand = i; value = x; role = r }) u). inl (ap (λ (w : Use). w.role) f))
    (λ (j : In u (uses_at k (suc i) xs rs)). inr (role-among k (suc i) xs rs u j))
    h

written-word : (m : Mem) (i : ℕ) (xs : List ℕ) (n : Mem) (j : ℕ) → In (Written n j) (roles (Written m) i xs) → j < i + length xs
written-word m i [] n j h = absurd h
written-word m i (x ∷ xs) n j h = ⊎_elim
    (λ (f : Written m i ≡ Written n j). let same : i ≡ j = cc in omega (arith, same))
    (λ (r : In (Written n j) (roles (Written m) (suc i) xs)). let l = written-word m (suc i) xs n j r in omega (arith, l))
    h

pub no-argument : (l i : ℕ) (xs : List ℕ) (n : Mem) (j : ℕ) → In (Written n j) (roles (Argument l) i xs) → ⊥
no-argument l i [] n j h = h
no-argument l i (x ∷ xs) n j h = ⊎_elim
    (λ (f : Argument l i ≡ Written n j). absurd (cc))
    (λ (r : In (Written n j) (roles (Argument l) (suc i) xs)). no-argument l (suc i) xs n j r)
    h

pub no-ending : (i : ℕ) (xs : List ℕ) (n : Mem) (j : ℕ) → In (Written n j) (roles Ending i xs) → ⊥
no-ending i [] n j h = h
no-ending i (x ∷ xs) n j h = ⊎_elim
    (λ (f : Ending i ≡ Written n j). absurd (cc))
    (λ (r : In (Written n j) (roles Ending (suc i) xs)). no-ending (suc i) xs n j r)
    h

pub no-operand : (n : Mem) (j : ℕ) → Operand ≡ Written n j → ⊥
no-operand n j e = absurd (cc)

pub no-address : (n : Mem) (j : ℕ) → Address ≡ Written n j → ⊥
no-address n j e = absurd (cc)

pub role-word : (q : PointKind) (n : Mem) (j : ℕ) → In (Written n j) (place_roles q) → j < place_words q
role-word (Entry l ps) n j h = absurd h
role-word (At (Does (Lit x w))) n j h = absurd h
role-word (At (Does (Una x op y))) n j h = ⊎_elim (λ e. absurd (no-operand n j e)) (λ z. absurd z) h
role-word (At (Does (Bin x op y z))) n j h = ⊎_elim (λ e. absurd (no-operand n j e)) (λ r. ⊎_elim (λ e. absurd (no-operand n j e)) (λ w. absurd w) r) h
role-word (At (Does (Clone xs y))) n j h = absurd h
role-word (At (Does (Read m xs y))) n j h = ⊎_elim (λ e. absurd (no-address n j e)) (λ z. absurd z) h
role-word (At (Does (Write m y xs))) n j h = ⊎_elim (λ e. absurd (no-address n j e)) (λ r. let l = written-word m 0 xs n j r in omega (arith, l)) h
role-word (At (Forks c x y)) n j h = ⊎_elim (λ e. absurd (no-operand n j e)) (λ r. ⊎_elim (λ e. absurd (no-operand n j e)) (λ w. absurd w) r) h
role-word (At (Ends (Jump l xs))) n j h = absurd (no-argument l 0 xs n j h)
role-word (At (Ends (Halt e xs))) n j h = absurd (no-ending 0 xs n j h)

-- ---- room

held-counted : (on : Chosen) (h : Bank) (xs : List ℕ) → length (filter (in_bank on h) xs) ≤ count on (live_in xs h)
held-counted on h [] = omega arith
held-counted on h (x ∷ xs) = by (held-counted on h xs) (in_bank on h x) refl
  where
    by : length (filter (in_bank on h) xs) ≤ count on (live_in xs h) → (b : Bool) → in_bank on h x ≡ b → length (if b then x ∷ filter (in_bank on h) xs else filter (in_bank on h) xs) ≤ count on (live_in (x ∷ xs) h)
    by ih true e =
        let a = count-append on (home x h) (live_in xs h) in
        let c = either-counted on (Def x h) (Fill x h) e in
        omega (arith, ih, a, c)
    by ih false e = let a = count-append on (home x h) (live_in xs h) in omega (arith, ih, a)

room-kept : (on : Chosen) (h : Bank) (n : ℕ) (xs : List ℕ) → Holds on (at_most n (live_in xs h)) → length (filter (in_bank on h) xs) ≤ n
room-kept on h n xs l =
    let a = at-most on n (live_in xs h) l in
    let b = held-counted on h xs in
    omega (arith, a, b)

-- ---- operands

data SameGroup (p j : Bank) : Type 0 where
  in_first : In p (A ∷ A15 ∷ []) → In j (A ∷ A15 ∷ []) → SameGroup p j
  in_second : In p (B ∷ []) → In j (B ∷ []) → SameGroup p j
  in_read : In p (L ∷ T ∷ []) → In j (L ∷ T ∷ []) → SameGroup p j

group-of : (p j : Bank) → same_group p j ≡ true → SameGroup p j
group-of A A e = in_first (inl refl) (inl refl)
group-of A B e = absurd (false≢true e)
group-of A M e = absurd (false≢true e)
group-of A T e = absurd (false≢true e)
group-of A L e = absurd (false≢true e)
group-of A A15 e = in_first (inl refl) (inr (inl refl))
group-of A W e = absurd (false≢true e)
group-of B A e = absurd (false≢true e)
group-of B B e = in_second (inl refl) (inl refl)
group-of B M e = absurd (false≢true e)
group-of B T e = absurd (false≢true e)
group-of B L e = absurd (false≢true e)
group-of B A15 e = absurd (false≢true e)
group-of B W e = absurd (false≢true e)
group-of M A e = absurd (false≢true e)
group-of M B e = absurd (false≢true e)
group-of M M e = absurd (false≢true e)
group-of M T e = absurd (false≢true e)
group-of M L e = absurd (false≢true e)
group-of M A15 e = absurd (false≢true e)
group-of M W e = absurd (false≢true e)
group-of T A e = absurd (false≢true e)
group-of T B e = absurd (false≢true e)
group-of T M e = absurd (false≢true e)
group-of T T e = in_read (inr (inl refl)) (inr (inl refl))
group-of T L e = in_read (inr (inl refl)) (inl refl)
group-of T A15 e = absurd (false≢true e)
group-of T W e = absurd (false≢true e)
group-of L A e = absurd (false≢true e)
group-of L B e = absurd (false≢true e)
group-of L M e = absurd (false≢true e)
group-of L T e = in_read (inl refl) (inr (inl refl))
group-of L L e = in_read (inl refl) (inl refl)
group-of L A15 e = absurd (false≢true e)
group-of L W e = absurd (false≢true e)
group-of A15 A e = in_first (inr (inl refl)) (inl refl)
group-of A15 B e = absurd (false≢true e)
group-of A15 M e = absurd (false≢true e)
group-of A15 T e = absurd (false≢true e)
group-of A15 L e = absurd (false≢true e)
group-of A15 A15 e = in_first (inr (inl refl)) (inr (inl refl))
group-of A15 W e = absurd (false≢true e)
group-of W A e = absurd (false≢true e)
group-of W B e = absurd (false≢true e)
group-of W M e = absurd (false≢true e)
group-of W T e = absurd (false≢true e)
group-of W L e = absurd (false≢true e)
group-of W A15 e = absurd (false≢true e)
group-of W W e = absurd (false≢true e)

both-in : (on : Chosen) (k : ℕ) (ps : List Bank) (h p i j : Bank) → Holds on (at_most 1 (both_at k ps)) → In p ps → In j ps → on (Serve k 0 h p) ≡ true → on (Serve k 1 i j) ≡ true → ⊥
both-in on k ps h p i j l a b e f =
    let m = at-most on 1 (both_at k ps) l in
    let n = both-counted on (Serve k 0 h p) (Serve k 1 i j) (flat_map (srv_at k 0) ps) (flat_map (srv_at k 1) ps)
    (flat-in (srv_at k 0) p (Serve k 0 h p) ps a (map-in (λ h. Serve k 0 h p) h banks (in-banks h))) e
    (flat-in (srv_at k 1) j (Serve k 1 i j) ps b (map-in (λ h. Serve k 1 h j) i banks (in-banks i))) f in
    absurd (omega (arith, m, n))

groups-apart : (on : Chosen) (k : ℕ) (h p i j : Bank) → Each (Holds on) (pair_lines k) → on (Serve k 0 h p) ≡ true → on (Serve k 1 i j) ≡ true → SameGroup p j → ⊥
groups-apart on k h p i j l e f (in_first a b) = both-in on k (A ∷ A15 ∷ []) h p i j l.0 a b e f
groups-apart on k h p i j l e f (in_second a b) = both-in on k (B ∷ []) h p i j l.1.0 a b e f
groups-apart on k h p i j l e f (in_read a b) = both-in on k (L ∷ T ∷ []) h p i j l.1.1.0 a b e f

-- ---- read registers

pub own-side : (b d : Bool) → d ≡ b → same_side b d ≡ true
own-side true d e = e
own-side false true e = absurd (false≢true (sym e))
own-side false false e = refl

pub in-run : (r f i : ℕ) → r ≡ f + i → In f (run_at r i)
in-run r f i e = by (nat_le i r) (le-leb i r (omega (arith, e)))
  where
    by : (b : Bool) → b ≡ true → In f (if b then (r - i) ∷ [] else [])
    by true g = inl (omega (arith, e))
    by false g = absurd (false≢true g)

pub in-then : {X : Type 0} (x : X) (b : Bool) (xs : List X) → b ≡ true → In x xs → In x (if b then xs else [])
in-then x true xs e i = i
in-then x false xs e i = absurd (false≢true e)

stay-in : (labels : List Label) (on : Chosen) (x : ℕ) (sdram : Bool) (r : ℕ) → (s : StaysIn labels on x sdram r) → In (Stay x s.first) (origin_stays sdram r x (origin_of labels x))
stay-in labels on x sdram r s = subst (λ t. In (Stay x s.first) (origin_stays sdram r x t)) (sym s.origin)
    (in-then (Stay x s.first) (same_side sdram (is_sdram s.mem)) (map (Stay x) (run_at r s.word)) (own-side sdram (is_sdram s.mem) s.side)
    (map-in (Stay x) s.first (run_at r s.word) (in-run r s.first s.word s.register)))

stay-counted : (labels : List Label) (on : Chosen) (x : ℕ) (sdram : Bool) (r : ℕ) → StaysIn labels on x sdram r → 1 ≤ count on (origin_stays sdram r x (origin_of labels x))
stay-counted labels on x sdram r s = some-counted on (Stay x s.first) (origin_stays sdram r x (origin_of labels x)) (stay-in labels on x sdram r s) s.chosen

stay-eight : (labels : List Label) (on : Chosen) (x : ℕ) (sdram : Bool) (r : ℕ) → Known labels on → StaysIn labels on x sdram r → In r eight
stay-eight labels on x sdram r g s =
    let t = there labels on (Stay x s.first) g.only s.chosen in
    let at = t.0 in
    let origin : at.value.origin ≡ Fetched s.mem s.word = sym (origin-found (values labels) at.value g.different at.there) ∙ ap (origin_of labels) at.var ∙ s.origin in
    let l = value-word at.point at.place.place at.value s.mem s.word at.here origin in
    let b = begun s.mem (place_words at.place.place) s.first (subst (λ t. In s.first (origin_beginnings (place_words at.place.place) t)) origin t.2) in
    below-eight r (omega (arith, l, b.1, s.register))

stays-line : (labels : List Label) (on : Chosen) (k : ℕ) (q : Point) (sdram : Bool) (r : ℕ) → Each (Holds on) (read_owners labels k q) → In r eight → count on (stays_at labels sdram r q.before) ≤ 1
stays-line labels on k q false r l i =
    let line = each-in (λ r. Holds on (at_most 1 (stays_at labels false r q.before ++ ReadVia k r ∷ []))) r eight
    (each-map (Holds on) (λ r. at_most 1 (stays_at labels false r q.before ++ ReadVia k r ∷ [])) eight
    (each-left (Holds on) (map (λ r. at_most 1 (stays_at labels false r q.before ++ ReadVia k r ∷ [])) eight) (map (λ r. at_most 1 (stays_at labels true r q.before)) eight) l)) i in
    let a = at-most on 1 (stays_at labels false r q.before ++ ReadVia k r ∷ []) line in
    let b = count-append on (stays_at labels false r q.before) (ReadVia k r ∷ []) in
    omega (arith, a, b)
stays-line labels on k q true r l i =
    at-most on 1 (stays_at labels true r q.before) (each-in (λ r. Holds on (at_most 1 (stays_at labels true r q.before))) r eight
    (each-map (Holds on) (λ r. at_most 1 (stays_at labels true r q.before)) eight
    (each-right (Holds on) (map (λ r. at_most 1 (stays_at labels false r q.before ++ ReadVia k r ∷ [])) eight) (map (λ r. at_most 1 (stays_at labels true r q.before)) eight) l)) i)

stay-apart : (labels : List Label) (on : Chosen) (k : ℕ) (q : Point) (x y : ℕ) → Known labels on → Each (Holds on) (read_owners labels k q) → In x q.before → In y q.before → (x ≡ y → ⊥) → (sdram : Bool) (r : ℕ) → StaysIn labels on x sdram r → StaysIn labels on y sdram r → ⊥
stay-apart labels on k q x y g l i j n sdram r s t =
    let most = stays-line labels on k q sdram r l (stay-eight labels on x sdram r g s) in
    let both = parts-counted on (λ x. origin_stays sdram r x (origin_of labels x)) x y q.before i j n in
    let a = stay-counted labels on x sdram r s in
    let b = stay-counted labels on y sdram r t in
    absurd (omega (arith, most, both, a, b))

stay-through : (labels : List Label) (on : Chosen) (k : ℕ) (q : Point) (x : ℕ) → Known labels on → Each (Holds on) (read_owners labels k q) → In x q.before → (r : ℕ) → StaysIn labels on x false r → on (ReadVia k r) ≡ true → ⊥
stay-through labels on k q x g l i r s e =
    let line = each-in (λ r. Holds on (at_most 1 (stays_at labels false r q.before ++ ReadVia k r ∷ []))) r eight
    (each-map (Holds on) (λ r. at_most 1 (stays_at labels false r q.before ++ ReadVia k r ∷ [])) eight
    (each-left (Holds on) (map (λ r. at_most 1 (stays_at labels false r q.before ++ ReadVia k r ∷ [])) eight) (map (λ r. at_most 1 (stays_at labels true r q.before)) eight) l)) (stay-eight labels on x false r g s) in
    let a = at-most on 1 (stays_at labels false r q.before ++ ReadVia k r ∷ []) line in
    let b = both-counted on (Stay x s.first) (ReadVia k r) (stays_at labels false r q.before) (ReadVia k r ∷ [])
    (flat-in (λ x. origin_stays false r x (origin_of labels x)) x (Stay x s.first) q.before i (stay-in labels on x false r s)) s.chosen (inl refl) e in
    absurd (omega (arith, a, b))

in-covering : (labels : List Label) (on : Chosen) (a : Access) (r : ℕ) → Known labels on → (c : Covers on a r) → In (First a.point c.first) (covering r a)
in-covering labels on a r g c =
    let t = there labels on (First a.point c.first) g.only c.chosen in
    let b = begun t.access.mem t.access.words c.first t.begins in
    map-in (First a.point) c.first (filter (λ f. nat_le f r && nat_lt r (f + a.words)) eight)
    (kept-in (λ f. nat_le f r && nat_lt r (f + a.words)) c.first eight b.0
    (and_from (nat_le c.first r) (nat_lt r (c.first + a.words)) (le-leb c.first r c.low) (lt-ltb r (c.first + a.words) c.high)))

stay-filled : (labels : List Label) (on : Chosen) (k : ℕ) (q : Point) (a : Access) → Known labels on → Each (Holds on) (fill_owners labels k q) → In a (reads_at k q.place) → (x : ℕ) → In x (without q.after (point_values k q)) → (r : ℕ) → StaysIn labels on x (is_sdram a.mem) r → Covers on a r → ⊥
stay-filled labels on k q a g l i x j r s c =
    let xs = without q.after (point_values k q) in
    let d = is_sdram a.mem in
    let mine = each-in (λ a. Each (Holds on) (access_owners labels xs a)) a (reads_at k q.place) (each-flat (Holds on) (access_owners labels xs) (reads_at k q.place) l) i in
    let line = each-in (λ r. Holds on (at_most 1 (stays_at labels d r xs ++ covering r a))) r eight
    (each-map (Holds on) (λ r. at_most 1 (stays_at labels d r xs ++ covering r a)) eight mine) (stay-eight labels on x d r g s) in
    let m = at-most on 1 (stays_at labels d r xs ++ covering r a) line in
    let n = both-counted on (Stay x s.first) (First a.point c.first) (stays_at labels d r xs) (covering r a)
    (flat-in (λ x. origin_stays d r x (origin_of labels x)) x (Stay x s.first) xs j (stay-in labels on x d r s)) s.chosen
    (in-covering labels on a r g c) c.chosen in
    absurd (omega (arith, m, n))

-- ---- write registers

abbrev side_pass : Bool → ℕ → ℕ → List Column
side_pass true k r = []
side_pass false k r = WriteVia k r ∷ []

abbrev others : Bool → ℕ → ℕ → Point → List Column
others sdram r k q = side_pass sdram k r ++ flat_map (side_covering sdram r) (writes_at k q.place)

abbrev side_at : List Label → ℕ → Point → Bool → ℕ → Line
side_at labels k q sdram r = at_most 1 (early_at sdram r (waiting labels k q) ++ others sdram r k q)

side-line : (labels : List Label) (on : Chosen) (k : ℕ) (q : Point) (sdram : Bool) (r : ℕ) → Each (Holds on) (write_owners labels k q) → In r eight → count on (early_at sdram r (waiting labels k q) ++ others sdram r k q) ≤ 1
side-line labels on k q false r l i =
    at-most on 1 (early_at false r (waiting labels k q) ++ others false r k q) (each-in (λ r. Holds on (side_at labels k q false r)) r eight
    (each-map (Holds on) (side_at labels k q false) eight (each-left (Holds on) (side_owners labels k q false (λ r. WriteVia k r ∷ [])) (side_owners labels k q true (λ r. [])) l)) i)
side-line labels on k q true r l i =
    at-most on 1 (early_at true r (waiting labels k q) ++ others true r k q) (each-in (λ r. Holds on (side_at labels k q true r)) r eight
    (each-map (Holds on) (side_at labels k q true) eight (each-right (Holds on) (side_owners labels k q false (λ r. WriteVia k r ∷ [])) (side_owners labels k q true (λ r. [])) l)) i)

wait-eight : (labels : List Label) (on : Chosen) (u : Use) (sdram : Bool) (r : ℕ) → Known labels on → In u (uses labels) → WaitsIn on u sdram r → In r eight
wait-eight labels on u sdram r g i s =
    let t = early-there labels on u s.first g i s.chosen in
    let w = subst (λ z. In z (place_roles t.place.place)) s.role (role-among u.point 0 t.place.uses (place_roles t.place.place) u t.here) in
    let l = role-word t.place.place s.mem s.word w in
    let b = begun s.mem (place_words t.place.place) s.first (subst (λ z. In s.first (role_beginnings (place_words t.place.place) z)) s.role t.begins) in
    below-eight r (omega (arith, l, b.1, s.register))

early-parts : (sdram : Bool) (r k i : ℕ) (m : Mem) (j : ℕ) (c : Column) → is_sdram m ≡ sdram → In c (map (DirectWrite k i) (run_at r j) ++ map (EarlyWrite k i) (run_at r j)) → In c (role_early sdram r k i (Written m j))
early-parts sdram r k i m j c e h = in-then c (same_side sdram (is_sdram m)) (map (DirectWrite k i) (run_at r j) ++ map (EarlyWrite k i) (run_at r j)) (own-side sdram (is_sdram m) e) h

wait-counted : (on : Chosen) (u : Use) (sdram : Bool) (r : ℕ) → WaitsIn on u sdram r → 1 ≤ count on (role_early sdram r u.point u.operand u.role)
wait-counted on u sdram r s =
    let k = u.point in
    let i = u.operand in
    let f = s.first in
    let run = run_at r s.word in
    let inside = in-run r s.first s.word s.register in
    subst (λ z. 1 ≤ count on (role_early sdram r k i z)) (sym s.role) (⊎_elim
    (λ (e : on (DirectWrite k i f) ≡ true). some-counted on (DirectWrite k i f) (role_early sdram r k i (Written s.mem s.word))
    (early-parts sdram r k i s.mem s.word (DirectWrite k i f) s.side (in-left (DirectWrite k i f) (map (DirectWrite k i) run) (map (EarlyWrite k i) run) (map-in (DirectWrite k i) f run inside))) e)
    (λ (e : on (EarlyWrite k i f) ≡ true). some-counted on (EarlyWrite k i f) (role_early sdram r k i (Written s.mem s.word))
    (early-parts sdram r k i s.mem s.word (EarlyWrite k i f) s.side (in-right (EarlyWrite k i f) (map (DirectWrite k i) run) (map (EarlyWrite k i) run) (map-in (EarlyWrite k i) f run inside))) e)
    (or_cases (on (DirectWrite k i f)) (on (EarlyWrite k i f)) s.chosen))

abbrev early_of : Bool → ℕ → Use → List Column
early_of sdram r u = role_early sdram r u.point u.operand u.role

wait-apart : (labels : List Label) (on : Chosen) (k : ℕ) (q : Point) (u v : Use) → Known labels on → Each (Holds on) (write_owners labels k q) → In u (uses labels) → In v (uses labels) → waits_at k q u ≡ true → waits_at k q v ≡ true → (u ≡ v → ⊥) → (sdram : Bool) (r : ℕ) → WaitsIn on u sdram r → WaitsIn on v sdram r → ⊥
wait-apart labels on k q u v g l i j e f n sdram r s t =
    let most = side-line labels on k q sdram r l (wait-eight labels on u sdram r g i s) in
    let all = count-append on (early_at sdram r (waiting labels k q)) (others sdram r k q) in
    let both = parts-counted on (early_of sdram r) u v (waiting labels k q) (kept-in (waits_at k q) u (uses labels) i e) (kept-in (waits_at k q) v (uses labels) j f) n in
    let a = wait-counted on u sdram r s in
    let b = wait-counted on v sdram r t in
    absurd (omega (arith, most, all, both, a, b))

wait-through : (labels : List Label) (on : Chosen) (k : ℕ) (q : Point) (u : Use) → Known labels on → Each (Holds on) (write_owners labels k q) → In u (uses labels) → waits_at k q u ≡ true → (r : ℕ) → WaitsIn on u false r → on (WriteVia k r) ≡ true → ⊥
wait-through labels on k q u g l i e r s f =
    let most = side-line labels on k q false r l (wait-eight labels on u false r g i s) in
    let all = count-append on (early_at false r (waiting labels k q)) (others false r k q) in
    let mine = part-counted on (early_of false r) u (waiting labels k q) (kept-in (waits_at k q) u (uses labels) i e) in
    let a = wait-counted on u false r s in
    let b = some-counted on (WriteVia k r) (others false r k q) (inl refl) f in
    absurd (omega (arith, most, all, mine, a, b))

wait-written : (labels : List Label) (on : Chosen) (k : ℕ) (q : Point) (a : Access) → Known labels on → Each (Holds on) (write_owners labels k q) → In a (writes_at k q.place) → (u : Use) → In u (uses labels) → waits_at k q u ≡ true → (r : ℕ) → WaitsIn on u (is_sdram a.mem) r → Covers on a r → ⊥
wait-written labels on k q a g l h u i e r s c =
    let d = is_sdram a.mem in
    let most = side-line labels on k q d r l (wait-eight labels on u d r g i s) in
    let all = count-append on (early_at d r (waiting labels k q)) (others d r k q) in
    let mine = part-counted on (early_of d r) u (waiting labels k q) (kept-in (waits_at k q) u (uses labels) i e) in
    let m = wait-counted on u d r s in
    let run = in-then (First a.point c.first) (same_side d (is_sdram a.mem)) (covering r a) (own-side d (is_sdram a.mem) refl) (in-covering labels on a r g c) in
    let b = some-counted on (First a.point c.first) (others d r k q)
    (in-right (First a.point c.first) (side_pass d k r) (flat_map (side_covering d r) (writes_at k q.place))
    (flat-in (side_covering d r) a (First a.point c.first) (writes_at k q.place) h run)) c.chosen in
    absurd (omega (arith, most, all, mine, m, b))

-- ---- the whole

itself : (u v : Use) → same_use u v ≡ false → u ≡ v → ⊥
itself u v e f = false≢true (sym e ∙ subst (λ w. same_use u w ≡ true) f (and_from (nat_eq u.point u.point) (nat_eq u.operand u.operand) (in-itself u.point) (in-itself u.operand)))

-- the lines that speak of a point
pub record PointLines (labels : List Label) (slots : ℕ) (on : Chosen) (k : ℕ) (q : Point) : Type 0 where
  pub operands : Each (Holds on) (operand_lines k q)
  pub room : Each (Holds on) (room_lines slots q.before)
  pub read : Each (Holds on) (read_owners labels k q)
  pub filled : Each (Holds on) (fill_owners labels k q)
  pub written : Each (Holds on) (write_owners labels k q)

pub point-facts : (labels : List Label) (slots : ℕ) (on : Chosen) (k : ℕ) (q : Point) → slice_get (points labels) k ≡ Some q → PointLines labels slots on k q → Known labels on → PointFacts labels slots on k q
point-facts labels slots on k q at l g = record {
  room_a = room-kept on A 15 q.before l.room.0;
  room_b = room-kept on B 15 q.before l.room.1.0;
  room_m = room-kept on M slots q.before l.room.1.1.0;
  operands = λ two h p i j e f. false_from_ne_true (same_group p j) (λ s.
      groups-apart on k h p i j (if-there (Holds on) (two_operands (place_roles q.place)) (pair_lines k) l.operands two) e f (group-of p j s));
  stay_apart = λ x y i j n sdram r s t. stay-apart labels on k q x y g l.read (in-is x q.before i) (in-is y q.before j) n sdram r s t;
  stay_through = λ x i r s. false_from_ne_true (on (ReadVia k r)) (λ e. stay-through labels on k q x g l.read (in-is x q.before i) r s e);
  stay_filled = λ a i x j n r s c. stay-filled labels on k q a g l.filled (in-contained a (reads_at k q.place) i) x (in-without x q.after (point_values k q) (in-is x q.after j) n) r s c;
  wait_apart = λ u v i j e f n sdram r s t. wait-apart labels on k q u v g l.written (in-contained u (uses labels) i) (in-contained v (uses labels) j) e f (itself u v n) sdram r s t;
  wait_through = λ u i e r s. false_from_ne_true (on (WriteVia k r)) (λ f. wait-through labels on k q u g l.written (in-contained u (uses labels) i) e r s f);
  wait_written = λ a h u i e r s c. wait-written labels on k q a g l.written (in-contained a (writes_at k q.place) h) u (in-contained u (uses labels) i) e r s c;
  read_pass = λ r e.
      let t = there labels on (ReadVia k r) g.only e in
      let same : t.0 ≡ q = let a = t.1 in cc in
      leb-true 1 (length q.uses) (subst (λ (z : Point). nat_le 1 (length z.uses) ≡ true) same t.2);
  write_pass = λ r e.
      let t = there labels on (WriteVia k r) g.only e in
      let same : t.0 ≡ q = let a = t.1 in cc in
      subst (λ (z : Point). list_any (λ v. is_used labels v.var) (place_values k z.place) ≡ true) same t.2;
}
