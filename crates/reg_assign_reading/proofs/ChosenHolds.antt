-- Lines that hold, by counts of the columns that are on.
use Rattle.std.proofs.Common.{◌≡◌, ◌≢◌, ℕ, zero, suc, ◌+◌, ◌≤◌, nat_eq, Bool, true, false, not, if◌then◌else◌, inl, inr, ⊎_elim, List, [], ◌∷◌, ◌++◌, map, pos, neg_ℤ, ◌+ℤ◌, refl, sym, ap, subst, ◌∙◌, arith, Some}
use Rattle.std.specs.Prelude.{◌≤ℤ◌, slice_get}
use Rattle.std.specs.List.{flat_map}
use Rattle.std.proofs.lemmas.Int.{ints}
use Rattle.std.proofs.lemmas.Bool.{false≢true, and_parts, or_left, or_right, not-true}
use Rattle.nv_base.specs.Sets.{is_in, all_different}
use Rattle.ssu_ir.specs.Points.{Point}
use Rattle.zo_model.specs.Program.{cost_where}
use Rattle.bank_prog_form.specs.declared.column.Column.{Column}
use Rattle.bank_prog_form.specs.Columns.{each_point}
use Rattle.bank_prog_form.specs.Rows.{at_least, at_most, covers, exactly_one}
use Rattle.bank_prog.specs.Meaning.{Chosen, Holds}
use Rattle.bank_prog_rows.proofs.PlainLines.{mapped-each, Pairs}
use Rattle.ssu_liveness.proofs.Scoped.{in-itself}
use Rattle.place_plan.proofs.Sound.{Each, each-append}
use Rattle.reg_assign_reading.specs.inner.Facts.{count}
use Rattle.reg_assign_reading.proofs.Counts.{In, sum-plus, sum-minus, sum-both, count-append, counted-some, in-map, each-from}

-- ---- lines

order-plus : (n m : ℕ) → n ≤ m → pos n ≤ℤ pos m
order-plus n m h = omega (arith, ints, h)

order-minus : (n m : ℕ) → m ≤ n → neg_ℤ (pos n) ≤ℤ neg_ℤ (pos m)
order-minus n m h = omega (arith, ints, h)

order-both : (n m : ℕ) → m ≤ n → pos 0 ≤ℤ (pos n +ℤ neg_ℤ (pos m))
order-both n m h = omega (arith, ints, h)

least-holds : (on : Chosen) (n : ℕ) (cs : List Column) → n ≤ count on cs → Holds on (at_least n cs)
least-holds on n cs h = subst (λ z. pos n ≤ℤ z) (sym (sum-plus on cs)) (order-plus n (count on cs) h)

pub most-holds : (on : Chosen) (n : ℕ) (cs : List Column) → count on cs ≤ n → Holds on (at_most n cs)
most-holds on n cs h = subst (λ z. neg_ℤ (pos n) ≤ℤ z) (sym (sum-minus on cs)) (order-minus n (count on cs) h)

pub covers-hold : (on : Chosen) (cs ds : List Column) → count on ds ≤ count on cs → Holds on (covers cs ds)
covers-hold on cs ds h = subst (λ z. pos 0 ≤ℤ z) (sym (sum-both on cs ds)) (order-both (count on cs) (count on ds) h)

pub one-holds : (on : Chosen) (cs : List Column) → count on cs ≡ 1 → Each (Holds on) (exactly_one cs)
one-holds on cs e = (least-holds on 1 cs (omega (arith, e)), (most-holds on 1 cs (omega (arith, e)), tt))

-- ---- lists that are made piece by piece

pub flat-each : {X Y : Type 0} (P : Y → Type 0) (f : X → List Y) (xs : List X) → Each (λ x. Each P (f x)) xs → Each P (flat_map f xs)
flat-each P f [] h = tt
flat-each P f (x ∷ xs) h = each-append P (f x) (flat_map f xs) h.0 (flat-each P f xs h.1)

pub if-each : {X : Type 0} (P : X → Type 0) (b : Bool) (xs : List X) → (b ≡ true → Each P xs) → Each P (if b then xs else [])
if-each P true xs h = h refl
if-each P false xs h = tt

pub points-each : {X : Type 0} (P : X → Type 0) (f : ℕ → Point → List X) (j : ℕ) (ps : List Point) → ((i k : ℕ) (q : Point) → k ≡ j + i → slice_get ps i ≡ Some q → Each P (f k q)) → Each P (each_point f j ps)
points-each P f j [] h = tt
points-each P f j (p ∷ ps) h =
    each-append P (f j p) (each_point f (suc j) ps) (h 0 j p (omega arith) refl)
    (points-each P f (suc j) ps (λ i k q e g. h (suc i) k q (omega (arith, e)) g))

-- ---- at most one of some columns

pub in-test : (x : ℕ) (xs : List ℕ) → In x xs → is_in x xs ≡ true
in-test x [] i = absurd i
in-test x (y ∷ ys) i = ⊎_elim
    (λ (e : y ≡ x). or_left (nat_eq x y) (is_in x ys) (subst (λ z. nat_eq x z ≡ true) (sym e) (in-itself x)))
    (λ (j : In x ys). or_right (nat_eq x y) (is_in x ys) (in-test x ys j))
    i

pub pairs-different : (R : ℕ → ℕ → Type 0) (xs : List ℕ) → all_different xs ≡ true → ((x y : ℕ) → In x xs → In y xs → x ≢ y → R x y) → Pairs R xs
pairs-different R [] d h = tt
pairs-different R (x ∷ xs) d h =
    let w = and_parts (not (is_in x xs)) (all_different xs) d in (
      each-from (R x) xs (λ y j. h x y (inl refl) (inr j) (λ e. false≢true (sym (not-true (is_in x xs) w.0) ∙ in-test x xs (subst (λ z. In z xs) (sym e) j)))),
      pairs-different R xs w.1 (λ y z i j n. h y z (inr i) (inr j) n),
    )

pub pairs-map : {X Y : Type 0} (f : X → Y) (R : Y → Y → Type 0) (xs : List X) → Pairs (λ x y. R (f x) (f y)) xs → Pairs R (map f xs)
pairs-map f R [] h = tt
pairs-map f R (x ∷ xs) h = (mapped-each (R (f x)) f xs h.0, pairs-map f R xs h.1)

none-count : {X : Type 0} (on : Chosen) (f : X → List Column) (xs : List X) → Each (λ x. 1 ≤ count on (f x) → ⊥) xs → count on (flat_map f xs) ≡ 0
none-count on f [] h = refl
none-count on f (x ∷ xs) h =
    let a = count-append on (f x) (flat_map f xs) in
    let ih = none-count on f xs h.1 in
    by (count on (f x)) refl (h.0) (omega (arith, a, ih))
  where
    by : (n : ℕ) → count on (f x) ≡ n → (1 ≤ count on (f x) → ⊥) → count on (f x ++ flat_map f xs) ≡ count on (f x) → count on (f x ++ flat_map f xs) ≡ 0
    by zero e g s = s ∙ e
    by (suc n) e g s = absurd (g (omega (arith, e)))

excludes : {X : Type 0} (on : Chosen) (f : X → List Column) (x : X) (xs : List X) → 1 ≤ count on (f x) → Each (λ y. 1 ≤ count on (f x) → 1 ≤ count on (f y) → ⊥) xs → Each (λ y. 1 ≤ count on (f y) → ⊥) xs
excludes on f x [] l h = tt
excludes on f x (y ∷ ys) l h = (λ m. h.0 l m, excludes on f x ys l h.1)

-- the parts have at most one each, and no two of them have any
pub most-one : {X : Type 0} (on : Chosen) (f : X → List Column) (xs : List X) → Each (λ x. count on (f x) ≤ 1) xs → Pairs (λ x y. 1 ≤ count on (f x) → 1 ≤ count on (f y) → ⊥) xs → count on (flat_map f xs) ≤ 1
most-one on f [] h r = omega arith
most-one on f (x ∷ xs) h r = by (count on (f x)) refl (most-one on f xs h.1 r.1)
  where
    by : (n : ℕ) → count on (f x) ≡ n → count on (flat_map f xs) ≤ 1 → count on (f x ++ flat_map f xs) ≤ 1
    by zero e ih = let a = count-append on (f x) (flat_map f xs) in omega (arith, a, e, ih)
    by (suc n) e ih =
        let a = count-append on (f x) (flat_map f xs) in
        let z = none-count on f xs (excludes on f x xs (omega (arith, e)) r.0) in
        let l = h.0 in
        omega (arith, a, z, l)

pub both-most : (on : Chosen) (cs ds : List Column) → count on cs ≤ 1 → count on ds ≤ 1 → (1 ≤ count on cs → 1 ≤ count on ds → ⊥) → count on (cs ++ ds) ≤ 1
both-most on cs ds h g n = by (count on cs) (count on ds) refl refl
  where
    by : (a b : ℕ) → count on cs ≡ a → count on ds ≡ b → count on (cs ++ ds) ≤ 1
    by zero b e f = let s = count-append on cs ds in omega (arith, s, e, g)
    by (suc a) zero e f = let s = count-append on cs ds in omega (arith, s, f, h)
    by (suc a) (suc b) e f = absurd (n (omega (arith, e)) (omega (arith, f)))

-- of numbered columns only that with one number
abbrev pub OnlyAt : Chosen → (ℕ → Column) → ℕ → Type 0
OnlyAt on c g = (f : ℕ) → on (c f) ≡ true → f ≡ g

off-elsewhere : (on : Chosen) (c : ℕ → Column) (g r : ℕ) (rs : List ℕ) → OnlyAt on c g → on (c r) ≡ true → is_in r rs ≡ false → count on (map c rs) ≡ 0
off-elsewhere on c g r [] h e n = refl
off-elsewhere on c g r (x ∷ xs) h e n = off (on (c x)) refl (is_in r xs) refl n (off-elsewhere on c g r xs h e)
  where
    off : (b : Bool) → on (c x) ≡ b → (i : Bool) → is_in r xs ≡ i → is_in r (x ∷ xs) ≡ false → (is_in r xs ≡ false → count on (map c xs) ≡ 0) → cost_where b 1 + count on (map c xs) ≡ 0
    off true f i t m ih =
        let same : r ≡ x = h r e ∙ sym (h x f) in
        absurd (false≢true (sym m ∙ or_left (nat_eq r x) (is_in r xs) (subst (λ z. nat_eq r z ≡ true) same (in-itself r))))
    off false f true t m ih = absurd (false≢true (sym m ∙ or_right (nat_eq r x) (is_in r xs) t))
    off false f false t m ih = let z = ih t in omega (arith, z)

pub only-most : (on : Chosen) (c : ℕ → Column) (g : ℕ) (rs : List ℕ) → OnlyAt on c g → all_different rs ≡ true → count on (map c rs) ≤ 1
only-most on c g [] h d = omega arith
only-most on c g (r ∷ rs) h d =
    let w = and_parts (not (is_in r rs)) (all_different rs) d in
    by (on (c r)) refl w.0 (only-most on c g rs h w.1)
  where
    by : (b : Bool) → on (c r) ≡ b → not (is_in r rs) ≡ true → count on (map c rs) ≤ 1 → cost_where b 1 + count on (map c rs) ≤ 1
    by true e n ih = let z = off-elsewhere on c g r rs h e (not-true (is_in r rs) n) in omega (arith, z)
    by false e n ih = omega (arith, ih)

-- a numbered column that is on
pub counted-one : (on : Chosen) (c : ℕ → Column) (rs : List ℕ) → 1 ≤ count on (map c rs) → (r : ℕ) × In r rs × (on (c r) ≡ true)
counted-one on c rs h =
    let w = counted-some on (map c rs) h in
    let m = in-map w.0 c rs w.1 in
    (m.0, m.1, ap on m.2 ∙ w.2)

pub one-most : (on : Chosen) (c : Column) → count on (c ∷ []) ≤ 1
one-most on c = by (on c)
  where
    by : (b : Bool) → cost_where b 1 + 0 ≤ 1
    by true = omega arith
    by false = omega arith
