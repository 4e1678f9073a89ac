-- Lines as counts of the columns that are on, and what holds of each line of a list that is made piece by piece.
use Rattle.std.proofs.Common.{◌≡◌, ℕ, zero, suc, ◌+◌, ◌<◌, ◌≤◌, Bool, true, false, ◌||◌, if◌then◌else◌, ◌⊎◌, inl, inr, ⊎_elim, Some, List, [], ◌∷◌, ◌++◌, length, map, filter, pos, neg_ℤ, ◌+ℤ◌, refl, sym, ap, subst, ◌∙◌, arith}
use Rattle.std.specs.Prelude.{slice_get, slice_index_or, Contains, ◌≤ℤ◌}
use Rattle.std.specs.List.{flat_map, list_any}
use Rattle.std.proofs.Math.IntN.{+ℤ_assoc}
use Rattle.std.proofs.lemmas.Int.{ints}
use Rattle.std.proofs.lemmas.Bool.{false≢true}
use Rattle.ssu_ir.specs.Points.{Point}
use Rattle.zo_model.specs.Program.{where_one, cost_where}
use Rattle.bank_prog_form.specs.declared.column.Column.{Column}
use Rattle.bank_prog_form.specs.Columns.{each_point}
use Rattle.bank_prog_form.specs.Rows.{plus, minus, at_least, at_most, covers, exactly_one}
use Rattle.bank_prog.specs.Meaning.{Chosen, named_sum, Holds}
use Rattle.place_plan.proofs.Sound.{Each}
use Rattle.place_plan.proofs.Spilled.{each-left, each-right}
use Rattle.reg_assign_reading.specs.inner.Facts.{count}

-- ---- sums of columns

step-plus : (b : Bool) (n : ℕ) → where_one b (pos 1) +ℤ pos n ≡ pos (cost_where b 1 + n)
step-plus true n = refl
step-plus false n = refl

step-minus : (b : Bool) (n : ℕ) → where_one b (neg_ℤ (pos 1)) +ℤ neg_ℤ (pos n) ≡ neg_ℤ (pos (cost_where b 1 + n))
step-minus true n = omega (arith, ints)
step-minus false n = omega (arith, ints)

pub sum-plus : (on : Chosen) (cs : List Column) → named_sum on (map plus cs) ≡ pos (count on cs)
sum-plus on [] = refl
sum-plus on (c ∷ cs) = ap (λ z. where_one (on c) (pos 1) +ℤ z) (sum-plus on cs) ∙ step-plus (on c) (count on cs)

pub sum-minus : (on : Chosen) (cs : List Column) → named_sum on (map minus cs) ≡ neg_ℤ (pos (count on cs))
sum-minus on [] = refl
sum-minus on (c ∷ cs) = ap (λ z. where_one (on c) (neg_ℤ (pos 1)) +ℤ z) (sum-minus on cs) ∙ step-minus (on c) (count on cs)

none-plus : (n : ℕ) → neg_ℤ (pos n) ≡ pos 0 +ℤ neg_ℤ (pos n)
none-plus n = omega (arith, ints)

pub sum-both : (on : Chosen) (cs ds : List Column) → named_sum on (map plus cs ++ map minus ds) ≡ pos (count on cs) +ℤ neg_ℤ (pos (count on ds))
sum-both on [] ds = sum-minus on ds ∙ none-plus (count on ds)
sum-both on (c ∷ cs) ds =
    ap (λ z. where_one (on c) (pos 1) +ℤ z) (sum-both on cs ds)
    ∙ sym (+ℤ_assoc (where_one (on c) (pos 1)) (pos (count on cs)) (neg_ℤ (pos (count on ds))))
    ∙ ap (λ z. z +ℤ neg_ℤ (pos (count on ds))) (step-plus (on c) (count on cs))

order-plus : (n m : ℕ) → pos n ≤ℤ pos m → n ≤ m
order-plus n m h = omega (arith, ints, h)

order-minus : (n m : ℕ) → neg_ℤ (pos n) ≤ℤ neg_ℤ (pos m) → m ≤ n
order-minus n m h = omega (arith, ints, h)

order-both : (n m : ℕ) → pos 0 ≤ℤ (pos n +ℤ neg_ℤ (pos m)) → m ≤ n
order-both n m h = omega (arith, ints, h)

-- ---- what a line says

pub at-least : (on : Chosen) (n : ℕ) (cs : List Column) → Holds on (at_least n cs) → n ≤ count on cs
at-least on n cs h = order-plus n (count on cs) (subst (λ z. pos n ≤ℤ z) (sum-plus on cs) h)

pub at-most : (on : Chosen) (n : ℕ) (cs : List Column) → Holds on (at_most n cs) → count on cs ≤ n
at-most on n cs h = order-minus n (count on cs) (subst (λ z. neg_ℤ (pos n) ≤ℤ z) (sum-minus on cs) h)

pub covered : (on : Chosen) (cs ds : List Column) → Holds on (covers cs ds) → count on ds ≤ count on cs
covered on cs ds h = order-both (count on cs) (count on ds) (subst (λ z. pos 0 ≤ℤ z) (sum-both on cs ds) h)

pub exactly-one : (on : Chosen) (cs : List Column) → Each (Holds on) (exactly_one cs) → count on cs ≡ 1
exactly-one on cs h =
    let low = at-least on 1 cs h.0 in
    let high = at-most on 1 cs h.1.0 in
    omega arith

-- ---- counts

pub count-append : (on : Chosen) (cs ds : List Column) → count on (cs ++ ds) ≡ count on cs + count on ds
count-append on [] ds = omega arith
count-append on (c ∷ cs) ds = let ih = count-append on cs ds in omega (arith, ih)

-- ---- elements

-- x is one of these
abbrev pub In : {X : Type 0} → X → List X → Type 0
In x [] = ⊥
In x (y ∷ ys) = (y ≡ x) ⊎ In x ys

pub in-contained : {X : Type 0} (x : X) (xs : List X) → Contains xs x → In x xs
in-contained x [] h = absurd (omega (arith, h.1))
in-contained x (y ∷ ys) h = inside (λ k l e. in-contained x ys (k, l, e)) h.0 h.1 h.2
  where
    inside : ((k : ℕ) → k < length ys → slice_index_or ys k x ≡ x → In x ys) → (k : ℕ) → k < length (y ∷ ys) → slice_index_or (y ∷ ys) k x ≡ x → In x (y ∷ ys)
    inside f zero l e = inl e
    inside f (suc k) l e = inr (f k (omega (arith, l)) e)

pub contained-in : {X : Type 0} (x : X) (xs : List X) → In x xs → Contains xs x
contained-in x [] h = absurd h
contained-in x (y ∷ ys) h = ⊎_elim
    (λ (e : y ≡ x). (zero, omega arith, e))
    (λ (i : In x ys). let w = contained-in x ys i in (suc w.0, omega (arith, w.1), w.2))
    h

pub in-left : {X : Type 0} (x : X) (a b : List X) → In x a → In x (a ++ b)
in-left x [] b h = absurd h
in-left x (y ∷ a) b h = ⊎_elim (λ (e : y ≡ x). inl e) (λ (i : In x a). inr (in-left x a b i)) h

pub in-right : {X : Type 0} (x : X) (a b : List X) → In x b → In x (a ++ b)
in-right x [] b h = h
in-right x (y ∷ a) b h = inr (in-right x a b h)

pub in-either : {X : Type 0} (x : X) (a b : List X) → In x (a ++ b) → In x a ⊎ In x b
in-either x [] b h = inr h
in-either x (y ∷ a) b h = ⊎_elim
    (λ (e : y ≡ x). inl (inl e))
    (λ (i : In x (a ++ b)). ⊎_elim (λ (l : In x a). inl (inr l)) (λ (r : In x b). inr r) (in-either x a b i))
    h

pub each-in : {X : Type 0} (P : X → Type 0) (x : X) (xs : List X) → Each P xs → In x xs → P x
each-in P x [] h i = absurd i
each-in P x (y ∷ ys) h i = ⊎_elim (λ (e : y ≡ x). subst P e h.0) (λ (j : In x ys). each-in P x ys h.1 j) i

pub each-from : {X : Type 0} (P : X → Type 0) (xs : List X) → ((x : X) → In x xs → P x) → Each P xs
each-from P [] f = tt
each-from P (x ∷ xs) f = (f x (inl refl), each-from P xs (λ y i. f y (inr i)))

-- ---- what holds of each line of a list that is made piece by piece

pub each-flat : {X Y : Type 0} (P : Y → Type 0) (f : X → List Y) (xs : List X) → Each P (flat_map f xs) → Each (λ x. Each P (f x)) xs
each-flat P f [] h = tt
each-flat P f (x ∷ xs) h = (each-left P (f x) (flat_map f xs) h, each-flat P f xs (each-right P (f x) (flat_map f xs) h))

pub each-map : {X Y : Type 0} (P : Y → Type 0) (f : X → Y) (xs : List X) → Each P (map f xs) → Each (λ x. P (f x)) xs
each-map P f [] h = tt
each-map P f (x ∷ xs) h = (h.0, each-map P f xs h.1)

pub if-there : {X : Type 0} (P : X → Type 0) (b : Bool) (xs : List X) → Each P (if b then xs else []) → b ≡ true → Each P xs
if-there P true xs h e = h
if-there P false xs h e = absurd (false≢true e)

-- ---- elements of such a list

pub in-flat : {X Y : Type 0} (y : Y) (f : X → List Y) (xs : List X) → In y (flat_map f xs) → (x : X) × In x xs × In y (f x)
in-flat y f [] h = absurd h
in-flat y f (x ∷ xs) h = ⊎_elim
    (λ (l : In y (f x)). (x, inl refl, l))
    (λ (r : In y (flat_map f xs)). let w = in-flat y f xs r in (w.0, inr w.1, w.2))
    (in-either y (f x) (flat_map f xs) h)

pub in-map : {X Y : Type 0} (y : Y) (f : X → Y) (xs : List X) → In y (map f xs) → (x : X) × In x xs × (f x ≡ y)
in-map y f [] h = absurd h
in-map y f (x ∷ xs) h = ⊎_elim
    (λ (e : f x ≡ y). (x, inl refl, e))
    (λ (r : In y (map f xs)). let w = in-map y f xs r in (w.0, inr w.1, w.2))
    h

pub map-in : {X Y : Type 0} (f : X → Y) (x : X) (xs : List X) → In x xs → In (f x) (map f xs)
map-in f x [] h = absurd h
map-in f x (y ∷ ys) h = ⊎_elim (λ (e : y ≡ x). inl (ap f e)) (λ (i : In x ys). inr (map-in f x ys i)) h

pub in-if : {X : Type 0} (x : X) (b : Bool) (xs : List X) → In x (if b then xs else []) → (b ≡ true) × In x xs
in-if x true xs h = (refl, h)
in-if x false xs h = absurd h

pub in-kept : {X : Type 0} (p : X → Bool) (x : X) (xs : List X) → In x (filter p xs) → In x xs × (p x ≡ true)
in-kept p x [] h = absurd h
in-kept p x (y ∷ ys) h = by (λ j. in-kept p x ys j) (p y) refl h
  where
    by : (In x (filter p ys) → In x ys × (p x ≡ true)) → (b : Bool) → p y ≡ b → In x (if b then y ∷ filter p ys else filter p ys) → In x (y ∷ ys) × (p x ≡ true)
    by f true e i = ⊎_elim
        (λ (s : y ≡ x). (inl s, subst (λ z. p z ≡ true) s e))
        (λ (j : In x (filter p ys)). let w = f j in (inr w.0, w.1))
        i
    by f false e i = let w = f i in (inr w.0, w.1)

pub kept-in : {X : Type 0} (p : X → Bool) (x : X) (xs : List X) → In x xs → p x ≡ true → In x (filter p xs)
kept-in p x [] h e = absurd h
kept-in p x (y ∷ ys) h e = by (λ j. kept-in p x ys j e) (p y) refl h
  where
    by : (In x ys → In x (filter p ys)) → (b : Bool) → p y ≡ b → In x (y ∷ ys) → In x (if b then y ∷ filter p ys else filter p ys)
    by g true f i = ⊎_elim (λ (s : y ≡ x). inl s) (λ (j : In x ys). inr (g j)) i
    by g false f i = ⊎_elim
        (λ (s : y ≡ x). absurd (false≢true (sym f ∙ subst (λ z. p z ≡ true) (sym s) e)))
        (λ (j : In x ys). g j)
        i

-- ---- of points

pub each-points : {X : Type 0} (P : X → Type 0) (f : ℕ → Point → List X) (j i k : ℕ) (ps : List Point) (q : Point) → k ≡ j + i → slice_get ps i ≡ Some q → Each P (each_point f j ps) → Each P (f k q)
each-points P f j i k [] q e g h = absurd (cc)
each-points P f j zero k (p ∷ ps) q e g h =
    let same : p ≡ q = cc in
    let at : j ≡ k = omega arith in
    subst (λ z. Each P (f k z)) same (subst (λ n. Each P (f n p)) at (each-left P (f j p) (each_point f (suc j) ps) h))
each-points P f j (suc i) k (p ∷ ps) q e g h =
    each-points P f (suc j) i k ps q (omega arith) g (each-right P (f j p) (each_point f (suc j) ps) h)

-- ---- counts and columns

pub some-counted : (on : Chosen) (c : Column) (cs : List Column) → In c cs → on c ≡ true → 1 ≤ count on cs
some-counted on c [] i e = absurd i
some-counted on c (d ∷ cs) i e = ⊎_elim
    (λ (s : d ≡ c). counted (on d) (count on cs) (ap on s ∙ e))
    (λ (j : In c cs). let ih = some-counted on c cs j e in omega (arith, ih))
    i
  where
    counted : (b : Bool) (n : ℕ) → b ≡ true → 1 ≤ cost_where b 1 + n
    counted true n e = omega arith
    counted false n e = absurd (false≢true e)

pub counted-some : (on : Chosen) (cs : List Column) → 1 ≤ count on cs → (c : Column) × In c cs × (on c ≡ true)
counted-some on [] h = absurd (omega arith)
counted-some on (c ∷ cs) h = by (λ l. counted-some on cs l) (on c) refl h
  where
    by : (1 ≤ count on cs → (d : Column) × In d cs × (on d ≡ true)) → (b : Bool) → on c ≡ b → 1 ≤ cost_where b 1 + count on cs → (d : Column) × In d (c ∷ cs) × (on d ≡ true)
    by f true e l = (c, inl refl, e)
    by f false e l = let w = f (omega (arith, l)) in (w.0, inr w.1, w.2)

pub counted-any : (on : Chosen) (column : ℕ → Column) (rs : List ℕ) → 1 ≤ count on (map column rs) → list_any (λ r. on (column r)) rs ≡ true
counted-any on column [] h = absurd (omega arith)
counted-any on column (r ∷ rs) h = by (λ l. counted-any on column rs l) (on (column r)) h
  where
    by : (1 ≤ count on (map column rs) → list_any (λ r. on (column r)) rs ≡ true) → (b : Bool) → 1 ≤ cost_where b 1 + count on (map column rs) → (b || list_any (λ r. on (column r)) rs) ≡ true
    by f true l = refl
    by f false l = f (omega (arith, l))

-- two that are on among different parts
pub both-counted : (on : Chosen) (c d : Column) (cs ds : List Column) → In c cs → on c ≡ true → In d ds → on d ≡ true → 2 ≤ count on (cs ++ ds)
both-counted on c d cs ds i e j f =
    let a = some-counted on c cs i e in
    let b = some-counted on d ds j f in
    omega (arith, a, b, count-append on cs ds)

pub part-counted : {X : Type 0} (on : Chosen) (f : X → List Column) (x : X) (xs : List X) → In x xs → count on (f x) ≤ count on (flat_map f xs)
part-counted on f x [] i = absurd i
part-counted on f x (z ∷ xs) i =
    let all = count-append on (f z) (flat_map f xs) in
    ⊎_elim
    (λ (e : z ≡ x). let s = ap (λ w. count on (f w)) e in omega (arith, all, s))
    (λ (j : In x xs). let l = part-counted on f x xs j in omega (arith, all, l))
    i

-- the parts of two different elements
pub parts-counted : {X : Type 0} (on : Chosen) (f : X → List Column) (x y : X) (xs : List X) → In x xs → In y xs → (x ≡ y → ⊥) → count on (f x) + count on (f y) ≤ count on (flat_map f xs)
parts-counted on f x y [] i j n = absurd i
parts-counted on f x y (z ∷ xs) i j n =
    let all = count-append on (f z) (flat_map f xs) in
    ⊎_elim
    (λ (e : z ≡ x). ⊎_elim
    (λ (e' : z ≡ y). absurd (n (sym e ∙ e')))
    (λ (j' : In y xs). let l = part-counted on f y xs j' in let s = ap (λ w. count on (f w)) e in omega (arith, all, l, s))
    j)
    (λ (i' : In x xs). ⊎_elim
    (λ (e' : z ≡ y). let l = part-counted on f x xs i' in let s = ap (λ w. count on (f w)) e' in omega (arith, all, l, s))
    (λ (j' : In y xs). let l = parts-counted on f x y xs i' j' n in omega (arith, all, l))
    j)
    i
