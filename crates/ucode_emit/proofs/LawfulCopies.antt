-- How many places values are copied to: for each value its banks and its early words, and for all values together no more than a form is large.
use Rattle.std.proofs.Common.{◌≡◌, ℕ, suc, ◌+◌, ◌*◌, ◌≤◌, nat_eq, Bool, true, false, not, List, [], ◌∷◌, ◌++◌, map, filter, length, Option, Some, None, if◌then◌else◌, refl, ap, ◌∙◌, subst, ⊎_elim, arith}
use Rattle.std.proofs.lemmas.Bool.{and_parts, or_parts, not-true, cases_Bool}
use Rattle.std.proofs.lemmas.List.{length-map, length-append}
use Rattle.nv_base.specs.Sets.{is_in, all_different}
use Rattle.nv_base.proofs.Sets.{same-number}
use Rattle.ssu_ir.specs.Tree.{Label}
use Rattle.ssu_ir.specs.Points.{Point}
use Rattle.ssu_ir.specs.Measures.{point_size, total}
use Rattle.place_plan.specs.declared.place.Place.{Place}
use Rattle.place_plan.specs.declared.place.Place.TheVariants.{A, B, Slot}
use Rattle.place_plan.specs.Plan.{Plan, home}
use Rattle.place_plan.specs.Uses.{Role, Use, uses_at, uses_from, uses, is_used, place_roles}
use Rattle.place_plan.specs.Fits.{maybe, AreFills, AreCopies, word_register, is_early, early_uses}
use Rattle.ucode_emit.specs.inner.Layers.{Placed}
use Rattle.ucode_emit.proofs.PointsLabels.{formed_at}
use Rattle.ucode_emit.proofs.PointsUses.{at_in, use_at, use_of}
use Rattle.ucode_emit.proofs.DefinitionsHomes.{Settled, in_general, put_early, fetched_to, settled_above, unused_bare}

-- ---- the copies of one value

abbrev pub how_many : Plan → ℕ → ℕ
how_many p x = length (home p x).copied

-- how many of these uses are of a value
abbrev pub count : List Use → ℕ → ℕ
count us x = length (filter (λ u. nat_eq u.value x) us)

maybe_one : (place : ℕ → Place) (o : Option ℕ) → length (maybe place o) ≤ 1
maybe_one place (Some k) = omega arith
maybe_one place None = omega arith

few_fills : (p : Plan) (d : Place) (fills : List Place) → AreFills p d fills → length fills ≤ 3
few_fills p d fills h =
    let a = maybe_one A h.a in
    let b = maybe_one B h.b in
    let c = maybe_one Slot h.slot in
    let e : length fills ≡ length (maybe A h.a ++ (maybe B h.b ++ maybe Slot h.slot)) = ap length h.in_order in
    let f = length-append (maybe A h.a) (maybe B h.b ++ maybe Slot h.slot) in
    let g = length-append (maybe B h.b) (maybe Slot h.slot) in
    omega (arith, a, b, c, e, f, g)

filter_if : {X : Type 0} (b : Bool) (x : X) (ys : List X) (n : ℕ) → length ys ≤ n → length (if b then x ∷ ys else ys) ≤ suc n
filter_if true x ys n h = omega (arith, h)
filter_if false x ys n h = omega (arith, h)

filter_short : {X : Type 0} (f : X → Bool) (xs : List X) → length (filter f xs) ≤ length xs
filter_short f [] = omega arith
filter_short f (x ∷ xs) = filter_if (f x) x (filter f xs) (length xs) (filter_short f xs)

copies_counted : (labels : List Label) (p : Plan) (x : ℕ) → AreCopies labels p x (home p x) → how_many p x ≤ 3 + count (uses labels) x
copies_counted labels p x h =
    let early = early_uses labels p x in
    let a = few_fills p (home p x).defined h.fills h.are in
    let b : how_many p x ≡ length (h.fills ++ map (word_register p) early) = ap length h.copied in
    let c = length-append h.fills (map (word_register p) early) in
    let d = length-map early (word_register p) in
    let e : length early ≤ count (uses labels) x = filter_short (is_early p) (filter (λ u. nat_eq u.value x) (uses labels)) in
    omega (arith, a, b, c, d, e)

settled_counted : (labels : List Label) (p : Plan) (x : ℕ) → Settled labels p x → how_many p x ≤ 3 + count (uses labels) x
settled_counted labels p x (in_general g c) = copies_counted labels p x c
settled_counted labels p x (put_early g) = let e : how_many p x ≡ 0 = ap length g.copied in omega (arith, e)
settled_counted labels p x (fetched_to m r d c) = copies_counted labels p x c

used_settles : (labels : List Label) (p : Plan) (x : ℕ) → Placed labels p → is_used labels x ≡ true → Settled labels p x
used_settles labels p x h e =
    let u = use_of labels x e in
    let a = use_at labels u.place u.it u.there in
    let i = at_in u.it.value a.point_.uses u.it.operand a.operand in
    let above = (formed_at labels u.it.point a.point_ h.single a.at).uses u.it.value i in
    subst (Settled labels p) u.value (settled_above labels p u.it.point a.point_ u.it.value h a.at above (ap (is_used labels) u.value ∙ e))

pub copies_few : (labels : List Label) (p : Plan) (x : ℕ) → Placed labels p → how_many p x ≤ 3 + count (uses labels) x
copies_few labels p x h =
    ⊎_elim (λ (e : is_used labels x ≡ true). settled_counted labels p x (used_settles labels p x h e))
    (λ (e : is_used labels x ≡ false). let z : how_many p x ≡ 0 = ap length (unused_bare labels p x h e) in let w : how_many p x ≤ 3 + count (uses labels) x = omega (arith, z) in w)
    (cases_Bool (is_used labels x))

-- ---- sums over values

abbrev pub sum_of : (ℕ → ℕ) → List ℕ → ℕ
sum_of f [] = 0
sum_of f (x ∷ xs) = f x + sum_of f xs

pub sum_both : (f : ℕ → ℕ) (a b : List ℕ) → sum_of f (a ++ b) ≡ sum_of f a + sum_of f b
sum_both f [] b = let z : sum_of f b ≡ 0 + sum_of f b = omega arith in z
sum_both f (x ∷ a) b = omega (arith, sum_both f a b)

sum_split : (f g h : ℕ → ℕ) (xs : List ℕ) → ((x : ℕ) → f x ≡ g x + h x) → sum_of f xs ≡ sum_of g xs + sum_of h xs
sum_split f g h [] e = refl
sum_split f g h (x ∷ xs) e = omega (arith, e x, sum_split f g h xs e)

sum_bound : (f g : ℕ → ℕ) (xs : List ℕ) → ((x : ℕ) → f x ≤ 3 + g x) → sum_of f xs ≤ 3 * length xs + sum_of g xs
sum_bound f g [] e = omega arith
sum_bound f g (x ∷ xs) e = omega (arith, e x, sum_bound f g xs e)

-- ---- each use is of one value

abbrev pub one_if : Bool → ℕ
one_if true = 1
one_if false = 0

abbrev one_at : ℕ → ℕ → ℕ
one_at v x = one_if (nat_eq v x)

pub more_if : (b : Bool) (u : Use) (us : List Use) → length (if b then u ∷ us else us) ≡ one_if b + length us
more_if true u us = omega arith
more_if false u us = omega arith

count_more : (u : Use) (us : List Use) (x : ℕ) → count (u ∷ us) x ≡ one_at u.value x + count us x
count_more u us x = more_if (nat_eq u.value x) u (filter (λ u. nat_eq u.value x) us)

none_at : (v : ℕ) (xs : List ℕ) → is_in v xs ≡ false → sum_of (one_at v) xs ≡ 0
none_at v [] e = refl
none_at v (x ∷ xs) e =
    let p = or_parts (nat_eq v x) (is_in v xs) e in
    let z : one_at v x ≡ 0 = ap one_if p.0 in
    omega (arith, z, none_at v xs p.1)

once_at : (v : ℕ) (xs : List ℕ) → all_different xs ≡ true → sum_of (one_at v) xs ≤ 1
once_at v [] d = omega arith
once_at v (x ∷ xs) d =
    let p = and_parts (not (is_in x xs)) (all_different xs) d in
    ⊎_elim
    (λ (e : nat_eq v x ≡ true).
    let z : one_at v x ≡ 1 = ap one_if e in
    let n : sum_of (one_at v) xs ≡ 0 = none_at v xs (ap (λ y. is_in y xs) (same-number v x e) ∙ not-true (is_in x xs) p.0) in
    let w : one_at v x + sum_of (one_at v) xs ≤ 1 = omega (arith, z, n) in w)
    (λ (e : nat_eq v x ≡ false).
    let z : one_at v x ≡ 0 = ap one_if e in
    let w : one_at v x + sum_of (one_at v) xs ≤ 1 = omega (arith, z, once_at v xs p.1) in w)
    (cases_Bool (nat_eq v x))

sum_none : (xs : List ℕ) → sum_of (count []) xs ≡ 0
sum_none [] = refl
sum_none (x ∷ xs) = omega (arith, sum_none xs)

pub counted_once : (us : List Use) (xs : List ℕ) → all_different xs ≡ true → sum_of (count us) xs ≤ length us
counted_once [] xs d = omega (arith, sum_none xs)
counted_once (u ∷ us) xs d = omega (arith, sum_split (count (u ∷ us)) (one_at u.value) (count us) xs (count_more u us), once_at u.value xs d, counted_once us xs d)

-- ---- as many uses as a form is large

uses_short : (k i : ℕ) (xs : List ℕ) (rs : List Role) → length (uses_at k i xs rs) ≤ length xs
uses_short k i [] rs = omega arith
uses_short k i (x ∷ xs) [] = omega arith
uses_short k i (x ∷ xs) (r ∷ rs) = omega (arith, uses_short k (suc i) xs rs)

pub uses_few : (n : ℕ) (qs : List Point) → length (uses_from n qs) ≤ total point_size qs
uses_few n [] = omega arith
uses_few n (q ∷ qs) =
    let a = length-append (uses_at n 0 q.uses (place_roles q.place)) (uses_from (suc n) qs) in
    let b = uses_short n 0 q.uses (place_roles q.place) in
    omega (arith, a, b, uses_few (suc n) qs)

-- all copies of these values
pub all_copies_few : (labels : List Label) (p : Plan) (xs : List ℕ) → Placed labels p → sum_of (how_many p) xs ≤ 3 * length xs + sum_of (count (uses labels)) xs
all_copies_few labels p xs h = sum_bound (how_many p) (count (uses labels)) xs (λ x. copies_few labels p x h)
