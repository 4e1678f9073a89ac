-- The uses and the values of a form, by its points.
use Rattle.std.proofs.Common.{◌≡◌, ℕ, zero, suc, ◌+◌, nat_eq, true, List, [], ◌∷◌, map, Some, refl, sym, ap, ◌∙◌, subst, ⊎_elim, arith, slice_get}
use Rattle.std.specs.List.{AllByRecursion}
use Rattle.std.proofs.lemmas.Bool.{or_cases, or_left, or_right, false≢true, eq-eqb}
use Rattle.std.proofs.lemmas.Option.{none-some, same_Some}
use Rattle.nv_base.specs.Sets.{is_in}
use Rattle.nv_base.proofs.Sets.{same-number}
use Rattle.ssu_ir.specs.Tree.{Label}
use Rattle.ssu_ir.specs.Points.{Point, points}
use Rattle.place_plan.specs.Uses.{Value, ValueOrigin, numbered, place_values as values_at, values_from, Role, Use, uses_at, uses_from, uses, is_used, place_roles}
use Rattle.ucode_emit.proofs.PointsEach.{EachFrom, each_of, all_left, all_right, all_both, all_get}

-- ---- places in lists of names

pub record InAt (x : ℕ) (xs : List ℕ) : Type 0 where
  pub place : ℕ
  pub there : slice_get xs place ≡ Some x

in_later : (x y : ℕ) (xs : List ℕ) → InAt x xs → InAt x (y ∷ xs)
in_later x y xs h = record { place = suc h.place; there = h.there }

pub in_at : (x : ℕ) (xs : List ℕ) → is_in x xs ≡ true → InAt x xs
in_at x [] e = absurd (false≢true e)
in_at x (y ∷ xs) e =
    ⊎_elim
    (λ (h : nat_eq x y ≡ true). record { place = zero; there = ap (λ z. Some z) (sym (same-number x y h)) })
    (λ (h : is_in x xs ≡ true). in_later x y xs (in_at x xs h))
    (or_cases (nat_eq x y) (is_in x xs) e)

pub at_in : (x : ℕ) (xs : List ℕ) (i : ℕ) → slice_get xs i ≡ Some x → is_in x xs ≡ true
at_in x [] i e = absurd (none-some x e)
at_in x (y ∷ xs) zero e = or_left (nat_eq x y) (is_in x xs) (eq-eqb x y (sym (same_Some y x e)))
at_in x (y ∷ xs) (suc i) e = or_right (nat_eq x y) (is_in x xs) (at_in x xs i e)

-- ---- uses

-- the point at which a use stands
pub record UseAt (all : List Point) (u : Use) : Type 0 where
  pub point_ : Point
  pub at : slice_get all u.point ≡ Some point_
  pub operand : slice_get point_.uses u.operand ≡ Some u.value
  pub role_ : slice_get (place_roles point_.place) u.operand ≡ Some u.role

uses_here : (all : List Point) (k : ℕ) (q : Point) (i : ℕ) (xs : List ℕ) (rs : List Role) → slice_get all k ≡ Some q
    → ((j : ℕ) → slice_get xs j ≡ slice_get q.uses (i + j)) → ((j : ℕ) → slice_get rs j ≡ slice_get (place_roles q.place) (i + j)) → AllByRecursion (UseAt all) (uses_at k i xs rs)
uses_here all k q i [] rs e f g = tt
uses_here all k q i (x ∷ xs) [] e f g = tt
uses_here all k q i (x ∷ xs) (r ∷ rs) e f g =
    let z : i + zero ≡ i = omega arith in (
      record {
        point_ = q;
        at = e;
        operand = sym (f zero ∙ ap (slice_get q.uses) z);
        role_ = sym (g zero ∙ ap (slice_get (place_roles q.place)) z);
      },
      uses_here all k q (suc i) xs rs e
          (λ j. let n : i + suc j ≡ suc i + j = omega arith in f (suc j) ∙ ap (slice_get q.uses) n)
          (λ j. let n : i + suc j ≡ suc i + j = omega arith in g (suc j) ∙ ap (slice_get (place_roles q.place)) n),
    )

uses_behind : (all : List Point) (n : ℕ) (qs : List Point) → EachFrom (λ j r. slice_get all j ≡ Some r) n qs → AllByRecursion (UseAt all) (uses_from n qs)
uses_behind all n [] h = tt
uses_behind all n (q ∷ qs) h =
    all_both (UseAt all) (uses_at n 0 q.uses (place_roles q.place)) (uses_from (suc n) qs)
    (uses_here all n q 0 q.uses (place_roles q.place) h.0
    (λ j. let z : j ≡ 0 + j = omega arith in ap (slice_get q.uses) z) (λ j. let z : j ≡ 0 + j = omega arith in ap (slice_get (place_roles q.place)) z))
    (uses_behind all (suc n) qs h.1)

pub each_there : (all : List Point) → EachFrom (λ j r. slice_get all j ≡ Some r) 0 all
each_there all = each_of (λ j r. slice_get all j ≡ Some r) all (λ i x e. e)

pub use_at : (labels : List Label) (i : ℕ) (u : Use) → slice_get (uses labels) i ≡ Some u → UseAt (points labels) u
use_at labels i u e = all_get (UseAt (points labels)) (uses labels) i u (uses_behind (points labels) 0 (points labels) (each_there (points labels))) e

-- one operand has one value
pub one_value : (labels : List Label) (i j : ℕ) (u v : Use) → slice_get (uses labels) i ≡ Some u → slice_get (uses labels) j ≡ Some v → u.point ≡ v.point → u.operand ≡ v.operand → u.value ≡ v.value
one_value labels i j u v e f p o =
    let a = use_at labels i u e in
    let b = use_at labels j v f in
    let q : a.point_ ≡ b.point_ = same_Some a.point_ b.point_ (sym a.at ∙ (ap (slice_get (points labels)) p ∙ b.at)) in
    same_Some u.value v.value (sym a.operand ∙ (ap (λ (r : Point). slice_get r.uses u.operand) q ∙ (ap (slice_get b.point_.uses) o ∙ b.operand)))

-- a use of a value
pub record AmongUses (us : List Use) (x : ℕ) : Type 0 where
  pub it : Use
  pub place : ℕ
  pub there : slice_get us place ≡ Some it
  pub value : it.value ≡ x

among_later : (u : Use) (us : List Use) (x : ℕ) → AmongUses us x → AmongUses (u ∷ us) x
among_later u us x h = record { it = h.it; place = suc h.place; there = h.there; value = h.value }

pub among_uses : (us : List Use) (x : ℕ) → is_in x (map (λ u. u.value) us) ≡ true → AmongUses us x
among_uses [] x e = absurd (false≢true e)
among_uses (u ∷ us) x e =
    ⊎_elim
    (λ (h : nat_eq x u.value ≡ true). record { it = u; place = zero; there = refl; value = sym (same-number x u.value h) })
    (λ (h : is_in x (map (λ u. u.value) us) ≡ true). among_later u us x (among_uses us x h))
    (or_cases (nat_eq x u.value) (is_in x (map (λ u. u.value) us)) e)

pub use_of : (labels : List Label) (x : ℕ) → is_used labels x ≡ true → AmongUses (uses labels) x
use_of labels x e = among_uses (uses labels) x e

pub used_by : (us : List Use) (i : ℕ) (u : Use) → slice_get us i ≡ Some u → is_in u.value (map (λ u. u.value) us) ≡ true
used_by [] i u e = absurd (none-some u e)
used_by (v ∷ us) zero u e = or_left (nat_eq u.value v.value) (is_in u.value (map (λ u. u.value) us)) (eq-eqb u.value v.value (ap (λ (w : Use). w.value) (sym (same_Some v u e))))
used_by (v ∷ us) (suc i) u e = or_right (nat_eq u.value v.value) (is_in u.value (map (λ u. u.value) us)) (used_by us i u e)

-- ---- values

-- the elements of a list of numbered values
pub numbered_at : (P : Value → Type 0) (k : ℕ) (origin : ℕ → ValueOrigin) (i : ℕ) (xs : List ℕ) (j : ℕ) (x : ℕ) → AllByRecursion P (numbered k origin i xs) → slice_get xs j ≡ Some x
    → P (record { point = k; var = x; origin = origin (i + j) })
numbered_at P k origin i [] j x h e = absurd (none-some x e)
numbered_at P k origin i (y ∷ xs) zero x h e =
    let z : i ≡ i + zero = omega arith in
    subst (λ n. P (record { point = k; var = x; origin = origin n })) z (subst (λ w. P (record { point = k; var = w; origin = origin i })) (same_Some y x e) h.0)
numbered_at P k origin i (y ∷ xs) (suc j) x h e =
    let z : suc i + j ≡ i + suc j = omega arith in
    subst (λ n. P (record { point = k; var = x; origin = origin n })) z (numbered_at P k origin (suc i) xs j x h.1 e)

pub values_each : (P : Value → Type 0) (n : ℕ) (qs : List Point) → AllByRecursion P (values_from n qs) → EachFrom (λ k q. AllByRecursion P (values_at k q.place)) n qs
values_each P n [] h = tt
values_each P n (q ∷ qs) h =
    (all_left P (values_at n q.place) (values_from (suc n) qs) h, values_each P (suc n) qs (all_right P (values_at n q.place) (values_from (suc n) qs) h))
