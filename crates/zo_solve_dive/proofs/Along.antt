-- how the sums of rows change where one column goes from one place to another
use Rattle.std.proofs.Common.{◌≡◌, ℕ, ◌+◌, ◌*◌, ◌<◌, ◌^◌, List, [], ◌∷◌, ◌++◌, length, take, get_or, set, Bool, true, false, nat_eq, Option, Some, None, slice_get, ℤ, pos, ◌+ℤ◌, ◌-ℤ◌, refl, sym, ◌∙◌, ap, inl, inr, arith}
use Rattle.std.specs.List.{All}
use Rattle.std.proofs.lemmas.List.Elements.{All-head, All-tail, All-take}
use Rattle.std.proofs.lemmas.Int.{ints, int_max_is}
use Rattle.std.specs.Int.{int_max}
use Rattle.std.proofs.lemmas.List.{get_or-set_same, get_or-set_other, length-take-le}
use Rattle.std.proofs.lemmas.Option.{get_or_from_slice_get, slice_get_within}
use Rattle.std.proofs.lemmas.Bool.{cases_eq, eq-eqb, ne_eqb}
use mathlib.Core.Path.{fun_ext}
use Rattle.zo_model.specs.Program.{AtMost, total, where_one, terms_sum}
use Rattle.zo_model.proofs.Sums.{total-append, total-more}
use Rattle.zo_cert_tree.specs.Fixing.{is_one, ones}
use Rattle.zo_cert_tree.specs.Searched.{reach, reach_part}
use Rattle.zo_solve_dive.specs.inner.Keeping.{along, moved, settled}

pub along-none : (k : ℕ) (g : ℤ → ℤ) → along k g [] ≡ pos 0
unfolding along
along-none k g = refl

pub along-more : (k : ℕ) (g : ℤ → ℤ) (ps : List (ℕ × ℤ)) (i : ℕ) → i < length ps → along k g (take (i + 1) ps) ≡ along k g (take i ps) +ℤ where_one (nat_eq (get_or ps i (0, pos 0)).0 k) (g (get_or ps i (0, pos 0)).1)
unfolding along
along-more k g ps i h = total-more (λ p. where_one (nat_eq p.0 k) (g p.1)) ps i (0, pos 0) h

-- one pair more
pub along-push : (k : ℕ) (g : ℤ → ℤ) (ps : List (ℕ × ℤ)) (r : ℕ) (a : ℤ) → along k g (ps ++ (r, a) ∷ []) ≡ along k g ps +ℤ where_one (nat_eq r k) (g a)
unfolding along
along-push k g ps r a =
    let e = total-append (λ (p : ℕ × ℤ). where_one (nat_eq p.0 k) (g p.1)) ps ((r, a) ∷ []) in
    omega (arith, ints, e)

-- ---- a sum of parts, each by its column's place

abbrev sum_parts : (Option Bool → ℤ → ℤ) → List (Option Bool) → List (ℕ × ℤ) → ℤ
sum_parts part fixed ts = total (λ t. part (get_or fixed t.0 None) t.1) ts

parts_set : (part : Option Bool → ℤ → ℤ) (fixed : List (Option Bool)) (j : ℕ) (old new : Option Bool) (ts : List (ℕ × ℤ)) → slice_get fixed j ≡ Some old → sum_parts part (set fixed j new) ts ≡ sum_parts part fixed ts +ℤ total (λ t. where_one (nat_eq t.0 j) (part new t.1 -ℤ part old t.1)) ts
parts_set part fixed j old new [] e = omega (arith, ints)
parts_set part fixed j old new (t ∷ ts) e =
    let ih : sum_parts part (set fixed j new) ts ≡ sum_parts part fixed ts +ℤ total (λ t. where_one (nat_eq t.0 j) (part new t.1 -ℤ part old t.1)) ts = parts_set part fixed j old new ts e in
    elim (cases_eq t.0 j) [
      | inl same ↦
          let here : get_or (set fixed j new) t.0 None ≡ new = rw same (get_or-set_same fixed j new None (slice_get_within fixed j old e)) in
          let was : get_or fixed t.0 None ≡ old = rw same (get_or_from_slice_get fixed j old None e) in
          let yes : nat_eq t.0 j ≡ true = rw same (eq-eqb j j refl) in
          let one : part (get_or (set fixed j new) t.0 None) t.1 ≡ part new t.1 = ap (λ o. part o t.1) here in
          let two : part (get_or fixed t.0 None) t.1 ≡ part old t.1 = ap (λ o. part o t.1) was in
          let by : where_one (nat_eq t.0 j) (part new t.1 -ℤ part old t.1) ≡ part new t.1 -ℤ part old t.1 = ap (λ b. where_one b (part new t.1 -ℤ part old t.1)) yes in
          omega (arith, ints)
      | inr ne ↦
          let here : get_or (set fixed j new) t.0 None ≡ get_or fixed t.0 None = get_or-set_other fixed j t.0 new None ne in
          let one : part (get_or (set fixed j new) t.0 None) t.1 ≡ part (get_or fixed t.0 None) t.1 = ap (λ o. part o t.1) here in
          let by : where_one (nat_eq t.0 j) (part new t.1 -ℤ part old t.1) ≡ pos 0 = ap (λ b. where_one b (part new t.1 -ℤ part old t.1)) (ne_eqb t.0 j ne) in
          omega (arith, ints)
    ]

pub reach_set : (fixed : List (Option Bool)) (j : ℕ) (old new : Option Bool) (ts : List (ℕ × ℤ)) → slice_get fixed j ≡ Some old → reach (set fixed j new) ts ≡ reach fixed ts +ℤ along j (moved old new) ts
unfolding reach along
reach_set fixed j old new ts e = parts_set reach_part fixed j old new ts e

settled_is : (o : Option Bool) (a : ℤ) → reach_part (settled o) a ≡ where_one (is_one o) a
settled_is (Some v) a = refl
settled_is None a = refl

abbrev settled_part : Option Bool → ℤ → ℤ
settled_part o a = reach_part (settled o) a

abbrev one_part : Option Bool → ℤ → ℤ
one_part o a = where_one (is_one o) a

settled_parts : settled_part ≡ one_part
settled_parts = fun_ext (λ o. fun_ext (λ a. settled_is o a))

pub sum_set : (fixed : List (Option Bool)) (j : ℕ) (old new : Option Bool) (ts : List (ℕ × ℤ)) → slice_get fixed j ≡ Some old → terms_sum ts (ones (set fixed j new)) ≡ terms_sum ts (ones fixed) +ℤ along j (moved (settled old) (settled new)) ts
unfolding terms_sum along
sum_set fixed j old new ts e =
    let p = parts_set settled_part fixed j old new ts e in
    let a : sum_parts settled_part (set fixed j new) ts ≡ sum_parts one_part (set fixed j new) ts = ap (λ part. sum_parts part (set fixed j new) ts) settled_parts in
    let b : sum_parts settled_part fixed ts ≡ sum_parts one_part fixed ts = ap (λ part. sum_parts part fixed ts) settled_parts in
    sym a ∙ p ∙ ap (λ v. v +ℤ total (λ t. where_one (nat_eq t.0 j) (moved (settled old) (settled new) t.1)) ts) b

-- ---- bounds

where_bounded : (b : ℕ) (v : Bool) (a : ℤ) → AtMost b a → AtMost b (where_one v a)
where_bounded b true a h = h
where_bounded b false a h = record { low = omega (arith, ints); high = omega (arith, ints) }

max_bounded : (b : ℕ) (a : ℤ) → AtMost b a → AtMost b (int_max a (pos 0))
max_bounded b a h = record { low = omega (arith, ints, int_max_is a (pos 0), h.low, h.high); high = omega (arith, ints, int_max_is a (pos 0), h.low, h.high) }

pub part_bounded : (o : Option Bool) (a : ℤ) → AtMost (2 ^ 15) a → AtMost (2 ^ 15) (reach_part o a)
part_bounded (Some v) a h = where_bounded (2 ^ 15) v a h
part_bounded None a h = max_bounded (2 ^ 15) a h

pub moved_bounded : (old new : Option Bool) (a : ℤ) → AtMost (2 ^ 15) a → AtMost (2 ^ 16) (moved old new a)
moved_bounded old new a h =
    let p = part_bounded new a h in
    let q = part_bounded old a h in
    record { low = omega (arith, ints, p.low, p.high, q.low, q.high); high = omega (arith, ints, p.low, p.high, q.low, q.high) }

total_bounded : (f : ℕ × ℤ → ℤ) (ts : List (ℕ × ℤ)) → ((t : ℕ × ℤ) → AtMost (2 ^ 15) t.1 → AtMost (2 ^ 16) (f t)) → All (λ t. AtMost (2 ^ 15) t.1) ts → AtMost (2 ^ 16 * length ts) (total f ts)
total_bounded f [] h k = record { low = omega (arith, ints); high = omega (arith, ints) }
total_bounded f (t ∷ ts) h k =
    let one : AtMost (2 ^ 16) (f t) = h t (All-head (λ t. AtMost (2 ^ 15) t.1) t ts k) in
    let ih : AtMost (2 ^ 16 * length ts) (total f ts) = total_bounded f ts h (All-tail (λ t. AtMost (2 ^ 15) t.1) t ts k) in
    record { low = omega (arith, ints, one.low, one.high, ih.low, ih.high); high = omega (arith, ints, one.low, one.high, ih.low, ih.high) }

pub along_bounded : (k : ℕ) (old new : Option Bool) (ts : List (ℕ × ℤ)) → All (λ t. AtMost (2 ^ 15) t.1) ts → AtMost (2 ^ 16 * length ts) (along k (moved old new) ts)
unfolding along
along_bounded k old new ts h = total_bounded (λ t. where_one (nat_eq t.0 k) (moved old new t.1)) ts (λ t a. where_bounded (2 ^ 16) (nat_eq t.0 k) (moved old new t.1) (moved_bounded old new t.1 a)) h

part_wider : (v : ℤ) → AtMost (2 ^ 15) v → AtMost (2 ^ 16) v
part_wider v h = record { low = omega (arith, ints, h.low, h.high); high = omega (arith, ints, h.low, h.high) }

pub reach_bounded : (fixed : List (Option Bool)) (ts : List (ℕ × ℤ)) → All (λ t. AtMost (2 ^ 15) t.1) ts → AtMost (2 ^ 16 * length ts) (reach fixed ts)
unfolding reach
reach_bounded fixed ts h = total_bounded (λ t. reach_part (get_or fixed t.0 None) t.1) ts (λ t a. part_wider (reach_part (get_or fixed t.0 None) t.1) (part_bounded (get_or fixed t.0 None) t.1 a)) h

pub sum_bounded : (x : ℕ → Bool) (ts : List (ℕ × ℤ)) → All (λ t. AtMost (2 ^ 15) t.1) ts → AtMost (2 ^ 16 * length ts) (terms_sum ts x)
unfolding terms_sum
sum_bounded x ts h = total_bounded (λ t. where_one (x t.0) t.1) ts (λ t a. part_wider (where_one (x t.0) t.1) (where_bounded (2 ^ 15) (x t.0) t.1 a)) h

-- ---- one step along a column

pub moved_step : (old w : List ℤ) (es : List (ℕ × ℤ)) (g : ℤ → ℤ) (k c : ℕ) (a p x : ℤ) → k < length es → c ≡ (get_or es k (0, pos 0)).0 → a ≡ (get_or es k (0, pos 0)).1 → p ≡ g a → c < length w → x ≡ get_or w c (pos 0) +ℤ p → ((i : ℕ) → i < length old → get_or w i (pos 0) ≡ get_or old i (pos 0) +ℤ along i g (take k es)) → (i : ℕ) → i < length old → get_or (set w c x) i (pos 0) ≡ get_or old i (pos 0) +ℤ along i g (take (k + 1) es)
moved_step old w es g k c a p x it ce ae pe inside xe h i lt = elim (cases_eq c i) [
  | inl same ↦
      let here : get_or (set w c x) i (pos 0) ≡ x = rw (sym same) (get_or-set_same w c x (pos 0) inside) in
      let at : get_or w i (pos 0) ≡ get_or w c (pos 0) = rw same in
      let was : get_or w i (pos 0) ≡ get_or old i (pos 0) +ℤ along i g (take k es) = h i lt in
      let more = along-more i g es k it in
      let yes : nat_eq (get_or es k (0, pos 0)).0 i ≡ true = rw (sym ce, same) (eq-eqb i i refl) in
      let one : where_one (nat_eq (get_or es k (0, pos 0)).0 i) (g (get_or es k (0, pos 0)).1) ≡ p = ap (λ b. where_one b (g (get_or es k (0, pos 0)).1)) yes ∙ ap g (sym ae) ∙ sym pe in
      omega (arith, ints)
  | inr ne ↦
      let here : get_or (set w c x) i (pos 0) ≡ get_or w i (pos 0) = get_or-set_other w c i x (pos 0) (λ e. ne (sym e)) in
      let was : get_or w i (pos 0) ≡ get_or old i (pos 0) +ℤ along i g (take k es) = h i lt in
      let more = along-more i g es k it in
      let apart : nat_eq (get_or es k (0, pos 0)).0 i ≡ false = rw (sym ce) (ne_eqb c i ne) in
      let zero : where_one (nat_eq (get_or es k (0, pos 0)).0 i) (g (get_or es k (0, pos 0)).1) ≡ pos 0 = ap (λ b. where_one b (g (get_or es k (0, pos 0)).1)) apart in
      omega (arith, ints)
]

-- the bound of a sum while a column is walked along
pub with_bounded : (i : ℕ) (old new : Option Bool) (es : List (ℕ × ℤ)) (k : ℕ) (was now : ℤ) → k < length es → All (λ t. AtMost (2 ^ 15) t.1) es → AtMost (2 ^ 42) was → now ≡ was +ℤ along i (moved old new) (take k es) → AtMost (2 ^ 42 + 2 ^ 16 * k) now
with_bounded i old new es k was now lt small h e =
    let b : AtMost (2 ^ 16 * length (take k es)) (along i (moved old new) (take k es)) = along_bounded i old new (take k es) (All-take (λ t. AtMost (2 ^ 15) t.1) k es small) in
    let n : length (take k es) ≡ k = length-take-le k es (omega arith) in
    record { low = omega (arith, ints, h.low, h.high, b.low, b.high); high = omega (arith, ints, h.low, h.high, b.low, b.high) }
