-- the sums of all rows are kept where one column goes from one place to another
use Rattle.std.proofs.Common.{◌≡◌, ℕ, zero, suc, ◌*◌, ◌<◌, ◌≤◌, ◌^◌, List, [], ◌∷◌, length, get_or, set, Bool, Option, Some, None, slice_get, ℤ, pos, ◌+ℤ◌, refl, sym, ◌∙◌, ap, subst, arith}
use Rattle.std.specs.Prelude.{IfSome}
use Rattle.std.specs.Global.{Vec}
use Rattle.std.specs.List.{All}
use Rattle.std.proofs.lemmas.Int.{ints}
use Rattle.std.proofs.lemmas.List.{length-set}
use Rattle.std.proofs.lemmas.List.Elements.{All-get_or, All-head, All-nil, All-tail}
use Rattle.std.proofs.lemmas.Option.{slice_get_read}
use Rattle.zo_model.specs.Program.{AreSmallTerms, AtMost, IsRow, IsValid, columns, terms_sum}
use Rattle.zo_model.specs.declared.program.Row.{Row}
use Rattle.zo_model.specs.declared.program.ZeroOne.{ZeroOne}
use Rattle.zo_model.proofs.Rows.{terms_small}
use Rattle.zo_cert_tree.specs.Certificate.{terms_of}
use Rattle.zo_cert_tree.specs.Fixing.{ones}
use Rattle.zo_cert_tree.specs.Searched.{reach}
use Rattle.zo_solve_dive.specs.inner.Keeping.{AreEntries, IsTranspose, KeepsSums, along, entries_of, moved, settled}
use Rattle.zo_solve_dive.proofs.Along.{reach_bounded, reach_set, sum_bounded, sum_set}

no_terms : (n : ℕ) → AreSmallTerms n []
no_terms n = record { short = omega arith; within = All-nil (λ t. t.0 < n); coefficients_fit = All-nil (λ t. AtMost (2 ^ 15) t.1) }

terms_at : (n : ℕ) (rows : List Row) (i : ℕ) → All (IsRow n) rows → AreSmallTerms n (terms_of (slice_get rows i))
terms_at n [] i h = no_terms n
terms_at n (r ∷ rs) zero h = let row : IsRow n r = All-head (IsRow n) r rs h in terms_small n r.terms.items row.terms_fit
terms_at n (r ∷ rs) (suc i) h = terms_at n rs i (All-tail (IsRow n) r rs h)

few : (k : ℕ) (v : ℤ) → k ≤ 2 ^ 26 → AtMost (2 ^ 16 * k) v → AtMost (2 ^ 42) v
few k v le h = record { low = omega (arith, ints, h.low, h.high); high = omega (arith, ints, h.low, h.high) }

pub reach_small : (z : ZeroOne) (fixed : List (Option Bool)) (i : ℕ) (v : ℤ) → IsValid z → v ≡ reach fixed (terms_of (slice_get z.rows.items i)) → AtMost (2 ^ 42) v
reach_small z fixed i v valid e =
    let ts = terms_at (columns z) z.rows.items i valid.rows_ok in
    subst (AtMost (2 ^ 42)) (sym e) (few (length (terms_of (slice_get z.rows.items i))) (reach fixed (terms_of (slice_get z.rows.items i))) ts.short (reach_bounded fixed (terms_of (slice_get z.rows.items i)) ts.coefficients_fit))

pub sum_small : (z : ZeroOne) (fixed : List (Option Bool)) (i : ℕ) (v : ℤ) → IsValid z → v ≡ terms_sum (terms_of (slice_get z.rows.items i)) (ones fixed) → AtMost (2 ^ 42) v
sum_small z fixed i v valid e =
    let ts = terms_at (columns z) z.rows.items i valid.rows_ok in
    subst (AtMost (2 ^ 42)) (sym e) (few (length (terms_of (slice_get z.rows.items i))) (terms_sum (terms_of (slice_get z.rows.items i)) (ones fixed)) ts.short (sum_bounded (ones fixed) (terms_of (slice_get z.rows.items i)) ts.coefficients_fit))

-- the list of a column that is there
pub column_at : (z : ZeroOne) (cs : List (Vec (ℕ × ℤ))) (j : ℕ) (v : Vec (ℕ × ℤ)) → IsTranspose z cs → j < columns z → v ≡ get_or cs j v → (slice_get cs j ≡ Some v) × AreEntries (length z.rows.items) v.items
column_at z cs j v h lt e =
    let inside : j < length cs = omega (arith, lt, h.one_a_column) in
    (slice_get_read cs (length cs) j v refl inside e, subst (λ (c : Vec (ℕ × ℤ)). AreEntries (length z.rows.items) c.items) (sym e) (All-get_or (λ c. AreEntries (length z.rows.items) c.items) cs j v inside h.entries_fit))

-- what the sums gain along the column is what the plain sums gain
gained : (z : ZeroOne) (cs : List (Vec (ℕ × ℤ))) (i j : ℕ) (g : ℤ → ℤ) (v : Vec (ℕ × ℤ)) → IsTranspose z cs → j < columns z → slice_get cs j ≡ Some v → along i g v.items ≡ along j g (terms_of (slice_get z.rows.items i))
gained z cs i j g v h lt at = ap (λ o. along i g (entries_of o)) (sym at) ∙ h.same i j g lt

pub placed : (z : ZeroOne) (cs : List (Vec (ℕ × ℤ))) (fixed : List (Option Bool)) (reaches sums reaches' sums' : List ℤ) (j : ℕ) (old new old' new' : Option Bool) (v v' : Vec (ℕ × ℤ)) → old' ≡ settled old → new' ≡ settled new → KeepsSums z cs fixed reaches sums → j < columns z → slice_get fixed j ≡ Some old → slice_get cs j ≡ Some v → slice_get cs j ≡ Some v' → length reaches' ≡ length reaches → length sums' ≡ length sums → ((i : ℕ) → i < length reaches → get_or reaches' i (pos 0) ≡ get_or reaches i (pos 0) +ℤ along i (moved old new) v.items) → ((i : ℕ) → i < length sums → get_or sums' i (pos 0) ≡ get_or sums i (pos 0) +ℤ along i (moved old' new') v'.items) → KeepsSums z cs (set fixed j new) reaches' sums'
placed z cs fixed reaches sums reaches' sums' j old new old' new' v v' oe ne k lt was at at' many many' gain gain' = record {
  valid = k.valid;
  transposed = k.transposed;
  places = length-set fixed j new ∙ k.places;
  reach_a_row = many ∙ k.reach_a_row;
  sum_a_row = many' ∙ k.sum_a_row;
  reaches_are = λ i there.
      let ts = terms_of (slice_get z.rows.items i) in
      let a = gain i (omega (arith, there, k.reach_a_row)) in
      let b = k.reaches_are i there in
      let d = gained z cs i j (moved old new) v k.transposed lt at in
      a ∙ ap (λ n. n +ℤ along i (moved old new) v.items) b ∙ ap (λ n. reach fixed (terms_of (slice_get z.rows.items i)) +ℤ n) d ∙ sym (reach_set fixed j old new (terms_of (slice_get z.rows.items i)) was);
  sums_are = λ i there.
      let a = gain' i (omega (arith, there, k.sum_a_row)) in
      let b = k.sums_are i there in
      let c : along i (moved old' new') v'.items ≡ along i (moved (settled old) (settled new)) v'.items = ap (λ (o : Option Bool). along i (moved o new') v'.items) oe ∙ ap (λ (o : Option Bool). along i (moved (settled old) o) v'.items) ne in
      let d = gained z cs i j (moved (settled old) (settled new)) v' k.transposed lt at' in
      a ∙ ap (λ n. n +ℤ along i (moved old' new') v'.items) b ∙ ap (λ n. terms_sum (terms_of (slice_get z.rows.items i)) (ones fixed) +ℤ n) (c ∙ d) ∙ sym (sum_set fixed j old new (terms_of (slice_get z.rows.items i)) was);
}

-- what a call says of the lists that it was passed
pub gains : (was shown new : List ℤ) (items es : List (ℕ × ℤ)) (g : ℤ → ℤ) → shown ≡ was → es ≡ items → ((i : ℕ) → i < length shown → get_or new i (pos 0) ≡ get_or shown i (pos 0) +ℤ along i g es) → (i : ℕ) → i < length was → get_or new i (pos 0) ≡ get_or was i (pos 0) +ℤ along i g items
gains was shown new items es g a b h =
    subst (λ (l : List ℤ). (i : ℕ) → i < length l → get_or new i (pos 0) ≡ get_or l i (pos 0) +ℤ along i g items) a
    (subst (λ (l : List (ℕ × ℤ)). (i : ℕ) → i < length shown → get_or new i (pos 0) ≡ get_or shown i (pos 0) +ℤ along i g l) b h)

-- what a call asks of the lists that it is passed
pub may_move : (n : ℕ) (was shown : List ℤ) (items es : List (ℕ × ℤ)) → shown ≡ was → es ≡ items → length was ≡ n → AreEntries n items → AreEntries (length shown) es
may_move n was shown items es a b many h = subst (AreEntries (length shown)) (sym b) (subst (λ k. AreEntries k items) (sym (ap length a ∙ many)) h)

pub small_shown : (n : ℕ) (was shown : List ℤ) → shown ≡ was → length was ≡ n → ((i : ℕ) → i < n → AtMost (2 ^ 42) (get_or was i (pos 0))) → (i : ℕ) → i < length shown → AtMost (2 ^ 42) (get_or shown i (pos 0))
small_shown n was shown a many h i there = subst (λ (l : List ℤ). AtMost (2 ^ 42) (get_or l i (pos 0))) (sym a) (h i (omega (arith, there, ap length a, many)))

-- a row's sum is that of its terms
pub of_terms : (o : Option Row) (f : List (ℕ × ℤ) → ℤ) (x : ℤ) → x ≡ f (terms_of o) → IfSome o (λ r. x ≡ f r.terms.items)
of_terms (Some r) f x e = e
of_terms None f x e = tt
