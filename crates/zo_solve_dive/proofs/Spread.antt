-- how the rows of a program are put into the lists of its columns
use Rattle.std.proofs.Common.{◌≡◌, ◌≢◌, ℕ, zero, suc, ◌+◌, ◌<◌, ◌≤◌, ◌^◌, List, [], ◌∷◌, ◌++◌, length, take, get_or, set, true, false, nat_eq, Some, None, slice_get, ℤ, pos, ◌+ℤ◌, refl, sym, ◌∙◌, ap, subst, inl, inr, arith, add-one, length-append}
use Rattle.std.specs.List.{All}
use Rattle.std.specs.Global.{Vec}
use Rattle.std.proofs.lemmas.Int.{ints}
use Rattle.std.proofs.lemmas.List.{get_or_append_left, get_or_push, length-take, take_all}
use Rattle.std.proofs.lemmas.List.Elements.{All-get_or, All-head, All-nil, All-push, All-tail, All-weaker}
use Rattle.std.proofs.lemmas.Option.{slice_get_past, slice_get_read}
use Rattle.std.proofs.lemmas.Bool.{cases_eq, eq-eqb, ne_eqb}
use Rattle.zo_model.specs.Program.{AreSmallTerms, AtMost, IsRow, IsValid, columns, where_one}
use Rattle.zo_model.specs.declared.program.ZeroOne.{ZeroOne}
use Rattle.zo_model.proofs.Rows.{terms_small}
use Rattle.zo_model.specs.declared.program.Row.{Row}
use Rattle.zo_cert_tree.specs.Certificate.{terms_of}
use Rattle.zo_cert_tree.proofs.Paths.{get_set}
use Rattle.zo_cert_tree.proofs.Duality.{where_one-add, where_one-zero}
use Rattle.zo_solve_dive.specs.inner.Keeping.{AreEntries, IsSpread, IsTranspose, along, entries_of}
use Rattle.zo_solve_dive.proofs.Along.{along-more, along-none, along-push}

get_set_other : {A : Type 0} (xs : List A) (j k : ℕ) (a : A) → k ≢ j → slice_get (set xs j a) k ≡ slice_get xs k
get_set_other [] j k a ne = refl
get_set_other (x ∷ xs) zero zero a ne = absurd (ne refl)
get_set_other (x ∷ xs) zero (suc k) a ne = refl
get_set_other (x ∷ xs) (suc j) zero a ne = refl
get_set_other (x ∷ xs) (suc j) (suc k) a ne = get_set_other xs j k a (λ e. ne (ap suc e))

-- one term more has come to its column
pub spread_step : (old cs : List (Vec (ℕ × ℤ))) (v new : Vec (ℕ × ℤ)) (ts : List (ℕ × ℤ)) (row k c : ℕ) (a : ℤ) → k < length ts → c ≡ (get_or ts k (0, pos 0)).0 → a ≡ (get_or ts k (0, pos 0)).1 → c < length cs → slice_get cs c ≡ Some v → new.items ≡ v.items ++ (row, a) ∷ [] → ((i j : ℕ) (g : ℤ → ℤ) → j < length old → along i g (entries_of (slice_get cs j)) ≡ along i g (entries_of (slice_get old j)) +ℤ where_one (nat_eq row i) (along j g (take k ts))) → (i j : ℕ) (g : ℤ → ℤ) → j < length old → along i g (entries_of (slice_get (set cs c new) j)) ≡ along i g (entries_of (slice_get old j)) +ℤ where_one (nat_eq row i) (along j g (take (k + 1) ts))
spread_step old cs v new ts row k c a lt ce ae inside was is h i j g there = elim (cases_eq c j) [
  | inl same ↦
      let here : slice_get (set cs c new) j ≡ Some new = subst (λ n. slice_get (set cs c new) n ≡ Some new) same (get_set cs c new inside) in
      let before : slice_get cs j ≡ Some v = subst (λ n. slice_get cs n ≡ Some v) same was in
      let one : along i g (entries_of (slice_get (set cs c new) j)) ≡ along i g v.items +ℤ where_one (nat_eq row i) (g a) = ap (λ o. along i g (entries_of o)) here ∙ ap (along i g) is ∙ along-push i g v.items row a in
      let two : along i g v.items ≡ along i g (entries_of (slice_get old j)) +ℤ where_one (nat_eq row i) (along j g (take k ts)) = ap (λ o. along i g (entries_of o)) (sym before) ∙ h i j g there in
      let yes : nat_eq (get_or ts k (0, pos 0)).0 j ≡ true = ap (λ n. nat_eq n j) (sym ce ∙ same) ∙ eq-eqb j j refl in
      let step : along j g (take (k + 1) ts) ≡ along j g (take k ts) +ℤ g a = along-more j g ts k lt ∙ ap (λ b. along j g (take k ts) +ℤ where_one b (g (get_or ts k (0, pos 0)).1)) yes ∙ ap (λ n. along j g (take k ts) +ℤ g n) (sym ae) in
      let three : where_one (nat_eq row i) (along j g (take (k + 1) ts)) ≡ where_one (nat_eq row i) (along j g (take k ts)) +ℤ where_one (nat_eq row i) (g a) = ap (where_one (nat_eq row i)) step ∙ where_one-add (nat_eq row i) (along j g (take k ts)) (g a) in
      omega (arith, ints)
  | inr ne ↦
      let here : slice_get (set cs c new) j ≡ slice_get cs j = get_set_other cs c j new (λ e. ne (sym e)) in
      let one : along i g (entries_of (slice_get (set cs c new) j)) ≡ along i g (entries_of (slice_get cs j)) = ap (λ o. along i g (entries_of o)) here in
      let two : along i g (entries_of (slice_get cs j)) ≡ along i g (entries_of (slice_get old j)) +ℤ where_one (nat_eq row i) (along j g (take k ts)) = h i j g there in
      let apart : nat_eq (get_or ts k (0, pos 0)).0 j ≡ false = ap (λ n. nat_eq n j) (sym ce) ∙ ne_eqb c j ne in
      let step : along j g (take (k + 1) ts) ≡ along j g (take k ts) +ℤ pos 0 = along-more j g ts k lt ∙ ap (λ b. along j g (take k ts) +ℤ where_one b (g (get_or ts k (0, pos 0)).1)) apart in
      let three : where_one (nat_eq row i) (along j g (take (k + 1) ts)) ≡ where_one (nat_eq row i) (along j g (take k ts)) = ap (where_one (nat_eq row i)) (step ∙ omega (arith, ints)) in
      omega (arith, ints)
]

pub spread_none : (v : ℤ) (row i j : ℕ) (g : ℤ → ℤ) → v ≡ v +ℤ where_one (nat_eq row i) (along j g [])
spread_none v row i j g =
    let e : where_one (nat_eq row i) (along j g []) ≡ pos 0 = ap (where_one (nat_eq row i)) (along-none j g) ∙ where_one-zero (nat_eq row i) in
    omega (arith, ints)

-- a row and its coefficient more in the list of a column
pub entries_more : (n row : ℕ) (a : ℤ) (es new : List (ℕ × ℤ)) → row < n → AtMost (2 ^ 15) a → new ≡ es ++ (row, a) ∷ [] → AreEntries n es → AreEntries n new
entries_more n row a es new lt small is h = subst (AreEntries n) (sym is) (record {
  within = All-push (λ e. e.0 < n) es (row, a) h.within lt;
  small = All-push (λ e. AtMost (2 ^ 15) e.1) es (row, a) h.small small;
})

-- ---- one row more

-- an element that is taken
get_taken : {A : Type 0} (xs : List A) (n i : ℕ) → i < n → slice_get (take n xs) i ≡ slice_get xs i
get_taken xs zero i lt = absurd (omega arith)
get_taken [] (suc n) i lt = refl
get_taken (x ∷ xs) (suc n) zero lt = refl
get_taken (x ∷ xs) (suc n) (suc i) lt = get_taken xs n i (omega arith)

row_taken : (rows : List Row) (k : ℕ) (r : Row) → slice_get rows k ≡ Some r → slice_get (take (k + 1) rows) k ≡ Some r
row_taken rows k r e = get_taken rows (k + 1) k (omega arith) ∙ e

take_other_suc : {A : Type 0} (xs : List A) (k i : ℕ) → k ≢ i → slice_get (take (suc k) xs) i ≡ slice_get (take k xs) i
take_other_suc [] zero i ne = refl
take_other_suc [] (suc k) i ne = refl
take_other_suc (x ∷ xs) zero zero ne = absurd (ne refl)
take_other_suc (x ∷ xs) zero (suc i) ne = refl
take_other_suc (x ∷ xs) (suc k) zero ne = refl
take_other_suc (x ∷ xs) (suc k) (suc i) ne = take_other_suc xs k i (λ e. ne (ap suc e))

take_other : {A : Type 0} (xs : List A) (k i : ℕ) → k ≢ i → slice_get (take (k + 1) xs) i ≡ slice_get (take k xs) i
take_other xs k i ne = rw add-one (take_other_suc xs k i ne)

take_short : {A : Type 0} (xs : List A) (k i : ℕ) → k ≤ i → length (take k xs) ≤ i
take_short xs k i le = omega (arith, length-take k xs)

-- the columns have what the rows so far have
pub row_more : (rows : List Row) (k i j : ℕ) (g : ℤ → ℤ) (r : Row) (was now : ℤ) → slice_get rows k ≡ Some r → was ≡ along j g (terms_of (slice_get (take k rows) i)) → now ≡ was +ℤ where_one (nat_eq k i) (along j g r.terms.items) → now ≡ along j g (terms_of (slice_get (take (k + 1) rows) i))
row_more rows k i j g r was now e h step = elim (cases_eq k i) [
  | inl same ↦
      let there : slice_get (take (k + 1) rows) i ≡ Some r = subst (λ n. slice_get (take (k + 1) rows) n ≡ Some r) same (row_taken rows k r e) in
      let past : slice_get (take k rows) i ≡ None = slice_get_past (take k rows) i (take_short rows k i (omega (arith, same))) in
      let none : was ≡ pos 0 = h ∙ ap (λ o. along j g (terms_of o)) past ∙ along-none j g in
      let yes : where_one (nat_eq k i) (along j g r.terms.items) ≡ along j g r.terms.items = ap (λ b. where_one b (along j g r.terms.items)) (ap (λ n. nat_eq n i) same ∙ eq-eqb i i refl) in
      let goal : along j g (terms_of (slice_get (take (k + 1) rows) i)) ≡ along j g r.terms.items = ap (λ o. along j g (terms_of o)) there in
      omega (arith, ints)
  | inr ne ↦
      let apart : where_one (nat_eq k i) (along j g r.terms.items) ≡ pos 0 = ap (λ b. where_one b (along j g r.terms.items)) (ne_eqb k i ne) in
      let same : slice_get (take (k + 1) rows) i ≡ slice_get (take k rows) i = take_other rows k i ne in
      let goal : along j g (terms_of (slice_get (take (k + 1) rows) i)) ≡ along j g (terms_of (slice_get (take k rows) i)) = ap (λ o. along j g (terms_of o)) same in
      omega (arith, ints)
]

-- the rows so far have come to the columns
pub record IsSoFar (z : ZeroOne) (k : ℕ) (cs : List (Vec (ℕ × ℤ))) : Type 0 where
  pub one_a_column : length cs ≡ columns z
  pub entries_fit : All (λ c. AreEntries (length z.rows.items) c.items) cs
  pub same : (i j : ℕ) (g : ℤ → ℤ) → j < columns z → along i g (entries_of (slice_get cs j)) ≡ along j g (terms_of (slice_get (take k z.rows.items) i))

-- a row that is there
pub row_at : (z : ZeroOne) (i : ℕ) (r : Row) → IsValid z → i < length z.rows.items → r ≡ get_or z.rows.items i r → (slice_get z.rows.items i ≡ Some r) × AreSmallTerms (columns z) r.terms.items
row_at z i r valid lt e =
    let row : IsRow (columns z) r = subst (IsRow (columns z)) (sym e) (All-get_or (IsRow (columns z)) z.rows.items i r lt valid.rows_ok) in
    (slice_get_read z.rows.items (length z.rows.items) i r refl lt e, terms_small (columns z) r.terms.items row.terms_fit)

empty_entries : (cs : List (Vec (ℕ × ℤ))) (j : ℕ) → All (λ c. c.items ≡ []) cs → entries_of (slice_get cs j) ≡ []
empty_entries [] j h = refl
empty_entries (c ∷ cs) zero h = All-head (λ c. c.items ≡ []) c cs h
empty_entries (c ∷ cs) (suc j) h = empty_entries cs j (All-tail (λ c. c.items ≡ []) c cs h)

no_entries : (n : ℕ) → AreEntries n []
no_entries n = record { within = All-nil (λ e. e.0 < n); small = All-nil (λ e. AtMost (2 ^ 15) e.1) }

no_terms : (rows : List Row) (i : ℕ) → terms_of (slice_get (take 0 rows) i) ≡ []
no_terms [] i = refl
no_terms (r ∷ rs) i = refl

pub so_far_none : (z : ZeroOne) (cs : List (Vec (ℕ × ℤ))) → length cs ≡ columns z → All (λ c. c.items ≡ []) cs → IsSoFar z 0 cs
so_far_none z cs many empty = record {
  one_a_column = many;
  entries_fit = All-weaker (λ c. c.items ≡ []) (λ c. AreEntries (length z.rows.items) c.items) (λ c e. subst (AreEntries (length z.rows.items)) (sym e) (no_entries (length z.rows.items))) cs empty;
  same = λ i j g lt. ap (along i g) (empty_entries cs j empty) ∙ along-none i g ∙ sym (along-none j g) ∙ ap (along j g) (sym (no_terms z.rows.items i));
}

pub so_far_more : (z : ZeroOne) (k : ℕ) (cs new : List (Vec (ℕ × ℤ))) (r : Row) → k < length z.rows.items → slice_get z.rows.items k ≡ Some r → IsSpread k r.terms.items cs new → IsSoFar z k cs → IsSoFar z (k + 1) new
so_far_more z k cs new r lt at s h = record {
  one_a_column = s.as_many ∙ h.one_a_column;
  entries_fit = s.still (length z.rows.items) lt h.entries_fit;
  same = λ i j g there. row_more z.rows.items k i j g r (along i g (entries_of (slice_get cs j))) (along i g (entries_of (slice_get new j))) at (h.same i j g there) (s.longer i j g (omega (arith, there, h.one_a_column)));
}

pub so_far_whole : (z : ZeroOne) (k : ℕ) (cs : List (Vec (ℕ × ℤ))) → length z.rows.items ≤ k → IsSoFar z k cs → IsTranspose z cs
so_far_whole z k cs le h = record {
  one_a_column = h.one_a_column;
  entries_fit = h.entries_fit;
  same = λ i j g there. h.same i j g there ∙ ap (λ rows. along j g (terms_of (slice_get rows i))) (take_all k z.rows.items le);
}

-- ---- a list of sums

pub pushed_each : (f : ℕ → ℤ) (xs new : List ℤ) (i : ℕ) (x : ℤ) → length xs ≡ i → new ≡ xs ++ x ∷ [] → x ≡ f i → ((k : ℕ) → k < i → get_or xs k (pos 0) ≡ f k) → (k : ℕ) → k < i + 1 → get_or new k (pos 0) ≡ f k
pushed_each f xs new i x len e xe h k lt = elim (cases_eq i k) [
  | inl same ↦ ap (λ l. get_or l k (pos 0)) e ∙ get_or_push xs x (pos 0) k (len ∙ same) ∙ xe ∙ ap f same
  | inr ne ↦ ap (λ l. get_or l k (pos 0)) e ∙ get_or_append_left xs (x ∷ []) (pos 0) k (omega arith) ∙ h k (omega arith)
]

pub pushed_length : (xs new : List ℤ) (i : ℕ) (x : ℤ) → length xs ≡ i → new ≡ xs ++ x ∷ [] → length new ≡ i + 1
pushed_length xs new i x len e = ap length e ∙ length-append xs (x ∷ []) ∙ omega (arith, len)
