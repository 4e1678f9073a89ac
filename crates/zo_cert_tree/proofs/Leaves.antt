-- the loops that compute the bound of a leaf
use Rattle.std.proofs.Common.{◌≡◌, ℕ, ◌+◌, ◌*◌, ◌<◌, ◌≤◌, ◌^◌, List, [], length, take, set, get_or, true, false, nat_eq, inl, inr, ℤ, pos, ◌+ℤ◌, ◌*ℤ◌, refl, sym, ◌∙◌, ap, subst, arith}
use Rattle.std.specs.List.{All}
use Rattle.std.proofs.lemmas.Int.{ints}
use Rattle.std.proofs.lemmas.List.{get_or-set_same, get_or-set_other}
use Rattle.std.proofs.lemmas.List.Elements.{All-set, All-weaker, All-get_or}
use Rattle.zo_model.specs.Program.{where_one, AtMost}
use Rattle.std.proofs.Common.{Some, slice_get}
use Rattle.zo_model.specs.declared.program.Row.{Row}
use Rattle.zo_model.specs.declared.program.ZeroOne.{ZeroOne}
use Rattle.std.proofs.lemmas.Option.{slice_get_read}
use Rattle.std.proofs.lemmas.Bool.{cases_eq, eq-eqb, ne_eqb}
use Rattle.zo_model.specs.Program.{columns, IsValid, IsRow, Rise}
use Rattle.zo_model.proofs.Rows.{rise_at, rise_length}
use Rattle.zo_cert_tree.specs.Certificate.{coefficient, weight, least_sum, terms_of, least_of}
use Rattle.zo_model.proofs.Sums.{total-more}
use Rattle.zo_model.proofs.Scale.{scale-add, AtMost-more, AtMost-wider}

pub coefficient-none : (j : ℕ) → coefficient [] j ≡ pos 0
unfolding coefficient
coefficient-none j = refl

pub coefficient-more : (ts : List (ℕ × ℤ)) (j i : ℕ) → i < length ts → coefficient (take (i + 1) ts) j ≡ coefficient (take i ts) j +ℤ where_one (nat_eq (get_or ts i (0, pos 0)).0 j) (get_or ts i (0, pos 0)).1
unfolding coefficient
coefficient-more ts j i h = total-more (λ t. where_one (nat_eq t.0 j) t.1) ts i (0, pos 0) h

-- ---- one row is added to the weights

pub added_step : (old w : List ℤ) (ts : List (ℕ × ℤ)) (m i c : ℕ) (a p x : ℤ) → i < length ts → c ≡ (get_or ts i (0, pos 0)).0 → a ≡ (get_or ts i (0, pos 0)).1 → p ≡ pos m *ℤ a → c < length w → x ≡ get_or w c (pos 0) +ℤ p → ((j : ℕ) → j < length old → get_or w j (pos 0) ≡ get_or old j (pos 0) +ℤ pos m *ℤ coefficient (take i ts) j) → (j : ℕ) → j < length old → get_or (set w c x) j (pos 0) ≡ get_or old j (pos 0) +ℤ pos m *ℤ coefficient (take (i + 1) ts) j
added_step old w ts m i c a p x it ce ae pe inside xe h j lt = elim (cases_eq j c) [
  | inl same ↦
      let here : get_or (set w c x) j (pos 0) ≡ x = rw same (get_or-set_same w c x (pos 0) inside) in
      let at : get_or w j (pos 0) ≡ get_or w c (pos 0) = rw same in
      let was : get_or w j (pos 0) ≡ get_or old j (pos 0) +ℤ pos m *ℤ coefficient (take i ts) j = h j lt in
      let more = coefficient-more ts j i it in
      let yes : nat_eq (get_or ts i (0, pos 0)).0 j ≡ true = rw (sym ce, same) (eq-eqb c c refl) in
      let one : where_one (nat_eq (get_or ts i (0, pos 0)).0 j) (get_or ts i (0, pos 0)).1 ≡ a = rw yes (sym ae) in
      let whole : coefficient (take (i + 1) ts) j ≡ coefficient (take i ts) j +ℤ a = more ∙ ap (λ v. coefficient (take i ts) j +ℤ v) one in
      let scaled : pos m *ℤ coefficient (take (i + 1) ts) j ≡ pos m *ℤ coefficient (take i ts) j +ℤ pos m *ℤ a = ap (λ v. pos m *ℤ v) whole ∙ scale-add m (coefficient (take i ts) j) a in
      omega (arith, ints)
  | inr ne ↦
      let here : get_or (set w c x) j (pos 0) ≡ get_or w j (pos 0) = get_or-set_other w c j x (pos 0) ne in
      let more = coefficient-more ts j i it in
      let no : nat_eq (get_or ts i (0, pos 0)).0 j ≡ false = rw (sym ce) (ne_eqb c j (λ e. ne (sym e))) in
      let zero : where_one (nat_eq (get_or ts i (0, pos 0)).0 j) (get_or ts i (0, pos 0)).1 ≡ pos 0 = rw no refl in
      let same : coefficient (take (i + 1) ts) j ≡ coefficient (take i ts) j = omega (arith, ints) in
      here ∙ h j lt ∙ ap (λ v. get_or old j (pos 0) +ℤ pos m *ℤ v) (sym same)
]

pub bounded_step : (w : List ℤ) (i c b : ℕ) (p x d : ℤ) → c < length w → AtMost (2 ^ 47) p → x ≡ get_or w c d +ℤ p → All (AtMost (b + 2 ^ 47 * i)) w → All (AtMost (b + 2 ^ 47 * (i + 1))) (set w c x)
bounded_step w i c b p x d inside small xe h =
    let here : AtMost (b + 2 ^ 47 * i) (get_or w c d) = All-get_or (AtMost (b + 2 ^ 47 * i)) w c d inside h in
    let sum : AtMost (b + 2 ^ 47 * i + 2 ^ 47) x = subst (AtMost (b + 2 ^ 47 * i + 2 ^ 47)) (sym xe) (AtMost-more (b + 2 ^ 47 * i) (2 ^ 47) (get_or w c d) p here small) in
    All-set (AtMost (b + 2 ^ 47 * (i + 1))) w c x
    (AtMost-wider (b + 2 ^ 47 * i + 2 ^ 47) (b + 2 ^ 47 * (i + 1)) x (omega arith) sum)
    (All-weaker (AtMost (b + 2 ^ 47 * i)) (AtMost (b + 2 ^ 47 * (i + 1))) (λ v k. AtMost-wider (b + 2 ^ 47 * i) (b + 2 ^ 47 * (i + 1)) v (omega arith) k) w h)

-- ---- rows that are named

pub weight-none : (z : ZeroOne) (j : ℕ) → weight z [] j ≡ pos 0
unfolding weight
weight-none z j = refl

pub weight-more : (z : ZeroOne) (ms : List (ℕ × ℕ)) (j i : ℕ) (r : Row) → i < length ms → slice_get z.rows.items (get_or ms i (0, 0)).0 ≡ Some r → weight z (take (i + 1) ms) j ≡ weight z (take i ms) j +ℤ pos (get_or ms i (0, 0)).1 *ℤ coefficient r.terms.items j
unfolding weight
weight-more z ms j i r h e =
    let t = total-more (λ m. pos m.1 *ℤ coefficient (terms_of (slice_get z.rows.items m.0)) j) ms i (0, 0) h in
    rw e at t

pub least_sum-none : (z : ZeroOne) → least_sum z [] ≡ pos 0
unfolding least_sum
least_sum-none z = refl

pub least_sum-more : (z : ZeroOne) (ms : List (ℕ × ℕ)) (i : ℕ) (r : Row) → i < length ms → slice_get z.rows.items (get_or ms i (0, 0)).0 ≡ Some r → least_sum z (take (i + 1) ms) ≡ least_sum z (take i ms) +ℤ pos (get_or ms i (0, 0)).1 *ℤ r.least
unfolding least_sum
least_sum-more z ms i r h e =
    let t = total-more (λ m. pos m.1 *ℤ least_of (slice_get z.rows.items m.0)) ms i (0, 0) h in
    rw e at t

-- the row that a term of the multipliers names
pub named : (z : ZeroOne) (ms : List (ℕ × ℕ)) (i : ℕ) (r : Row) → IsValid z → Rise 0 (length z.rows.items) ms → i < length ms → r ≡ get_or z.rows.items (get_or ms i (0, 0)).0 r → (slice_get z.rows.items (get_or ms i (0, 0)).0 ≡ Some r) × IsRow (columns z) r
named z ms i r valid rise lt e =
    let at : (get_or ms i (0, 0)).0 < length z.rows.items = rise_at ms 0 (length z.rows.items) i (0, 0) rise lt in
    (slice_get_read z.rows.items (length z.rows.items) (get_or ms i (0, 0)).0 r refl at e, subst (IsRow (columns z)) (sym e) (All-get_or (IsRow (columns z)) z.rows.items (get_or ms i (0, 0)).0 r at valid.rows_ok))

-- as many as there are rows at most
pub few : (z : ZeroOne) (ms : List (ℕ × ℕ)) → IsValid z → Rise 0 (length z.rows.items) ms → length ms ≤ 2 ^ 26
few z ms valid rise = omega (arith, rise_length ms 0 (length z.rows.items) rise, valid.rows_fit)

pub All-zero : (b : ℕ) (ws : List ℤ) → All (λ w. w ≡ pos 0) ws → All (AtMost b) ws
All-zero b ws h = All-weaker (λ w. w ≡ pos 0) (AtMost b) (λ w e. record { low = omega (arith, ints); high = omega (arith, ints) }) ws h
