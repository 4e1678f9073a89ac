-- leaves that close what is met and what is out of reach, and the unfixed column of an open node
use Rattle.std.proofs.Common.{◌≡◌, ℕ, zero, suc, ◌*◌, ◌<◌, ◌≤◌, ◌^◌, List, [], ◌∷◌, length, get_or, Bool, true, false, nat_eq, inl, inr, ◌⊎◌, Option, Some, None, slice_get, replicate, ℤ, pos, ◌+ℤ◌, ◌-ℤ◌, ◌*ℤ◌, ◌≤ℤ◌, ◌<ℤ◌, refl, sym, ◌∙◌, ap, subst, arith}
use Rattle.std.specs.List.{All}
use Rattle.std.specs.Prelude.{IfSome}
use Rattle.std.proofs.lemmas.Int.{ints, clamps, by_lt_z}
use Rattle.std.proofs.lemmas.List.{get_or-replicate}
use Rattle.std.proofs.lemmas.List.Elements.{All-head, All-tail, All-cons, All-nil}
use Rattle.zo_model.specs.Program.{sum_below, where_one, columns, cost_of, IsValid, IsRow, Meets, Rise, terms_sum}
use Rattle.zo_model.specs.declared.program.Row.{Row}
use Rattle.zo_model.specs.declared.program.ZeroOne.{ZeroOne}
use Rattle.zo_model.proofs.Rows.{rise_below}
use Rattle.zo_model.proofs.Sums.{sum_below-same, sum_below-add, sum_below-le}
use Rattle.zo_cert_tree.specs.Certificate.{bound, column_part, least_part, least_sum, weight, coefficient, terms_of, least_of, ClosesLeaf}
use Rattle.zo_cert_tree.specs.Fixing.{is_one, ones}
use Rattle.zo_cert_tree.specs.Node.{IsNode, AreMultipliers}
use Rattle.zo_cert_tree.specs.Searched.{reach, reach_part, IsInReach, IsOpen}
use Rattle.zo_cert_tree.specs.declared.cert.CertNode.{CertNode}
use Rattle.zo_cert_tree.specs.declared.cert.CertNode.TheVariants.{Branch, Bound, Clash, Left}
use Rattle.zo_cert_tree.specs.declared.cert.Claim.{Claim}
use Rattle.zo_cert_tree.specs.declared.cert.Claim.TheVariants.{Least, Nothing}
use Rattle.zo_cert_tree.proofs.Drain.{bound_is, changes_clear, sum_below-change}
use Rattle.zo_cert_tree.proofs.Duality.{sum_zero}
use Rattle.std.proofs.lemmas.Option.{get_or_from_slice_get}
use Rattle.std.proofs.lemmas.Bool.{eq-eqb, ne_eqb}
use Rattle.zo_cert_tree.proofs.Leaves.{weight-none, least_sum-none}
use Rattle.zo_solve_dive.specs.Pick.{HasFree}
use Rattle.zo_solve_dive.specs.inner.Better.{CostsAsMuch}
use Rattle.zo_solve_branch.specs.inner.Node.{IsPlainBound, IsClashOf}

-- ---- a bound of no row is the cost of the columns fixed at 1

plain_bound : (z : ZeroOne) (fixed : List (Option Bool)) → bound z 1 [] fixed ≡ pos (cost_of z (ones fixed))
plain_bound z fixed =
    let ws : List ℤ = replicate (columns z) (pos 0) in
    let zero : (j : ℕ) → j < columns z → get_or ws j (pos 0) ≡ pos 0 = λ j lt. get_or-replicate (columns z) j (pos 0) (pos 0) lt in
    let b = bound_is z 1 [] ws fixed (λ j lt. zero j lt ∙ sym (weight-none z j)) in
    let n = changes_clear z.costs.items 1 ws fixed (columns z) zero in
    let l = least_sum-none z in
    omega (arith, ints)

pub plain_closes : (z : ZeroOne) (claim : Claim) (fixed : List (Option Bool)) (n : CertNode) → IsPlainBound n → CostsAsMuch claim (cost_of z (ones fixed)) → ClosesLeaf z claim fixed n
plain_closes z (Least t) fixed (Bound d ms) e h =
    let b : bound z d ms.items fixed ≡ pos (cost_of z (ones fixed)) = ap (λ k. bound z k ms.items fixed) e.0 ∙ ap (λ l. bound z 1 l fixed) e.1 ∙ plain_bound z fixed in
    let k : pos d *ℤ (pos t -ℤ pos 1) ≡ pos 1 *ℤ (pos t -ℤ pos 1) = ap (λ k. pos k *ℤ (pos t -ℤ pos 1)) e.0 in
    (subst (Rise 0 (length z.rows.items)) (sym e.1) tt, omega (arith, ints))
plain_closes z Nothing fixed (Bound d ms) e h = absurd h
plain_closes z claim fixed (Branch j) e h = absurd e
plain_closes z claim fixed (Clash ms) e h = absurd e
plain_closes z claim fixed Left e h = absurd e

no_multipliers : AreMultipliers []
no_multipliers = record { rise = tt; not_zero = All-nil (λ m. 1 ≤ m.1) }

pub plain_node : (n : CertNode) → IsPlainBound n → IsNode n
plain_node (Bound d ms) e = (omega (arith, e.0), subst AreMultipliers (sym e.1) no_multipliers)
plain_node (Branch j) e = absurd e
plain_node (Clash ms) e = absurd e
plain_node Left e = absurd e

-- ---- a row that is out of reach is a clash

part_reach : (o : Option Bool) (a : ℤ) → reach_part o a +ℤ least_part o (pos 0 -ℤ a) ≡ pos 0
part_reach None a = omega (arith, ints, clamps)
part_reach (Some true) a = omega (arith, ints)
part_reach (Some false) a = omega (arith, ints)

reach_add : (o : Option Bool) (a b : ℤ) → reach_part o (a +ℤ b) ≤ℤ (reach_part o a +ℤ reach_part o b)
reach_add None a b = omega (arith, ints, clamps)
reach_add (Some true) a b = omega (arith, ints)
reach_add (Some false) a b = omega (arith, ints)

reach_zero : (o : Option Bool) → reach_part o (pos 0) ≡ pos 0
reach_zero None = omega (arith, ints, clamps)
reach_zero (Some true) = refl
reach_zero (Some false) = refl

-- one term, column by column
reach_single : (n c : ℕ) (a : ℤ) (fixed : List (Option Bool)) → c < n → sum_below n (λ j. reach_part (get_or fixed j None) (where_one (nat_eq c j) a)) ≡ reach_part (get_or fixed c None) a
reach_single n c a fixed lt =
    let f : ℕ → ℤ = λ j. reach_part (get_or fixed j None) (where_one (nat_eq c j) a) in
    let e : sum_below n f +ℤ pos 0 ≡ sum_below n (λ j. pos 0) +ℤ f c = sum_below-change n c f (λ j. pos 0) lt (λ j ne. ap (λ b. reach_part (get_or fixed j None) (where_one b a)) (ne_eqb c j (λ e. ne (sym e))) ∙ reach_zero (get_or fixed j None)) in
    let here : f c ≡ reach_part (get_or fixed c None) a = ap (λ b. reach_part (get_or fixed c None) (where_one b a)) (eq-eqb c c refl) in
    let none = sum_zero n in
    omega (arith, ints)

reach_columns : (n : ℕ) (fixed : List (Option Bool)) (ts : List (ℕ × ℤ)) → All (λ t. t.0 < n) ts → sum_below n (λ j. reach_part (get_or fixed j None) (coefficient ts j)) ≤ℤ reach fixed ts
unfolding coefficient reach
reach_columns n fixed [] h =
    let e : sum_below n (λ j. reach_part (get_or fixed j None) (pos 0)) ≡ pos 0 = sum_below-same n (λ j. reach_part (get_or fixed j None) (pos 0)) (λ j. pos 0) (λ j lt. reach_zero (get_or fixed j None)) ∙ sum_zero n in
    omega (arith, ints)
reach_columns n fixed (t ∷ ts) h =
    let ih : sum_below n (λ j. reach_part (get_or fixed j None) (coefficient ts j)) ≤ℤ reach fixed ts = reach_columns n fixed ts (All-tail (λ t. t.0 < n) t ts h) in
    let one = reach_single n t.0 t.1 fixed (All-head (λ t. t.0 < n) t ts h) in
    let apart = sum_below-add n (λ j. reach_part (get_or fixed j None) (where_one (nat_eq t.0 j) t.1)) (λ j. reach_part (get_or fixed j None) (coefficient ts j)) in
    let le = sum_below-le n (λ j. reach_part (get_or fixed j None) (where_one (nat_eq t.0 j) t.1 +ℤ coefficient ts j)) (λ j. reach_part (get_or fixed j None) (where_one (nat_eq t.0 j) t.1) +ℤ reach_part (get_or fixed j None) (coefficient ts j)) (λ j lt. reach_add (get_or fixed j None) (where_one (nat_eq t.0 j) t.1) (coefficient ts j)) in
    omega (arith, ints)

scale-one : (a : ℤ) → pos 1 *ℤ a ≡ a
scale-one a = omega (arith, ints)

one_weight : (z : ZeroOne) (i : ℕ) (r : Row) (j : ℕ) → slice_get z.rows.items i ≡ Some r → weight z ((i, 1) ∷ []) j ≡ coefficient r.terms.items j
unfolding weight
one_weight z i r j e =
    let k : coefficient (terms_of (slice_get z.rows.items i)) j ≡ coefficient r.terms.items j = ap (λ o. coefficient (terms_of o) j) e in
    let s = scale-one (coefficient (terms_of (slice_get z.rows.items i)) j) in
    omega (arith, ints)

one_least : (z : ZeroOne) (i : ℕ) (r : Row) → slice_get z.rows.items i ≡ Some r → least_sum z ((i, 1) ∷ []) ≡ r.least
unfolding least_sum
one_least z i r e =
    let k : least_of (slice_get z.rows.items i) ≡ r.least = ap least_of e in
    let s = scale-one (least_of (slice_get z.rows.items i)) in
    omega (arith, ints)

nothing : (c : ℕ) → 0 * c ≡ 0
nothing c = omega arith

clash_bound : (z : ZeroOne) (i : ℕ) (r : Row) (fixed : List (Option Bool)) → slice_get z.rows.items i ≡ Some r → All (λ t. t.0 < columns z) r.terms.items → r.least ≤ℤ (bound z 0 ((i, 1) ∷ []) fixed +ℤ reach fixed r.terms.items)
unfolding bound
clash_bound z i r fixed e within =
    let n : ℕ = columns z in
    let ms : List (ℕ × ℕ) = (i, 1) ∷ [] in
    let c : ℕ → ℤ = coefficient r.terms.items in
    let f : ℕ → ℤ = λ j. reach_part (get_or fixed j None) (c j) in
    let same : (j : ℕ) → j < n → f j +ℤ column_part z 0 ms fixed j ≡ pos 0 = λ j lt. ap (λ u. f j +ℤ least_part (get_or fixed j None) (pos u -ℤ weight z ms j)) (nothing (get_or z.costs.items j 0)) ∙ ap (λ v. f j +ℤ least_part (get_or fixed j None) (pos 0 -ℤ v)) (one_weight z i r j e) ∙ part_reach (get_or fixed j None) (c j) in
    let both = sum_below-same n (λ j. f j +ℤ column_part z 0 ms fixed j) (λ j. pos 0) same in
    let apart = sum_below-add n f (column_part z 0 ms fixed) in
    let none = sum_zero n in
    let most = reach_columns n fixed r.terms.items within in
    let least = one_least z i r e in
    omega (arith, ints)

-- the row that was named
abbrev pub IsOut : List (Option Bool) → Option Row → Type 0
IsOut fixed None = Unit {0}
IsOut fixed (Some r) = IsInReach fixed r → ⊥

there : (xs : List Row) (i : ℕ) → i < length xs → (r : Row) × (slice_get xs i ≡ Some r)
there [] i lt = absurd (omega arith)
there (x ∷ xs) zero lt = (x, refl)
there (x ∷ xs) (suc i) lt = there xs i (omega arith)

row_at : (P : Row → Type 0) (xs : List Row) (i : ℕ) (r : Row) → All P xs → slice_get xs i ≡ Some r → P r
row_at P [] i r h e = absurd (cc e)
row_at P (x ∷ xs) zero r h e = let same : x ≡ r = cc in subst P same (All-head P x xs h)
row_at P (x ∷ xs) (suc i) r h e = row_at P xs i r (All-tail P x xs h) e

not_le : (a b : ℤ) → (a ≤ℤ b → ⊥) → b <ℤ a
not_le a b h = by_lt_z b a (λ lt. lt) (λ le. absurd (h le))

pub clash_closes : (z : ZeroOne) (claim : Claim) (fixed : List (Option Bool)) (i : ℕ) (n : CertNode) → IsValid z → IsClashOf i n → i < length z.rows.items → IfSome (slice_get z.rows.items i) (λ r. IsInReach fixed r → ⊥) → ClosesLeaf z claim fixed n
clash_closes z claim fixed i (Clash ms) valid e lt out =
    let t = there z.rows.items i lt in
    let r : Row = t.0 in
    let is_row : IsRow (columns z) r = row_at (IsRow (columns z)) z.rows.items i r valid.rows_ok t.1 in
    let not_in : IsInReach fixed r → ⊥ = subst (λ o. IfSome o (λ r. IsInReach fixed r → ⊥)) t.1 out in
    let below : reach fixed r.terms.items <ℤ r.least = not_le r.least (reach fixed r.terms.items) not_in in
    let b = clash_bound z i r fixed t.1 (rise_below r.terms.items 0 (columns z) is_row.terms_fit.rise) in
    let positive : pos 0 <ℤ bound z 0 ((i, 1) ∷ []) fixed = omega (arith, ints) in
    subst (λ l. Rise 0 (length z.rows.items) l × (pos 0 <ℤ bound z 0 l fixed)) (sym e) ((omega arith, lt, tt), positive)
clash_closes z claim fixed i (Bound d ms) valid e lt out = absurd e
clash_closes z claim fixed i (Branch j) valid e lt out = absurd e
clash_closes z claim fixed i Left valid e lt out = absurd e

one_multiplier : (i : ℕ) → i < 2 ^ 26 → AreMultipliers ((i, 1) ∷ [])
one_multiplier i lt = record { rise = (omega arith, lt, tt); not_zero = All-cons (λ m. 1 ≤ m.1) (i, 1) [] (omega arith) (All-nil (λ m. 1 ≤ m.1)) }

pub clash_node : (i : ℕ) (n : CertNode) → IsClashOf i n → i < 2 ^ 26 → IsNode n
clash_node i (Clash ms) e lt = subst AreMultipliers (sym e) (one_multiplier i lt)
clash_node i (Bound d ms) e lt = absurd e
clash_node i (Branch j) e lt = absurd e
clash_node i Left e lt = absurd e

-- ---- where nothing is free the node is met or out of reach

free_or : (fixed : List (Option Bool)) → ((j : ℕ) × (slice_get fixed j ≡ Some None)) ⊎ ((j : ℕ) → j < length fixed → (v : Bool) × (slice_get fixed j ≡ Some (Some v)))
free_or [] = inr (λ j lt. absurd (omega arith))
free_or (None ∷ os) = inl (0, refl)
free_or (Some v ∷ os) = elim (free_or os) [
  | inl f ↦ inl (suc f.0, f.1)
  | inr all ↦ inr (step v os all)
]
  where
    step : (v : Bool) (os : List (Option Bool)) → ((j : ℕ) → j < length os → (u : Bool) × (slice_get os j ≡ Some (Some u))) → (j : ℕ) → j < length (Some v ∷ os) → (u : Bool) × (slice_get (Some v ∷ os) j ≡ Some (Some u))
    step v os all zero lt = (v, refl)
    step v os all (suc j) lt = all j (omega arith)

fixed_part : (o : Option Bool) (v : Bool) (a : ℤ) → o ≡ Some v → reach_part o a ≡ where_one (is_one o) a
fixed_part None v a e = absurd (cc e)
fixed_part (Some u) v a e = refl

place_at : (fixed : List (Option Bool)) (j : ℕ) (v : Bool) → slice_get fixed j ≡ Some (Some v) → get_or fixed j None ≡ Some v
place_at fixed j v e = get_or_from_slice_get fixed j (Some v) None e

fixed_reach : (fixed : List (Option Bool)) (ts : List (ℕ × ℤ)) → ((j : ℕ) → j < length fixed → (v : Bool) × (slice_get fixed j ≡ Some (Some v))) → All (λ t. t.0 < length fixed) ts → reach fixed ts ≡ terms_sum ts (ones fixed)
unfolding reach terms_sum
fixed_reach fixed [] all h = refl
fixed_reach fixed (t ∷ ts) all h =
    let ih : reach fixed ts ≡ terms_sum ts (ones fixed) = fixed_reach fixed ts all (All-tail (λ t. t.0 < length fixed) t ts h) in
    let v = all t.0 (All-head (λ t. t.0 < length fixed) t ts h) in
    let here : reach_part (get_or fixed t.0 None) t.1 ≡ where_one (ones fixed t.0) t.1 = fixed_part (get_or fixed t.0 None) v.0 t.1 (place_at fixed t.0 v.0 v.1) in
    omega (arith, ints)

fixed_meets : (fixed : List (Option Bool)) (r : Row) (n : ℕ) → n ≡ length fixed → IsRow n r → ((j : ℕ) → j < length fixed → (v : Bool) × (slice_get fixed j ≡ Some (Some v))) → IsInReach fixed r → Meets (ones fixed) r
fixed_meets fixed r n e is all h =
    let k : reach fixed r.terms.items ≡ terms_sum r.terms.items (ones fixed) = fixed_reach fixed r.terms.items all (subst (λ m. All (λ t. t.0 < m) r.terms.items) e (rise_below r.terms.items 0 n is.terms_fit.rise)) in
    omega (arith, ints, h)

-- an open node has a column that is unfixed
pub open_free : (z : ZeroOne) (fixed : List (Option Bool)) → IsValid z → length fixed ≡ columns z → IsOpen z fixed → HasFree fixed
open_free z fixed valid same o = elim (free_or fixed) [
  | inl f ↦ f
  | inr all ↦ absurd (o.not_met (λ k d lt. fixed_meets fixed (get_or z.rows.items k d) (columns z) (sym same) (valid.rows_ok k d lt) all (o.in_reach k d lt)))
]
