-- the columns that a row touches are taken out of the bound one by one
use Rattle.std.proofs.Common.{◌≡◌, ◌≢◌, ℕ, zero, suc, ◌+◌, ◌*◌, ◌-◌, ◌<◌, ◌≤◌, ◌^◌, List, [], ◌∷◌, length, drop, set, get_or, Bool, true, false, nat_eq, inl, inr, ◌⊎◌, Option, Some, None, slice_get, ℤ, pos, ◌+ℤ◌, ◌-ℤ◌, ◌*ℤ◌, refl, sym, ◌∙◌, ap, subst, arith, add-one, drop-cons}
use Rattle.std.specs.List.{All}
use Rattle.std.proofs.Math.Nat.{mul-le-mul}
use Rattle.std.proofs.lemmas.Int.{ints, clamps}
use Rattle.std.proofs.lemmas.List.{get_or-set_same, get_or-set_other, drop_all}
use Rattle.std.proofs.lemmas.List.Elements.{All-nil, All-cons, All-head, All-tail, All-get_or}
use Rattle.std.proofs.lemmas.Bool.{ne_eqb}
use Rattle.zo_model.specs.Program.{sum_below, where_one, columns, costs_of, AtMost}
use Rattle.zo_model.specs.declared.program.ZeroOne.{ZeroOne}
use Rattle.zo_model.proofs.Sums.{sum_below-same, sum_below-add}
use Rattle.zo_model.proofs.Scale.{scale-zero, AtMost-more, AtMost-wider}
use Rattle.zo_cert_tree.specs.Certificate.{bound, column_part, least_part, least_sum, weight, coefficient, terms_of}
use Rattle.zo_cert_tree.specs.inner.Leaf.{Avoids, change, changes}
use Rattle.zo_cert_tree.specs.Fixing.{is_one, ones}
use Rattle.zo_cert_tree.specs.inner.Path.{HaveCosts}
use Rattle.zo_cert_tree.proofs.Duality.{cost_is, sum-scale, sum_zero}
use Rattle.zo_cert_tree.proofs.Paths.{below_or}

-- ---- one column changes

pub sum_below-change : (n c : ℕ) (f g : ℕ → ℤ) → c < n → ((j : ℕ) → j ≢ c → f j ≡ g j) → sum_below n f +ℤ g c ≡ sum_below n g +ℤ f c
sum_below-change zero c f g lt h = absurd (omega arith)
sum_below-change (suc n) c f g lt h = elim (below_or c n lt) [
  | inl below ↦
      let ih : sum_below n f +ℤ g c ≡ sum_below n g +ℤ f c = sum_below-change n c f g below h in
      let here : f n ≡ g n = h n (omega arith) in
      omega (arith, ints)
  | inr e ↦
      let before : sum_below n f ≡ sum_below n g = sum_below-same n f g (λ j k. h j (omega arith)) in
      let hf : f n ≡ f c = ap f (sym e) in
      let hg : g n ≡ g c = ap g (sym e) in
      omega (arith, ints)
]

change_zero : (o : Option Bool) (a : ℕ) → change o (pos a) (pos 0) ≡ pos 0
change_zero None a = omega (arith, ints, clamps)
change_zero (Some true) a = omega (arith, ints)
change_zero (Some false) a = refl

pub changes_set : (costs : List ℕ) (d : ℕ) (ws : List ℤ) (fixed : List (Option Bool)) (n c : ℕ) → c < n → c < length ws → changes costs d ws fixed n ≡ change (get_or fixed c None) (pos (d * get_or costs c 0)) (get_or ws c (pos 0)) +ℤ changes costs d (set ws c (pos 0)) fixed n
unfolding changes
changes_set costs d ws fixed n c lt inside =
    let f : ℕ → ℤ = λ j. change (get_or fixed j None) (pos (d * get_or costs j 0)) (get_or ws j (pos 0)) in
    let g : ℕ → ℤ = λ j. change (get_or fixed j None) (pos (d * get_or costs j 0)) (get_or (set ws c (pos 0)) j (pos 0)) in
    let e : sum_below n f +ℤ g c ≡ sum_below n g +ℤ f c = sum_below-change n c f g lt (λ j ne. ap (λ v. change (get_or fixed j None) (pos (d * get_or costs j 0)) v) (sym (get_or-set_other ws c j (pos 0) (pos 0) ne))) in
    let z : g c ≡ pos 0 = ap (λ v. change (get_or fixed c None) (pos (d * get_or costs c 0)) v) (get_or-set_same ws c (pos 0) (pos 0) inside) ∙ change_zero (get_or fixed c None) (d * get_or costs c 0) in
    omega (arith, ints)

-- ---- bounds

pub change_bounded : (o : Option Bool) (a b : ℕ) (w : ℤ) → AtMost b w → AtMost (b + a) (change o (pos a) w)
change_bounded None a b w h = record { low = omega (arith, ints, clamps, h.low, h.high); high = omega (arith, ints, clamps, h.low, h.high) }
change_bounded (Some true) a b w h = record { low = omega (arith, ints, h.low, h.high); high = omega (arith, ints, h.low, h.high) }
change_bounded (Some false) a b w h = record { low = omega (arith, ints); high = omega (arith, ints) }

sum_bounded : (n b : ℕ) (f : ℕ → ℤ) → ((j : ℕ) → j < n → AtMost b (f j)) → AtMost (b * n) (sum_below n f)
sum_bounded zero b f h = record { low = omega (arith, ints); high = omega (arith, ints) }
sum_bounded (suc n) b f h =
    let ih : AtMost (b * n) (sum_below n f) = sum_bounded n b f (λ j lt. h j (omega arith)) in
    AtMost-wider (b * n + b) (b * suc n) (sum_below n f +ℤ f n) (omega arith) (AtMost-more (b * n) b (sum_below n f) (f n) ih (h n (omega arith)))

pub product_small : (d c : ℕ) → d < 2 ^ 32 → c < 2 ^ 20 → d * c ≤ 2 ^ 52
product_small d c h k = let hd : d ≤ 2 ^ 32 = omega arith in let hc : c ≤ 2 ^ 20 = omega arith in let le : d * c ≤ 2 ^ 32 * 2 ^ 20 = mul-le-mul hd hc in omega arith

pub changes_bounded : (costs : List ℕ) (d : ℕ) (ws : List ℤ) (fixed : List (Option Bool)) (n : ℕ) → HaveCosts costs → d < 2 ^ 32 → n ≡ length costs → length ws ≡ n → All (AtMost (2 ^ 99)) ws → AtMost (2 ^ 126 - 2 ^ 90) (changes costs d ws fixed n)
unfolding changes
changes_bounded costs d ws fixed n h dl e same all =
    let one : (j : ℕ) → j < n → AtMost (2 ^ 99 + 2 ^ 52) (change (get_or fixed j None) (pos (d * get_or costs j 0)) (get_or ws j (pos 0))) = λ j lt.
    AtMost-wider (2 ^ 99 + d * get_or costs j 0) (2 ^ 99 + 2 ^ 52) (change (get_or fixed j None) (pos (d * get_or costs j 0)) (get_or ws j (pos 0))) (omega (arith, product_small d (get_or costs j 0) dl (All-get_or (λ c. c < 2 ^ 20) costs j 0 (omega arith) h.small))) (change_bounded (get_or fixed j None) (d * get_or costs j 0) (2 ^ 99) (get_or ws j (pos 0)) (All-get_or (AtMost (2 ^ 99)) ws j (pos 0) (omega arith) all)) in
    let few : n ≤ 2 ^ 26 = omega (arith, h.few) in
    AtMost-wider ((2 ^ 99 + 2 ^ 52) * n) (2 ^ 126 - 2 ^ 90) (changes costs d ws fixed n) (omega arith) (sum_bounded n (2 ^ 99 + 2 ^ 52) (λ j. change (get_or fixed j None) (pos (d * get_or costs j 0)) (get_or ws j (pos 0))) one)

-- what was taken out is the difference of two sums
pub taken_bounded : (b : ℕ) (x s y : ℤ) → x ≡ s +ℤ y → AtMost b x → AtMost b y → AtMost (b + b) s
taken_bounded b x s y e h k = record { low = omega (arith, ints, h.low, h.high, k.low, k.high); high = omega (arith, ints, h.low, h.high, k.low, k.high) }

-- ---- what is left is 0

pub avoids_more : (j : ℕ) (ts : List (ℕ × ℤ)) (i : ℕ) → i < length ts → (get_or ts i (0, pos 0)).0 ≢ j → Avoids j (drop (i + 1) ts) → Avoids j (drop i ts)
avoids_more j ts i lt ne h = rw (drop-cons ts i (0, pos 0) lt) (All-cons (λ t. t.0 ≢ j) (get_or ts i (0, pos 0)) (drop (suc i) ts) ne (rw add-one at h))

pub cleared_more : (ts : List (ℕ × ℤ)) (ws : List ℤ) (i j : ℕ) → i < length ts → (get_or ts i (0, pos 0)).0 < length ws → (Avoids j (drop i ts) → get_or ws j (pos 0) ≡ pos 0) → Avoids j (drop (i + 1) ts) → get_or (set ws (get_or ts i (0, pos 0)).0 (pos 0)) j (pos 0) ≡ pos 0
cleared_more ts ws i j lt inside h k = elim (same_or j (get_or ts i (0, pos 0)).0) [
  | inl e ↦ subst (λ c. get_or (set ws c (pos 0)) j (pos 0) ≡ pos 0) e (get_or-set_same ws j (pos 0) (pos 0) (omega arith))
  | inr ne ↦ get_or-set_other ws (get_or ts i (0, pos 0)).0 j (pos 0) (pos 0) ne ∙ h (avoids_more j ts i lt (λ e. ne (sym e)) k)
]
  where
    same_or : (j c : ℕ) → (j ≡ c) ⊎ (j ≢ c)
    same_or j c = grind arith

pub avoids_none : (j : ℕ) (ts : List (ℕ × ℤ)) (i : ℕ) → length ts ≤ i → Avoids j (drop i ts)
avoids_none j ts i le = rw (drop_all i ts le) (All-nil (λ (t : ℕ × ℤ). t.0 ≢ j))

abbrev pub AvoidsRows : ZeroOne → ℕ → List (ℕ × ℕ) → Type 0
AvoidsRows z j ms = All (λ m. Avoids j (terms_of (slice_get z.rows.items m.0))) ms

coefficient_avoided : (ts : List (ℕ × ℤ)) (j : ℕ) → Avoids j ts → coefficient ts j ≡ pos 0
unfolding coefficient
coefficient_avoided [] j h = refl
coefficient_avoided (t ∷ ts) j h =
    let ih : coefficient ts j ≡ pos 0 = coefficient_avoided ts j (All-tail (λ t. t.0 ≢ j) t ts h) in
    let other : nat_eq t.0 j ≡ false = ne_eqb t.0 j (All-head (λ t. t.0 ≢ j) t ts h) in
    let here : where_one (nat_eq t.0 j) t.1 ≡ pos 0 = ap (λ b. where_one b t.1) other in
    omega (arith, ints)

pub weight_avoided : (z : ZeroOne) (ms : List (ℕ × ℕ)) (j : ℕ) → AvoidsRows z j ms → weight z ms j ≡ pos 0
unfolding weight
weight_avoided z [] j h = refl
weight_avoided z (m ∷ ms) j h =
    let ih : weight z ms j ≡ pos 0 = weight_avoided z ms j (All-tail (λ m. Avoids j (terms_of (slice_get z.rows.items m.0))) m ms h) in
    let one : pos m.1 *ℤ coefficient (terms_of (slice_get z.rows.items m.0)) j ≡ pos 0 = ap (λ v. pos m.1 *ℤ v) (coefficient_avoided (terms_of (slice_get z.rows.items m.0)) j (All-head (λ m. Avoids j (terms_of (slice_get z.rows.items m.0))) m ms h)) ∙ scale-zero m.1 in
    omega (arith, ints)

pub rows_more : (z : ZeroOne) (j : ℕ) (ms : List (ℕ × ℕ)) (i : ℕ) → i < length ms → Avoids j (terms_of (slice_get z.rows.items (get_or ms i (0, 0)).0)) → AvoidsRows z j (drop (i + 1) ms) → AvoidsRows z j (drop i ms)
rows_more z j ms i lt a h = rw (drop-cons ms i (0, 0) lt) (All-cons (λ m. Avoids j (terms_of (slice_get z.rows.items m.0))) (get_or ms i (0, 0)) (drop (suc i) ms) a (rw add-one at h))

pub rows_none : (z : ZeroOne) (j : ℕ) (ms : List (ℕ × ℕ)) (i : ℕ) → length ms ≤ i → AvoidsRows z j (drop i ms)
rows_none z j ms i le = rw (drop_all i ms le) (All-nil (λ (m : ℕ × ℕ). Avoids j (terms_of (slice_get z.rows.items m.0))))

-- weights that are all 0 change nothing
pub changes_clear : (costs : List ℕ) (d : ℕ) (ws : List ℤ) (fixed : List (Option Bool)) (n : ℕ) → ((j : ℕ) → j < n → get_or ws j (pos 0) ≡ pos 0) → changes costs d ws fixed n ≡ pos 0
unfolding changes
changes_clear costs d ws fixed n h =
    sum_below-same n (λ j. change (get_or fixed j None) (pos (d * get_or costs j 0)) (get_or ws j (pos 0))) (λ j. pos 0) (λ j lt. ap (λ v. change (get_or fixed j None) (pos (d * get_or costs j 0)) v) (h j lt) ∙ change_zero (get_or fixed j None) (d * get_or costs j 0)) ∙ sum_zero n

-- ---- one step

pub record Drained (x s r y : ℤ) : Type 0 where
  pub value : x ≡ (s +ℤ r) +ℤ y
  pub small : AtMost (2 ^ 127 - 2 ^ 91) (s +ℤ r)

pub drained : (costs : List ℕ) (d : ℕ) (ws₀ ws ws' : List ℤ) (fixed : List (Option Bool)) (n : ℕ) (s r : ℤ) → HaveCosts costs → d < 2 ^ 32 → n ≡ length costs → length ws₀ ≡ n → length ws' ≡ n → All (AtMost (2 ^ 99)) ws₀ → All (AtMost (2 ^ 99)) ws' → changes costs d ws₀ fixed n ≡ s +ℤ changes costs d ws fixed n → changes costs d ws fixed n ≡ r +ℤ changes costs d ws' fixed n → Drained (changes costs d ws₀ fixed n) s r (changes costs d ws' fixed n)
drained costs d ws₀ ws ws' fixed n s r h dl e len₀ len' all₀ all' was more =
    let value : changes costs d ws₀ fixed n ≡ (s +ℤ r) +ℤ changes costs d ws' fixed n = omega (arith, ints) in
    let x = changes_bounded costs d ws₀ fixed n h dl e len₀ all₀ in
    let y = changes_bounded costs d ws' fixed n h dl e len' all' in
    record {
      value = value;
      small = AtMost-wider ((2 ^ 126 - 2 ^ 90) + (2 ^ 126 - 2 ^ 90)) (2 ^ 127 - 2 ^ 91) (s +ℤ r) (omega arith) (taken_bounded (2 ^ 126 - 2 ^ 90) (changes costs d ws₀ fixed n) (s +ℤ r) (changes costs d ws' fixed n) value x y);
    }

-- what the sum so far can be
pub taken_small : (costs : List ℕ) (d : ℕ) (ws₀ ws : List ℤ) (fixed : List (Option Bool)) (n : ℕ) (s : ℤ) → HaveCosts costs → d < 2 ^ 32 → n ≡ length costs → length ws₀ ≡ n → length ws ≡ n → All (AtMost (2 ^ 99)) ws₀ → All (AtMost (2 ^ 99)) ws → changes costs d ws₀ fixed n ≡ s +ℤ changes costs d ws fixed n → AtMost (2 ^ 127 - 2 ^ 91) s
taken_small costs d ws₀ ws fixed n s h dl e len₀ len all₀ all was =
    AtMost-wider ((2 ^ 126 - 2 ^ 90) + (2 ^ 126 - 2 ^ 90)) (2 ^ 127 - 2 ^ 91) s (omega arith) (taken_bounded (2 ^ 126 - 2 ^ 90) (changes costs d ws₀ fixed n) s (changes costs d ws fixed n) was (changes_bounded costs d ws₀ fixed n h dl e len₀ all₀) (changes_bounded costs d ws fixed n h dl e len all))

-- ---- the bound of a leaf from its parts

part_is : (o : Option Bool) (a w : ℤ) → least_part o (a -ℤ w) ≡ where_one (is_one o) a +ℤ change o a w
part_is None a w = omega (arith, ints, clamps)
part_is (Some true) a w = omega (arith, ints)
part_is (Some false) a w = omega (arith, ints)

ones_scaled : (b : Bool) (d c : ℕ) → where_one b (pos (d * c)) ≡ pos d *ℤ where_one b (pos c)
ones_scaled true d c = omega (arith, ints)
ones_scaled false d c = sym (scale-zero d)

pub bound_is : (z : ZeroOne) (d : ℕ) (ms : List (ℕ × ℕ)) (ws : List ℤ) (fixed : List (Option Bool)) → ((j : ℕ) → j < columns z → get_or ws j (pos 0) ≡ weight z ms j) → bound z d ms fixed ≡ least_sum z ms +ℤ (pos d *ℤ pos (costs_of z.costs.items (ones fixed)) +ℤ changes z.costs.items d ws fixed (columns z))
unfolding bound changes
bound_is z d ms ws fixed h =
    let n : ℕ = columns z in
    let f : ℕ → ℤ = λ j. where_one (ones fixed j) (pos (d * get_or z.costs.items j 0)) in
    let g : ℕ → ℤ = λ j. change (get_or fixed j None) (pos (d * get_or z.costs.items j 0)) (get_or ws j (pos 0)) in
    let each : sum_below n (column_part z d ms fixed) ≡ sum_below n (λ j. f j +ℤ g j) = sum_below-same n (column_part z d ms fixed) (λ j. f j +ℤ g j) (λ j lt. ap (λ v. least_part (get_or fixed j None) (pos (d * get_or z.costs.items j 0) -ℤ v)) (sym (h j lt)) ∙ part_is (get_or fixed j None) (pos (d * get_or z.costs.items j 0)) (get_or ws j (pos 0))) in
    let apart : sum_below n (λ j. f j +ℤ g j) ≡ sum_below n f +ℤ sum_below n g = sum_below-add n f g in
    let scaled : sum_below n f ≡ sum_below n (λ j. pos d *ℤ where_one (ones fixed j) (pos (get_or z.costs.items j 0))) = sum_below-same n f (λ j. pos d *ℤ where_one (ones fixed j) (pos (get_or z.costs.items j 0))) (λ j lt. ones_scaled (ones fixed j) d (get_or z.costs.items j 0)) in
    let out : sum_below n (λ j. pos d *ℤ where_one (ones fixed j) (pos (get_or z.costs.items j 0))) ≡ pos d *ℤ sum_below n (λ j. where_one (ones fixed j) (pos (get_or z.costs.items j 0))) = sum-scale n d (λ j. where_one (ones fixed j) (pos (get_or z.costs.items j 0))) in
    let cost : pos d *ℤ sum_below n (λ j. where_one (ones fixed j) (pos (get_or z.costs.items j 0))) ≡ pos d *ℤ pos (costs_of z.costs.items (ones fixed)) = ap (λ v. pos d *ℤ v) (sym (cost_is n z.costs.items (ones fixed))) in
    ap (λ v. least_sum z ms +ℤ v) (each ∙ apart ∙ ap (λ v. v +ℤ sum_below n g) (scaled ∙ out ∙ cost))
