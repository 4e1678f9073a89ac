-- weak duality: what closes a leaf holds of every vector within the fixing, and of all where the whole tree is closed
use Rattle.std.proofs.Common.{◌≡◌, ℕ, zero, suc, ◌*◌, ◌<◌, ◌≤◌, List, [], ◌∷◌, Bool, true, false, nat_eq, inl, inr, ◌⊎◌, ℤ, pos, ◌+ℤ◌, ◌-ℤ◌, ◌*ℤ◌, ◌≤ℤ◌, refl, sym, ◌∙◌, ap, arith, slice_get, slice_set, slice_index_or, Option, Some, None}
use Rattle.std.specs.List.{All}
use Rattle.std.proofs.lemmas.Int.{ints, clamps}
use Rattle.std.proofs.lemmas.Bool.Decides.{nat_tests}
use Rattle.std.proofs.lemmas.List.Elements.{All-head, All-tail}
use Rattle.zo_model.specs.Program.{sum_below, where_one, columns, cost_below, cost_where, cost_of, Feasible, Meets, terms_sum}
use Rattle.zo_cert_tree.specs.Certificate.{coefficient, weight, least_sum, least_part, bound, column_part, terms_of, least_of}
use Rattle.std.specs.Prelude.{IfSome}
use Rattle.std.proofs.Common.{set, get_or, replicate, ◌≢◌}
use Rattle.std.proofs.lemmas.List.{get_or-set_same, get_or-set_other}
use Rattle.std.proofs.lemmas.Option.{slice_get_within}
use Rattle.std.proofs.lemmas.Int.{by_lt_z}
use Rattle.std.proofs.lemmas.Bool.{eq-eqb}
use Rattle.zo_cert_tree.specs.Certificate.{ClosesLeaf, ClaimAt, Holds, Tree, leaf, branch, EachNode, OfLeaf, Proves, unfixed}
use Rattle.zo_model.specs.Program.{IsRow, IsValid}
use Rattle.zo_cert_tree.specs.declared.cert.CertNode.{CertNode}
use Rattle.zo_cert_tree.specs.declared.cert.CertNode.TheVariants.{Branch, Bound, Clash, Left}
use Rattle.zo_cert_tree.specs.declared.cert.Claim.{Claim}
use Rattle.zo_cert_tree.specs.declared.cert.Claim.TheVariants.{Least, Nothing}
use Rattle.zo_model.specs.declared.program.Row.{Row}
use Rattle.zo_model.specs.declared.program.ZeroOne.{ZeroOne}
use Rattle.zo_model.proofs.Rows.{rise_below}
use Rattle.zo_cert_tree.proofs.Paths.{none_fixed, below_or}
use Rattle.zo_model.proofs.Sums.{sum_below-same, sum_below-le, sum_below-add}
use Rattle.zo_model.proofs.Scale.{scale-add, scale-zero, scale-le}

eq_no : (c n : ℕ) → n < c → nat_eq c n ≡ false
eq_no c n h = grind (arith, nat_tests)

eq_no_above : (c n : ℕ) → c < n → nat_eq c n ≡ false
eq_no_above c n h = grind (arith, nat_tests)

pub where_one-zero : (b : Bool) → where_one b (pos 0) ≡ pos 0
where_one-zero true = refl
where_one-zero false = refl

pub where_one-add : (b : Bool) (u v : ℤ) → where_one b (u +ℤ v) ≡ where_one b u +ℤ where_one b v
where_one-add true u v = refl
where_one-add false u v = refl

where_one-scale : (b : Bool) (m : ℕ) (u : ℤ) → where_one b (pos m *ℤ u) ≡ pos m *ℤ where_one b u
where_one-scale true m u = refl
where_one-scale false m u = sym (scale-zero m)

-- the one term of the column c, where it is 1
here_zero : (n c : ℕ) (a : ℤ) (x : ℕ → Bool) → nat_eq c n ≡ false → where_one (x n) (where_one (nat_eq c n) a) ≡ pos 0
here_zero n c a x e = rw e (where_one-zero (x n))

single_none : (n c : ℕ) (a : ℤ) (x : ℕ → Bool) → n ≤ c → sum_below n (λ j. where_one (x j) (where_one (nat_eq c j) a)) ≡ pos 0
single_none zero c a x h = refl
single_none (suc n) c a x h =
    let ih : sum_below n (λ j. where_one (x j) (where_one (nat_eq c j) a)) ≡ pos 0 = single_none n c a x (omega arith) in
    let here : where_one (x n) (where_one (nat_eq c n) a) ≡ pos 0 = here_zero n c a x (eq_no c n (omega arith)) in
    omega (arith, ints)

single : (n c : ℕ) (a : ℤ) (x : ℕ → Bool) → c < n → sum_below n (λ j. where_one (x j) (where_one (nat_eq c j) a)) ≡ where_one (x c) a
single zero c a x h = absurd (omega arith)
single (suc n) c a x h = elim (below_or c n h) [
  | inl lt ↦
      let ih : sum_below n (λ j. where_one (x j) (where_one (nat_eq c j) a)) ≡ where_one (x c) a = single n c a x lt in
      let here : where_one (x n) (where_one (nat_eq c n) a) ≡ pos 0 = here_zero n c a x (eq_no_above c n lt) in
      omega (arith, ints)
  | inr e ↦
      let before : sum_below n (λ j. where_one (x j) (where_one (nat_eq c j) a)) ≡ pos 0 = single_none n c a x (omega arith) in
      let here : where_one (x n) (where_one (nat_eq c n) a) ≡ where_one (x n) a = rw (e, eq-eqb n n refl) in
      let at : where_one (x n) a ≡ where_one (x c) a = rw e in
      omega (arith, ints)
]

pub sum_zero : (n : ℕ) → sum_below n (λ j. pos 0) ≡ pos 0
sum_zero zero = refl
sum_zero (suc n) = let ih : sum_below n (λ j. pos 0) ≡ pos 0 = sum_zero n in omega (arith, ints)

pub sum-scale : (n m : ℕ) (f : ℕ → ℤ) → sum_below n (λ j. pos m *ℤ f j) ≡ pos m *ℤ sum_below n f
sum-scale zero m f = sym (scale-zero m)
sum-scale (suc n) m f =
    let ih : sum_below n (λ j. pos m *ℤ f j) ≡ pos m *ℤ sum_below n f = sum-scale n m f in
    ap (λ s. s +ℤ pos m *ℤ f n) ih ∙ sym (scale-add m (sum_below n f) (f n))

-- a row's sum, column by column
by_columns : (n : ℕ) (x : ℕ → Bool) (ts : List (ℕ × ℤ)) → All (λ t. t.0 < n) ts → terms_sum ts x ≡ sum_below n (λ j. where_one (x j) (coefficient ts j))
unfolding terms_sum coefficient
by_columns n x [] h = sym (sum_below-same n (λ j. where_one (x j) (pos 0)) (λ j. pos 0) (λ j lt. where_one-zero (x j)) ∙ sum_zero n)
by_columns n x (t ∷ ts) h =
    let ih : terms_sum ts x ≡ sum_below n (λ j. where_one (x j) (coefficient ts j)) = by_columns n x ts (All-tail (λ t. t.0 < n) t ts h) in
    let one = single n t.0 t.1 x (All-head (λ t. t.0 < n) t ts h) in
    let both = sum_below-add n (λ j. where_one (x j) (where_one (nat_eq t.0 j) t.1)) (λ j. where_one (x j) (coefficient ts j)) in
    let apart = sum_below-same n (λ j. where_one (x j) (where_one (nat_eq t.0 j) t.1 +ℤ coefficient ts j)) (λ j. where_one (x j) (where_one (nat_eq t.0 j) t.1) +ℤ where_one (x j) (coefficient ts j)) (λ j lt. where_one-add (x j) (where_one (nat_eq t.0 j) t.1) (coefficient ts j)) in
    cc

-- ---- the rows at one vector

row_at : (P : Row → Type 0) (xs : List Row) (i : ℕ) → All P xs → IfSome (slice_get xs i) P
row_at P [] i h = tt
row_at P (x ∷ xs) zero h = All-head P x xs h
row_at P (x ∷ xs) (suc i) h = row_at P xs i (All-tail P x xs h)

one_row : (n : ℕ) (x : ℕ → Bool) (o : Option Row) → IfSome o (IsRow n) → IfSome o (Meets x) → least_of o ≤ℤ sum_below n (λ j. where_one (x j) (coefficient (terms_of o) j))
unfolding coefficient
one_row n x None a b =
    let e : sum_below n (λ j. where_one (x j) (pos 0)) ≡ pos 0 = sum_below-same n (λ j. where_one (x j) (pos 0)) (λ j. pos 0) (λ j lt. where_one-zero (x j)) ∙ sum_zero n in
    omega (arith, ints)
one_row n x (Some r) a b =
    let e = by_columns n x r.terms.items (rise_below r.terms.items 0 n a.terms_fit.rise) in
    omega (arith, ints, b)

least_below : (n : ℕ) (z : ZeroOne) (x : ℕ → Bool) → All (IsRow n) z.rows.items → Feasible z x → (ms : List (ℕ × ℕ)) → least_sum z ms ≤ℤ sum_below n (λ j. where_one (x j) (weight z ms j))
unfolding least_sum weight
least_below n z x rows meets [] =
    let e : sum_below n (λ j. where_one (x j) (pos 0)) ≡ pos 0 = sum_below-same n (λ j. where_one (x j) (pos 0)) (λ j. pos 0) (λ j lt. where_one-zero (x j)) ∙ sum_zero n in
    omega (arith, ints)
least_below n z x rows meets (m ∷ ms) =
    let o : Option Row = slice_get z.rows.items m.0 in
    let c : ℕ → ℤ = coefficient (terms_of o) in
    let w : ℕ → ℤ = weight z ms in
    let ih : least_sum z ms ≤ℤ sum_below n (λ j. where_one (x j) (w j)) = least_below n z x rows meets ms in
    let one = one_row n x o (row_at (IsRow n) z.rows.items m.0 rows) (row_at (Meets x) z.rows.items m.0 meets) in
    let scaled = scale-le m.1 (least_of o) (sum_below n (λ j. where_one (x j) (c j))) one in
    let e₁ = sum-scale n m.1 (λ j. where_one (x j) (c j)) in
    let e₂ = sum_below-same n (λ j. where_one (x j) (pos m.1 *ℤ c j)) (λ j. pos m.1 *ℤ where_one (x j) (c j)) (λ j lt. where_one-scale (x j) m.1 (c j)) in
    let e₃ = sum_below-add n (λ j. where_one (x j) (pos m.1 *ℤ c j)) (λ j. where_one (x j) (w j)) in
    let e₄ = sum_below-same n (λ j. where_one (x j) (pos m.1 *ℤ c j +ℤ w j)) (λ j. where_one (x j) (pos m.1 *ℤ c j) +ℤ where_one (x j) (w j)) (λ j lt. where_one-add (x j) (pos m.1 *ℤ c j) (w j)) in
    omega (arith, ints)

-- the cost of a vector as a signed sum
where_pos : (b : Bool) (c : ℕ) → pos (cost_where b c) ≡ where_one b (pos c)
where_pos true c = refl
where_pos false c = refl

pub cost_is : (n : ℕ) (costs : List ℕ) (x : ℕ → Bool) → pos (cost_below n costs x) ≡ sum_below n (λ j. where_one (x j) (pos (get_or costs j 0)))
cost_is zero costs x = refl
cost_is (suc n) costs x =
    let ih : pos (cost_below n costs x) ≡ sum_below n (λ j. where_one (x j) (pos (get_or costs j 0))) = cost_is n costs x in
    let here : pos (cost_where (x n) (get_or costs n 0)) ≡ where_one (x n) (pos (get_or costs n 0)) = where_pos (x n) (get_or costs n 0) in
    omega (arith, ints)

-- ---- the bound of a leaf, at a vector within its fixing

abbrev pub Agrees : List (Option Bool) → (ℕ → Bool) → Type 0
Agrees fixed x = (j : ℕ) (v : Bool) → slice_index_or fixed j None ≡ Some v → x j ≡ v

part_le : (o : Option Bool) (b : Bool) (a : ℤ) → ((v : Bool) → o ≡ Some v → b ≡ v) → least_part o a ≤ℤ where_one b a
part_le None true a h = omega (arith, ints, clamps)
part_le None false a h = omega (arith, ints, clamps)
part_le (Some v) b a h = let e : b ≡ v = h v refl in rw e (omega (arith, ints))

pub bound_below : (z : ZeroOne) (d : ℕ) (ms : List (ℕ × ℕ)) (fixed : List (Option Bool)) (x : ℕ → Bool) → IsValid z → Feasible z x → Agrees fixed x → bound z d ms fixed ≤ℤ (pos d *ℤ pos (cost_of z x))
unfolding bound
bound_below z d ms fixed x valid meets agrees =
    let n : ℕ = columns z in
    let w : ℕ → ℤ = weight z ms in
    let r : ℕ → ℤ = λ j. pos (d * get_or z.costs.items j 0) -ℤ w j in
    let rows : least_sum z ms ≤ℤ sum_below n (λ j. where_one (x j) (w j)) = least_below n z x valid.rows_ok meets ms in
    let parts : sum_below n (column_part z d ms fixed) ≤ℤ sum_below n (λ j. where_one (x j) (r j)) =
    sum_below-le n (column_part z d ms fixed) (λ j. where_one (x j) (r j)) (λ j lt. part_le (slice_index_or fixed j None) (x j) (r j) (agrees j)) in
    let e₁ : sum_below n (λ j. where_one (x j) (w j) +ℤ where_one (x j) (r j)) ≡ sum_below n (λ j. where_one (x j) (w j)) +ℤ sum_below n (λ j. where_one (x j) (r j)) = sum_below-add n (λ j. where_one (x j) (w j)) (λ j. where_one (x j) (r j)) in
    let e₂ : sum_below n (λ j. where_one (x j) (w j) +ℤ where_one (x j) (r j)) ≡ sum_below n (λ j. pos d *ℤ where_one (x j) (pos (get_or z.costs.items j 0))) =
    sum_below-same n (λ j. where_one (x j) (w j) +ℤ where_one (x j) (r j)) (λ j. pos d *ℤ where_one (x j) (pos (get_or z.costs.items j 0))) (λ j lt. whole (x j) d (get_or z.costs.items j 0) (w j)) in
    let e₃ : sum_below n (λ j. pos d *ℤ where_one (x j) (pos (get_or z.costs.items j 0))) ≡ pos d *ℤ sum_below n (λ j. where_one (x j) (pos (get_or z.costs.items j 0))) = sum-scale n d (λ j. where_one (x j) (pos (get_or z.costs.items j 0))) in
    let e₄ : pos d *ℤ sum_below n (λ j. where_one (x j) (pos (get_or z.costs.items j 0))) ≡ pos d *ℤ pos (cost_of z x) = ap (λ v. pos d *ℤ v) (sym (cost_is n z.costs.items x)) in
    omega (arith, ints)
  where
    whole : (b : Bool) (d c : ℕ) (w : ℤ) → where_one b w +ℤ where_one b (pos (d * c) -ℤ w) ≡ pos d *ℤ where_one b (pos c)
    whole true d c w = omega (arith, ints)
    whole false d c w = omega (arith, ints)

-- ---- what a leaf, and a tree, proves

leaf_sound : (z : ZeroOne) (claim : Claim) (fixed : List (Option Bool)) (n : CertNode) (x : ℕ → Bool) → IsValid z → Feasible z x → Agrees fixed x → ClosesLeaf z claim fixed n → ClaimAt z x claim
leaf_sound z claim fixed (Branch j) x valid meets agrees h = absurd h
leaf_sound z (Least t) fixed (Bound d ms) x valid meets agrees h =
    let b = bound_below z d ms.items fixed x valid meets agrees in
    by_lt_z (pos (cost_of z x)) (pos t) (λ lt. let low : pos (cost_of z x) ≤ℤ (pos t -ℤ pos 1) = omega (arith, ints) in let s = scale-le d (pos (cost_of z x)) (pos t -ℤ pos 1) low in absurd (omega (arith, ints, h.1))) (λ le. omega (arith, ints))
leaf_sound z Nothing fixed (Bound d ms) x valid meets agrees h = absurd h
leaf_sound z claim fixed (Clash ms) x valid meets agrees h =
    let b = bound_below z 0 ms.items fixed x valid meets agrees in
    absurd (omega (arith, ints, h.1))
leaf_sound z claim fixed Left x valid meets agrees h = absurd h

agrees_set : (fixed : List (Option Bool)) (x : ℕ → Bool) (j : ℕ) (v : Bool) → Agrees fixed x → slice_get fixed j ≡ Some None → x j ≡ v → Agrees (slice_set fixed j (Some v)) x
agrees_set fixed x j v agrees here e k u h = elim (same_or k j) [
  | inl same ↦ let p : get_or (set fixed j (Some v)) j None ≡ Some v = get_or-set_same fixed j (Some v) None (slice_get_within fixed j None here) in cc
  | inr ne ↦ agrees k u (sym (get_or-set_other fixed j k (Some v) None ne) ∙ h)
]
  where
    same_or : (k j : ℕ) → (k ≡ j) ⊎ (k ≢ j)
    same_or k j = grind arith

tree_sound : (z : ZeroOne) (claim : Claim) (x : ℕ → Bool) → IsValid z → Feasible z x → (fixed : List (Option Bool)) (t : Tree) → Agrees fixed x → EachNode (OfLeaf (ClosesLeaf z claim)) fixed t → ClaimAt z x claim
tree_sound z claim x valid meets fixed (leaf (Branch j)) agrees h = absurd h.0
tree_sound z claim x valid meets fixed (leaf (Bound d ms)) agrees h = leaf_sound z claim fixed (Bound d ms) x valid meets agrees h.1
tree_sound z claim x valid meets fixed (leaf (Clash ms)) agrees h = leaf_sound z claim fixed (Clash ms) x valid meets agrees h.1
tree_sound z claim x valid meets fixed (leaf Left) agrees h = leaf_sound z claim fixed Left x valid meets agrees h.1
tree_sound z claim x valid meets fixed (branch j a b) agrees h = elim (two (x j)) [
  | inl e ↦ tree_sound z claim x valid meets (slice_set fixed j (Some false)) a (agrees_set fixed x j false agrees h.0 e) h.2
  | inr e ↦ tree_sound z claim x valid meets (slice_set fixed j (Some true)) b (agrees_set fixed x j true agrees h.0 e) h.3
]
  where
    two : (b : Bool) → (b ≡ false) ⊎ (b ≡ true)
    two false = inl refl
    two true = inr refl

-- a tree that proves a claim makes it hold of every 0-1 vector
pub proves_holds : (z : ZeroOne) (t : Tree) (claim : Claim) → IsValid z → Proves z t claim → Holds z claim
proves_holds z t claim valid h x meets = tree_sound z claim x valid meets (unfixed z) t (λ j v e. let none : get_or (replicate (columns z) None) j None ≡ None = none_fixed (columns z) j in cc) h
