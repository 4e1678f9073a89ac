-- Walks down the edges of a tree of fields.
use Rattle.std.proofs.Common.{◌≡◌, ◌∙◌, refl, ap, sym, subst, ◌⊎◌, inl, inr, ℕ, ◌+◌, Bool, true, false, eqb, List, [], ◌∷◌, ◌++◌, append_assoc, append-nil, Option, None, Some, is_none, is_some, not, slice_get, arith, rules, tests}
use Rattle.std.proofs.lemmas.Bool.{eqb-true, eq-eqb}
use Rattle.std.proofs.lemmas.Option.{none-some, same_Some}
use Rattle.nv_types_table.specs.inner.Rows.{Row, one, both, depth, hung}
use Rattle.nv_types_table.specs.inner.Store.{Store, Stands, halves_of}
use Rattle.nv_types_table.specs.inner.Lists.{AreStacked}

-- ---- a tree with two halves, and one without
pub two_halves : (s : Store) (i j k : ℕ) (t : Row) → Stands s i t → halves_of (slice_get s.cells i) ≡ Some (j, k) → (v w : Row) × (t ≡ both v w) × Stands s j v × Stands s k w
two_halves s i j k (one p) h e = absurd (none-some (j, k) (sym (ap halves_of h) ∙ e))
two_halves s i j k (both v w) h e =
    let same = same_Some (h.0, h.1) (j, k) (sym (ap halves_of h.2) ∙ e) in
    (v, w, refl, subst (λ n. Stands s n v) (ap (λ (p : ℕ × ℕ). p.0) same) h.3, subst (λ n. Stands s n w) (ap (λ (p : ℕ × ℕ). p.1) same) h.4)

pub no_halves : (s : Store) (i : ℕ) (t : Row) → Stands s i t → halves_of (slice_get s.cells i) ≡ None → (p : ℕ × ℕ) × (t ≡ one p)
no_halves s i (one p) h e = (p, refl)
no_halves s i (both v w) h e = absurd (none-some (h.0, h.1) (sym e ∙ ap halves_of h.2))

-- ---- along the left edge
abbrev pub DeepSo : Store → ℕ → ℕ → ℕ → ℕ → Type 0
DeepSo s first second a b = (t u : Row) → Stands s first t → Stands s second u → (v w : Row) × Stands s a v × Stands s b w × (eqb (depth t) (depth u) ≡ eqb (depth v) (depth w))

pub both_more : (a b : ℕ) → eqb (a + 1) (b + 1) ≡ eqb a b
both_more a b = by (eqb a b) refl
  where
    by : (x : Bool) → eqb a b ≡ x → eqb (a + 1) (b + 1) ≡ eqb a b
    by true e = eq-eqb (a + 1) (b + 1) (ap (λ n. n + 1) (eqb-true a b e)) ∙ sym e
    by false e = other (eqb (a + 1) (b + 1)) refl
      where
        other : (y : Bool) → eqb (a + 1) (b + 1) ≡ y → eqb (a + 1) (b + 1) ≡ eqb a b
        other false f = f ∙ sym e
        other true f = let same : a ≡ b = omega (arith, eqb-true (a + 1) (b + 1) f) in f ∙ sym (eq-eqb a b same)

some_none : (a : ℕ) → eqb (a + 1) 0 ≡ false
some_none a = search (tests, rules)

none_some : (a : ℕ) → eqb 0 (a + 1) ≡ false
none_some a = search (tests, rules)

pub deep_start : (s : Store) (a b : ℕ) → DeepSo s a b a b
deep_start s a b t u h k = (t, u, h, k, refl)

pub deep_next : (s : Store) (first second a b j k m n : ℕ) → DeepSo s first second a b → halves_of (slice_get s.cells a) ≡ Some (j, k) → halves_of (slice_get s.cells b) ≡ Some (m, n) → DeepSo s first second j m
deep_next s first second a b j k m n so e f t u h l =
    let v = so t u h l in
    let p = two_halves s a j k v.0 v.2 e in
    let q = two_halves s b m n v.1 v.3 f in
    (p.0, q.0, p.3, q.3, v.4 ∙ ap (λ (x : Row). eqb (depth x) (depth v.1)) p.2 ∙ ap (λ (x : Row). eqb (depth p.0 + 1) (depth x)) q.2 ∙ both_more (depth p.0) (depth q.0))

pub deep_short : (s : Store) (first second a b j k : ℕ) → DeepSo s first second a b → halves_of (slice_get s.cells a) ≡ Some (j, k) → halves_of (slice_get s.cells b) ≡ None
    → (t u : Row) → Stands s first t → Stands s second u → false ≡ eqb (depth t) (depth u)
deep_short s first second a b j k so e f t u h l =
    let v = so t u h l in
    let p = two_halves s a j k v.0 v.2 e in
    let q = no_halves s b v.1 v.3 f in
    sym (v.4 ∙ ap (λ (x : Row). eqb (depth x) (depth v.1)) p.2 ∙ ap (λ (x : Row). eqb (depth p.0 + 1) (depth x)) q.1 ∙ some_none (depth p.0))

pub deep_end : (s : Store) (first second a b : ℕ) (o : Option (ℕ × ℕ)) (r : Bool) → DeepSo s first second a b → halves_of (slice_get s.cells a) ≡ None → o ≡ halves_of (slice_get s.cells b) → r ≡ is_none o
    → (t u : Row) → Stands s first t → Stands s second u → r ≡ eqb (depth t) (depth u)
deep_end s first second a b None r so e f g t u h l =
    let v = so t u h l in
    let p = no_halves s a v.0 v.2 e in
    let q = no_halves s b v.1 v.3 (sym f) in
    g ∙ sym (v.4 ∙ ap (λ (x : Row). eqb (depth x) (depth v.1)) p.1 ∙ ap (λ (x : Row). eqb 0 (depth x)) q.1)
deep_end s first second a b (Some (m, n)) r so e f g t u h l =
    let v = so t u h l in
    let p = no_halves s a v.0 v.2 e in
    let q = two_halves s b m n v.1 v.3 (sym f) in
    g ∙ sym (v.4 ∙ ap (λ (x : Row). eqb (depth x) (depth v.1)) p.1 ∙ ap (λ (x : Row). eqb 0 (depth x)) q.2 ∙ none_some (depth q.0))

-- ---- along the right edge: some rows are behind, the others are left
outermost : (ts : List Row) (u : Row) → (ts ≡ []) ⊎ ((vs : List Row) × (t : Row) × (ts ≡ vs ++ t ∷ []) × (hung ts u ≡ both t (hung vs u)))
outermost [] u = inl refl
outermost (a ∷ ts) u = by (outermost ts (both a u))
  where
    by : ((ts ≡ []) ⊎ ((vs : List Row) × (t : Row) × (ts ≡ vs ++ t ∷ []) × (hung ts (both a u) ≡ both t (hung vs (both a u)))))
        → ((a ∷ ts) ≡ []) ⊎ ((vs : List Row) × (t : Row) × ((a ∷ ts) ≡ vs ++ t ∷ []) × (hung ts (both a u) ≡ both t (hung vs u)))
    by (inl e) = inr ([], a, ap (λ l. a ∷ l) e, ap (λ (l : List Row). hung l (both a u)) e)
    by (inr v) = inr (a ∷ v.0, v.1, ap (λ l. a ∷ l) v.2, v.3)

abbrev pub EdgeSo : Store → ℕ → List ℕ → ℕ → Type 0
EdgeSo s list rows last = (ts : List Row) (p : ℕ × ℕ) → Stands s list (hung ts (one p)) → (us vs : List Row) × (ts ≡ us ++ vs) × AreStacked s rows vs × Stands s last (hung us (one p))

pub edge_start : (s : Store) (list : ℕ) (rows : List ℕ) → rows ≡ [] → EdgeSo s list rows list
edge_start s list rows e ts p h = (ts, [], sym (append-nil ts), e, h)

same_both : (t u v w : Row) → both t u ≡ both v w → (t ≡ v) × (u ≡ w)
same_both t u v w e = (cc, cc)

one_both : (p : ℕ × ℕ) (v w : Row) → one p ≡ both v w → ⊥
one_both p v w e = cc

pub edge_next : (s : Store) (list : ℕ) (rows more : List ℕ) (last j k : ℕ) → EdgeSo s list rows last → halves_of (slice_get s.cells last) ≡ Some (j, k) → more ≡ rows ++ j ∷ [] → EdgeSo s list more k
edge_next s list rows more last j k so e f ts p h =
    let v = so ts p h in
    let w = two_halves s last j k (hung v.0 (one p)) v.4 e in
    by v.0 v.1 v.2 v.3 w.0 w.1 w.2 w.3 w.4 (outermost v.0 (one p))
  where
    by : (us vs : List Row) → ts ≡ us ++ vs → AreStacked s rows vs → (a b : Row) → hung us (one p) ≡ both a b → Stands s j a → Stands s k b
        → ((us ≡ []) ⊎ ((xs : List Row) × (t : Row) × (us ≡ xs ++ t ∷ []) × (hung us (one p) ≡ both t (hung xs (one p)))))
        → (xs ys : List Row) × (ts ≡ xs ++ ys) × AreStacked s more ys × Stands s k (hung xs (one p))
    by us vs whole stacked a b halves left right (inl none) = absurd (one_both p a b (sym (ap (λ (l : List Row). hung l (one p)) none) ∙ halves))
    by us vs whole stacked a b halves left right (inr x) =
        let same = same_both a b x.1 (hung x.0 (one p)) (sym halves ∙ x.3) in (
          x.0,
          x.1 ∷ vs,
          whole ∙ ap (λ l. l ++ vs) x.2 ∙ append_assoc x.0 (x.1 ∷ []) vs,
          (rows, j, f, subst (Stands s j) same.0 left, stacked),
          subst (Stands s k) same.1 right,
        )

pub edge_end : (s : Store) (list : ℕ) (rows : List ℕ) (last : ℕ) → EdgeSo s list rows last → halves_of (slice_get s.cells last) ≡ None
    → (ts : List Row) (p : ℕ × ℕ) → Stands s list (hung ts (one p)) → AreStacked s rows ts × Stands s last (one p)
edge_end s list rows last so e ts p h =
    let v = so ts p h in
    by v.0 v.1 v.2 v.3 v.4 (outermost v.0 (one p))
  where
    by : (us vs : List Row) → ts ≡ us ++ vs → AreStacked s rows vs → Stands s last (hung us (one p))
        → ((us ≡ []) ⊎ ((xs : List Row) × (t : Row) × (us ≡ xs ++ t ∷ []) × (hung us (one p) ≡ both t (hung xs (one p)))))
        → AreStacked s rows ts × Stands s last (one p)
    by us vs whole stacked at (inl none) =
        (subst (AreStacked s rows) (sym (whole ∙ ap (λ l. l ++ vs) none)) stacked, subst (λ (l : List Row). Stands s last (hung l (one p))) none at)
    by us vs whole stacked at (inr x) =
        let n = no_halves s last (hung us (one p)) at e in
        absurd (one_both n.0 x.1 (hung x.0 (one p)) (sym n.1 ∙ x.3))

pub none_test : {A : Type 0} (o : Option A) (r : Bool) → is_some o ≡ not r → r ≡ is_none o
none_test None true e = refl
none_test None false e = e
none_test (Some x) true e = e
none_test (Some x) false e = refl
