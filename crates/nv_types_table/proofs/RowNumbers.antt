-- The numbers of trees of fields: one for each, which stays as the store grows.
use Rattle.std.proofs.Common.{◌≡◌, ◌∙◌, refl, ap, sym, subst, ℕ, List, [], ◌∷◌, Some, slice_get}
use Rattle.nv_types_table.specs.declared.table.Cell.{Cell}
use Rattle.nv_types_table.specs.declared.table.Cell.TheVariants.{NoFields, Field, Both}
use Rattle.nv_types_table.specs.inner.Rows.{Row, one, both, leaves, grown}
use Rattle.nv_types_table.specs.inner.Store.{Store, IsStore, Extends, Stands, IsRow}
use Rattle.nv_types_table.specs.inner.Lists.{AreOnes, AreStacked}
use Rattle.nv_types_table.proofs.Rows.{leaves_row}

-- ---- a store that grows
pub stands_stays : (a b : Store) → Extends a b → (i : ℕ) (t : Row) → Stands a i t → Stands b i t
stands_stays a b g i (one p) h = g.cells_stay i _ h
stands_stays a b g i (both t u) h = (h.0, h.1, g.cells_stay i _ h.2, stands_stays a b g h.0 t h.3, stands_stays a b g h.1 u h.4)

pub row_stays : (a b : Store) → Extends a b → (i : ℕ) (ps : List (ℕ × ℕ)) → IsRow a i ps → IsRow b i ps
row_stays a b g i [] h = h
row_stays a b g i (p ∷ ps) h = stands_stays a b g i (grown [] p ps) h

pub ones_stay : (a b : Store) → Extends a b → (is : List ℕ) (ps : List (ℕ × ℕ)) → AreOnes a is ps → AreOnes b is ps
ones_stay a b g [] [] h = h
ones_stay a b g (i ∷ is) (p ∷ ps) h = (g.cells_stay i _ h.0, ones_stay a b g is ps h.1)
ones_stay a b g [] (p ∷ ps) h = h
ones_stay a b g (i ∷ is) [] h = h

pub stacked_stay : (a b : Store) → Extends a b → (is : List ℕ) (ts : List Row) → AreStacked a is ts → AreStacked b is ts
stacked_stay a b g is [] h = h
stacked_stay a b g is (t ∷ ts) h = (h.0, h.1, h.2, stands_stays a b g h.1 t h.3, stacked_stay a b g h.0 ts h.4)

-- ---- one number for each, and one tree for each number
pub same_field : (a b x y : ℕ) → Some (Field a b) ≡ Some (Field x y) → (a ≡ x) × (b ≡ y)
same_field a b x y e = (cc, cc)

pub same_halves : (j k m n : ℕ) → Some (Both j k) ≡ Some (Both m n) → (j ≡ m) × (k ≡ n)
same_halves j k m n e = (cc, cc)

pub field_both : (a b j k : ℕ) → Some (Field a b) ≡ Some (Both j k) → ⊥
field_both a b j k e = cc

none_field : (a b : ℕ) → Some NoFields ≡ Some (Field a b) → ⊥
none_field a b e = cc

none_both : (j k : ℕ) → Some NoFields ≡ Some (Both j k) → ⊥
none_both j k e = cc

pub stands_same : (s : Store) → IsStore s → (i j : ℕ) (t : Row) → Stands s i t → Stands s j t → i ≡ j
stands_same s is i j (one p) h k = is.once i j (Field p.0 p.1) h k
stands_same s is i j (both t u) h k =
    is.once i j (Both h.0 h.1) h.2
    (k.2 ∙ ap (λ n. Some (Both n k.1)) (sym (stands_same s is h.0 k.0 t h.3 k.3)) ∙ ap (λ n. Some (Both h.0 n)) (sym (stands_same s is h.1 k.1 u h.4 k.4)))

pub stands_one : (s : Store) (i : ℕ) (t u : Row) → Stands s i t → Stands s i u → t ≡ u
stands_one s i (one p) (one q) h k =
    let e = same_field p.0 p.1 q.0 q.1 (sym h ∙ k) in
    ap (λ n. one (n, p.1)) e.0 ∙ ap (λ n. one (q.0, n)) e.1
stands_one s i (one p) (both v w) h k = absurd (field_both p.0 p.1 k.0 k.1 (sym h ∙ k.2))
stands_one s i (both t u) (one q) h k = absurd (field_both q.0 q.1 h.0 h.1 (sym k ∙ h.2))
stands_one s i (both t u) (both v w) h k =
    let e = same_halves h.0 h.1 k.0 k.1 (sym h.2 ∙ k.2) in
    ap (λ x. both x u) (stands_one s h.0 t v h.3 (subst (λ n. Stands s n v) (sym e.0) k.3))
    ∙ ap (both v) (stands_one s h.1 u w h.4 (subst (λ n. Stands s n w) (sym e.1) k.4))

-- the empty list is no tree
pub stands_some : (s : Store) → IsStore s → (t : Row) → Stands s 3 t → ⊥
stands_some s is (one p) h = none_field p.0 p.1 (sym is.no_fields ∙ h)
stands_some s is (both t u) h = none_both h.0 h.1 (sym is.no_fields ∙ h.2)

pub row_same : (s : Store) → IsStore s → (i j : ℕ) (ps : List (ℕ × ℕ)) → IsRow s i ps → IsRow s j ps → i ≡ j
row_same s is i j [] h k = h ∙ sym k
row_same s is i j (p ∷ ps) h k = stands_same s is i j (grown [] p ps) h k

pub row_one : (s : Store) → IsStore s → (i : ℕ) (ps qs : List (ℕ × ℕ)) → IsRow s i ps → IsRow s i qs → ps ≡ qs
row_one s is i [] [] h k = refl
row_one s is i [] (q ∷ qs) h k = absurd (stands_some s is (grown [] q qs) (subst (λ n. Stands s n (grown [] q qs)) h k))
row_one s is i (p ∷ ps) [] h k = absurd (stands_some s is (grown [] p ps) (subst (λ n. Stands s n (grown [] p ps)) k h))
row_one s is i (p ∷ ps) (q ∷ qs) h k = sym (leaves_row p ps) ∙ ap leaves (stands_one s i (grown [] p ps) (grown [] q qs) h k) ∙ leaves_row q qs

-- ---- what has a number has a cell
pub stands_cell : (s : Store) (i : ℕ) (t : Row) → Stands s i t → (c : Cell) × (slice_get s.cells i ≡ Some c)
stands_cell s i (one p) h = (Field p.0 p.1, h)
stands_cell s i (both t u) h = (Both h.0 h.1, h.2)

pub row_cell : (s : Store) → IsStore s → (i : ℕ) (ps : List (ℕ × ℕ)) → IsRow s i ps → (c : Cell) × (slice_get s.cells i ≡ Some c)
row_cell s is i [] h = (NoFields, ap (slice_get s.cells) h ∙ is.no_fields)
row_cell s is i (p ∷ ps) h = stands_cell s i (grown [] p ps) h
