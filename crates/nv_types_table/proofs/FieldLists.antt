-- Lists of fields by the cells of their numbers: which tree stands there, and what is said of its fields.
use Rattle.std.proofs.Common.{◌≡◌, ◌∙◌, refl, ap, sym, subst, ℕ, suc, Bool, true, false, List, [], ◌∷◌, ◌++◌, length, ◌<◌, ◌==◌, Option, Some, slice_get, true≢false, arith, tests, rules}
use Rattle.nv_ast.specs.Types.{Forms, no_forms, form_and}
use Rattle.nv_types_table.specs.declared.table.Cell.{Cell}
use Rattle.nv_types_table.specs.declared.table.Cell.TheVariants.{NoFields, Field, Both}
use Rattle.nv_types_table.specs.inner.Rows.{Row, one, both, leaves, grown}
use Rattle.nv_types_table.specs.inner.Store.{Store, IsStore, Stands, IsRow, AreFormCells, IsForms, form_names}
use Rattle.nv_types_table.specs.inner.Lists.{AreOnes}
use Rattle.nv_types_table.proofs.Rows.{leaves_row}
use Rattle.nv_types_table.proofs.RowNumbers.{same_field, same_halves, field_both}

-- ---- the tree of a number by its cell
pub stands_field : (s : Store) (i n j : ℕ) → slice_get s.cells i ≡ Some (Field n j) → (t : Row) → Stands s i t → t ≡ one (n, j)
stands_field s i n j at (one p) h =
    let e = same_field p.0 p.1 n j (sym h ∙ at) in
    ap (λ m. one (m, p.1)) e.0 ∙ ap (λ m. one (n, m)) e.1
stands_field s i n j at (both t u) h = absurd (field_both n j h.0 h.1 (sym at ∙ h.2))

pub record AreHalves (s : Store) (j k : ℕ) (t : Row) : Type 0 where
  pub left : Row
  pub right : Row
  pub whole : t ≡ both left right
  pub of_left : Stands s j left
  pub of_right : Stands s k right

pub stands_both : (s : Store) (i j k : ℕ) → slice_get s.cells i ≡ Some (Both j k) → (t : Row) → Stands s i t → AreHalves s j k t
stands_both s i j k at (one p) h = absurd (field_both p.0 p.1 j k (sym h ∙ at))
stands_both s i j k at (both t u) h =
    let e = same_halves h.0 h.1 j k (sym h.2 ∙ at) in
    record { left = t; right = u; whole = refl; of_left = subst (λ n. Stands s n t) e.0 h.3; of_right = subst (λ n. Stands s n u) e.1 h.4 }

-- whether a cell is one of a tree of fields
abbrev pub is_tree_cell : Option Cell → Bool
is_tree_cell (Some (Field n j)) = true
is_tree_cell (Some (Both j k)) = true
is_tree_cell _ = false

stands_tree : (s : Store) (i : ℕ) (t : Row) → Stands s i t → is_tree_cell (slice_get s.cells i) ≡ true
stands_tree s i (one p) h = ap is_tree_cell h
stands_tree s i (both t u) h = ap is_tree_cell h.2

pub stands_other : (s : Store) (i : ℕ) → is_tree_cell (slice_get s.cells i) ≡ false → (t : Row) → Stands s i t → ⊥
stands_other s i other t h = true≢false (sym (stands_tree s i t h) ∙ other)

-- ---- the empty list has its own cell
abbrev pub is_none_cell : Option Cell → Bool
is_none_cell (Some NoFields) = true
is_none_cell _ = false

stands_some : (s : Store) (i : ℕ) (t : Row) → Stands s i t → is_none_cell (slice_get s.cells i) ≡ false
stands_some s i (one p) h = ap is_none_cell h
stands_some s i (both t u) h = ap is_none_cell h.2

some_number : (n : ℕ) → 0 < n → (n == 0) ≡ false
some_number n h = search (tests, rules)

pub empty_row : (s : Store) → IsStore s → (i : ℕ) (ps : List (ℕ × ℕ)) → IsRow s i ps → is_none_cell (slice_get s.cells i) ≡ (length ps == 0)
empty_row s is i [] h = ap (λ n. is_none_cell (slice_get s.cells n)) h ∙ ap is_none_cell is.no_fields
empty_row s is i (p ∷ ps) h = stands_some s i (grown [] p ps) h ∙ sym (some_number (length (p ∷ ps)) (omega arith))

as_many : (s : Store) (ps : List (ℕ × ℕ)) (fs : Forms) → AreFormCells s ps fs → length ps ≡ length (form_names fs)
as_many s [] no_forms h = refl
as_many s [] (form_and x f fs) h = absurd h
as_many s (p ∷ ps) no_forms h = absurd h
as_many s (p ∷ ps) (form_and x f fs) h = ap suc (as_many s ps fs h.2)

pub empty_list : (s : Store) → IsStore s → (i : ℕ) (fs : Forms) → IsForms s i fs → is_none_cell (slice_get s.cells i) ≡ (length (form_names fs) == 0)
empty_list s is i fs h = empty_row s is i h.0 h.1 ∙ ap (λ n. n == 0) (as_many s h.0 fs h.2)

-- ---- by the test whether it is empty, a list has no fields, or a tree of them
abbrev pub IsTest : Store → ℕ → Bool → Type 0
IsTest s i b = (ps : List (ℕ × ℕ)) → IsRow s i ps → b ≡ (length ps == 0)

pub row_ended : (s : Store) (i : ℕ) (b : Bool) → IsTest s i b → b ≡ true → (ps : List (ℕ × ℕ)) → IsRow s i ps → ps ≡ []
row_ended s i b test e [] h = refl
row_ended s i b test e (p ∷ ps) h = absurd (true≢false (sym e ∙ test (p ∷ ps) h ∙ some_number (length (p ∷ ps)) (omega arith)))

pub record IsTree (s : Store) (i : ℕ) (ps : List (ℕ × ℕ)) : Type 0 where
  pub tree : Row
  pub stands : Stands s i tree
  pub fields : leaves tree ≡ ps

pub row_stands : (s : Store) (i : ℕ) (b : Bool) → IsTest s i b → b ≡ false → (ps : List (ℕ × ℕ)) → IsRow s i ps → IsTree s i ps
row_stands s i b test e [] h = absurd (true≢false (sym (test [] h) ∙ e))
row_stands s i b test e (p ∷ ps) h = record { tree = grown [] p ps; stands = h; fields = leaves_row p ps }

-- ---- the lists of one field each of a tree
pub ones_then : (s : Store) (is js : List ℕ) (ps qs : List (ℕ × ℕ)) → AreOnes s is ps → AreOnes s js qs → AreOnes s (is ++ js) (ps ++ qs)
ones_then s [] js [] qs h k = k
ones_then s [] js (p ∷ ps) qs h k = absurd h
ones_then s (i ∷ is) js [] qs h k = absurd h
ones_then s (i ∷ is) js (p ∷ ps) qs h k = (h.0, ones_then s is js ps qs h.1 k)
