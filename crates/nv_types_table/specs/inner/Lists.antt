-- Lists of fields as they are made.
use Rattle.std.specs.Prelude.{◌≡◌, ℕ, List, [], ◌∷◌, ◌++◌, Some, slice_get}
use Rattle.nv_ast.specs.Types.{Ty, Form}
use Rattle.nv_types_table.specs.declared.table.Cell.TheVariants.{Field}
use Rattle.nv_types_table.specs.inner.Rows.{Row}
use Rattle.nv_types_table.specs.inner.Store.{Store, Stands, IsType, IsForm}

-- the numbers of lists of one field each
abbrev pub AreOnes : Store → List ℕ → List (ℕ × ℕ) → Type 0
AreOnes s [] [] = Unit {0}
AreOnes s (i ∷ is) (p ∷ ps) = (slice_get s.cells i ≡ Some (Field p.0 p.1)) × AreOnes s is ps
AreOnes s _ _ = ⊥

-- the numbers of some rows, which are given with the last one first
abbrev pub AreStacked : Store → List ℕ → List Row → Type 0
AreStacked s is [] = is ≡ []
AreStacked s is (t ∷ ts) = (front : List ℕ) × (i : ℕ) × (is ≡ front ++ i ∷ []) × Stands s i t × AreStacked s front ts

-- the list of a name and of a type or form that had a number
pub record IsPut (old new : Store) (e : List ℕ × ℕ) (i : ℕ) : Type 0 where
  pub name : ℕ
  pub part : ℕ
  pub of_cell : slice_get new.cells i ≡ Some (Field name part)
  pub of_name : slice_get new.names name ≡ Some e.0
  pub of_type : (t : Ty) → IsType old e.1 t → IsType new part t
  pub of_form : (f : Form) → IsForm old e.1 f → IsForm new part f

abbrev pub ArePut : Store → Store → List (List ℕ × ℕ) → List ℕ → Type 0
ArePut old new [] [] = Unit {0}
ArePut old new (e ∷ es) (i ∷ is) = IsPut old new e i × ArePut old new es is
ArePut old new _ _ = ⊥
