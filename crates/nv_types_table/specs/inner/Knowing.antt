-- What is known of a type or a list of types by its number.
use Rattle.std.specs.Prelude.{◌≡◌, ℕ, true, List, All}
use Rattle.nv_ast.specs.Types.{Ty, Tys, NamedTys, words, total_words, total_named_words, ty_height, highest_ty, highest_named_ty, has_bool, some_bool, some_named_bool, Form, can_pack}
use Rattle.nv_ast.specs.Faults.{words_alone}
use Rattle.nv_types_table.specs.declared.table.Facts.{Facts}
use Rattle.nv_types_table.specs.inner.Cells.{still, fact_at, IsTable}
use Rattle.nv_types_table.specs.inner.Store.{Store, IsType, IsForm}

pub record IsKnown (f : Facts) (t : Ty) : Type 0 where
  pub of_words : f.words ≡ still (words t)
  pub of_height : f.height ≡ still (ty_height t)
  pub of_bool : f.has_bool ≡ has_bool t

pub record AreKnown (f : Facts) (ts : Tys) : Type 0 where
  pub of_words : f.words ≡ still (total_words ts)
  pub of_height : f.height ≡ still (highest_ty ts)
  pub of_bool : f.has_bool ≡ some_bool ts
  pub of_alone : f.words_alone ≡ words_alone ts

pub record KnowsFields (f : Facts) (ts : NamedTys) : Type 0 where
  pub of_words : f.words ≡ still (total_named_words ts)
  pub of_height : f.height ≡ still (highest_named_ty ts)
  pub of_bool : f.has_bool ≡ some_named_bool ts

-- what the cells determine of a number: of a cell what follows from its parts, and nothing where there is no cell
pub record IsFactOf (s : Store) (i : ℕ) (f : Facts) : Type 0 where
  pub facts : List Facts
  pub of_cells : IsTable s.names s.cells facts
  pub here : f ≡ fact_at facts i

-- pairs of a form and a type whose values it packs
abbrev pub ArePacked : Store → List (ℕ × ℕ) → Type 0
ArePacked s = All (λ p. (f : Form) (u : Ty) → IsForm s p.0 f → IsType s p.1 u → can_pack f u ≡ true)
