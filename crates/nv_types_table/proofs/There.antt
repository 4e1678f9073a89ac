-- What has a number has a cell there, so as a part it keeps its number.
use Rattle.std.proofs.Common.{◌≡◌, ◌∙◌, ap, sym, subst, ℕ, Some, slice_get}
use Rattle.nv_ast.specs.Types.{Ty, WordTy, BoolTy, TupleTy, RecordTy, Tys, no_tys, ty_and, NamedTys, Form, WordForm, RecordForm, ChoiceForm, Forms}
use Rattle.nv_types_table.specs.declared.table.Cell.{Cell}
use Rattle.nv_types_table.specs.declared.table.Cell.TheVariants.{Word, Bool as BoolCell, NoParts, Tuple, Record, Choice, Part}
use Rattle.nv_types_table.specs.inner.Store.{Store, IsStore, IsType, IsParts, IsFields, IsForm, IsForms, Stands}
use Rattle.nv_types_table.specs.inner.Rows.{Row}
use Rattle.nv_types_table.proofs.RowNumbers.{row_cell, stands_cell}

-- a part as it is put into a cell
abbrev pub IsSame : Store → ℕ → ℕ → Type 0
IsSame s i j = (c : Cell) → slice_get s.cells i ≡ Some c → j ≡ i

pub same_type : (s : Store) → IsStore s → (i j : ℕ) → IsSame s i j → (t : Ty) → IsType s i t → IsType s j t
same_type s is i j e t h = subst (λ n. IsType s n t) (sym (by t h)) h
  where
    by : (u : Ty) → IsType s i u → j ≡ i
    by WordTy k = e Word (ap (slice_get s.cells) k ∙ is.word)
    by BoolTy k = e BoolCell (ap (slice_get s.cells) k ∙ is.bool)
    by (TupleTy ts) k = e (Tuple k.0) k.1
    by (RecordTy ts) k = e (Record k.0) k.1

pub same_parts : (s : Store) → IsStore s → (i j : ℕ) → IsSame s i j → (ts : Tys) → IsParts s i ts → IsParts s j ts
same_parts s is i j e ts h = subst (λ n. IsParts s n ts) (sym (by ts h)) h
  where
    by : (us : Tys) → IsParts s i us → j ≡ i
    by no_tys k = e NoParts (ap (slice_get s.cells) k ∙ is.no_parts)
    by (ty_and t us) k = e (Part k.0 k.1) k.2

pub same_fields : (s : Store) → IsStore s → (i j : ℕ) → IsSame s i j → (ts : NamedTys) → IsFields s i ts → IsFields s j ts
same_fields s is i j e ts h =
    let at = row_cell s is i h.0 h.1 in
    subst (λ n. IsFields s n ts) (sym (e at.0 at.1)) h

pub same_form : (s : Store) → IsStore s → (i j : ℕ) → IsSame s i j → (f : Form) → IsForm s i f → IsForm s j f
same_form s is i j e f h = subst (λ n. IsForm s n f) (sym (by f h)) h
  where
    by : (g : Form) → IsForm s i g → j ≡ i
    by WordForm k = e Word (ap (slice_get s.cells) k ∙ is.word)
    by (RecordForm fs) k = e (Record k.0) k.1
    by (ChoiceForm fs) k = e (Choice k.0) k.1

pub same_forms : (s : Store) → IsStore s → (i j : ℕ) → IsSame s i j → (fs : Forms) → IsForms s i fs → IsForms s j fs
same_forms s is i j e fs h =
    let at = row_cell s is i h.0 h.1 in
    subst (λ n. IsForms s n fs) (sym (e at.0 at.1)) h

pub same_row : (s : Store) → (i j : ℕ) → IsSame s i j → (t : Row) → Stands s i t → Stands s j t
same_row s i j e t h =
    let at = stands_cell s i t h in
    subst (λ n. Stands s n t) (sym (e at.0 at.1)) h
