-- Types by number. A store has names and cells; a type's number is that of its cell.
use Rattle.std.specs.Prelude.{◌≡◌, ℕ, ◌+◌, ◌==◌, false, List, [], ◌∷◌, Option, None, Some, slice_get}
use Rattle.std.specs.List.{list_any}
use Rattle.nv_ast.specs.Tests.{is_among, has_twice}
use Rattle.nv_types_table.specs.declared.table.Cell.{Cell}
use Rattle.nv_types_table.specs.declared.table.Cell.TheVariants.{Word, Bool as BoolCell, NoParts, NoFields, Tuple, Record, Choice, Part, Field, Both}
use Rattle.nv_types_table.specs.inner.Cells.{AreBelow}
use Rattle.nv_types_table.specs.inner.Rows.{Row, one, both, grown}
use Rattle.nv_ast.specs.Types.{Ty, WordTy, BoolTy, TupleTy, RecordTy, Tys, no_tys, ty_and, NamedTys, no_named_tys, named_ty_and, Form, WordForm, RecordForm, ChoiceForm, Forms, no_forms, form_and}

pub record Store : Type 0 where
  pub names : List (List ℕ)
  pub cells : List Cell

-- what is there stays there under its number
pub record Extends (old new : Store) : Type 0 where
  pub names_stay : (i : ℕ) (x : List ℕ) → slice_get old.names i ≡ Some x → slice_get new.names i ≡ Some x
  pub cells_stay : (i : ℕ) (c : Cell) → slice_get old.cells i ≡ Some c → slice_get new.cells i ≡ Some c

-- ---- the number of a tree of fields, and that of the list of some fields, whose tree they determine
abbrev pub Stands : Store → ℕ → Row → Type 0
Stands s i (one p) = slice_get s.cells i ≡ Some (Field p.0 p.1)
Stands s i (both t u) = (j : ℕ) × (k : ℕ) × (slice_get s.cells i ≡ Some (Both j k)) × Stands s j t × Stands s k u

abbrev pub IsRow : Store → ℕ → List (ℕ × ℕ) → Type 0
IsRow s i [] = i ≡ 3
IsRow s i (p ∷ ps) = Stands s i (grown [] p ps)

-- ---- the number of a type, and of a list of types or of named types
abbrev mutual
  pub IsType : Store → ℕ → Ty → Type 0
  IsType s i WordTy = i ≡ 0
  IsType s i BoolTy = i ≡ 1
  IsType s i (TupleTy ts) = (j : ℕ) × (slice_get s.cells i ≡ Some (Tuple j)) × IsParts s j ts
  IsType s i (RecordTy ts) = (j : ℕ) × (slice_get s.cells i ≡ Some (Record j)) × ((ps : List (ℕ × ℕ)) × IsRow s j ps × AreFieldCells s ps ts)

  pub IsParts : Store → ℕ → Tys → Type 0
  IsParts s i no_tys = i ≡ 2
  IsParts s i (ty_and t ts) = (j : ℕ) × (rest : ℕ) × (slice_get s.cells i ≡ Some (Part j rest)) × IsType s j t × IsParts s rest ts

  -- fields by the numbers of their names and types
  pub AreFieldCells : Store → List (ℕ × ℕ) → NamedTys → Type 0
  AreFieldCells s [] no_named_tys = Unit {0}
  AreFieldCells s (p ∷ ps) (named_ty_and x t ts) = (slice_get s.names p.0 ≡ Some x) × IsType s p.1 t × AreFieldCells s ps ts
  AreFieldCells s _ _ = ⊥

abbrev pub IsFields : Store → ℕ → NamedTys → Type 0
IsFields s i ts = (ps : List (ℕ × ℕ)) × IsRow s i ps × AreFieldCells s ps ts

-- ---- the same of a form
abbrev mutual
  pub IsForm : Store → ℕ → Form → Type 0
  IsForm s i WordForm = i ≡ 0
  IsForm s i (RecordForm fs) = (j : ℕ) × (slice_get s.cells i ≡ Some (Record j)) × ((ps : List (ℕ × ℕ)) × IsRow s j ps × AreFormCells s ps fs)
  IsForm s i (ChoiceForm fs) = (j : ℕ) × (slice_get s.cells i ≡ Some (Choice j)) × ((ps : List (ℕ × ℕ)) × IsRow s j ps × AreFormCells s ps fs)

  pub AreFormCells : Store → List (ℕ × ℕ) → Forms → Type 0
  AreFormCells s [] no_forms = Unit {0}
  AreFormCells s (p ∷ ps) (form_and x f fs) = (slice_get s.names p.0 ≡ Some x) × IsForm s p.1 f × AreFormCells s ps fs
  AreFormCells s _ _ = ⊥

abbrev pub IsForms : Store → ℕ → Forms → Type 0
IsForms s i fs = (ps : List (ℕ × ℕ)) × IsRow s i ps × AreFormCells s ps fs

-- of an expression's value, if it has one
abbrev pub IsValue : Store → Option ℕ → Option Ty → Type 0
IsValue s None None = Unit {0}
IsValue s (Some i) (Some t) = IsType s i t
IsValue s _ _ = ⊥

-- ---- lists of numbers
abbrev pub AreTypes : Store → List ℕ → Tys → Type 0
AreTypes s [] no_tys = Unit {0}
AreTypes s (i ∷ is) (ty_and t ts) = IsType s i t × AreTypes s is ts
AreTypes s _ _ = ⊥

abbrev pub AreFields : Store → List (List ℕ × ℕ) → NamedTys → Type 0
AreFields s [] no_named_tys = Unit {0}
AreFields s (i ∷ is) (named_ty_and x t ts) = (i.0 ≡ x) × IsType s i.1 t × AreFields s is ts
AreFields s _ _ = ⊥

abbrev pub AreForms : Store → List (List ℕ × ℕ) → Forms → Type 0
AreForms s [] no_forms = Unit {0}
AreForms s (i ∷ is) (form_and x f fs) = (i.0 ≡ x) × IsForm s i.1 f × AreForms s is fs
AreForms s _ _ = ⊥

-- ---- small measures
abbrev pub count_tys : Tys → ℕ
count_tys no_tys = 0
count_tys (ty_and t ts) = count_tys ts + 1

abbrev pub form_names : Forms → List (List ℕ)
form_names no_forms = []
form_names (form_and x f fs) = x ∷ form_names fs

abbrev pub field_names : NamedTys → List (List ℕ)
field_names no_named_tys = []
field_names (named_ty_and x t ts) = x ∷ field_names ts

-- the fields of one record and then those of another
abbrev pub fields_then : NamedTys → NamedTys → NamedTys
fields_then no_named_tys us = us
fields_then (named_ty_and x t ts) us = named_ty_and x t (fields_then ts us)

-- fields by their names
abbrev pub AreNames : Store → List (ℕ × ℕ) → List (List ℕ) → Type 0
AreNames s [] [] = Unit {0}
AreNames s (p ∷ ps) (x ∷ xs) = (slice_get s.names p.0 ≡ Some x) × AreNames s ps xs
AreNames s _ _ = ⊥

-- a list of fields by its names
abbrev pub AreNamed : Store → ℕ → List (List ℕ) → Type 0
AreNamed s i xs = (ps : List (ℕ × ℕ)) × IsRow s i ps × AreNames s ps xs

-- names that were seen by their numbers, each once
pub record AreSeen (s : Store) (seen : List ℕ) (xs : List (List ℕ)) : Type 0 where
  pub once : has_twice xs ≡ false
  pub each : (n : ℕ) (x : List ℕ) → slice_get s.names n ≡ Some x → list_any (λ m. n == m) seen ≡ is_among x xs

-- ---- what a cell is
abbrev pub tuple_of : Option Cell → Option ℕ
tuple_of (Some (Tuple parts)) = Some parts
tuple_of _ = None

abbrev pub record_in : Option Cell → Option ℕ
record_in (Some (Record fields)) = Some fields
record_in _ = None

abbrev pub part_of : Option Cell → Option (ℕ × ℕ)
part_of (Some (Part t rest)) = Some (t, rest)
part_of _ = None

abbrev pub halves_of : Option Cell → Option (ℕ × ℕ)
halves_of (Some (Both left right)) = Some (left, right)
halves_of _ = None

-- the store of a table: its first cells, the parts of each below it, and each cell and name once
pub record IsStore (s : Store) : Type 0 where
  pub word : slice_get s.cells 0 ≡ Some Word
  pub bool : slice_get s.cells 1 ≡ Some BoolCell
  pub no_parts : slice_get s.cells 2 ≡ Some NoParts
  pub no_fields : slice_get s.cells 3 ≡ Some NoFields
  pub below : (i : ℕ) (c : Cell) → slice_get s.cells i ≡ Some c → AreBelow i c
  pub once : (i j : ℕ) (c : Cell) → slice_get s.cells i ≡ Some c → slice_get s.cells j ≡ Some c → i ≡ j
  pub one_name : (i j : ℕ) (x : List ℕ) → slice_get s.names i ≡ Some x → slice_get s.names j ≡ Some x → i ≡ j
