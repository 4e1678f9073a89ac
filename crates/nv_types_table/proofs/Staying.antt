-- Numbers stay those of their types as a store grows.
use Rattle.std.proofs.Common.{ℕ, List, [], ◌∷◌, Option, None, Some}
use Rattle.nv_ast.specs.Types.{Ty, WordTy, BoolTy, TupleTy, RecordTy, Tys, no_tys, ty_and, NamedTys, no_named_tys, named_ty_and, Form, WordForm, RecordForm, ChoiceForm, Forms, no_forms, form_and}
use Rattle.nv_types_table.specs.inner.Store.{Store, Extends, IsType, IsParts, IsFields, IsForm, IsForms, IsValue, AreFieldCells, AreFormCells, AreTypes, AreFields, AreForms}
use Rattle.nv_types_table.proofs.RowNumbers.{row_stays}

mutual
  pub type_stays : (a b : Store) → Extends a b → (i : ℕ) (t : Ty) → IsType a i t → IsType b i t
  type_stays a b g i WordTy h = h
  type_stays a b g i BoolTy h = h
  type_stays a b g i (TupleTy ts) h = (h.0, g.cells_stay i _ h.1, parts_stay a b g h.0 ts h.2)
  type_stays a b g i (RecordTy ts) h = (h.0, g.cells_stay i _ h.1, (h.2.0, row_stays a b g h.0 h.2.0 h.2.1, cells_stay a b g h.2.0 ts h.2.2))

  pub parts_stay : (a b : Store) → Extends a b → (i : ℕ) (ts : Tys) → IsParts a i ts → IsParts b i ts
  parts_stay a b g i no_tys h = h
  parts_stay a b g i (ty_and t ts) h = (h.0, h.1, g.cells_stay i _ h.2, type_stays a b g h.0 t h.3, parts_stay a b g h.1 ts h.4)

  pub cells_stay : (a b : Store) → Extends a b → (ps : List (ℕ × ℕ)) (ts : NamedTys) → AreFieldCells a ps ts → AreFieldCells b ps ts
  cells_stay a b g [] no_named_tys h = h
  cells_stay a b g (p ∷ ps) (named_ty_and x t ts) h = (g.names_stay p.0 x h.0, type_stays a b g p.1 t h.1, cells_stay a b g ps ts h.2)
  cells_stay a b g [] (named_ty_and x t ts) h = h
  cells_stay a b g (p ∷ ps) no_named_tys h = h

pub fields_stay : (a b : Store) → Extends a b → (i : ℕ) (ts : NamedTys) → IsFields a i ts → IsFields b i ts
fields_stay a b g i ts h = (h.0, row_stays a b g i h.0 h.1, cells_stay a b g h.0 ts h.2)

mutual
  pub form_stays : (a b : Store) → Extends a b → (i : ℕ) (f : Form) → IsForm a i f → IsForm b i f
  form_stays a b g i WordForm h = h
  form_stays a b g i (RecordForm fs) h = (h.0, g.cells_stay i _ h.1, (h.2.0, row_stays a b g h.0 h.2.0 h.2.1, form_cells_stay a b g h.2.0 fs h.2.2))
  form_stays a b g i (ChoiceForm fs) h = (h.0, g.cells_stay i _ h.1, (h.2.0, row_stays a b g h.0 h.2.0 h.2.1, form_cells_stay a b g h.2.0 fs h.2.2))

  pub form_cells_stay : (a b : Store) → Extends a b → (ps : List (ℕ × ℕ)) (fs : Forms) → AreFormCells a ps fs → AreFormCells b ps fs
  form_cells_stay a b g [] no_forms h = h
  form_cells_stay a b g (p ∷ ps) (form_and x f fs) h = (g.names_stay p.0 x h.0, form_stays a b g p.1 f h.1, form_cells_stay a b g ps fs h.2)
  form_cells_stay a b g [] (form_and x f fs) h = h
  form_cells_stay a b g (p ∷ ps) no_forms h = h

pub forms_stay : (a b : Store) → Extends a b → (i : ℕ) (fs : Forms) → IsForms a i fs → IsForms b i fs
forms_stay a b g i fs h = (h.0, row_stays a b g i h.0 h.1, form_cells_stay a b g h.0 fs h.2)

pub value_stays : (a b : Store) → Extends a b → (i : Option ℕ) (t : Option Ty) → IsValue a i t → IsValue b i t
value_stays a b g None None h = h
value_stays a b g (Some i) (Some t) h = type_stays a b g i t h
value_stays a b g None (Some t) h = h
value_stays a b g (Some i) None h = h

pub types_stay : (a b : Store) → Extends a b → (is : List ℕ) (ts : Tys) → AreTypes a is ts → AreTypes b is ts
types_stay a b g [] no_tys h = h
types_stay a b g (i ∷ is) (ty_and t ts) h = (type_stays a b g i t h.0, types_stay a b g is ts h.1)
types_stay a b g [] (ty_and t ts) h = h
types_stay a b g (i ∷ is) no_tys h = h

pub named_stay : (a b : Store) → Extends a b → (is : List (List ℕ × ℕ)) (ts : NamedTys) → AreFields a is ts → AreFields b is ts
named_stay a b g [] no_named_tys h = h
named_stay a b g (i ∷ is) (named_ty_and x t ts) h = (h.0, type_stays a b g i.1 t h.1, named_stay a b g is ts h.2)
named_stay a b g [] (named_ty_and x t ts) h = h
named_stay a b g (i ∷ is) no_named_tys h = h

pub named_forms_stay : (a b : Store) → Extends a b → (is : List (List ℕ × ℕ)) (fs : Forms) → AreForms a is fs → AreForms b is fs
named_forms_stay a b g [] no_forms h = h
named_forms_stay a b g (i ∷ is) (form_and x f fs) h = (h.0, form_stays a b g i.1 f h.1, named_forms_stay a b g is fs h.2)
named_forms_stay a b g [] (form_and x f fs) h = h
named_forms_stay a b g (i ∷ is) no_forms h = h
