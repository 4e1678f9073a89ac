-- Fields by the numbers of their names and types, or forms: those of two lists one after the other.
use Rattle.std.proofs.Common.{◌≡◌, refl, ap, ℕ, List, [], ◌∷◌, ◌++◌}
use Rattle.nv_ast.specs.Types.{NamedTys, no_named_tys, named_ty_and, Forms, no_forms, form_and, ◌+++◌}
use Rattle.nv_types_table.specs.inner.Store.{Store, AreFieldCells, AreFormCells, AreNames, field_names, form_names, fields_then}

pub cells_then : (s : Store) (ps qs : List (ℕ × ℕ)) (ts us : NamedTys) → AreFieldCells s ps ts → AreFieldCells s qs us → AreFieldCells s (ps ++ qs) (fields_then ts us)
cells_then s [] qs no_named_tys us h k = k
cells_then s [] qs (named_ty_and x t ts) us h k = absurd h
cells_then s (p ∷ ps) qs no_named_tys us h k = absurd h
cells_then s (p ∷ ps) qs (named_ty_and x t ts) us h k = (h.0, h.1, cells_then s ps qs ts us h.2 k)

pub form_cells_then : (s : Store) (ps qs : List (ℕ × ℕ)) (fs gs : Forms) → AreFormCells s ps fs → AreFormCells s qs gs → AreFormCells s (ps ++ qs) (fs +++ gs)
form_cells_then s [] qs no_forms gs h k = k
form_cells_then s [] qs (form_and x f fs) gs h k = absurd h
form_cells_then s (p ∷ ps) qs no_forms gs h k = absurd h
form_cells_then s (p ∷ ps) qs (form_and x f fs) gs h k = (h.0, h.1, form_cells_then s ps qs fs gs h.2 k)

-- ---- by their names
pub names_split : (s : Store) (ps qs : List (ℕ × ℕ)) (xs : List (List ℕ)) → AreNames s (ps ++ qs) xs → (ys zs : List (List ℕ)) × (xs ≡ ys ++ zs) × AreNames s ps ys × AreNames s qs zs
names_split s [] qs xs h = ([], xs, refl, tt, h)
names_split s (p ∷ ps) qs [] h = absurd h
names_split s (p ∷ ps) qs (x ∷ xs) h =
    let v = names_split s ps qs xs h.1 in
    (x ∷ v.0, v.1, ap (λ l. x ∷ l) v.2, (h.0, v.3), v.4)

pub cells_names : (s : Store) (ps : List (ℕ × ℕ)) (ts : NamedTys) → AreFieldCells s ps ts → AreNames s ps (field_names ts)
cells_names s [] no_named_tys h = tt
cells_names s [] (named_ty_and x t ts) h = absurd h
cells_names s (p ∷ ps) no_named_tys h = absurd h
cells_names s (p ∷ ps) (named_ty_and x t ts) h = (h.0, cells_names s ps ts h.2)

pub form_cells_names : (s : Store) (ps : List (ℕ × ℕ)) (fs : Forms) → AreFormCells s ps fs → AreNames s ps (form_names fs)
form_cells_names s [] no_forms h = tt
form_cells_names s [] (form_and x f fs) h = absurd h
form_cells_names s (p ∷ ps) no_forms h = absurd h
form_cells_names s (p ∷ ps) (form_and x f fs) h = (h.0, form_cells_names s ps fs h.2)
