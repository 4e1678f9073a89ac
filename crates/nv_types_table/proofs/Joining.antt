-- The fields of one list put before those of another.
use Rattle.std.proofs.Common.{◌≡◌, ◌∙◌, sym, subst, ℕ, List, [], ◌∷◌, ◌++◌, ◌==◌, length, true, false, true≢false, Result, Ok, Err}
use Rattle.std.proofs.Math.Dec.{eqb-suc-zero}
use Rattle.std.specs.Result.{IfOk, OnOk}
use Rattle.nv_base.specs.declared.error.NoMemory.{NoMemory}
use Rattle.nv_ast.specs.Types.{NamedTys, Forms, no_named_tys, named_ty_and, no_forms, form_and, ◌+++◌}
use Rattle.nv_types_table.specs.inner.Rows.{Row, one, hung, grown}
use Rattle.nv_types_table.specs.inner.Store.{Store, Extends, Stands, IsRow, IsFields, IsForms, AreFieldCells, AreFormCells, fields_then}
use Rattle.nv_types_table.specs.inner.Lists.{AreOnes, AreStacked}
use Rattle.nv_types_table.proofs.Rows.{grown_edge}
use Rattle.nv_types_table.proofs.Staying.{cells_stay, form_cells_stay}
use Rattle.nv_types_table.proofs.FieldCells.{cells_then, form_cells_then}

-- ---- after the empty list
pub fields_after : (s : Store) (i j : ℕ) → ((ps : List (ℕ × ℕ)) → IsRow s i ps → true ≡ (length ps == 0)) → (ts us : NamedTys) → IsFields s i ts → IsFields s j us → IsFields s j (fields_then ts us)
fields_after s i j none ts us h k = by h.0 (none h.0 h.1) ts h.2
  where
    by : (ps : List (ℕ × ℕ)) → true ≡ (length ps == 0) → (vs : NamedTys) → AreFieldCells s ps vs → IsFields s j (fields_then vs us)
    by [] e no_named_tys cells = k
    by [] e (named_ty_and x t vs) cells = absurd cells
    by (p ∷ ps) e vs cells = absurd (true≢false (e ∙ eqb-suc-zero (length ps)))

pub forms_after : (s : Store) (i j : ℕ) → ((ps : List (ℕ × ℕ)) → IsRow s i ps → true ≡ (length ps == 0)) → (fs gs : Forms) → IsForms s i fs → IsForms s j gs → IsForms s j (fs +++ gs)
forms_after s i j none fs gs h k = by h.0 (none h.0 h.1) fs h.2
  where
    by : (ps : List (ℕ × ℕ)) → true ≡ (length ps == 0) → (hs : Forms) → AreFormCells s ps hs → IsForms s j (hs +++ gs)
    by [] e no_forms cells = k
    by [] e (form_and x f hs) cells = absurd cells
    by (p ∷ ps) e hs cells = absurd (true≢false (e ∙ eqb-suc-zero (length ps)))

-- ---- after a tree: the rows along its right edge, and its last field
abbrev pub JoinsRows : Store → Store → ℕ → ℕ → Result ℕ NoMemory → Type 0
JoinsRows a b first second r = (ps qs : List (ℕ × ℕ)) → IsRow a first ps → IsRow a second qs → IfOk r (λ i. IsRow b i (ps ++ qs))

pub joined_rows : (a b : Store) (first second last : ℕ) (r : Result ℕ NoMemory) (rows behind seen : List ℕ) → ((ps : List (ℕ × ℕ)) → IsRow a first ps → false ≡ (length ps == 0)) → seen ≡ behind
    → ((qs : List (ℕ × ℕ)) → IsRow a second qs → AreOnes a behind qs)
    → ((ts : List Row) (p : ℕ × ℕ) → Stands a first (hung ts (one p)) → AreStacked a rows ts × Stands a last (one p))
    → ((ts : List Row) (p : ℕ × ℕ) (ps : List (ℕ × ℕ)) → AreStacked a rows ts → Stands a last (one p) → AreOnes a seen ps → IfOk r (λ i. Stands b i (grown ts p ps)))
    → JoinsRows a b first second r
joined_rows a b first second last r rows behind seen some e ones edge grow [] qs h k = absurd (true≢false (sym (some [] h)))
joined_rows a b first second last r rows behind seen some e ones edge grow (p ∷ ps) qs h k =
    let g = grown_edge [] p ps in
    let at = edge g.rows g.last (subst (Stands a first) g.whole h) in
    subst (λ t. IfOk r (λ i. Stands b i t)) (sym (g.behind qs)) (grow g.rows g.last qs at.0 at.1 (subst (λ (l : List ℕ). AreOnes a l qs) (sym e) (ones qs k)))

pub joined_fields : (a b : Store) (first second : ℕ) (r : Result ℕ NoMemory) → OnOk r (Extends a b) → JoinsRows a b first second r → (ts us : NamedTys) → IsFields a first ts → IsFields a second us → IfOk r (λ i. IsFields b i (fields_then ts us))
joined_fields a b first second (Ok i) grows rows ts us h k =
    (h.0 ++ k.0, rows h.0 k.0 h.1 k.1, cells_then b h.0 k.0 ts us (cells_stay a b grows h.0 ts h.2) (cells_stay a b grows k.0 us k.2))
joined_fields a b first second (Err e) grows rows ts us h k = tt

pub joined_forms : (a b : Store) (first second : ℕ) (r : Result ℕ NoMemory) → OnOk r (Extends a b) → JoinsRows a b first second r → (fs gs : Forms) → IsForms a first fs → IsForms a second gs → IfOk r (λ i. IsForms b i (fs +++ gs))
joined_forms a b first second (Ok i) grows rows fs gs h k =
    (h.0 ++ k.0, rows h.0 k.0 h.1 k.1, form_cells_then b h.0 k.0 fs gs (form_cells_stay a b grows h.0 fs h.2) (form_cells_stay a b grows k.0 gs k.2))
joined_forms a b first second (Err e) grows rows fs gs h k = tt
