-- The form of a layout is a record.
use Rattle.std.proofs.Common.{◌≡◌, refl, ℕ, zero, suc, Bool, true, false, List, [], ◌∷◌, ◌++◌, take, bytes_eq, if◌then◌else◌}
use Rattle.nv_ast.specs.Tests.{value_at as found_at}
use Rattle.nv_ast.specs.Tree.{LayoutTree, NamedLayout, GapLayout, PartsLayout, JoinedLayout}
use Rattle.nv_ast.specs.Outline.{Layouts, OutlineTree, PartsOutline, no_named_outlines, outline}
use Rattle.nv_ast.specs.Types.{RecordTy, form_of, record_forms, unpacked, unpacked_all}
use Rattle.nv_meaning_values.specs.inner.Tables.{laid}

abbrev pub HasRecord : OutlineTree → Type 0
HasRecord o = unpacked (form_of o) ≡ RecordTy (unpacked_all (record_forms o))

abbrev HaveRecords : Layouts → Type 0
HaveRecords [] = Unit {0}
HaveRecords ((x, o) ∷ known) = HasRecord o × HaveRecords known

either-record : (b : Bool) (o p : OutlineTree) → HasRecord o → HasRecord p → HasRecord (if b then o else p)
either-record true o p f g = f
either-record false o p f g = g

known-record : (known : Layouts) (x : List ℕ) → HaveRecords known → HasRecord (found_at (PartsOutline no_named_outlines) x known)
known-record [] x h = refl
known-record ((y, o) ∷ known) x h = either-record (bytes_eq x y) o (found_at (PartsOutline no_named_outlines) x known) h.0 (known-record known x h.1)

outline-record : (known : Layouts) (l : LayoutTree) → HaveRecords known → HasRecord (outline known l)
outline-record known (NamedLayout x) h = known-record known x h
outline-record known (GapLayout n) h = refl
outline-record known (PartsLayout fs) h = refl
outline-record known (JoinedLayout ls) h = refl

records-more : (known : Layouts) (x : List ℕ) (o : OutlineTree) → HaveRecords known → HasRecord o → HaveRecords (known ++ (x, o) ∷ [])
records-more [] x o h r = (r, tt {0})
records-more ((y, p) ∷ known) x o h r = (h.0, records-more known x o h.1 r)

laid-records : (known : Layouts) (ls : List (List ℕ × LayoutTree)) → HaveRecords known → HaveRecords (laid known ls)
laid-records known [] h = h
laid-records known (l ∷ ls) h = laid-records (known ++ (l.0, outline known l.1) ∷ []) ls (records-more known l.0 (outline known l.1) h (outline-record known l.1 h))

first-records : (n : ℕ) (known : Layouts) → HaveRecords known → HaveRecords (take n known)
first-records zero known h = tt {0}
first-records (suc n) [] h = tt {0}
first-records (suc n) ((x, o) ∷ known) h = (h.0, first-records n known h.1)

pub layout-form : (ls : List (List ℕ × LayoutTree)) (n : ℕ) (l : LayoutTree) → HasRecord (outline (take n (laid [] ls)) l)
layout-form ls n l = outline-record (take n (laid [] ls)) l (first-records n (laid [] ls) (laid-records [] ls (tt {0})))
