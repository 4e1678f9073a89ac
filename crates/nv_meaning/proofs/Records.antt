-- What a layout unpacks to is a record.
use Rattle.std.proofs.Common.{◌≡◌, refl, ℕ, zero, suc, Bool, true, false, List, [], ◌∷◌, ◌++◌, take, bytes_eq, if◌then◌else◌}
use Rattle.nv_ast.specs.Tests.{value_at as found_at}
use Rattle.nv_ast.specs.Tree.{LayoutTree, NamedLayout, GapLayout, PartsLayout, JoinedLayout}
use Rattle.nv_ast.specs.Outline.{Layouts, OutlineTree, PartsOutline, no_named_outlines, outline}
use Rattle.nv_meaning_values.specs.Values.{Record, fields_of}
use Rattle.nv_meaning_values.specs.Packing.{value_at}
use Rattle.nv_meaning_values.specs.inner.Tables.{laid}

abbrev pub IsRecord : OutlineTree → Type 0
IsRecord o = (bs : List ℕ) → value_at o bs ≡ Record (fields_of (value_at o bs))

abbrev AreRecords : Layouts → Type 0
AreRecords [] = Unit {0}
AreRecords ((x, o) ∷ known) = IsRecord o × AreRecords known

either-record : (b : Bool) (o p : OutlineTree) → IsRecord o → IsRecord p → IsRecord (if b then o else p)
either-record true o p f g = f
either-record false o p f g = g

known-record : (known : Layouts) (x : List ℕ) → AreRecords known → IsRecord (found_at (PartsOutline no_named_outlines) x known)
known-record [] x h = λ bs. refl
known-record ((y, o) ∷ known) x h = either-record (bytes_eq x y) o (found_at (PartsOutline no_named_outlines) x known) h.0 (known-record known x h.1)

outline-record : (known : Layouts) (l : LayoutTree) → AreRecords known → IsRecord (outline known l)
outline-record known (NamedLayout x) h = known-record known x h
outline-record known (GapLayout n) h = λ bs. refl
outline-record known (PartsLayout fs) h = λ bs. refl
outline-record known (JoinedLayout ls) h = λ bs. refl

records-more : (known : Layouts) (x : List ℕ) (o : OutlineTree) → AreRecords known → IsRecord o → AreRecords (known ++ (x, o) ∷ [])
records-more [] x o h r = (r, tt {0})
records-more ((y, p) ∷ known) x o h r = (h.0, records-more known x o h.1 r)

laid-records : (known : Layouts) (ls : List (List ℕ × LayoutTree)) → AreRecords known → AreRecords (laid known ls)
laid-records known [] h = h
laid-records known (l ∷ ls) h = laid-records (known ++ (l.0, outline known l.1) ∷ []) ls (records-more known l.0 (outline known l.1) h (outline-record known l.1 h))

first-records : (n : ℕ) (known : Layouts) → AreRecords known → AreRecords (take n known)
first-records zero known h = tt {0}
first-records (suc n) [] h = tt {0}
first-records (suc n) ((x, o) ∷ known) h = (h.0, first-records n known h.1)

pub layout-record : (ls : List (List ℕ × LayoutTree)) (n : ℕ) (l : LayoutTree) → IsRecord (outline (take n (laid [] ls)) l)
layout-record ls n l = outline-record (take n (laid [] ls)) l (first-records n (laid [] ls) (laid-records [] ls (tt {0})))
