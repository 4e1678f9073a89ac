-- What typing asks of layouts, by numbers.
use Rattle.std.specs.Prelude.{◌≡◌, ℕ, ◌≤◌, List, [], ◌∷◌, length}
use Rattle.nv_ast.specs.Outline.{OutlineTree, OutlineTrees, no_outlines, outline_and, NamedOutlines, no_named_outlines, named_outline_and, size, total_size, outline_height, highest_outline, bit_fields, joined_fields}
use Rattle.nv_ast.specs.Types.{RecordForm, form_of, record_forms, joined_forms, unpacked, unpacked_all}
use Rattle.nv_types_table.specs.declared.shapes.Shape.{Shape}
use Rattle.nv_types_table.specs.declared.shapes.Member.{Member}
use Rattle.nv_types_table.specs.inner.Cells.{still}
use Rattle.nv_types_table.specs.inner.Store.{Store, IsType, IsFields, IsForm, IsForms}

-- a layout's
pub record IsShape (s : Store) (shape : Shape) (o : OutlineTree) : Type 0 where
  pub of_bits : shape.bits ≡ still (size o)
  pub of_fields : shape.fields ≡ still (length (bit_fields 0 o))
  pub of_height : shape.height ≡ still (outline_height o)
  pub a_record : form_of o ≡ RecordForm (record_forms o)
  pub of_forms : IsForms s shape.forms (record_forms o)
  pub of_types : IsFields s shape.types (unpacked_all (record_forms o))

-- a declared one's
pub record IsDeclared (s : Store) (shape : Shape) (o : OutlineTree) : Type 0 where
  pub shaped : IsShape s shape o
  pub short : size o ≤ 1024

-- what layouts one after another have together
pub record IsJoined (s : Store) (shape : Shape) (os : OutlineTrees) : Type 0 where
  pub of_bits : shape.bits ≡ still (total_size os)
  pub of_fields : shape.fields ≡ still (length (joined_fields 0 os))
  pub of_height : shape.height ≡ still (highest_outline os)
  pub of_forms : IsForms s shape.forms (joined_forms os)
  pub of_types : IsFields s shape.types (unpacked_all (joined_forms os))

-- a field's, which by itself is never over 1,024 bits
pub record IsMember (s : Store) (m : Member) (o : OutlineTree) : Type 0 where
  pub of_bits : m.bits ≡ still (size o)
  pub of_fields : m.fields ≡ still (length (bit_fields 0 o))
  pub of_height : m.height ≡ still (outline_height o)
  pub of_form : IsForm s m.form (form_of o)
  pub of_type : IsType s m.unpacked (unpacked (form_of o))
  pub short : size o ≤ 1024

abbrev pub AreShapes : Store → List Shape → OutlineTrees → Type 0
AreShapes s [] no_outlines = Unit {0}
AreShapes s (m ∷ ms) (outline_and o os) = IsShape s m o × AreShapes s ms os
AreShapes s _ _ = ⊥

abbrev pub AreMembers : Store → List (List ℕ × Member) → NamedOutlines → Type 0
AreMembers s [] no_named_outlines = Unit {0}
AreMembers s (m ∷ ms) (named_outline_and x o os) = (m.0 ≡ x) × IsMember s m.1 o × AreMembers s ms os
AreMembers s _ _ = ⊥
