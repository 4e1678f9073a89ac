-- What a walk over a layout text answers.
use Rattle.std.specs.Prelude.{◌≡◌, ℕ, ◌<◌, ◌≤◌, List, [], length, Result, Ok, Err, Vec}
use Rattle.std.specs.declared.alloc.Global.{Global}
use Rattle.nv_ast.specs.Outline.{OutlineTree, NamedOutlines, OutlineTrees, record_of, size, outline_height}
use Rattle.nv_layout.specs.declared.outline.Outline.{Outline}
use Rattle.nv_layout.specs.declared.error.LayoutError.{LayoutError}
use Rattle.nv_layout.specs.OutlineView.{outline_tree, list_named_outlines, list_outlines}
use Rattle.nv_layout.specs.Shaping.{IsFirstOf}

-- the outline where there is no fault, else the first fault
abbrev pub Shapes : List ℕ → OutlineTree → Result Outline LayoutError → Type 0
Shapes faults t (Ok o) = (faults ≡ []) × (outline_tree o ≡ t)
Shapes faults t (Err e) = IsFirstOf faults e

-- the same of fields in order
abbrev pub ShapesFields : List ℕ → NamedOutlines → Result (Vec (List ℕ × Outline) Global) LayoutError → Type 0
ShapesFields faults ts (Ok os) = (faults ≡ []) × (list_named_outlines os.items ≡ ts)
ShapesFields faults ts (Err e) = IsFirstOf faults e

-- the same of layouts in order
abbrev pub ShapesAll : List ℕ → OutlineTrees → Result (Vec Outline Global) LayoutError → Type 0
ShapesAll faults ts (Ok os) = (faults ≡ []) × (list_outlines os.items ≡ ts)
ShapesAll faults ts (Err e) = IsFirstOf faults e

-- a layout that may be declared: with a field, of at most 1,024 bits and at most 100 high
pub record IsFit (o : OutlineTree) : Type 0 where
  pub some : 0 < length (record_of o)
  pub short : size o ≤ 1024
  pub low : outline_height o ≤ 100
