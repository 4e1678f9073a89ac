-- The sizes of layouts in bits, where each is at most the greatest number of 64 bits.
use Rattle.std.specs.Prelude.{◌≡◌, ℕ, List, Option, Some, None, map, min, slice_index}
use Rattle.std.below.core.specs.declared.int.u64.TheConstants.{MAX}
use Rattle.nv_ast.specs.Tree.{NamedLayout}
use Rattle.nv_ast.specs.Outline.{Layouts, outline, size}

-- of each layout
abbrev pub sizes_of : Layouts → List ℕ
sizes_of known = map (λ l. min (size l.1) MAX) known

-- the size that stands at a place, 0 where none does
abbrev pub size_at : List ℕ → Option ℕ → ℕ
size_at sizes None = 0
size_at sizes (Some i) = slice_index sizes i

-- the size at the place of each name is that of the layout of this name
abbrev pub AreSizes : (List ℕ → Option ℕ) → List ℕ → Layouts → Type 0
AreSizes places sizes known = (x : List ℕ) → size_at sizes (places x) ≡ min (size (outline known (NamedLayout x))) MAX
