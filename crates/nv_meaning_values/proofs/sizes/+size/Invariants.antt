use Rattle.std.proofs.Common.{◌≡◌, ◌+◌, ◌*◌, bytes_eq, min, take}
use Rattle.std.specs.HashMap.{get_by}
use Rattle.std.below.core.specs.declared.int.u64.TheConstants.{MAX}
use Rattle.nv_ast.specs.LayoutView.{layout_tree, field_tree, list_fields, list_layouts}
use Rattle.nv_ast.specs.Height.{layout_height, highest_layout, field_height, highest_field}
use Rattle.nv_ast.specs.Outline.{Layouts, outlines, field_outlines, total_size, total_named_size, longest}
use Rattle.nv_meaning_values.specs.inner.Sizes.{AreSizes}
use Rattle.nv_meaning_values.proofs.sizes.+size.Given as goal

abbrev pub invariant-joined_size-loop-l : goal.invariant-joined_size-loop-l
invariant-joined_size-loop-l l = (known : Layouts) → AreSizes (λ x. get_by (λ key. bytes_eq x key.now) l.places) l.sizes known → l.total ≡ min (total_size (outlines known (list_layouts (take l.l-index l.ls)))) MAX

abbrev pub invariant-parts_size-loop-f : goal.invariant-parts_size-loop-f
invariant-parts_size-loop-f l = (known : Layouts) → AreSizes (λ x. get_by (λ key. bytes_eq x key.now) l.places) l.sizes known → l.total ≡ min (total_named_size (field_outlines known (list_fields (take l.f-index l.fs)))) MAX

abbrev pub invariant-longest-loop-f : goal.invariant-longest-loop-f
invariant-longest-loop-f l = (known : Layouts) → AreSizes (λ x. get_by (λ key. bytes_eq x key.now) l.places) l.sizes known → l.most ≡ min (longest (field_outlines known (list_fields (take l.f-index l.fs)))) MAX

abbrev pub decreases-layout_size : goal.decreases-layout_size
decreases-layout_size l = 3 * layout_height (layout_tree l.l.now)

abbrev pub decreases-joined_size : goal.decreases-joined_size
decreases-joined_size l = 3 * highest_layout (list_layouts l.ls.now) + 2

abbrev pub decreases-parts_size : goal.decreases-parts_size
decreases-parts_size l = 3 * highest_field (list_fields l.fs.now) + 2

abbrev pub decreases-longest : goal.decreases-longest
decreases-longest l = 3 * highest_field (list_fields l.fs.now) + 2

abbrev pub decreases-field_size : goal.decreases-field_size
decreases-field_size l = 3 * field_height (field_tree l.f.now) + 1
