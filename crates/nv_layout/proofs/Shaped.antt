-- What the walk and the last step give of a declared layout.
use Rattle.std.proofs.Common.{◌≡◌, ap, sym, subst, [], All, Result, Ok, Err}
use Rattle.nv_ast.proofs.Faultless.{no_front}
use Rattle.std.specs.Prelude.{IfOk}
use Rattle.nv_ast.specs.Tree.{LayoutTree}
use Rattle.nv_ast.specs.Outline.{Layouts, outline, IsSound}
use Rattle.nv_ast.specs.LayoutFaults.{layout_faults, declared_faults, unfit}
use Rattle.nv_layout.specs.declared.outline.Outline.{Outline}
use Rattle.nv_layout.specs.declared.error.LayoutError.{LayoutError}
use Rattle.nv_layout.specs.OutlineView.{outline_tree}
use Rattle.nv_layout.specs.inner.Shapes.{Shapes}
use Rattle.nv_layout.proofs.Walks.{shapes_behind}
use Rattle.nv_layout.proofs.Sound.{layout_sound}

pub declared : (k : Layouts) (l : LayoutTree) (o : Outline) (r : Result Outline LayoutError) → layout_faults k l ≡ [] → outline_tree o ≡ outline k l → Shapes (unfit (outline_tree o)) (outline_tree o) r → Shapes (declared_faults k l) (outline k l) r
declared k l o r none shape h = shapes_behind (layout_faults k l) (unfit (outline_tree o)) (unfit (outline k l)) (outline_tree o) (outline k l) r none (ap unfit shape) shape h

pub is_sound : (k : Layouts) (l : LayoutTree) (r : Result Outline LayoutError) → All (λ p. IsSound p.1) k → Shapes (declared_faults k l) (outline k l) r → IfOk r (λ o. IsSound (outline_tree o))
is_sound k l (Ok o) s h = subst IsSound (sym h.1) (layout_sound k s l (no_front (layout_faults k l) (unfit (outline k l)) h.0))
is_sound k l (Err e) s h = tt {0}
