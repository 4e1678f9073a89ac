use Rattle.std.proofs.lemmas.Result.{err_from_is_err_and}
use Rattle.nv_ast.specs.LayoutView.{layout_tree}
use Rattle.nv_ast.specs.Outline.{outline}
use Rattle.nv_ast.specs.LayoutFaults.{layout_faults, unfit}
use Rattle.nv_layout.specs.OutlineView.{layouts_of}
use Rattle.nv_layout.proofs.Walks.{first_append}
use Rattle.nv_layout.proofs.Shaped.{declared, is_sound}
use Rattle.nv_layout.proofs.walk.shape.Goals as goal

pub returns-in_err-layout_outline-clause-first_fault : goal.returns-in_err-layout_outline-clause-first_fault
returns-in_err-layout_outline-clause-first_fault c =
    let p = err_from_is_err_and c.from_residual.result c.from_residual.ensures.1 in
    rw (p.1, p.2) (first_append (layout_faults (layouts_of c.args.known.now) (layout_tree c.args.l.now)) (unfit (outline (layouts_of c.args.known.now) (layout_tree c.args.l.now))) c.in_err-layout_outline.field-0.0 c.in_err-layout_outline.ensures)

pub returns-clause-sound : goal.returns-clause-sound
returns-clause-sound c =
    let k = layouts_of c.args.known.now in
    let l = layout_tree c.args.l.now in
    let o = c.in_ok-layout_outline in
    is_sound k l c.fitting.result c.requires (declared k l o.field-0 c.fitting.result o.ensures.0 o.ensures.1 c.fitting.ensures)
