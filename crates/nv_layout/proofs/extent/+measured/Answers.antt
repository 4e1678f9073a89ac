use Rattle.std.proofs.Common.{◌<◌, length, arith}
use Rattle.nv_layout.proofs.Lists.{total_named_more, longest_more}
use Rattle.nv_layout.proofs.extent.+measured.Goals as goal

pub measured_longest-loop-f-preserved : goal.measured_longest-loop-f-preserved
measured_longest-loop-f-preserved t c =
    let h : c.loop-f.f-index < length c.args.fs.now = omega arith in
    omega (arith, c.loop-f.invariant, longest_more c.args.fs.now c.loop-f.f-index c.f-item.result h c.f-item.is, c.measured.ensures, c.max-most.ensures)

pub measured_parts-loop-f-preserved : goal.measured_parts-loop-f-preserved
measured_parts-loop-f-preserved t c =
    let h : c.loop-f.f-index < length c.args.fs.now = omega arith in
    omega (arith, c.loop-f.invariant, total_named_more c.args.fs.now c.loop-f.f-index c.f-item.result h c.f-item.is, c.measured.ensures, c.saturating_add-total.ensures)
