use Rattle.std.proofs.Common.{◌<◌, length, arith}
use Rattle.nv_ast.proofs.Items.{added_step}
use Rattle.nv_layout.proofs.Lists.{record_names_more}
use Rattle.nv_layout.proofs.record.+add_names.Goals as goal

pub add_joined_names-loop-o-preserved : goal.add_joined_names-loop-o-preserved
add_joined_names-loop-o-preserved t c =
    let h : c.loop-o.o-index < length c.args.os.now = omega arith in
    added_step _ _ _ _ _ _ c.in_ok-add_names.ensures c.loop-o.invariant (record_names_more c.args.os.now c.loop-o.o-index c.o-item.result h c.o-item.is)
