use Rattle.std.proofs.Common.{map}
use Rattle.flow_ir.specs.View.{label_view}
use Rattle.flow_sink.specs.inner.Sinking.{label_sunk}
use Rattle.flow_sink.proofs.Likeness.{moved_label}
use Rattle.flow_sink.proofs.sinking.all_sunk.Goals as goal

pub loop-l-preserved : goal.loop-l-preserved
loop-l-preserved c =
    moved_label label_sunk c.loop-l.v.items c.push.new.self.items c.loop-l.l-iterator.rest.items c.next.new.self.rest.items c.in-Some.l c.in_ok-sunk.field-0 (map label_sunk (map label_view c.args.labels.items)) c.in-Some.ensures.steps.0 c.in_ok-push.ensures.items c.in_ok-sunk.ensures c.loop-l.invariant
