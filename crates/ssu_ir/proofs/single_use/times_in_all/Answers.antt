use Rattle.std.proofs.Common.{◌∙◌, ap, min}
use Rattle.ssu_ir.proofs.Searches.{added}
use Rattle.ssu_ir.proofs.Keeps.{have_item, times_more, times_all}
use Rattle.ssu_ir.proofs.single_use.times_in_all.Goals as goal

pub times_in_label-requires : goal.times_in_label-requires
times_in_label-requires c = have_item c.args.s.now.nodes.slots c.args.s.now.labels.items _ _ _ c.requires c.deref-l-items.ensures.value c.loop-l-test.true c.l-item.is

pub loop-l-preserved : goal.loop-l-preserved
loop-l-preserved c = added _ _ _ _ _ c.loop-l.invariant c.times_in_label.ensures c.saturating_add-n.ensures ∙ ap (min 255) (times_more c.args.x c.args.s.now.nodes.slots c.args.s.now.labels.items _ _ _ c.deref-l-items.ensures.value c.loop-l-test.true c.l-item.is)

pub returns : goal.returns
returns c = times_all c.args.x c.args.s.now _ _ _ c.deref-l-items.ensures.value c.loop-l-test.false c.loop-l.invariant
