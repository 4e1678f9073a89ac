use Rattle.std.proofs.Common.{◌∙◌, sym}
use Rattle.ssu_ir.specs.View.{labels_view}
use Rattle.ssu_ir.specs.inner.Checks.{label_kept}
use Rattle.ssu_ir.proofs.Keeps.{have_item, kept_more, kept_all, not_kept}
use Rattle.ssu_ir.proofs.single_use.all_labels_kept.Goals as goal

pub label_kept-requires-clause-all : goal.label_kept-requires-clause-all
label_kept-requires-clause-all c = c.requires

pub label_kept-requires-clause-body : goal.label_kept-requires-clause-body
label_kept-requires-clause-body c = have_item c.args.s.now.nodes.slots c.args.s.now.labels.items _ _ _ c.requires c.deref-l-items.ensures.value c.loop-l-test.true c.l-item.is

pub returns-then-not-label_kept : goal.returns-then-not-label_kept
returns-then-not-label_kept c = not_kept (label_kept (labels_view c.args.s.now)) c.args.s.now _ _ _ c.deref-l-items.ensures.value c.loop-l-test.true c.l-item.is (sym c.label_kept.ensures ∙ c.if-not-label_kept.true)

pub loop-l-preserved : goal.loop-l-preserved
loop-l-preserved c = kept_more (label_kept (labels_view c.args.s.now)) c.args.s.now.nodes.slots c.args.s.now.labels.items _ _ _ c.deref-l-items.ensures.value c.loop-l-test.true c.l-item.is c.loop-l.invariant (sym c.label_kept.ensures ∙ c.if-not-label_kept.false)

pub returns : goal.returns
returns c = kept_all (label_kept (labels_view c.args.s.now)) c.args.s.now _ _ c.deref-l-items.ensures.value c.loop-l-test.false c.loop-l.invariant
