use Rattle.std.proofs.Common.{◌∙◌, sym}
use Rattle.ssu_ir.specs.View.{labels_view}
use Rattle.ssu_ir.proofs.Rules.{single-tests}
use Rattle.ssu_ir.proofs.Unders.{bodies_have}
use Rattle.ssu_ir.proofs.Searches.{by_failing, by_passing}
use Rattle.ssu_ir.proofs.single_use.single.Goals as goal

pub returns-else-has_entry : goal.returns-else-has_entry
returns-else-has_entry c = c.if-has_entry.false ∙ (by_failing _ _ _ (sym c.has_entry.ensures ∙ c.if-has_entry.false) (sym (single-tests (labels_view c.args.s.now))))

pub all_labels_kept-requires : goal.all_labels_kept-requires
all_labels_kept-requires c = bodies_have _ _ c.args.s.now.formed

pub returns-then-has_entry : goal.returns-then-has_entry
returns-then-has_entry c = by_passing _ _ _ _ (sym c.has_entry.ensures ∙ c.if-has_entry.true) c.all_labels_kept.ensures (sym (single-tests (labels_view c.args.s.now)))
