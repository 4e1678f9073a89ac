use Rattle.std.proofs.Common.{◌∙◌, sym, ap}
use Rattle.std.specs.List.{list_all}
use Rattle.ssu_ir.specs.Slots.{node_of}
use Rattle.ssu_ir.specs.View.{labels_view}
use Rattle.ssu_ir.specs.inner.Checks.{is_once}
use Rattle.ssu_ir.proofs.Searches.{by_failing, by_passing}
use Rattle.ssu_ir.proofs.Keeps.{all-defs}
use Rattle.ssu_ir.proofs.single_use.defs_once.Goals as goal

pub all_once-requires : goal.all_once-requires
all_once-requires c = c.requires

pub returns-else-all_once : goal.returns-else-all_once
returns-else-all_once c = c.if-all_once.false ∙ (by_failing _ _ _ (sym (c.all_once.ensures ∙ ap (list_all (is_once (labels_view c.args.s.now))) c.values.ensures) ∙ c.if-all_once.false) (sym (all-defs (is_once (labels_view c.args.s.now)) (node_of c.args.n.now))))

pub all_once-requires-then-all_once : goal.all_once-requires-then-all_once
all_once-requires-then-all_once c = c.requires

pub returns-then-all_once : goal.returns-then-all_once
returns-then-all_once c = by_passing _ _ _ _ (sym (c.all_once.ensures ∙ ap (list_all (is_once (labels_view c.args.s.now))) c.values.ensures) ∙ c.if-all_once.true) (c.all_once-then-all_once.ensures ∙ ap (list_all (is_once (labels_view c.args.s.now))) c.clones.ensures) (sym (all-defs (is_once (labels_view c.args.s.now)) (node_of c.args.n.now)))
