use Rattle.std.proofs.Common.{◌∙◌, sym, ap}
use Rattle.nv_base.specs.Sets.{all_different}
use Rattle.ssu_ir.proofs.Searches.{by_failing}
use Rattle.ssu_ir.proofs.Keeps.{different-append, second_failing, two_passing}
use Rattle.ssu_ir.proofs.single_use.operands_differ.Goals as goal

pub returns-then-not-differ : goal.returns-then-not-differ
returns-then-not-differ c = by_failing _ _ _ (sym c.differ.ensures ∙ c.if-not-differ.true) (sym (different-append c.operands.result.0.now c.operands.result.1.now) ∙ ap all_different c.operands.ensures)

pub returns-then-not-differ-2 : goal.returns-then-not-differ-2
returns-then-not-differ-2 c = second_failing _ _ _ _ (sym c.differ.ensures ∙ c.if-not-differ.false) (sym c.differ-2.ensures ∙ c.if-not-differ-2.true) (sym (different-append c.operands.result.0.now c.operands.result.1.now) ∙ ap all_different c.operands.ensures)

pub returns : goal.returns
returns c = two_passing _ _ _ _ _ (sym c.differ.ensures ∙ c.if-not-differ.false) (sym c.differ-2.ensures ∙ c.if-not-differ-2.false) c.none_in.ensures (sym (different-append c.operands.result.0.now c.operands.result.1.now) ∙ ap all_different c.operands.ensures)
