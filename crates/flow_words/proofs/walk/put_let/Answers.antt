use Rattle.std.proofs.Common.{sym, subst}
use Rattle.std.proofs.lemmas.Result.{on_ok_weaker}
use Rattle.flow_ir.specs.Tree.{Let}
use Rattle.flow_words.specs.inner.Placed.{place, Goes}
use Rattle.flow_words.specs.inner.Ruled.{rule}
use Rattle.flow_words.proofs.walk.put_let.Goals as goal

pub returns-in-Sums : goal.returns-in-Sums
returns-in-Sums c =
    on_ok_weaker c.put_sum.result
    (λ h rest. subst (λ r. Goes (rule r) (place c.args.state.now c.args.saved.now.items c.args.steps.now.items) (Let c.args.x c.args.p rest) (place c.put_sum.new.state c.put_sum.new.saved.items c.put_sum.new.steps.items) rest) (sym c.in-Sums.is) (h rest))
    c.put_sum.ensures

pub returns-in-Slices : goal.returns-in-Slices
returns-in-Slices c =
    on_ok_weaker c.put_slices.result
    (λ h rest. subst (λ r. Goes (rule r) (place c.args.state.now c.args.saved.now.items c.args.steps.now.items) (Let c.args.x c.args.p rest) (place c.put_slices.new.state c.put_slices.new.saved.items c.put_slices.new.steps.items) rest) (sym c.in-Slices.is) (h rest))
    c.put_slices.ensures
