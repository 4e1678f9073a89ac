use Rattle.std.proofs.Common.{refl}
use Rattle.std.proofs.lemmas.Bool.{false_from_ne_true}
use Rattle.nv_base.proofs.Sets.{same-number}
use Rattle.flow_literals.proofs.Walks.{held_more}
use Rattle.flow_literals.proofs.hoisting.held.Goals as goal

pub loop-i-preserved : goal.loop-i-preserved
loop-i-preserved c = held_more c.args.row.now c.args.names.now c.loop-i.i 0 c.args.v _ c.loop-i-test.true refl (false_from_ne_true _ (λ e. c.if-v-w.false (same-number _ _ e))) c.loop-i.invariant
