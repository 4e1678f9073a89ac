use Rattle.std.proofs.Common.{true, false}
use Rattle.nv_flatten_values.specs.inner.View.{view}
use Rattle.nv_flatten.proofs.FlatEnds.{compare-flat}
use Rattle.nv_flatten.proofs.made_code.compared.Goals.{then-swapped, else-swapped}
use Rattle.nv_flatten.proofs.made_code.compared.Goals as goal

pub returns : goal.returns
returns c =
    λ whole old names more low mid high scope s op a b found extends later more_later first second.
    elim c.if-swapped.branch [
      | then-swapped w ↦ compare-flat _ _ _ _ _ _ _ _ s op _ _ _ _ _ (view c.args.left.symbol) (view c.args.right.symbol) c.args.cmp c.args.swapped c.in_ok-both.both.left c.in_ok-both.both.right c.if-swapped.left true w.if-swapped.true w.left-is c.in_ok-both.ensures.left c.in_ok-both.ensures.right c.in_ok-both.ensures.steps found extends later more_later first second
      | else-swapped w ↦ compare-flat _ _ _ _ _ _ _ _ s op _ _ _ _ _ (view c.args.left.symbol) (view c.args.right.symbol) c.args.cmp c.args.swapped c.in_ok-both.both.left c.in_ok-both.both.right c.if-swapped.left false w.if-swapped.false w.left-is c.in_ok-both.ensures.left c.in_ok-both.ensures.right c.in_ok-both.ensures.steps found extends later more_later first second
    ]
