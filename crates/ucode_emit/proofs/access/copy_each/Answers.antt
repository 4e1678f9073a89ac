use Rattle.std.proofs.Common.{◌++◌, get_or, ap, ◌∙◌, arith}
use Rattle.place_plan.specs.Plan.{home, plan_view}
use Rattle.ucode_emit.specs.Pieces as pieces
use Rattle.ucode_emit.specs.inner.Given as given
use Rattle.ucode_emit.proofs.Turns.{turn}
use Rattle.ucode_emit.proofs.EachCopied.{each_copied_last, same_copied}
use Rattle.ucode_emit.proofs.access.copy_each.Goals as goal

pub loop-x-preserved : goal.loop-x-preserved
loop-x-preserved c =
    let p = plan_view c.args.p.now in
    let x = get_or c.args.xs.now c.loop-x.x-index 0 in
    let same = same_copied c.args.s c.defined_of.result (home p x).defined c.copied_of.result.now (home p x).copied c.defined_of.ensures c.copied_of.ensures in
    turn (given.each_copied p c.args.s) (λ y. pieces.all_copied c.args.s (home p y).defined (home p y).copied) (each_copied_last p c.args.s) c.args.xs.now c.loop-x.x-index 0 c.args.moves.now.items c.loop-x.moves.items c.all_copied.new.moves.items (omega arith)
    (c.in_ok-all_copied.ensures ∙ ap (λ z. c.loop-x.moves.items ++ z) same) c.loop-x.invariant
