use Rattle.std.proofs.Common.{◌-◌, arith}
use Rattle.nv_flatten_values.proofs.Computing.{makes-right}
use Rattle.nv_flatten_values.proofs.Leaves.{across-makes}
use Rattle.nv_ast.specs.declared.tree.ShiftOp.TheVariants.{Right}
use Rattle.nv_flatten_values.proofs.Lets.{adds-shift, adds-across}
use Rattle.nv_flatten_values.proofs.WordSteps.{word-shift, word-across}
use Rattle.nv_flatten_values.proofs.unpack.across.Goals as goal

pub returns-clause-makes : goal.returns-clause-makes
returns-clause-makes c =
    across-makes c.args.word c.args.following c.in_ok-high.high c.in_ok-low.low c.args.first c.args.n c.args.next.now c.between.new.next c.shifted.new.next c.define.new.next c.in_ok-x.x c.args.steps.now.items c.between.new.steps.items c.shifted.new.steps.items c.define.new.steps.items
    c.requires.first c.requires.n c.requires.both c.in_ok-high.ensures.makes
    (makes-right (64 - c.args.first - c.args.n) c.args.following c.in_ok-low.low c.between.new.next c.shifted.new.next c.between.new.steps.items c.shifted.new.steps.items (omega (arith, c.requires.both)) c.in_ok-low.ensures.none c.in_ok-low.ensures.some)
    c.in_ok-x.ensures.variable c.in_ok-x.ensures.next c.in_ok-x.ensures.steps

pub returns-clause-well : goal.returns-clause-well
returns-clause-well c =
    adds-across c.args.word c.args.following c.in_ok-high.high c.in_ok-low.low c.args.next.now c.between.new.next c.shifted.new.next c.define.new.next c.in_ok-x.x c.args.steps.now.items c.between.new.steps.items c.shifted.new.steps.items c.define.new.steps.items
    c.in_ok-high.ensures.well
    (adds-shift Right (64 - c.args.first - c.args.n) c.args.following c.in_ok-low.low c.between.new.next c.shifted.new.next c.between.new.steps.items c.shifted.new.steps.items (omega (arith, c.requires.both)) c.in_ok-low.ensures.none c.in_ok-low.ensures.some)
    c.in_ok-x.ensures.variable c.in_ok-x.ensures.next c.in_ok-x.ensures.steps

pub returns-clause-bounds : goal.returns-clause-bounds
returns-clause-bounds c =
    word-across c.args.word c.args.following c.in_ok-high.high c.in_ok-low.low c.shifted.new.next c.in_ok-x.x c.args.steps.now.items c.between.new.steps.items c.shifted.new.steps.items c.define.new.steps.items
    c.in_ok-high.ensures.bounds
    (word-shift Right (64 - c.args.first - c.args.n) c.args.following c.in_ok-low.low c.between.new.next c.shifted.new.next c.between.new.steps.items c.shifted.new.steps.items (omega (arith, c.requires.both)) c.in_ok-low.ensures.none c.in_ok-low.ensures.some)
    c.in_ok-x.ensures.variable c.in_ok-x.ensures.steps
