use Rattle.std.proofs.Common.{◌≤◌, [], ◌∷◌, get_or}
use Rattle.nv_base.specs.Words.{shifted_left, shifted_right}
use Rattle.nv_flatten_values.proofs.Computing.{makes-left, makes-right, makes-then}
use Rattle.nv_ast.specs.declared.tree.ShiftOp.TheVariants.{Left, Right}
use Rattle.nv_flatten_values.proofs.Lets.{adds-then, adds-shift}
use Rattle.nv_flatten_values.proofs.WordSteps.{word-shift, word-between}
use Rattle.nv_flatten_values.proofs.unpack.between.Goals as goal

pub returns-clause-makes : goal.returns-clause-makes
returns-clause-makes c =
    makes-then (1 ≤ 1) c.args.next.now c.shifted.new.next c.shifted-2.new.next (c.args.word ∷ []) c.args.steps.now.items c.shifted.new.steps.items c.shifted-2.new.steps.items c.in_ok-raised.raised c.in_ok-lowered.lowered
    (λ ws. shifted_left c.args.left (get_or ws 0 0)) (λ ws. shifted_right c.args.right (get_or ws 0 0))
    (makes-left c.args.left c.args.word c.in_ok-raised.raised c.args.next.now c.shifted.new.next c.args.steps.now.items c.shifted.new.steps.items c.requires.left c.in_ok-raised.ensures.none c.in_ok-raised.ensures.some)
    (makes-right c.args.right c.in_ok-raised.raised c.in_ok-lowered.lowered c.shifted.new.next c.shifted-2.new.next c.shifted.new.steps.items c.shifted-2.new.steps.items c.requires.right c.in_ok-lowered.ensures.none c.in_ok-lowered.ensures.some)

pub returns-clause-well : goal.returns-clause-well
returns-clause-well c =
    adds-then c.args.next.now c.shifted.new.next c.shifted-2.new.next (c.args.word ∷ []) (c.in_ok-raised.raised ∷ []) (c.in_ok-lowered.lowered ∷ []) c.args.steps.now.items c.shifted.new.steps.items c.shifted-2.new.steps.items
    (adds-shift Left c.args.left c.args.word c.in_ok-raised.raised c.args.next.now c.shifted.new.next c.args.steps.now.items c.shifted.new.steps.items c.requires.left c.in_ok-raised.ensures.none c.in_ok-raised.ensures.some)
    (adds-shift Right c.args.right c.in_ok-raised.raised c.in_ok-lowered.lowered c.shifted.new.next c.shifted-2.new.next c.shifted.new.steps.items c.shifted-2.new.steps.items c.requires.right c.in_ok-lowered.ensures.none c.in_ok-lowered.ensures.some)

pub returns-clause-bounds : goal.returns-clause-bounds
returns-clause-bounds c =
    word-between c.args.word c.in_ok-raised.raised c.in_ok-lowered.lowered c.args.steps.now.items c.shifted.new.steps.items c.shifted-2.new.steps.items
    (word-shift Left c.args.left c.args.word c.in_ok-raised.raised c.args.next.now c.shifted.new.next c.args.steps.now.items c.shifted.new.steps.items c.requires.left c.in_ok-raised.ensures.none c.in_ok-raised.ensures.some)
    (word-shift Right c.args.right c.in_ok-raised.raised c.in_ok-lowered.lowered c.shifted.new.next c.shifted-2.new.next c.shifted.new.steps.items c.shifted-2.new.steps.items c.requires.right c.in_ok-lowered.ensures.none c.in_ok-lowered.ensures.some)
