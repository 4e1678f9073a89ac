use Rattle.std.proofs.Common.{◌<◌, length, refl, arith}
use Rattle.nv_layout.specs.OutlineView.{outline_tree}
use Rattle.nv_layout.proofs.Lists.{highest_named_more, highest_named_within, highest_more, highest_within, outline_height_some}
use Rattle.nv_layout.proofs.record.+is_within.Goals as goal

pub is_within-returns-then-height-eq0 : goal.is_within-returns-then-height-eq0
is_within-returns-then-height-eq0 t c =
    (λ h. cc, λ h. absurd (let none : ⊥ = omega (arith, outline_height_some (outline_tree c.args.o.now)) in none))

pub are_named_within-returns-then-not-is_within : goal.are_named_within-returns-then-not-is_within
are_named_within-returns-then-not-is_within t c =
    let h : c.loop-f.f-index < length c.args.fs.now = omega arith in
    (λ e. cc, λ e. c.if-not-is_within.ensures.1 (omega (arith, highest_named_within c.args.fs.now c.loop-f.f-index c.f-item.result h c.f-item.is)))

pub are_named_within-loop-f-preserved : goal.are_named_within-loop-f-preserved
are_named_within-loop-f-preserved t c =
    let h : c.loop-f.f-index < length c.args.fs.now = omega arith in
    omega (arith, c.loop-f.invariant, c.if-not-is_within.ensures.0 refl, highest_named_more c.args.fs.now c.loop-f.f-index c.f-item.result h c.f-item.is)

pub are_within-returns-then-not-is_within : goal.are_within-returns-then-not-is_within
are_within-returns-then-not-is_within t c =
    let h : c.loop-o.o-index < length c.args.os.now = omega arith in
    (λ e. cc, λ e. c.if-not-is_within.ensures.1 (omega (arith, highest_within c.args.os.now c.loop-o.o-index c.o-item.result h c.o-item.is)))

pub are_within-loop-o-preserved : goal.are_within-loop-o-preserved
are_within-loop-o-preserved t c =
    let h : c.loop-o.o-index < length c.args.os.now = omega arith in
    omega (arith, c.loop-o.invariant, c.if-not-is_within.ensures.0 refl, highest_more c.args.os.now c.loop-o.o-index c.o-item.result h c.o-item.is)
