use Rattle.std.proofs.Common.{◌∙◌, sym, refl, ap, arith, length, true}
use Rattle.nv_text_parser.specs.inner.Failing.{no_memory}
use Rattle.nv_text_parser.proofs.Steps.{onward_start}
use Rattle.nv_text_parser.proofs.ExprLow.{low_found, not_same}
use Rattle.nv_text_parser.proofs.ExprExits.{shift_onward, shift_deep, shift_stops, shifts_end}
use Rattle.nv_ast.specs.Height.{height}
use Rattle.nv_text_parser.proofs.ExprRules.{shift_step}
use Rattle.nv_ast.specs.Grammar.{no_operator}
use Rattle.nv_text_parser.proofs.operands.shifts.Goals as goal

pub loop-op-init : goal.loop-op-init
loop-op-init c = record {
  onward = onward_start;
  read = λ e k r. r;
  measured = c.requires.measured;
  low = c.requires.low;
  inside = c.requires.inside;
  shorter = omega arith;
}

pub loop-op-preserved : goal.loop-op-preserved
loop-op-preserved c = record {
  onward = shift_onward _ _ _ _ _ c.in-Some.ensures c.in-Ok.ensures c.in-Ok-shift.ensures c.loop-op.invariant.onward;
  read = λ e k r. c.loop-op.invariant.read e k (shift_step _ c.in-Some.ensures c.in-Ok.ensures c.in-Ok-shift.ensures r);
  measured = omega (arith, ap height c.in-Ok-shift.ensures, c.loop-op.invariant.measured);
  low = omega (arith, c.loop-op.invariant.low, c.if-highest-room.false);
  inside = rw c.in-Ok-shift.ensures c.loop-op.invariant.inside;
  shorter = omega (arith, c.loop-op.invariant.shorter, ap length c.in-Some.ensures.split, ap length c.in-Ok.ensures);
}

pub returns-clause-read : goal.returns-clause-read
returns-clause-read c = c.loop-op.invariant.read _ _ no_operator

pub returns-then-highest-room-clause-answers : goal.returns-then-highest-room-clause-answers
returns-then-highest-room-clause-answers c =
    c.loop-op.invariant.onward.fails _ (shift_deep _ _ (low_found c.loop-op.invariant.measured c.loop-op.invariant.low c.loop-op.invariant.inside true) (sym c.loop-op.invariant.measured ∙ c.if-highest-room.true) c.in-Some.ensures refl)

pub returns-in-Err-clause-answers : goal.returns-in-Err-clause-answers
returns-in-Err-clause-answers c =
    c.loop-op.invariant.onward.fails _ (shift_stops _ _ _ (low_found c.loop-op.invariant.measured c.loop-op.invariant.low c.loop-op.invariant.inside true) (not_same c.loop-op.invariant.measured c.if-highest-room.false) c.in-Some.ensures c.in-Err.ensures)

pub returns-clause-answers : goal.returns-clause-answers
returns-clause-answers c = c.loop-op.invariant.onward.reads _ (shifts_end _ _ (low_found c.loop-op.invariant.measured c.loop-op.invariant.low c.loop-op.invariant.inside true) c.in_default.ensures)

pub returns-in_default-shift-clause-answers : goal.returns-in_default-shift-clause-answers
returns-in_default-shift-clause-answers c = no_memory
