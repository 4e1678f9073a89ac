use Rattle.std.proofs.Common.{◌∙◌, sym, refl, ap, arith, length, true}
use Rattle.nv_text_parser.specs.inner.Failing.{no_memory}
use Rattle.nv_text_parser.proofs.Steps.{onward_start}
use Rattle.nv_text_parser.proofs.ExprLow.{low_found, not_same}
use Rattle.nv_text_parser.proofs.ExprExits.{dot_onward, dot_deep, dot_stops, dots_end}
use Rattle.nv_ast.specs.Height.{height}
use Rattle.nv_ast.specs.Grammar.{dot}
use Rattle.nv_ast.specs.Grammar.{no_dot}
use Rattle.nv_text_parser.proofs.operands.dots.Goals as goal

pub loop-after-init : goal.loop-after-init
loop-after-init c = record {
  onward = onward_start;
  read = λ e k r. r;
  measured = c.requires.measured;
  low = c.requires.low;
  inside = c.requires.inside;
  shorter = omega arith;
}

pub loop-after-preserved : goal.loop-after-preserved
loop-after-preserved c = record {
  onward = dot_onward _ _ _ _ _ c.in-Some.ensures c.in-Ok.ensures c.in-Ok-dot.ensures c.loop-after.invariant.onward;
  read = λ e k r. c.loop-after.invariant.read e k (rw (c.in-Some.ensures, c.in-Ok.ensures) (dot (rw c.in-Ok-dot.ensures at r)));
  measured = omega (arith, ap height c.in-Ok-dot.ensures, c.loop-after.invariant.measured);
  low = omega (arith, c.loop-after.invariant.low, c.if-highest-room.false);
  inside = rw c.in-Ok-dot.ensures c.loop-after.invariant.inside;
  shorter = omega (arith, c.loop-after.invariant.shorter, ap length c.in-Some.ensures, ap length c.in-Ok.ensures);
}

pub returns-clause-read : goal.returns-clause-read
returns-clause-read c = c.loop-after.invariant.read _ _ no_dot

pub returns-then-highest-room-clause-answers : goal.returns-then-highest-room-clause-answers
returns-then-highest-room-clause-answers c =
    c.loop-after.invariant.onward.fails _ (dot_deep _ _ (low_found c.loop-after.invariant.measured c.loop-after.invariant.low c.loop-after.invariant.inside true) (sym c.loop-after.invariant.measured ∙ c.if-highest-room.true) c.in-Some.ensures refl)

pub returns-in-Err-clause-answers : goal.returns-in-Err-clause-answers
returns-in-Err-clause-answers c =
    c.loop-after.invariant.onward.fails _ (dot_stops _ _ _ (low_found c.loop-after.invariant.measured c.loop-after.invariant.low c.loop-after.invariant.inside true) (not_same c.loop-after.invariant.measured c.if-highest-room.false) c.in-Some.ensures c.in-Err.ensures)

pub returns-clause-answers : goal.returns-clause-answers
returns-clause-answers c = c.loop-after.invariant.onward.reads _ (dots_end _ _ (low_found c.loop-after.invariant.measured c.loop-after.invariant.low c.loop-after.invariant.inside true) c.in_default.ensures)

pub returns-in_default-dot-clause-answers : goal.returns-in_default-dot-clause-answers
returns-in_default-dot-clause-answers c = no_memory
