use Rattle.std.proofs.Common.{◌+◌, ap, ◌∙◌, refl, arith}
use Rattle.cps_close.proofs.Turns.{index-turn}
use Rattle.cps_close.proofs.table.indices_of.Goals as goal

pub loop-c-preserved : goal.loop-c-preserved
loop-c-preserved c = record {
  next = c.in-Some.ensures.1 ∙ ap (λ n. n + 1) c.loop-c.invariant.next;
  each = λ q. c.in_ok-insert.ensures.updates.0 q ∙ index-turn c.args.conts.now c.loop-c.c-index c.c-item.result _ _ _ q (omega arith) c.c-item.is refl c.loop-c.invariant.next (c.loop-c.invariant.each q);
}
