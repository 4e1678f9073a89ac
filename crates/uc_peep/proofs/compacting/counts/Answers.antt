use Rattle.std.proofs.Common.{◌+◌, length, get_or, sym, ap, ◌∙◌, arith, refl}
use Rattle.uc_peep.proofs.Counts.{kept-zero}
use Rattle.uc_peep.proofs.Marking.{so-far-more, length-push, count-more, count-few}
use Rattle.uc_peep.proofs.compacting.counts.Goals as goal

pub loop-g-init : goal.loop-g-init
loop-g-init c = record {
  size = ap length c.in_ok-v.ensures.items;
  so_far = λ x lt. absurd (omega arith);
  here = sym (kept-zero c.args.gone.now);
  few = omega arith;
}

pub loop-g-preserved : goal.loop-g-preserved
loop-g-preserved c =
    let items = c.in_ok-push.ensures.items in
    let h = c.loop-g.invariant in
    record {
      size = ap length items ∙ length-push c.loop-g.v.items c.loop-g.n ∙ ap (λ k. k + 1) h.size;
      so_far = λ x lt. ap (λ l. get_or l x 0) items ∙ so-far-more c.loop-g.v.items c.loop-g.n c.loop-g.g-index c.args.gone.now h.size h.so_far h.here x lt;
      here = count-more c.args.gone.now c.loop-g.g-index c.loop-g.n c.counted-n.result _ c.loop-g-test.true refl h.here c.counted-n.ensures;
      few = count-few c.loop-g.n c.counted-n.result c.loop-g.g-index _ h.few c.counted-n.ensures;
    }
