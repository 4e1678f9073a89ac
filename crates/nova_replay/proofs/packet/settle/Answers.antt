use Rattle.std.proofs.Common.{◌≡◌, [], Err, refl, sym, ap, ◌∙◌, subst, inr}
use Rattle.nova_capture.specs.declared.fault.WriteError.TheVariants.{Unfit}
use Rattle.nova_capture.specs.declared.item.Item.TheVariants as items
use Rattle.nova_capture.specs.Spelling.{Fits}
use Rattle.nova_replay.specs.declared.packet.Fate.TheVariants.{Trouble}
use Rattle.nova_replay.specs.declared.counts.Cause.TheVariants.{LongOut}
use Rattle.nova_replay.specs.Replaying.{IsSettled}
use Rattle.nova_replay.proofs.Chain.{keeps-appends}
use Rattle.nova_replay.proofs.packet.settle.Goals as goal

pub returns-in-Err-Unfit : goal.returns-in-Err-Unfit
returns-in-Err-Unfit g c =
    let old = c.args.writer.now in
    let new = c.write_item.new.self in
    let out = c.args.out.now in
    let is : c.write_item.result ≡ Err Unfit = c.in-Err-Unfit.is ∙ ap Err c.in-Err-Unfit.field-0-is in
    let unfit = c.write_item.ensures.unfit is in (
      [],
      keeps-appends (g.W.Write.contents old.output) (g.W.Write.contents new.output) unfit.1,
      subst (λ fate. IsSettled old.state c.args.packet c.args.frame.now out fate (Trouble (LongOut c.in-Ended.count)) new.state []) (sym c.in-Ended.is)
          (inr (λ fits. unfit.0 (subst (λ p. Fits old.state (items.Packet p) out) (sym c.packet_out.ensures) fits), (c.in-Err-Unfit.ensures.stays, refl), refl)),
    )
