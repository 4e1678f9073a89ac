use Rattle.std.proofs.lemmas.Result.{on_ok_weaker}
use Rattle.nv_memtext.specs.OutcomeText.{log_lines, packet_lines}
use Rattle.nv_memtext.proofs.PrintLemmas.{text_more}
use Rattle.nv_memtext.proofs.print.push_state.Goals as goal

pub returns : goal.returns
returns c =
    on_ok_weaker c.push_packet.result
    (λ k. text_more c.args.out.now.items (log_lines c.args.log.now) (packet_lines c.args.p.now) c.push_log.new.out.items c.push_packet.new.out.items c.in_ok-push_log.ensures k)
    c.push_packet.ensures
