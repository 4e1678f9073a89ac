use Rattle.std.proofs.lemmas.Result.{on_ok_weaker}
use Rattle.nv_memtext.specs.OutcomeText.{outcome_line, log_lines}
use Rattle.nv_memtext.proofs.PrintLemmas.{log_pieces}
use Rattle.nv_memtext.proofs.print.push_run.Goals as goal

pub returns : goal.returns
returns c =
    on_ok_weaker c.push_log.result
    (λ k. log_pieces c.args.out.now.items (outcome_line c.args.o.now) (log_lines c.args.log.now) c.push_outcome.new.out.items c.push_log.new.out.items c.in_ok-push_outcome.ensures k)
    c.push_log.ensures
