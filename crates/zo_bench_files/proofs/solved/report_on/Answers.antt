use Rattle.std.proofs.Common.{◌≡◌}
use Rattle.std.proofs.lemmas.Result.{IfOk-weaker}
use Rattle.zo_cert.specs.Contents.{report_contents}
use Rattle.zo_cert.specs.ReportText.{report_text}
use Rattle.zo_bench_files.specs.Written.{IsReportText}
use Rattle.zo_bench_files.proofs.solved.report_on.Goals as goal

pub returns : goal.returns
returns c =
    IfOk-weaker c.print_report.result (λ text. text.items ≡ report_text (report_contents c.in_ok-report.report)) (λ text. IsReportText c.args.z text.items)
    (λ text spelled. record {
      report = c.in_ok-report.report;
      valid = c.in_ok-report.ensures.valid;
      holds = c.in_ok-report.ensures.holds;
      on_it = c.in_ok-report.ensures.says.program;
      no_slots = c.in_ok-report.ensures.says.slots_are;
      budget = c.in_ok-report.ensures.says.budget_is;
      spelled = spelled;
    })
    c.print_report.ensures.text
