use Rattle.std.proofs.Common.{◌∙◌}
use Rattle.zo_cert.specs.Contents.{report_contents}
use Rattle.zo_cert.proofs.laws.read_back.Goals as goal

pub returns : goal.returns
returns c = c.read_report.ensures.given (report_contents c.args.r.now) c.in_ok-text.ensures.report (c.deref.ensures.value ∙ c.in_ok-text.ensures.text)
