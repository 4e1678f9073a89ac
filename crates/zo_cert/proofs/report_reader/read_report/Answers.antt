use Rattle.zo_cert.proofs.ReportAnswers.{valid_answer, given_answer, bad_answer}
use Rattle.zo_cert.proofs.report_reader.read_report.Goals as goal

pub returns-clause-valid : goal.returns-clause-valid
returns-clause-valid c = valid_answer c.read_whole.result c.read_whole.ensures.valid

pub returns-clause-given : goal.returns-clause-given
returns-clause-given c = given_answer c.args.bytes.now c.read_whole.result c.read_whole.ensures.valid c.read_whole.ensures.text c.read_whole.ensures.refuses

pub returns-clause-bad : goal.returns-clause-bad
returns-clause-bad c = bad_answer c.args.bytes.now c.read_whole.result c.read_whole.ensures.valid c.read_whole.ensures.text c.read_whole.ensures.refuses
