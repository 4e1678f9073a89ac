use Rattle.ssu_ir.specs.View.{labels_view}
use Rattle.nova_back.proofs.Reported.{chosen-report, unfound-report}
use Rattle.nova_back.proofs.choice.choice_of.Goals as goal

pub returns-clause-chosen : goal.returns-clause-chosen
returns-clause-chosen c =
    chosen-report (labels_view c.args.bank.now.form.ssu.now) c.args.slots c.args.w.now c.args.budget c.in_ok-report.report c.with_vector.result c.in_ok-report.ensures.report c.with_vector.ensures.same c.with_vector.ensures.found

pub returns-clause-refused : goal.returns-clause-refused
returns-clause-refused c =
    unfound-report (labels_view c.args.bank.now.form.ssu.now) c.args.slots c.args.w.now c.args.budget c.in_ok-report.report c.with_vector.result c.in_ok-report.ensures.report c.with_vector.ensures.told
