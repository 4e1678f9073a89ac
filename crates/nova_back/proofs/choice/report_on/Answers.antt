use Rattle.std.proofs.Common.{ap}
use Rattle.std.specs.Prelude.{Err}
use Rattle.std.proofs.lemmas.Result.{err_from_is_err_and}
use Rattle.ssu_ir.specs.View.{labels_view}
use Rattle.nova_back.proofs.Reported.{choice-vector, search-on}
use Rattle.nova_back.proofs.Unmade.{unbuilt}
use Rattle.nova_back.proofs.choice.report_on.Goals as goal

pub searched-requires-clause-start : goal.searched-requires-clause-start
searched-requires-clause-start c =
    choice-vector c.in_ok-z.z (labels_view c.args.bank.now.form.ssu.now) c.args.slots c.args.w.now c.in_ok-start.start c.in_ok-z.ensures.program c.in_ok-start.ensures.start

pub returns-in-Ok-clause-report : goal.returns-in-Ok-clause-report
returns-in-Ok-clause-report c =
    search-on c.in_ok-z.z (labels_view c.args.bank.now.form.ssu.now) c.in_ok-start.start c.args.slots c.args.w.now c.args.budget c.in-Ok.report c.in_ok-z.ensures.program c.in_ok-start.ensures.start c.in_ok-start.ensures.cheap c.in-Ok.ensures

pub returns-in_err-z-clause-refused : goal.returns-in_err-z-clause-refused
returns-in_err-z-clause-refused c =
    let p = err_from_is_err_and c.from_residual.result c.from_residual.ensures.1 in
    rw (p.1, p.2) (unbuilt (labels_view c.args.bank.now.form.ssu.now) c.args.slots c.in_err-z.field-0.0 c.requires.single (λ n e. c.in_err-z.ensures.many n (ap Err e)))
