use Rattle.nova_back.proofs.Reported.{found-report}
use Rattle.nova_back.proofs.Started.{had-none-before, no-dearer-before, vector-before}
use Rattle.nova_back.proofs.search.searched.Goals as goal

pub solve_by-requires-clause-start : goal.solve_by-requires-clause-start
solve_by-requires-clause-start c = vector-before c.args.z c.args.start c.better-first.result c.better-first.ensures

pub returns : goal.returns
returns c =
    let s = c.in_ok-solved.ensures in
    let r = c.report_of.ensures in
    let first = c.better-first.result in
    let none = had-none-before c.args.z c.args.start first c.in_ok-solved.solved c.better-first.ensures s.no_start in
    let dearer = no-dearer-before c.args.z c.args.start first c.in_ok-solved.solved c.better-first.ensures s.no_dearer in
    found-report c.args.z c.args.start c.in_ok-solved.solved c.args.slots c.args.budget c.report_of.result r.valid r.holds r.says s.searched s.within_budget s.decided none dearer
