use Rattle.std.proofs.Common.{ap, ◌∙◌}
use Rattle.ssu_ir.specs.Work.{tops}
use Rattle.ssu_ir.proofs.Walks.{tops-starts}
use Rattle.ssu_ir.proofs.walk.starts.Goals as goal

pub returns : goal.returns
returns c = ap tops c.in_ok-v.ensures ∙ tops-starts c.args.s.now.labels.items
