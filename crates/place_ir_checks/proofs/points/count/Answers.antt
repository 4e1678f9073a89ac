use Rattle.std.proofs.Common.{arith}
use Rattle.place_ir_checks.proofs.Walked.{count-points}
use Rattle.place_ir_checks.proofs.points.count.Goals as goal

pub returns : goal.returns
returns c = let e = count-points c.args.s.now in omega (arith, c.len.ensures, c.len-2.ensures, c.args.s.now.labels.ok.0)
