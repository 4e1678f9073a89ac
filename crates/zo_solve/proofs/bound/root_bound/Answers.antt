use Rattle.std.proofs.Common.{arith}
use Rattle.zo_cert_tree.specs.Certificate.{unfixed}
use Rattle.zo_cert_tree.specs.declared.cert.Claim.TheVariants.{Least}
use Rattle.zo_solve_branch.proofs.Close.{plain_closes}
use Rattle.zo_solve.proofs.bound.root_bound.Goals as goal

pub returns : goal.returns
returns c = plain_closes c.args.z.now (Least 0) (unfixed c.args.z.now) c.met_leaf.result c.met_leaf.ensures (omega arith)
