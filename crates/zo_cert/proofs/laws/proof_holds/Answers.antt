use Rattle.zo_cert_tree.proofs.Duality.{proves_holds}
use Rattle.zo_cert.proofs.laws.proof_holds.Goals as goal

pub returns : goal.returns
returns c = λ z t claim valid proved. proves_holds z t claim valid proved
