use Rattle.zo_cert.proofs.SameReports.{truth_same}
use Rattle.zo_cert.proofs.laws.truth_is_of_contents.Goals as goal

pub returns : goal.returns
returns c = truth_same
