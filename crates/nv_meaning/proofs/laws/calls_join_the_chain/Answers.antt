use Rattle.nv_meaning.proofs.Follows.{chains-run}
use Rattle.nv_meaning.proofs.laws.calls_join_the_chain.Goals as goal

pub returns : goal.returns
returns c = chains-run
