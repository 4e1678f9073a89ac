use Rattle.nv_meaning.proofs.Follows.{seeking-runs}
use Rattle.nv_meaning.proofs.laws.a_loop_with_a_handler.Goals as goal

pub returns : goal.returns
returns c = seeking-runs
