use Rattle.uc_isa.proofs.Leading.{leads-states}
use Rattle.uc_isa.proofs.pieces.pieces_keep_states.Goals as goal

pub returns : goal.returns
returns c = λ code base n a b lawful h s x. leads-states code base n a b lawful h s x
