use Rattle.uc_isa.proofs.Leading.{covered-keeps}
use Rattle.uc_isa.proofs.pieces.pieces_keep_to_their_words.Goals as goal

pub returns : goal.returns
returns c = λ code base a covers m. covered-keeps code base a m (covers m)
