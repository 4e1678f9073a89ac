use Rattle.ucode_emit.proofs.Sequenced.{no_sequence}
use Rattle.ucode_emit.proofs.sequences.nothing.Goals as goal

pub returns : goal.returns
returns c = no_sequence c.new.result.items c.new.ensures.items
