use Rattle.std.proofs.Common.{◌+◌, ◌-◌, vec_len}
use Rattle.flow_words.proofs.uses.note.Given as goal

abbrev pub decreases-loop-uses : goal.decreases-loop-uses
decreases-loop-uses l = l.i + 1 - vec_len l.uses
