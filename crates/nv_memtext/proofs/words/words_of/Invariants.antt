use Rattle.std.proofs.Common.{◌≤◌, length}
use Rattle.nv_memtext.proofs.WordLemmas.{ReadsWords}
use Rattle.nv_memtext.proofs.words.words_of.Given as goal

abbrev pub invariant-loop-part : goal.invariant-loop-part
invariant-loop-part l = (l.count ≤ 8) × ReadsWords l.initial.parts l.parts l.words l.count

abbrev pub decreases-loop-part : goal.decreases-loop-part
decreases-loop-part l = length l.parts
