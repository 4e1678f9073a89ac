use Rattle.std.proofs.Common.{◌≡◌, ◌++◌, drop}
use Rattle.flow_merge.specs.inner.Pruned as inner
use Rattle.flow_merge.proofs.pruning.kept_words.Given as goal

abbrev pub invariant-loop-i : goal.invariant-loop-i
invariant-loop-i l = l.v.items ++ inner.kept_words l.gone (drop l.i l.params) (drop l.i l.words) ≡ inner.kept_words l.gone l.params l.words
