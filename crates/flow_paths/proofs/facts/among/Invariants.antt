use Rattle.std.proofs.Common.{◌≡◌, drop}
use Rattle.flow_paths.specs.Ranges.{all_words}
use Rattle.flow_paths.specs.Decided.{among}
use Rattle.flow_paths.proofs.facts.among.Given as goal

abbrev pub invariant-loop-k : goal.invariant-loop-k
invariant-loop-k l = among (drop l.k-index l.facts) l.x l.r ≡ among l.facts l.x all_words
