use Rattle.std.proofs.Common.{◌≡◌, drop}
use Rattle.flow_sink.specs.inner.Above.{entries, first}
use Rattle.flow_sink.proofs.known.first.Given as goal

abbrev pub invariant-loop-k : goal.invariant-loop-k
invariant-loop-k l = first (entries (drop l.k-index l.near)) l.p ≡ first (entries l.near) l.p
