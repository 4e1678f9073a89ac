use Rattle.std.proofs.Common.{◌-◌, ◌≤◌, length}
use Rattle.nv_text.specs.inner.Front.{ReadTo}
use Rattle.nv_text.proofs.scan.tokens.Given as goal

abbrev pub invariant-loop-at : goal.invariant-loop-at
invariant-loop-at l = record {
  within : l.at ≤ length l.bytes;
  reads : ReadTo l.bytes l.found.items l.at;
}

abbrev pub decreases-loop-at : goal.decreases-loop-at
decreases-loop-at l = length l.bytes - l.at
