use Rattle.std.proofs.Common.{◌≤◌, length, drop}
use Rattle.uc_object.specs.Object.{IsNumber}
use Rattle.uc_object.specs.inner.Parts.{Has}
use Rattle.uc_object.proofs.parts.starts.Given as goal

-- so many were read, and end here
abbrev pub invariant-loop : goal.invariant-loop
invariant-loop l = record {
  inside : l.end ≤ length l.bytes;
  has : Has (IsNumber l.places) l.counter l.list.items (drop l.start l.bytes) (drop l.end l.bytes);
}
