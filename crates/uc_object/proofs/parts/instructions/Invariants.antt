use Rattle.std.proofs.Common.{◌≤◌, length, drop}
use Rattle.uc_object.specs.Rows.{IsRow}
use Rattle.uc_object.specs.inner.Parts.{Has}
use Rattle.uc_object.proofs.parts.instructions.Given as goal

-- so many were read, and end here
abbrev pub invariant-loop : goal.invariant-loop
invariant-loop l = record {
  inside : l.end ≤ length l.bytes;
  has : Has IsRow l.counter l.list.items (drop l.start l.bytes) (drop l.end l.bytes);
}
