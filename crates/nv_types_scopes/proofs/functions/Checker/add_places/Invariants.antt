use Rattle.std.proofs.Common.{drop, take}
use Rattle.nv_types_table.specs.inner.Named.{named, plain_names}
use Rattle.nv_types_table.specs.inner.Needs.{IsEnds}
use Rattle.nv_types_scopes.proofs.functions.Checker.add_places.Given as goal

abbrev pub invariant-loop-i : goal.invariant-loop-i
invariant-loop-i l = IsEnds l.first (drop l.first (take l.i (plain_names l.self.written.items))) (named l.ends.entries)
