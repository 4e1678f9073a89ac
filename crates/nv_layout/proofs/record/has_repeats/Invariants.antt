use Rattle.std.proofs.Common.{◌≡◌, ℕ, List, false, take, bytes_eq}
use Rattle.std.specs.HashSet.{contains}
use Rattle.nv_ast.specs.Tests.{is_among, has_twice}
use Rattle.nv_layout.proofs.record.has_repeats.Given as goal

abbrev pub invariant-loop-name : goal.invariant-loop-name
invariant-loop-name l = record {
  holds : (x : List ℕ) → contains bytes_eq l.seen x ≡ is_among x (take l.name-index l.names);
  once : has_twice (take l.name-index l.names) ≡ false;
}
