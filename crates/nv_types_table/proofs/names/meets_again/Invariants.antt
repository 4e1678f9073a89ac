use Rattle.std.proofs.Common.{◌≡◌, ℕ, List, false, take, bytes_eq}
use Rattle.std.specs.List.{list_any}
use Rattle.nv_ast.specs.Tests.{is_among, has_twice}
use Rattle.nv_types_table.specs.inner.Named.{plain_names}
use Rattle.nv_types_table.proofs.names.meets_again.Given as goal

abbrev pub invariant-loop-name : goal.invariant-loop-name
invariant-loop-name l = record {
  holds : (x : List ℕ) → list_any (λ k. bytes_eq x k.now) l.seen.keys ≡ is_among x (plain_names (take l.name-index l.names));
  once : has_twice (plain_names (take l.name-index l.names)) ≡ false;
}
