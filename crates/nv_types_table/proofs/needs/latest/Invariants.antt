use Rattle.std.proofs.Common.{ℕ, List, take}
use Rattle.nv_types_table.specs.inner.Named.{named, plain_names}
use Rattle.nv_types_table.specs.inner.Needs.{IsEnds, IsEnd}
use Rattle.nv_types_table.proofs.needs.latest.Given as goal

abbrev pub invariant-loop-name : goal.invariant-loop-name
invariant-loop-name l = (xs : List (List ℕ)) (first : ℕ) → IsEnds first xs (named l.ends.entries) → IsEnd first xs (plain_names (take l.name-index l.names)) l.until
