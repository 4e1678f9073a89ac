use Rattle.std.proofs.Common.{◌≡◌, ℕ, nat_eq, map, take}
use Rattle.std.specs.HashMap as hash
use Rattle.cps_ir.specs.View.{label_view}
use Rattle.cps_close.specs.inner.Closed.{index_of}
use Rattle.cps_close.proofs.table.indices_of.Given as goal

abbrev pub invariant-loop-c : goal.invariant-loop-c
invariant-loop-c l = record {
  next : l.next ≡ l.c-index;
  each : (q : ℕ) → hash.get nat_eq l.indices q ≡ index_of 0 (map (λ c. label_view c.now) (take l.c-index l.conts)) q;
}
