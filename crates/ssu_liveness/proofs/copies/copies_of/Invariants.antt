use Rattle.std.proofs.Common.{◌≡◌, ℕ, nat_eq, drop}
use Rattle.std.specs.HashMap.{get}
use Rattle.ssu_ir.specs.Slots.{bare_all}
use Rattle.ssu_ir.specs.View.{placed_of}
use Rattle.ssu_ir.specs.Work.{nums}
use Rattle.ssu_liveness.specs.inner.Live.{first_of, source_among, sources_at}
use Rattle.ssu_liveness.proofs.copies.copies_of.Given as goal

abbrev pub invariant-loop-id : goal.invariant-loop-id
invariant-loop-id l =
    (z : ℕ) → first_of (get nat_eq l.copies z) (sources_at l.s.nodes.slots (nums (drop l.id-index l.id-items)) z) ≡ source_among (bare_all (placed_of l.s)) z
