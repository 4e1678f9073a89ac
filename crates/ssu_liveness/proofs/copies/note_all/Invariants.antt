use Rattle.std.proofs.Common.{◌≡◌, ℕ, nat_eq, Some, None, if◌then◌else◌, drop}
use Rattle.std.specs.HashMap.{get}
use Rattle.nv_base.specs.Sets.{is_in}
use Rattle.ssu_liveness.specs.inner.Live.{first_of}
use Rattle.ssu_liveness.proofs.copies.note_all.Given as goal

abbrev pub invariant-loop-x : goal.invariant-loop-x
invariant-loop-x l =
    (z : ℕ) → first_of (get nat_eq l.copies z) (if is_in z (drop l.x-index l.xs) then Some l.y else None) ≡ first_of (get nat_eq l.fn.copies z) (if is_in z l.xs then Some l.y else None)
