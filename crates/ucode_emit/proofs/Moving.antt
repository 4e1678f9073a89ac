-- A move that is one instruction has the ends that are asked of it.
use Rattle.std.proofs.Common.{ℕ, ◌≤◌, arith}
use Rattle.place_plan.specs.declared.place.Place.{Place}
use Rattle.place_plan.specs.declared.place.Place.TheVariants.{A, B, L, LD, S, SD, Slot}
use Rattle.ucode_emit.specs.inner.Machine.{IsReadable, IsWritable, IsDirect, read_slot, write_slot, copied}
use Rattle.ucode_emit.specs.inner.DraftItems.{CanMove}

copy_can : (from at : Place) → IsReadable from → IsWritable at → CanMove from at
copy_can (A k) at h g = (h, g)
copy_can (B k) at h g = (h, g)
copy_can (L k) at h g = (h, g)
copy_can (LD k) at h g = (h, g)
copy_can (S k) at h g = absurd h
copy_can (SD k) at h g = absurd h
copy_can (Slot k) at h g = absurd h

pub direct_can : (slots : ℕ) (from at : Place) → slots ≤ 128 → IsDirect slots from at → CanMove from at
direct_can slots from at n (read_slot {k} {r} a b) = (omega (arith, n, a), b)
direct_can slots from at n (write_slot {r} {k} a b) = (a, omega (arith, n, b))
direct_can slots from at n (copied a b) = copy_can from at a b
