use Rattle.std.proofs.Common.{◌≡◌, ℕ, map, drop, nat_eq}
use Rattle.std.specs.HashMap.{get}
use Rattle.bank_prog_form.specs.inner.Form.{value_view}
use Rattle.reg_assign_reading.specs.ReadOff.{place_in}
use Rattle.reg_assign_reading.specs.inner.Reading.{says}
use Rattle.reg_assign.proofs.Placed.{place_then}
use Rattle.reg_assign.proofs.places.read_places_of.Given as goal

abbrev pub invariant-loop-v : goal.invariant-loop-v
invariant-loop-v l = (x : ℕ) → place_then (get nat_eq l.came x) (place_in (says l.r) (map value_view (drop l.v-index l.values)) x) ≡ place_in (says l.r) (map value_view l.values) x
