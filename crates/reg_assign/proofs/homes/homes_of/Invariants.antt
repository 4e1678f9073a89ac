use Rattle.std.proofs.Common.{◌≡◌, ◌++◌, map, drop}
use Rattle.std.specs.List.{flat_map}
use Rattle.place_plan.specs.Plan.{home_view}
use Rattle.bank_prog_form.specs.inner.Form.{value_view}
use Rattle.reg_assign.specs.inner.AssignmentInputs.{labels_in, says_in, numbers_in}
use Rattle.reg_assign_reading.specs.inner.Reading.{preferred_home}
use Rattle.reg_assign.proofs.homes.homes_of.Given as goal

abbrev pub invariant-loop-v : goal.invariant-loop-v
invariant-loop-v l =
    map home_view l.homes.items ++ flat_map (preferred_home (labels_in l.g) (says_in l.g) (numbers_in l.g)) (map value_view (drop l.v-index l.values))
    ≡ flat_map (preferred_home (labels_in l.g) (says_in l.g) (numbers_in l.g)) (map value_view l.values)
