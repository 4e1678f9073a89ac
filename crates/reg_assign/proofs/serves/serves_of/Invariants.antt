use Rattle.std.proofs.Common.{◌≡◌, ◌++◌, map, drop}
use Rattle.reg_assign_reading.specs.ReadOff.{use_serve}
use Rattle.reg_assign.specs.inner.AssignmentInputs.{labels_in, says_in, numbers_in}
use Rattle.reg_assign.proofs.serves.serves_of.Given as goal
use Rattle.place_plan.specs.inner.UseViews.{use_view}

abbrev pub invariant-loop-u : goal.invariant-loop-u
invariant-loop-u l =
    l.serves.items ++ map (use_serve (labels_in l.g) (says_in l.g) (numbers_in l.g)) (map use_view (drop l.u-index l.uses))
    ≡ map (use_serve (labels_in l.g) (says_in l.g) (numbers_in l.g)) (map use_view l.uses)
