-- What the words of a write, of a jump and of an end are for.
use Rattle.std.specs.Prelude.{ℕ}
use Rattle.place_plan.specs.declared.parts_serves.Target.{Target}
use Rattle.place_plan.specs.declared.parts_serves.Target.TheVariants as target
use Rattle.place_plan.specs.Uses.{Role, Written, Argument, Ending}

-- the role of word i
abbrev pub target_role : Target → ℕ → Role
target_role (target.Memory m) i = Written m i
target_role (target.Label l) i = Argument l i
target_role target.End i = Ending i
