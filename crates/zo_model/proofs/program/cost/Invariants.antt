use Rattle.std.proofs.Common.{◌≡◌, ◌*◌, ◌≤◌, ◌^◌}
use Rattle.zo_model.specs.Program.{cost_below, vector}
use Rattle.zo_model.proofs.program.cost.Given as goal

abbrev pub invariant-loop-j : goal.invariant-loop-j
invariant-loop-j l =
    (l.sum ≡ cost_below l.j l.z.costs.items (vector l.x.on.items)) × (l.sum ≤ 2 ^ 20 * l.j)
