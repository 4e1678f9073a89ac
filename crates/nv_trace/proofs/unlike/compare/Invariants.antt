use Rattle.std.proofs.Common.{◌≡◌, ◌≤◌, ◌-◌, map, take}
use Rattle.nv_trace.proofs.unlike.compare.Given as goal

abbrev pub invariant-loop-i : goal.invariant-loop-i
invariant-loop-i l = (l.i ≤ l.both) × (take l.i (map (λ m. m.write) l.made) ≡ take l.i l.noted)

abbrev pub decreases-loop-i : goal.decreases-loop-i
decreases-loop-i l = l.both - l.i
