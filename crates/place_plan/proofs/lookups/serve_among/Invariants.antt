use Rattle.std.proofs.Common.{◌≡◌, drop}
use Rattle.place_plan.specs.Plan.{serve_in}
use Rattle.place_plan.proofs.lookups.serve_among.Given as goal

abbrev pub invariant-loop-s : goal.invariant-loop-s
invariant-loop-s l = serve_in l.serves l.k l.i ≡ serve_in (drop l.s-index l.serves) l.k l.i
