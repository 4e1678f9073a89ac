use Rattle.std.proofs.Common.{◌*◌, ◌≤◌}
use Rattle.uc_peep_facts.proofs.paid.hold_back.Given as goal

abbrev pub invariant-loop-x : goal.invariant-loop-x
invariant-loop-x l = l.credit ≤ 16 * l.x
