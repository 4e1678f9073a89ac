use Rattle.std.proofs.Common.{◌<◌, length}
use Rattle.nova_show.proofs.visits.steps_of.Given as goal

abbrev pub invariant-loop-taken : goal.invariant-loop-taken
invariant-loop-taken l = l.engine.place < length l.code.list
