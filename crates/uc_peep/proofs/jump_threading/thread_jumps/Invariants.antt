use Rattle.uc_peep.specs.Liveness.{IsGrown}
use Rattle.uc_peep.proofs.jump_threading.thread_jumps.Given as goal

abbrev pub invariant-first : goal.invariant-first
invariant-first l = IsGrown l.code l.fn.sets l.sets

abbrev pub invariant-rest : goal.invariant-rest
invariant-rest l = IsGrown l.code l.fn.sets l.sets
