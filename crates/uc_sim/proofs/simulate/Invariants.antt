use Rattle.uc_sim.proofs.Simulated.{Simulated}
use Rattle.uc_sim.proofs.simulate.Given as goal

abbrev pub invariant-loop : goal.invariant-loop
invariant-loop l = Simulated l.c.list l.initial.e l.initial.p l.initial.log l.counter l.e l.p l.log
