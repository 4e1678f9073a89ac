use Rattle.flow_ir.proofs.Renumbering.{Still}
use Rattle.flow_ir.proofs.prune.+goes_on.Given as goal

abbrev pub invariant-spine : goal.invariant-spine
invariant-spine l = Still l.out l.t l.cur
