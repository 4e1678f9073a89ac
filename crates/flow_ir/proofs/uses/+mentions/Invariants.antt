use Rattle.flow_ir.proofs.Mentions.{Asked}
use Rattle.flow_ir.proofs.uses.+mentions.Given as goal

abbrev pub invariant-spine : goal.invariant-spine
invariant-spine l = Asked l.x l.t l.cur
