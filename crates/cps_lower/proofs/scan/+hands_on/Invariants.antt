use Rattle.cps_lower.proofs.Scans.{Looks}
use Rattle.cps_lower.proofs.scan.+hands_on.Given as goal

abbrev pub invariant-spine : goal.invariant-spine
invariant-spine l = Looks l.funs l.own l.t l.cur
