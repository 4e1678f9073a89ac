use Rattle.cps_lower.proofs.Scans.{Behind}
use Rattle.cps_lower.proofs.scan.+variable_after.Given as goal

abbrev pub invariant-spine : goal.invariant-spine
invariant-spine l = Behind l.least l.t l.next l.cur
