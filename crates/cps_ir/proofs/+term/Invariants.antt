use Rattle.std.proofs.Common.{◌≤◌}
use Rattle.cps_ir.specs.declared.term.Term.{size-Term}
use Rattle.cps_ir.proofs.+term.Given as goal

abbrev pub invariant-term::Term::drop-spine : goal.invariant-term::Term::drop-spine
invariant-term::Term::drop-spine l = size-Term l.self ≤ size-Term l.initial.self
