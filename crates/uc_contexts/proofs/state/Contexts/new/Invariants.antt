use Rattle.std.proofs.Common.{◌≡◌, ◌++◌, drop}
use Rattle.uc_contexts.specs.Turns.{started_from, started}
use Rattle.uc_contexts.proofs.state.Contexts.new.Given as goal

abbrev pub invariant-loop-number : goal.invariant-loop-number
invariant-loop-number l = l.list.items ++ started_from l.number (drop l.number l.args) ≡ started l.args
