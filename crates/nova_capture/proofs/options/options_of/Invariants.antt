use Rattle.std.proofs.Common.{◌≡◌, ◌-◌, ◌≤◌, length}
use Rattle.nova_capture.specs.Blocks.{options_at, usual}
use Rattle.nova_capture.proofs.options.options_of.Given as goal

-- what the rest says, behind the times so far, is what all of it says
abbrev pub invariant-loop : goal.invariant-loop
invariant-loop l = (options_at l.order (length l.bytes - l.counter) l.rest l.times ≡ options_at l.order (length l.bytes) l.bytes usual) × (length l.rest ≤ length l.bytes - l.counter)
