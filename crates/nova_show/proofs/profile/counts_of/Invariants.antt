use Rattle.std.proofs.Common.{◌<◌, ◌^◌, All}
use Rattle.nova_show.proofs.profile.counts_of.Given as goal

abbrev pub invariant-loop-start : goal.invariant-loop-start
invariant-loop-start l = All (λ c. c < 2 ^ 32) l.counts.items
